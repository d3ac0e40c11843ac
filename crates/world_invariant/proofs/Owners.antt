-- Each inode has an owner, and the whole graph there is what the owner's records make of the shared node.
use Rattle.std.proofs.Common.{◌≡◌, ◌≢◌, ◌⊎◌, inl, inr, ℕ, zero, suc, ◌≤◌, ◌==◌, ◌||◌, true, false, List, [], ◌∷◌, ◌++◌, refl, ap, sym, ◌∙◌, arith}
use Rattle.std.proofs.lemmas.Bool.Decides.{eqb_tells, nat_tests}
use Rattle.std.proofs.lemmas.Bool.{false≢true}
use Rattle.posix_calls.specs.Operations.{is_client}
use Rattle.call_effects.specs.file_graph.Graph.{Graph, is_among}
use Rattle.call_effects.specs.log_record.declared.format.Record.{Record}
use Rattle.world_invariant.specs.Logs.{after_records, after_clients, after_each, is_written, LogsAreApart, IsDistinct, IsOrder}
use Rattle.world_invariant.proofs.Records.{either, both, in_rest, in_first, records_same, records_stay, records_append, front_unwritten, rest_unwritten, front_written, rest_written}

-- ---- the numbers of clients

pub is_low : (c : ℕ) → is_client c ≡ true → 1 ≤ c
is_low c e = grind (arith, nat_tests)

pub is_high : (c : ℕ) → is_client c ≡ true → c ≤ 8
is_high c e = grind (arith, nat_tests)

pub client_is : (c : ℕ) → 1 ≤ c → c ≤ 8 → is_client c ≡ true
client_is c low high = grind (arith, nat_tests)

-- ---- the whole graph at one inode

-- Nobody of clients 1 to n writes it.
pub nobody : (n : ℕ) (logs : ℕ → List Record) (g : Graph) (i : ℕ) → ((d : ℕ) → 1 ≤ d → d ≤ n → is_written i (logs d) ≡ false) → after_clients logs g n i ≡ g i
unfolding after_clients
nobody zero logs g i none = refl
nobody (suc n) logs g i none =
    records_stay (after_clients logs g n) (logs (suc n)) i (none (suc n) (omega arith) (omega arith))
    ∙ nobody n logs g i (λ d low high. none d low (omega (arith, high)))

-- Nobody but c writes it.
one_writes : (n : ℕ) (logs : ℕ → List Record) (g : Graph) (c i : ℕ) → 1 ≤ c → c ≤ n → ((j : ℕ) → is_written j (logs c) ≡ true → (d : ℕ) → 1 ≤ d → d ≤ n → d ≢ c → is_written j (logs d) ≡ false) → ((d : ℕ) → 1 ≤ d → d ≤ n → d ≢ c → is_written i (logs d) ≡ false) → after_clients logs g n i ≡ after_records g (logs c) i
unfolding after_clients
one_writes zero logs g c i low high own others = absurd (omega arith)
one_writes (suc n) logs g c i low high own others =
    elim (eqb_tells c (suc n)) [
      | inl last ↦
          records_same (after_clients logs g n) g (logs (suc n)) (λ j at. nobody n logs g j (λ d a b. own j (ap (λ x. is_written j (logs x)) last.1 ∙ at) d a (omega (arith, b)) (λ e. omega (arith, e, b, last.1)))) i (nobody n logs g i (λ d a b. others d a (omega (arith, b)) (λ e. omega (arith, e, b, last.1))))
          ∙ ap (λ d. after_records g (logs d) i) (sym last.1)
      | inr other ↦
          records_stay (after_clients logs g n) (logs (suc n)) i (others (suc n) (omega arith) (omega arith) (λ e. other.1 (sym e)))
          ∙ one_writes n logs g c i low (omega (arith, high, other.1)) (λ j at d a b. own j at d a (omega (arith, b))) (λ d a b. others d a (omega (arith, b)))
    ]

-- nobody but this client writes the inode
pub record IsOwner (logs : ℕ → List Record) (c i : ℕ) : Type 0 where
  pub client : is_client c ≡ true
  pub others : (d : ℕ) → is_client d ≡ true → d ≢ c → is_written i (logs d) ≡ false
  -- nor what it writes itself
  pub own : (j : ℕ) → is_written j (logs c) ≡ true → (d : ℕ) → is_client d ≡ true → d ≢ c → is_written j (logs d) ≡ false

pub whole_at : (logs : ℕ → List Record) (g : Graph) (c i : ℕ) → IsOwner logs c i → after_clients logs g 8 i ≡ after_records g (logs c) i
whole_at logs g c i o = one_writes 8 logs g c i (is_low c o.client) (is_high c o.client) (λ j at d low high other. o.own j at d (client_is d low high) other) (λ d low high other. o.others d (client_is d low high) other)

-- a writer among clients 1 to n, if there is one
writer : (n : ℕ) (logs : ℕ → List Record) (i : ℕ) → ((c : ℕ) × (1 ≤ c) × (c ≤ n) × (is_written i (logs c) ≡ true)) ⊎ ((d : ℕ) → 1 ≤ d → d ≤ n → is_written i (logs d) ≡ false)
writer zero logs i = inr (λ d low high. absurd (omega arith))
writer (suc n) logs i =
    elim (either (is_written i (logs (suc n)))) [
      | inl there ↦ inl (suc n, omega arith, omega arith, there)
      | inr clean ↦ elim (writer n logs i) [
        | inl found ↦ inl (found.0, found.1, omega (arith, found.2), found.3)
        | inr none ↦ inr (λ d low high. elim (eqb_tells d (suc n)) [
          | inl last ↦ ap (λ x. is_written i (logs x)) last.1 ∙ clean
          | inr other ↦ none d low (omega (arith, high, other.1))
        ])
      ]
    ]

-- every inode has one: who writes it, or else anyone
pub owner_of : (logs : ℕ → List Record) (i : ℕ) → LogsAreApart logs → (c : ℕ) × IsOwner logs c i
owner_of logs i apart =
    elim (writer 8 logs i) [
      | inl found ↦ let is = client_is found.0 found.1 found.2 in (found.0, record { client = is; others = λ d is_d other. apart found.0 d i is is_d other found.3; own = λ j at d is_d other. apart found.0 d j is is_d other at })
      | inr none ↦ (1, record { client = refl; others = λ d is_d other. none d (is_low d is_d) (is_high d is_d); own = λ j at d is_d other. apart 1 d j refl is_d other at })
    ]

-- ---- steps of the logs

-- Records go from the front of a log into the shared graph.
pub digested_whole : (old new : ℕ → List Record) (g : Graph) (c : ℕ) (first rest : List Record) → is_client c ≡ true → LogsAreApart old → old c ≡ first ++ rest → new c ≡ rest → ((d : ℕ) → d ≢ c → new d ≡ old d)
    → (i : ℕ) → after_clients new (after_records g first) 8 i ≡ after_clients old g 8 i
digested_whole old new g c first rest is_c apart was is same i =
    let o = owner_of old i apart in
    whole_at new (after_records g first) o.0 i (record { client = o.1.client; others = λ d is_d other. clean i d (o.1.others d is_d other); own = λ j at d is_d other. clean j d (o.1.own j (was_there j o.0 at) d is_d other) })
    ∙ elim (eqb_tells o.0 c) [
      | inl here ↦
          ap (λ rs. after_records (after_records g first) rs i) (ap new here.1 ∙ is)
          ∙ ap (λ h. h i) (sym (records_append g first rest))
          ∙ ap (λ rs. after_records g rs i) (sym (ap old here.1 ∙ was))
      | inr other ↦
          ap (λ rs. after_records (after_records g first) rs i) (same o.0 other.1)
          ∙ records_same (after_records g first) g (old o.0) (λ j at. records_stay g first j (front_unwritten j first rest (ap (is_written j) (sym was) ∙ o.1.own j at c is_c (λ e. other.1 (sym e))))) i
          (records_stay g first i (front_unwritten i first rest (ap (is_written i) (sym was) ∙ o.1.others c is_c (λ e. other.1 (sym e)))))
    ]
    ∙ sym (whole_at old g o.0 i o.1)
  where
    clean : (j d : ℕ) → is_written j (old d) ≡ false → is_written j (new d) ≡ false
    clean j d e = elim (eqb_tells d c) [
      | inl here ↦ ap (is_written j) (ap new here.1 ∙ is) ∙ rest_unwritten j first rest (ap (is_written j) (sym (ap old here.1 ∙ was)) ∙ e)
      | inr other ↦ ap (is_written j) (same d other.1) ∙ e
    ]

    was_there : (j d : ℕ) → is_written j (new d) ≡ true → is_written j (old d) ≡ true
    was_there j d at = elim (either (is_written j (old d))) [ inl there ↦ there | inr off ↦ both (is_written j (new d)) at (clean j d off) ]

-- Records come to the end of a log.
pub appended_whole : (old new : ℕ → List Record) (g : Graph) (c : ℕ) (more : List Record) → is_client c ≡ true → LogsAreApart new → new c ≡ old c ++ more → ((d : ℕ) → d ≢ c → new d ≡ old d)
    → (i : ℕ) → after_clients new g 8 i ≡ after_records (after_clients old g 8) more i
appended_whole old new g c more is_c apart is same i =
    let o = owner_of new i apart in
    let old_owner : IsOwner old o.0 i = record { client = o.1.client; others = λ d is_d other. clean i d (o.1.others d is_d other); own = λ j at d is_d other. clean j d (o.1.own j (is_there j o.0 at) d is_d other) } in
    whole_at new g o.0 i o.1
    ∙ elim (eqb_tells o.0 c) [
      | inl here ↦
          ap (λ rs. after_records g rs i) (ap new here.1 ∙ is)
          ∙ ap (λ h. h i) (records_append g (old c) more)
          ∙ records_same (after_records g (old c)) (after_clients old g 8) more (λ j at. sym (whole_at old g c j (own_of j at))) i
          (ap (λ d. after_records g (old d) i) (sym here.1) ∙ sym (whole_at old g o.0 i old_owner))
      | inr other ↦
          ap (λ rs. after_records g rs i) (same o.0 other.1)
          ∙ sym (whole_at old g o.0 i old_owner)
          ∙ sym (records_stay (after_clients old g 8) more i (rest_unwritten i (old c) more (ap (is_written i) (sym is) ∙ o.1.others c is_c (λ e. other.1 (sym e)))))
    ]
  where
    clean : (j d : ℕ) → is_written j (new d) ≡ false → is_written j (old d) ≡ false
    clean j d e = elim (eqb_tells d c) [
      | inl here ↦ ap (is_written j) (ap old here.1) ∙ front_unwritten j (old c) more (ap (is_written j) (sym (ap new here.1 ∙ is)) ∙ e)
      | inr other ↦ ap (is_written j) (sym (same d other.1)) ∙ e
    ]

    is_there : (j d : ℕ) → is_written j (old d) ≡ true → is_written j (new d) ≡ true
    is_there j d at = elim (either (is_written j (new d))) [ inl there ↦ there | inr off ↦ both (is_written j (old d)) at (clean j d off) ]

    own_of : (j : ℕ) → is_written j more ≡ true → IsOwner old c j
    own_of j at = record {
      client = is_c;
      others = λ d is_d other. clean j d (apart c d j is_c is_d other (ap (is_written j) is ∙ rest_written j (old c) more at));
      own = λ k there d is_d other. clean k d (apart c d k is_c is_d other (is_there k c there));
    }

-- ---- another order of the clients

pub first_in : (c : ℕ) (cs : List ℕ) → is_among c (c ∷ cs) ≡ true
first_in c cs = elim (eqb_tells c c) [ inl same ↦ in_first (c == c) (is_among c cs) same.0 | inr other ↦ absurd (other.1 refl) ]

nobody_among : (cs : List ℕ) (logs : ℕ → List Record) (g : Graph) (i : ℕ) → ((d : ℕ) → is_among d cs ≡ true → is_written i (logs d) ≡ false) → after_each logs g cs i ≡ g i
nobody_among [] logs g i none = refl
nobody_among (c ∷ cs) logs g i none =
    nobody_among cs logs (after_records g (logs c)) i (λ d there. none d (in_rest (c == d) (is_among d cs) there))
    ∙ records_stay g (logs c) i (none c (first_in c cs))

-- what is among a first one and others, and is not the first one, is among the others
pub among_rest : (d c : ℕ) (cs : List ℕ) → is_among d (c ∷ cs) ≡ true → d ≢ c → is_among d cs ≡ true
among_rest d c cs there other = elim (eqb_tells c d) [ inl same ↦ absurd (other (sym same.1)) | inr off ↦ ap (λ b. b || is_among d cs) (sym off.0) ∙ there ]

pub each_at : (cs : List ℕ) (logs : ℕ → List Record) (g : Graph) (c i : ℕ) → is_among c cs ≡ true → IsDistinct cs → ((j : ℕ) → is_written j (logs c) ≡ true → (d : ℕ) → is_among d cs ≡ true → d ≢ c → is_written j (logs d) ≡ false) → ((d : ℕ) → is_among d cs ≡ true → d ≢ c → is_written i (logs d) ≡ false) → after_each logs g cs i ≡ after_records g (logs c) i
each_at [] logs g c i there once own others = absurd (false≢true there)
each_at (d ∷ cs) logs g c i there once own others =
    elim (eqb_tells c d) [
      | inl here ↦
          nobody_among cs logs (after_records g (logs d)) i (λ e is_e. others e (in_rest (d == e) (is_among e cs) is_e) (λ same. both (is_among d cs) (sym (ap (λ x. is_among x cs) (same ∙ here.1)) ∙ is_e) once.0))
          ∙ ap (λ x. after_records g (logs x) i) (sym here.1)
      | inr other ↦
          each_at cs logs (after_records g (logs d)) c i (among_rest c d cs there other.1) once.1 (λ j at e is_e. own j at e (in_rest (d == e) (is_among e cs) is_e)) (λ e is_e. others e (in_rest (d == e) (is_among e cs) is_e))
          ∙ records_same (after_records g (logs d)) g (logs c) (λ j at. records_stay g (logs d) j (own j at d (first_in d cs) (λ same. other.1 (sym same)))) i (records_stay g (logs d) i (others d (first_in d cs) (λ same. other.1 (sym same))))
    ]

-- records that come to the ends of all logs, in whatever order of the clients
pub ended_whole : (old new more : ℕ → List Record) (g : Graph) (cs : List ℕ) → LogsAreApart new → ((c : ℕ) → is_client c ≡ true → new c ≡ old c ++ more c) → IsOrder cs
    → (i : ℕ) → after_clients new g 8 i ≡ after_each more (after_clients old g 8) cs i
ended_whole old new more g cs apart is order i =
    let o = owner_of new i apart in
    let old_owner : IsOwner old o.0 i = record { client = o.1.client; others = λ d is_d other. front_unwritten i (old d) (more d) (ap (is_written i) (sym (is d is_d)) ∙ o.1.others d is_d other); own = λ j at d is_d other. front_unwritten j (old d) (more d) (ap (is_written j) (sym (is d is_d)) ∙ apart o.0 d j o.1.client is_d other (ap (is_written j) (is o.0 o.1.client) ∙ front_written j (old o.0) (more o.0) at)) } in
    whole_at new g o.0 i o.1
    ∙ ap (λ rs. after_records g rs i) (is o.0 o.1.client)
    ∙ ap (λ h. h i) (records_append g (old o.0) (more o.0))
    ∙ records_same (after_records g (old o.0)) (after_clients old g 8) (more o.0) (λ j at. sym (whole_at old g o.0 j (own_of o.0 o.1.client j at))) i (sym (whole_at old g o.0 i old_owner))
    ∙ sym (each_at cs more (after_clients old g 8) o.0 i (order.all o.0 o.1.client) order.once
    (λ j at d there other. rest_unwritten j (old d) (more d) (ap (is_written j) (sym (is d (order.clients d there))) ∙ apart o.0 d j o.1.client (order.clients d there) other (ap (is_written j) (is o.0 o.1.client) ∙ rest_written j (old o.0) (more o.0) at)))
    (λ d there other. rest_unwritten i (old d) (more d) (ap (is_written i) (sym (is d (order.clients d there))) ∙ o.1.others d (order.clients d there) other)))
  where
    own_of : (c : ℕ) → is_client c ≡ true → (j : ℕ) → is_written j (more c) ≡ true → IsOwner old c j
    own_of c is_c j at = record {
      client = is_c;
      others = λ d is_d other. front_unwritten j (old d) (more d) (ap (is_written j) (sym (is d is_d)) ∙ apart c d j is_c is_d other (ap (is_written j) (is c is_c) ∙ rest_written j (old c) (more c) at));
      own = λ k there d is_d other. front_unwritten k (old d) (more d) (ap (is_written k) (sym (is d is_d)) ∙ apart c d k is_c is_d other (ap (is_written k) (is c is_c) ∙ front_written k (old c) (more c) there));
    }
