-- What holds of a configuration holds of each that is the same for all clients; and an opening can list what is finite.
use Rattle.std.proofs.Common.{◌≡◌, ◌≢◌, ◌⊎◌, inl, inr, ℕ, zero, suc, ◌+◌, ◌-◌, ◌<◌, ◌≤◌, ◌||◌, cond, Bool, true, false, List, [], ◌∷◌, length, drop, Option, Some, None, refl, ap, sym, ◌∙◌, subst, arith}
use Rattle.std.specs.Prelude.{option_map, slice_get}
use Rattle.std.proofs.lemmas.Bool.Decides.{eqb_tells}
use Rattle.posix_calls.specs.Operations.{is_client}
use Rattle.posix_calls.specs.declared.limits.TheConstants.{MAX_CLIENTS}
use Rattle.world_invariant.specs.file_graph.Graph.{Graph, is_among}
use Rattle.world_invariant.specs.log_record.declared.format.Record.{Record}
use Rattle.world_invariant.specs.call_effects.Wholes.{IsSound, state_of}
use Rattle.world_invariant.specs.call_effects.Knowledge.{Agrees}
use Rattle.world_invariant.specs.ClientParts.{IsBeside, IsSoundPart}
use Rattle.world_invariant.specs.Invariant.{IsCoherent}
use Rattle.world_invariant.specs.KernelSteps.{IsMigrated}
use Rattle.world_invariant.specs.Logs.{after_clients, after_records}
use Rattle.world_invariant.specs.Machine.{IsAcceptedOf}
use Rattle.world_invariant.specs.World.{Account, Begun, Client, Kernel, World, held_descriptors, log_of, undigested_records, whole_graph, world_state}
use Rattle.world_invariant.proofs.Migrations.{migrated_holds, migrated_tree}
use Rattle.world_invariant.proofs.Moved.{both_same}
use Rattle.world_invariant.proofs.Owners.{client_is, is_high, is_low}
use Rattle.world_invariant.proofs.UnlinkWalks.{eight}
use Rattle.world_history.specs.declared.begun_call.BegunCall.{BegunCall}
use Rattle.world_history.specs.declared.moves.Move.TheVariants as moves
use Rattle.world_history.specs.Configuration.{CanDigestOf, Configuration, IsConsistent, mark_of, tree_of, world_of}
use Rattle.world_history.specs.FiniteParts.{CanBeListed, CanListAccount, CanListClient, HasSameParts, HoldsAs, IsFinite, IsFiniteSet}
use Rattle.world_history.specs.Moves.{after_move}
use Rattle.world_history.specs.Opening.{Opening, OpeningAccount, OpeningClient, accepted_if, account_if, begun_of, client_if, found, listed_client}

-- ---- the same for all clients

same_logs : (n : ℕ) (new old : ℕ → List Record) (g : Graph) → ((d : ℕ) → 1 ≤ d → d ≤ n → new d ≡ old d) → after_clients new g n ≡ after_clients old g n
unfolding after_clients
same_logs zero new old g same = refl
same_logs (suc n) new old g same =
    ap (λ h. after_records h (new (suc n))) (same_logs n new old g (λ d low high. same d low (omega (arith, high))))
    ∙ ap (λ rs. after_records (after_clients old g n) rs) (same (suc n) (omega arith) (omega arith))

module _ (k : Kernel) (old new : ℕ → Client) (same : (c : ℕ) → is_client c ≡ true → new c ≡ old c) where
  abbrev was : World
  was = record { kernel = k; clients = old }

  abbrev now : World
  now = record { kernel = k; clients = new }

  whole_is : whole_graph now ≡ whole_graph was
  whole_is = same_logs MAX_CLIENTS (log_of now) (log_of was) k.shared (λ d low high. ap (undigested_records (k.accounts d)) (same d (client_is d low high)))

  held_is : held_descriptors now ≡ held_descriptors was
  held_is = λ t c n. held c n t
    where
      by_test : (c n : ℕ) (b : Bool) → is_client c ≡ b → cond b ((new c).knows.own n) None ≡ cond b ((old c).knows.own n) None
      by_test c n true is = ap (λ (p : Client). p.knows.own n) (same c is)
      by_test c n false is = refl

      held : (c n : ℕ) → held_descriptors now c n ≡ held_descriptors was c n
      held c n = by_test c n (is_client c) refl

  clients_tree : world_state now ≡ world_state was
  clients_tree = ap (λ g. state_of g (held_descriptors now)) whole_is ∙ ap (λ o. state_of (whole_graph was) o) held_is

  clients_hold : IsCoherent was → IsCoherent now
  clients_hold h = record {
    booked = h.booked;
    stands = λ c is. subst (λ (p : Client). IsSoundPart k.shared (k.accounts c) c p) (sym (same c is)) (h.stands c is);
    beside = λ c d is_c is_d off. subst (λ (p : Client). IsBeside p (new d)) (sym (same c is_c)) (subst (λ (q : Client). IsBeside (old c) q) (sym (same d is_d)) (h.beside c d is_c is_d off));
    sound = both_same (λ g o. IsSound g o) whole_is held_is h.sound;
    agrees = λ c is. subst (λ (p : Client). Agrees p.knows (whole_graph now) (held_descriptors now)) (sym (same c is)) (both_same (λ g o. Agrees (old c).knows g o) whole_is held_is (h.agrees c is));
  }

module _ (s t : Configuration) (same : HasSameParts s t) where
  migrated : IsMigrated s.kernel.machine.kernel t.kernel.machine.kernel
  migrated = record { nodes = λ i. ap (λ (g : Graph). g i) same.shared; accounts = same.accounts; capacity = same.capacity }

  abbrev between : World
  between = record { kernel = t.kernel.machine.kernel; clients = s.clients }

  pub same_tree : tree_of t ≡ tree_of s
  same_tree = clients_tree t.kernel.machine.kernel s.clients t.clients same.clients ∙ migrated_tree (world_of s) t.kernel.machine.kernel migrated

  pub same_coherent : IsCoherent (world_of s) → IsCoherent (world_of t)
  same_coherent h = clients_hold t.kernel.machine.kernel s.clients t.clients same.clients (migrated_holds (world_of s) t.kernel.machine.kernel migrated h)

  digest_too : (x : ℕ × List Record) → CanDigestOf s x.0 x.1 → CanDigestOf t x.0 x.1
  digest_too x can =
      let is = can.1.client in
      let mark : mark_of t.kernel x.0 ≡ mark_of s.kernel x.0 = ap (λ (a : Account). a.mark) (same.accounts x.0 is) in
      let client = same.clients x.0 is in (
        can.0,
        record {
          client = is;
          some = can.1.some;
          accepted = let low : mark_of s.kernel x.0 + length x.1 ≤ s.kernel.machine.accepted x.0 = can.1.accepted in let all : t.kernel.machine.accepted x.0 ≡ s.kernel.machine.accepted x.0 = same.accepted x.0 is in omega (arith, low, all, mark);
          split = (λ i. drop (mark i - (client i).past) (client i).sealed) ∙ can.1.split;
        },
      )

  pub same_consistent : IsConsistent s → IsConsistent t
  same_consistent con = record {
    coherent = same_coherent con.coherent;
    accepted = λ c is. subst (λ (n : ℕ). IsAcceptedOf n (t.clients c)) (sym (same.accepted c is)) (subst (λ (p : Client). IsAcceptedOf (s.kernel.machine.accepted c) p) (sym (same.clients c is)) (con.accepted c is));
    marks = λ c is. let low : mark_of s.kernel c ≤ s.kernel.machine.accepted c = con.marks c is in let mark : mark_of t.kernel c ≡ mark_of s.kernel c = ap (λ (a : Account). a.mark) (same.accounts c is) in let all : t.kernel.machine.accepted c ≡ s.kernel.machine.accepted c = same.accepted c is in omega (arith, low, mark, all);
    failed = λ x e. digest_too x (con.failed x (sym same.failed ∙ e));
  }

-- ---- lists of what is finite

at_most : (i n : ℕ) → i ≤ suc n → (i ≤ n) ⊎ (i ≡ suc n)
at_most i n low = grind (arith, low)

either_way : (i n : ℕ) → (i ≤ n) ⊎ (n < i)
either_way i n = grind arith

put : {A : Type 0} → ℕ → Option A → List (ℕ × A) → List (ℕ × A)
put i None xs = xs
put i (Some a) xs = (i, a) ∷ xs

found_here : {A : Type 0} (i : ℕ) (o : Option A) (xs : List (ℕ × A)) → found xs i ≡ None → found (put i o xs) i ≡ o
unfolding put
found_here i None xs none = none
found_here i (Some a) xs none = elim (eqb_tells i i) [ inl same ↦ ap (λ b. cond b (Some a) (found xs i)) same.0 | inr off ↦ absurd (off.1 refl) ]

found_else : {A : Type 0} (i : ℕ) (o : Option A) (xs : List (ℕ × A)) (j : ℕ) → i ≢ j → found (put i o xs) j ≡ found xs j
unfolding put
found_else i None xs j off = refl
found_else i (Some a) xs j off = elim (eqb_tells i j) [ inl same ↦ absurd (off same.1) | inr other ↦ ap (λ b. cond b (Some a) (found xs j)) other.0 ]

list_to : {A : Type 0} → (ℕ → Option A) → ℕ → List (ℕ × A)
list_to f zero = put zero (f zero) []
list_to f (suc n) = put (suc n) (f (suc n)) (list_to f n)

found_past : {A : Type 0} (f : ℕ → Option A) (n i : ℕ) → n < i → found (list_to f n) i ≡ None
unfolding list_to
found_past f zero i past = found_else zero (f zero) [] i (λ e. let z : 0 ≡ i = e in omega (arith, past, z))
found_past f (suc n) i past = found_else (suc n) (f (suc n)) (list_to f n) i (λ e. let z : suc n ≡ i = e in omega (arith, past, z)) ∙ found_past f n i (omega (arith, past))

found_to : {A : Type 0} (f : ℕ → Option A) (n i : ℕ) → i ≤ n → found (list_to f n) i ≡ f i
unfolding list_to
found_to f zero i low = let z : 0 ≡ i = omega (arith, low) in subst (λ j. found (put zero (f zero) []) j ≡ f j) z (found_here zero (f zero) [] refl)
found_to f (suc n) i low = elim (eqb_tells (suc n) i) [
  | inl same ↦ subst (λ j. found (put (suc n) (f (suc n)) (list_to f n)) j ≡ f j) same.1 (found_here (suc n) (f (suc n)) (list_to f n) (found_past f n (suc n) (omega arith)))
  | inr other ↦ found_else (suc n) (f (suc n)) (list_to f n) i other.1 ∙ found_to f n i (less other.1)
]
  where
    less : (suc n ≢ i) → i ≤ n
    less off = elim (at_most i n low) [ inl e ↦ e | inr e ↦ absurd (off (sym e)) ]

all_found : {A : Type 0} (f : ℕ → Option A) (is : IsFinite f) → found (list_to f is.last) ≡ f
all_found f is = λ t i. there i t
  where
    there : (i : ℕ) → found (list_to f is.last) i ≡ f i
    there i = elim (either_way i is.last) [ inl low ↦ found_to f is.last i low | inr past ↦ found_past f is.last i past ∙ sym (is.none i past) ]

-- ---- sets of numbers

put_if : Bool → ℕ → List ℕ → List ℕ
put_if true i is = i ∷ is
put_if false i is = is

among_here : (b : Bool) (i : ℕ) (is : List ℕ) → is_among i is ≡ false → is_among i (put_if b i is) ≡ b
unfolding put_if
among_here false i is none = none
among_here true i is none = elim (eqb_tells i i) [ inl same ↦ ap (λ x. x || is_among i is) same.0 | inr off ↦ absurd (off.1 refl) ]

among_else : (b : Bool) (i : ℕ) (is : List ℕ) (j : ℕ) → i ≢ j → is_among j (put_if b i is) ≡ is_among j is
unfolding put_if
among_else false i is j off = refl
among_else true i is j off = elim (eqb_tells i j) [ inl same ↦ absurd (off same.1) | inr other ↦ ap (λ x. x || is_among j is) other.0 ]

set_to : (ℕ → Bool) → ℕ → List ℕ
set_to f zero = put_if (f zero) zero []
set_to f (suc n) = put_if (f (suc n)) (suc n) (set_to f n)

among_past : (f : ℕ → Bool) (n i : ℕ) → n < i → is_among i (set_to f n) ≡ false
unfolding set_to
among_past f zero i past = among_else (f zero) zero [] i (λ e. let z : 0 ≡ i = e in omega (arith, past, z))
among_past f (suc n) i past = among_else (f (suc n)) (suc n) (set_to f n) i (λ e. let z : suc n ≡ i = e in omega (arith, past, z)) ∙ among_past f n i (omega (arith, past))

among_to : (f : ℕ → Bool) (n i : ℕ) → i ≤ n → is_among i (set_to f n) ≡ f i
unfolding set_to
among_to f zero i low = let z : 0 ≡ i = omega (arith, low) in subst (λ j. is_among j (put_if (f zero) zero []) ≡ f j) z (among_here (f zero) zero [] refl)
among_to f (suc n) i low = elim (eqb_tells (suc n) i) [
  | inl same ↦ subst (λ j. is_among j (put_if (f (suc n)) (suc n) (set_to f n)) ≡ f j) same.1 (among_here (f (suc n)) (suc n) (set_to f n) (among_past f n (suc n) (omega arith)))
  | inr other ↦ among_else (f (suc n)) (suc n) (set_to f n) i other.1 ∙ among_to f n i (less other.1)
]
  where
    less : (suc n ≢ i) → i ≤ n
    less off = elim (at_most i n low) [ inl e ↦ e | inr e ↦ absurd (off (sym e)) ]

all_among : (f : ℕ → Bool) (is : IsFiniteSet f) → (λ i. is_among i (set_to f is.last)) ≡ f
all_among f is = λ t i. there i t
  where
    there : (i : ℕ) → is_among i (set_to f is.last) ≡ f i
    there i = elim (either_way i is.last) [ inl low ↦ among_to f is.last i low | inr past ↦ among_past f is.last i past ∙ sym (is.none i past) ]

-- ---- a client and an account

call_of : Begun → BegunCall
call_of b = record { call = b.call; new = b.new; operation = b.operation; change = b.change }

called : (o : Option Begun) → option_map begun_of (option_map call_of o) ≡ o
unfolding call_of
called None = refl
called (Some b) = refl

lists_of : (c : ℕ) (p : Client) → CanListClient c p → OpeningClient
lists_of c p can = record {
  own = list_to p.knows.own can.own.last;
  copies = list_to p.knows.copies can.copies.last;
  blocks = can.blocks;
  granted = set_to p.knows.granted can.granted.last;
  past = p.past;
  sealed = p.sealed;
  current = p.current;
  other = p.other;
  ready = p.ready;
  begun = option_map call_of p.begun;
  spare = p.spare;
  pins = set_to p.pins can.pins.last;
  status = p.status;
}

-- with the leases of another one that holds what it holds
client_listed : (c : ℕ) (p q : Client) (can : CanListClient c p) → HoldsAs q p → record (listed_client c (lists_of c p can)) { reads = q.reads; writes = q.writes } ≡ p
unfolding lists_of
client_listed c p q can holds = λ t. record {
  knows = record { client = sym can.number t; own = all_found p.knows.own can.own t; copies = all_found p.knows.copies can.copies t; blocks = λ i b. can.blocks_are i b t; granted = all_among p.knows.granted can.granted t };
  past = p.past;
  sealed = p.sealed;
  current = p.current;
  other = p.other;
  ready = p.ready;
  begun = called p.begun t;
  reads = holds.reads t;
  writes = holds.writes t;
  spare = p.spare;
  pins = all_among p.pins can.pins t;
  status = p.status;
}

account_lists : (a : Account) → CanListAccount a → ℕ → OpeningAccount
account_lists a can accepted = record { mark = a.mark; accepted = accepted; units = a.units; numbers = set_to a.numbers can.numbers.last; pins = set_to a.pins can.pins.last }

account_listed : (a : Account) (can : CanListAccount a) (accepted : ℕ) → account_if (Some (account_lists a can accepted)) ≡ a
unfolding account_lists
account_listed a can accepted = λ t. record { mark = a.mark; units = a.units; numbers = all_among a.numbers can.numbers t; pins = all_among a.pins can.pins t }

-- ---- all eight

abbrev eight_of : {A : Type 0} → ((c : ℕ) → is_client c ≡ true → A) → List A
eight_of f = f 1 refl ∷ f 2 refl ∷ f 3 refl ∷ f 4 refl ∷ f 5 refl ∷ f 6 refl ∷ f 7 refl ∷ f 8 refl ∷ []

-- what a list of eight has at a client's place
among_eight : {A : Type 0} (f : (c : ℕ) → is_client c ≡ true → A) (c : ℕ) → is_client c ≡ true → (is : is_client c ≡ true) × (slice_get (eight_of f) (c - 1) ≡ Some (f c is))
among_eight f c is = eight (λ c. (is : is_client c ≡ true) × (slice_get (eight_of f) (c - 1) ≡ Some (f c is))) (refl, refl) (refl, refl) (refl, refl) (refl, refl) (refl, refl) (refl, refl) (refl, refl) (refl, refl) c (is_low c is) (is_high c is)

module _ (s : Configuration) (can : CanBeListed s) where
  listed_account : (c : ℕ) → is_client c ≡ true → OpeningAccount
  listed_account c is = account_lists (s.kernel.machine.kernel.accounts c) (can.accounts c is) (s.kernel.machine.accepted c)

  listed_one : (c : ℕ) → is_client c ≡ true → OpeningClient
  listed_one c is = lists_of c (s.clients c) (can.clients c is)

  opening : Opening
  opening = record { capacity = s.kernel.machine.kernel.capacity; nodes = list_to s.kernel.machine.kernel.shared can.nodes.last; accounts = eight_of listed_account; clients = eight_of listed_one; failed_digest = s.kernel.failed_digest }

  listed_same : (t : Configuration) → ((c : ℕ) → is_client c ≡ true → HoldsAs (t.clients c) (s.clients c)) → HasSameParts s (after_move t (moves.Shared opening))
  unfolding opening listed_account listed_one account_lists
  listed_same t holds = record {
    shared = all_found s.kernel.machine.kernel.shared can.nodes;
    capacity = refl;
    accounts = λ c is. let there = among_eight listed_account c is in ap account_if there.1 ∙ account_listed (s.kernel.machine.kernel.accounts c) (can.accounts c there.0) (s.kernel.machine.accepted c);
    accepted = λ c is. let there = among_eight listed_account c is in ap accepted_if there.1;
    failed = refl;
    clients = λ c is. let there = among_eight listed_one c is in
        ap (λ (o : Option OpeningClient). record (client_if c o) { reads = (t.clients c).reads; writes = (t.clients c).writes }) there.1
        ∙ client_listed c (s.clients c) (t.clients c) (can.clients c there.0) (holds c is);
  }

pub can_be_listed : (s : Configuration) → CanBeListed s → (o : Opening) × ((t : Configuration) → ((c : ℕ) → is_client c ≡ true → HoldsAs (t.clients c) (s.clients c)) → HasSameParts s (after_move t (moves.Shared o)))
can_be_listed s can = (opening s can, λ t holds. listed_same s can t holds)
