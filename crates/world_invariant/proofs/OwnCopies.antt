-- A client's copies are as its own records leave the shared nodes; the kernel's steps keep that.
use Rattle.std.proofs.Common.{◌≡◌, ◌≢◌, ◌⊎◌, inl, inr, ℕ, ◌-◌, cond, Bool, true, false, List, ◌++◌, drop, None, ap, sym, ◌∙◌, subst, append_assoc}
use Rattle.std.specs.Prelude.{option_map}
use Rattle.std.proofs.lemmas.Bool.Decides.{eqb_tells}
use Rattle.posix_calls.specs.Operations.{is_client}
use Rattle.call_effects.specs.file_graph.Graph.{Graph, file_bytes, directory_in}
use Rattle.call_effects.specs.log_record.declared.format.Record.{Record}
use Rattle.call_effects.specs.Blocks.{block_of}
use Rattle.call_effects.specs.NodeView.{view_of_node}
use Rattle.call_effects.specs.Knowledge.{Knowledge, IsGone, IsPutBack, Agrees}
use Rattle.world_invariant.specs.Logs.{after_records, is_written, is_made_in, IsNameless, NameNone}
use Rattle.world_invariant.specs.World.{Account, Client, World, undigested_records, change_of, has_lease, log_of, whole_graph, held_descriptors}
use Rattle.world_invariant.specs.ClientParts.{IsLeased}
use Rattle.world_invariant.specs.Parts.{ClientPart, RecordsLeased, CopiesLeased, BlocksLeased, HoldsOf, WorldPart, Each, LeasesLegal, WholeKnown, HoldsOfWorld, HasTrueCopies}
use Rattle.world_invariant.specs.Copies.{HasOwnCopies}
use Rattle.world_invariant.specs.Invariant.{IsCoherent}
use Rattle.world_invariant.specs.LeaseSteps.{own_view}
use Rattle.world_invariant.specs.Machine.{Machine, IsRunning, Sealed, sealed_of, StandsSealed, CanDigestNext, account_after}
use Rattle.world_invariant.proofs.Records.{alike_less, in_rest, either, both, records_local, records_same, records_stay, records_append, front_written}
use Rattle.world_invariant.proofs.Owners.{whole_at}
use Rattle.world_invariant.proofs.Made.{records_none}
use Rattle.world_invariant.proofs.Keeping.{through}
use Rattle.world_invariant.proofs.Fetches.{view_is}
use Rattle.world_invariant.proofs.KnownParts.{known_of_copies}
use Rattle.world_invariant.proofs.Machines.{left_now}

-- copies of what is held are right of every graph that is the same there
module _ (k : Knowledge) (has : ℕ → Bool) (g h : Graph) (leased : IsLeased has k) (same : (i : ℕ) → has i ≡ true → g i ≡ h i) (t : HasTrueCopies k g) where
  abbrev back : Graph
  back i = cond (has i) (t.back i) (h i)

  there : (i : ℕ) → has i ≡ true → back i ≡ t.back i
  there i e = ap (λ b. cond b (t.back i) (h i)) e

  put_back : IsPutBack h back
  put_back i = elim (either (has i)) [
    | inl e ↦ elim (t.put_back i) [
      | inl is ↦ inl (there i e ∙ is ∙ same i e)
      | inr gone ↦ inr (record { nothing = sym (same i e) ∙ gone.nothing; bytes = gone.bytes; file = there i e ∙ gone.file })
    ]
    | inr off ↦ inl (ap (λ b. cond b (t.back i) (h i)) off)
  ]

  copies_move : HasTrueCopies k h
  copies_move = record {
    back = back;
    put_back = put_back;
    copies = λ i copy e. ap (option_map view_of_node) (there i (leased.copies i copy e)) ∙ t.copies i copy e;
    blocks = λ i b bytes e. ap (λ o. option_map (block_of b) (file_bytes o)) (there i (leased.blocks i b bytes e)) ∙ t.blocks i b bytes e;
  }

-- ---- of the own records, and of the whole

pub own_copies : (w : World) (c : ℕ) → IsCoherent w → is_client c ≡ true → HasOwnCopies w.kernel.shared (w.kernel.accounts c) (w.clients c)
own_copies w c h is_c =
    let known = h.agrees c is_c in
    copies_move (w.clients c).knows (has_lease (w.clients c)) (whole_graph w) (own_view w c) (h.stands c is_c).leased (λ i e. view_is w c i h is_c e)
    (record { back = known.back; put_back = known.put_back; copies = known.copies; blocks = known.blocks })

module _ (w : World) (has : (q : WorldPart) → q ≢ WholeKnown → HoldsOfWorld q w) (c : ℕ) (is_c : is_client c ≡ true) where
  of_each : (q : ClientPart) (d : ℕ) → is_client d ≡ true → HoldsOf q w.kernel.shared (w.kernel.accounts d) d (w.clients d)
  of_each q = has (Each q) (λ e. absurd (cc))

  unwritten : (i d : ℕ) → has_lease (w.clients c) i ≡ true → is_client d ≡ true → d ≢ c → is_written i (log_of w d) ≡ false
  unwritten i d e is_d off = elim (either (is_written i (log_of w d))) [
    | inl there ↦ both (has_lease (w.clients c) i) e (has LeasesLegal (λ e. absurd (cc)) d c is_d is_c (λ same. off (sym same)) i (of_each RecordsLeased d is_d i (front_written i (log_of w d) (change_of (w.clients d).begun) there)))
    | inr clean ↦ clean
  ]

  holds : (j : ℕ) → is_written j (log_of w c) ≡ true → has_lease (w.clients c) j ≡ true
  holds j at = in_rest ((w.clients c).reads j) ((w.clients c).writes j) (of_each RecordsLeased c is_c j (front_written j (log_of w c) (change_of (w.clients c).begun) at))

  pub known_of_own : HasOwnCopies w.kernel.shared (w.kernel.accounts c) (w.clients c) → Agrees (w.clients c).knows (whole_graph w) (held_descriptors w)
  known_of_own t = known_of_copies w has c is_c
      (copies_move (w.clients c).knows (has_lease (w.clients c)) (own_view w c) (whole_graph w) (record { copies = of_each CopiesLeased c is_c; blocks = of_each BlocksLeased c is_c })
      (λ i e. sym (whole_at (log_of w) w.kernel.shared c i (record { client = is_c; others = λ d is_d off. unwritten i d e is_d off; own = λ j at d is_d off. unwritten j d (holds j at) is_d off }))) t)

-- ---- steps of the kernel

pub kept_elsewhere : (g h : Graph) (a : Account) (p : Client) → IsLeased (has_lease p) p.knows → ((i : ℕ) → is_written i (undigested_records a p) ≡ true → has_lease p i ≡ true) → ((i : ℕ) → has_lease p i ≡ true → g i ≡ h i) → HasOwnCopies g a p → HasOwnCopies h a p
kept_elsewhere g h a p leased held same t = copies_move p.knows (has_lease p) (after_records g (undigested_records a p)) (after_records h (undigested_records a p)) leased (λ i e. records_same g h (undigested_records a p) (λ j at. same j (held j at)) i (same i e)) t

pub kept_beside : (m : Machine) (c : ℕ) (s : Sealed) (first rest : List Record) (a : Account) (p : Client) → StandsSealed m.kernel.shared (m.kernel.accounts c) s → CanDigestNext m c s first rest → IsLeased (has_lease p) p.knows
    → ((i : ℕ) → is_written i (undigested_records a p) ≡ true → has_lease p i ≡ true) → ((i : ℕ) → s.writes i ≡ true → has_lease p i ≡ false) → HasOwnCopies m.kernel.shared a p → HasOwnCopies (after_records m.kernel.shared first) a p
kept_beside m c s first rest a p stands can leased held beside t = kept_elsewhere m.kernel.shared (after_records m.kernel.shared first) a p leased held (λ i e. sym (records_stay m.kernel.shared first i (clean i e))) t
  where
    clean : (i : ℕ) → has_lease p i ≡ true → is_written i first ≡ false
    clean i e = elim (either (is_written i first)) [
      | inl there ↦ both (has_lease p i) e (beside i (stands.logged.leased i (ap (is_written i) can.split ∙ front_written i first rest there)))
      | inr off ↦ off
    ]

pub kept_digested : (m : Machine) (c : ℕ) (p : Client) (first rest : List Record) → IsRunning m → StandsSealed m.kernel.shared (m.kernel.accounts c) (sealed_of p) → CanDigestNext m c (sealed_of p) first rest
    → HasOwnCopies m.kernel.shared (m.kernel.accounts c) p → HasOwnCopies (after_records m.kernel.shared first) (account_after (m.kernel.accounts c) first) p
kept_digested m c p first rest r stands can t =
    let was : undigested_records (m.kernel.accounts c) p ≡ first ++ (rest ++ p.current) = ap (λ rs. rs ++ p.current) can.split ∙ append_assoc first rest p.current in
    let is : undigested_records (account_after (m.kernel.accounts c) first) p ≡ rest ++ p.current = ap (λ rs. rs ++ p.current) (left_now m r c (sealed_of p) first rest stands can) in
    subst (λ g. HasTrueCopies p.knows g)
    (ap (after_records m.kernel.shared) was ∙ records_append m.kernel.shared first (rest ++ p.current) ∙ ap (after_records (after_records m.kernel.shared first)) (sym is))
    t

pub kept_in_account : (g : Graph) (a b : Account) (p : Client) → b.mark ≡ a.mark → HasOwnCopies g a p → HasOwnCopies g b p
kept_in_account g a b p same t = subst (λ mark. HasTrueCopies p.knows (after_records g (drop (mark - p.past) p.sealed ++ p.current))) (sym same) t

module _ (i : ℕ) (g h : Graph) (a : Account) (p : Client) (file : IsNameless (g i)) (gone : h i ≡ None) (same : (j : ℕ) → j ≢ i → h j ≡ g j) (unmade : is_made_in i (undigested_records a p) ≡ false) (unnamed : NameNone g (undigested_records a p)) (t : HasOwnCopies g a p) where
  abbrev was : Graph
  was = after_records g (undigested_records a p)

  abbrev now : Graph
  now = after_records h (undigested_records a p)

  nothing : now i ≡ None
  nothing = records_none h (undigested_records a p) i gone unmade

  nameless : IsNameless (was i)
  nameless = through (λ j o. IsNameless o) (undigested_records a p) g i unnamed file

  put_here : (t.back i ≡ now i) ⊎ IsGone (now i) (t.back i)
  put_here = elim (t.put_back i) [
    | inl is ↦ inr (record { nothing = nothing; bytes = nameless.bytes; file = is ∙ nameless.is })
    | inr lost ↦ inr (record { nothing = nothing; bytes = lost.bytes; file = lost.file })
  ]

  put_else : (j : ℕ) → j ≢ i → (t.back j ≡ now j) ⊎ IsGone (now j) (t.back j)
  put_else j off =
      let still : now j ≡ was j = records_local h g (undigested_records a p) (λ k at. alike_less i g h (ap directory_in file.is) gone same k) j (same j off) in
      elim (t.put_back j) [
        | inl is ↦ inl (is ∙ sym still)
        | inr lost ↦ inr (record { nothing = still ∙ lost.nothing; bytes = lost.bytes; file = lost.file })
      ]

  pub kept_reclaimed : HasOwnCopies h a p
  kept_reclaimed = record {
    back = t.back;
    put_back = λ j. elim (eqb_tells j i) [
      | inl is ↦ subst (λ x. (t.back x ≡ now x) ⊎ IsGone (now x) (t.back x)) (sym is.1) put_here
      | inr off ↦ put_else j off.1
    ];
    copies = t.copies;
    blocks = t.blocks;
  }
