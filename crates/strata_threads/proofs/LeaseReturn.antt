-- A client that gives leases back holds no more than before, and in the end none that can be given.
use Rattle.std.proofs.Common.{◌≡◌, ◌≢◌, ◌⊎◌, inl, inr, ⊎_elim, ℕ, ◌+◌, ◌≤◌, List, [], ◌∷◌, ◌++◌, append_assoc, refl, sym, ap, ◌∙◌, subst, arith}
use Rattle.std.specs.Prelude.{◌↔◌, Bool, true, false, IsTrue, length, slice_index}
use Rattle.std.proofs.lemmas.Bool.{cases_lt, false≢true}
use Rattle.std.proofs.lemmas.Bool.Decides.{eqb_tells}
use Rattle.std.proofs.lemmas.List.{get_or-set_same, get_or-set_other, get_or_past}
use Rattle.libfs.specs.lease_manager.Passes.{PassView, client_of, lease_of, with_event, without_lease}
use Rattle.libfs.specs.lease_manager.Words.{HasWord, lease_place}
use Rattle.libfs.specs.lease_manager.declared.view.Event.{Event}
use Rattle.libfs.specs.lease_manager.declared.view.Event.TheVariants.{Gave}
use Rattle.libfs.specs.lease_manager.declared.view.LeaseMode.TheVariants.{Free}
use Rattle.libfs.specs.LeaseCalls.{CanBeGiven, HasGiven}
use Rattle.libfs.specs.View.{ClientView, is_pending}
use Rattle.strata_threads.specs.ClientCalls.{KeepsCall}
use Rattle.strata_threads.specs.LeaseReturn.{HasNoneToGive, HasOnlyGiven, TakesNoLease, gifts}

-- a lease that is given is free from then on
freed : (p : PassView) (i : ℕ) → lease_of p i ≢ Free → lease_of (without_lease p i) i ≡ Free
freed p i held = elim (cases_lt (lease_place i) (length p.part.modes)) [
  | inl within ↦ get_or-set_same p.part.modes (lease_place i) Free Free within
  | inr past ↦ absurd (held (get_or_past p.part.modes (lease_place i) Free past))
]

-- the place of another inode is another one
apart : (i j : ℕ) → HasWord i → HasWord j → j ≢ i → lease_place j ≢ lease_place i
apart i j one other off same = off (omega (arith, one.0, other.0, same))

gifts_of_both : (is js : List ℕ) → gifts (is ++ js) ≡ gifts is ++ gifts js
gifts_of_both [] js = refl
gifts_of_both (i ∷ is) js = ap (λ (es : List Event). Gave (lease_place i) ∷ es) (gifts_of_both is js)

module _ {M : Type 0} where
  -- ---- the leases that are taken: none

  pub takes_nothing : (v : ClientView M) → TakesNoLease v v
  takes_nothing v = record { leases = λ i word. inl refl; records = refl; table = refl; client = refl; numbers = refl; rest = refl }

  -- what can be given could be given before
  pub can_before : (old new : ClientView M) → TakesNoLease old new → (i : ℕ) → CanBeGiven new i → CanBeGiven old i
  can_before old new none i can = record {
    inode = can.inode;
    held = ⊎_elim (λ same. λ free. can.held (same ∙ free)) (λ gone. absurd (can.held gone.0)) (none.leases i can.inode);
    digested = ap (λ (rs : List ℕ). slice_index rs (lease_place i)) (sym none.records) ∙ can.digested;
    idle = sym (ap is_pending none.rest) ∙ can.idle;
    going = sym (ap (λ (v : ClientView M). v.log.failed) none.rest) ∙ can.going;
  }

  pub takes_no_more : (old between new : ClientView M) → TakesNoLease old between → TakesNoLease between new → TakesNoLease old new
  takes_no_more old between new one two = record {
    leases = λ i word. leases i word (one.leases i word) (two.leases i word);
    records = two.records ∙ one.records;
    table = two.table ∙ one.table;
    client = two.client ∙ one.client;
    numbers = two.numbers ∙ one.numbers;
    rest = two.rest ∙ ap (λ (v : ClientView M). record v { pass = new.pass; copies = new.copies }) one.rest;
  }
    where
      leases : (i : ℕ) → HasWord i
          → (lease_of between.pass i ≡ lease_of old.pass i) ⊎ ((lease_of between.pass i ≡ Free) × CanBeGiven old i)
          → (lease_of new.pass i ≡ lease_of between.pass i) ⊎ ((lease_of new.pass i ≡ Free) × CanBeGiven between i)
          → (lease_of new.pass i ≡ lease_of old.pass i) ⊎ ((lease_of new.pass i ≡ Free) × CanBeGiven old i)
      leases i word (inl before) (inl then) = inl (then ∙ before)
      leases i word (inr before) (inl then) = inr (then ∙ before.0, before.1)
      leases i word before (inr then) = inr (then.0, can_before old between one i then.1)

  -- what others ask for was heard
  pub hears : (old new : ClientView M) (e : Event) → new ≡ record old { pass = with_event old.pass e } → TakesNoLease old new
  hears old new e is = record {
    leases = λ i word. inl (ap (λ (v : ClientView M). lease_of v.pass i) is);
    records = ap (λ (v : ClientView M). v.pass.records) is;
    table = ap (λ (v : ClientView M). v.pass.table) is;
    client = ap (λ (v : ClientView M). client_of v.pass) is;
    numbers = ap (λ (v : ClientView M). v.copies.numbers) is;
    rest = is ∙ ap (λ (v : ClientView M). record old { pass = v.pass; copies = v.copies }) (sym is);
  }

  -- ---- the leases that are given

  pub gives_nothing : (v : ClientView M) → HasOnlyGiven v v
  gives_nothing v = record { none = takes_nothing v; inodes = []; steps = refl }

  -- as it is known of the client that is left
  pub gives_nothing_of : (old new : ClientView M) → new ≡ old → HasOnlyGiven old new
  gives_nothing_of old new is = subst (HasOnlyGiven old) (sym is) (gives_nothing old)

  pub gives_both : (old between new : ClientView M) → HasOnlyGiven old between → HasOnlyGiven between new → HasOnlyGiven old new
  gives_both old between new one two = record {
    none = takes_no_more old between new one.none two.none;
    inodes = two.inodes ++ one.inodes;
    steps = two.steps ∙ ap (λ (es : List Event). gifts two.inodes ++ es) one.steps ∙ sym (append_assoc (gifts two.inodes) (gifts one.inodes) old.pass.part.events)
        ∙ ap (λ (es : List Event). es ++ old.pass.part.events) (sym (gifts_of_both two.inodes one.inodes));
  }

  -- one inode was given
  pub gives_one : (old new : ClientView M) (i : ℕ) → CanBeGiven old i → HasGiven old i new → HasOnlyGiven old new
  gives_one old new i can given = record {
    none = record {
      leases = leases;
      records = ap (λ (p : PassView). p.records) given.lease;
      table = ap (λ (p : PassView). p.table) given.lease;
      client = ap client_of given.lease;
      numbers = given.numbers;
      rest = given.rest;
    };
    inodes = i ∷ [];
    steps = ap (λ (p : PassView). p.part.events) given.lease;
  }
    where
      leases : (j : ℕ) → HasWord j → (lease_of new.pass j ≡ lease_of old.pass j) ⊎ ((lease_of new.pass j ≡ Free) × CanBeGiven old j)
      leases j word = elim (eqb_tells j i) [
        | inl same ↦ inr (ap (λ (p : PassView). lease_of p j) given.lease ∙ ap (λ k. lease_of (without_lease old.pass i) k) same.1 ∙ freed old.pass i can.held, subst (CanBeGiven old) (sym same.1) can)
        | inr other ↦ inl (ap (λ (p : PassView). lease_of p j) given.lease ∙ get_or-set_other old.pass.part.modes (lease_place i) (lease_place j) Free Free (apart i j can.inode word other.1))
      ]

  -- and it can't be given again
  given_once : (old new : ClientView M) (i : ℕ) → CanBeGiven old i → HasGiven old i new → CanBeGiven new i → ⊥
  given_once old new i can given again = again.held (ap (λ (p : PassView). lease_of p i) given.lease ∙ freed old.pass i can.held)

  -- it was given exactly where it could be
  pub gives_if_it_can : (old new : ClientView M) (i : ℕ) (is_given : Bool) → (IsTrue is_given ↔ CanBeGiven old i) → (is_given ≡ true → HasGiven old i new) → (is_given ≡ false → new ≡ old) → HasOnlyGiven old new × (CanBeGiven new i → ⊥)
  gives_if_it_can old new i true exact given kept = (gives_one old new i (exact.0 refl) (given refl), given_once old new i (exact.0 refl) (given refl))
  gives_if_it_can old new i false exact given kept = (gives_nothing_of old new (kept refl), λ can. false≢true (exact.1 (subst (λ (v : ClientView M). CanBeGiven v i) (kept refl) can)))

  -- and no other lease has changed
  pub gives_no_other : (old new : ClientView M) (i : ℕ) (is_given : Bool) → (IsTrue is_given ↔ CanBeGiven old i) → (is_given ≡ true → HasGiven old i new) → (is_given ≡ false → new ≡ old)
      → (j : ℕ) → HasWord j → j ≢ i → lease_of new.pass j ≡ lease_of old.pass j
  gives_no_other old new i true exact given kept j word off =
      ap (λ (p : PassView). lease_of p j) (given refl).lease ∙ get_or-set_other old.pass.part.modes (lease_place i) (lease_place j) Free Free (apart i j (exact.0 refl).inode word off)
  gives_no_other old new i false exact given kept j word off = ap (λ (v : ClientView M). lease_of v.pass j) (kept refl)

  -- what is free can't be given
  pub free_stays : (v : ClientView M) (i : ℕ) → lease_of v.pass i ≡ Free → CanBeGiven v i → ⊥
  free_stays v i free can = can.held free

  pub keeps_both : (old between new : ClientView M) → KeepsCall old between → KeepsCall between new → KeepsCall old new
  keeps_both old between new one two = (two.0 ∙ one.0, two.1 ∙ one.1, two.2 ∙ one.2)

  -- ---- all inodes in turn

  -- none of the inodes up to a number can be given
  abbrev pub HasNoneUpTo : ℕ → ClientView M → Type 0
  HasNoneUpTo n v = (i : ℕ) → HasWord i → i ≤ n → CanBeGiven v i → ⊥

  pub none_yet : (v : ClientView M) → HasNoneUpTo 0 v
  none_yet v i word low can = absurd (omega (arith, word.0, low))

  pub one_more : (old new : ClientView M) (n : ℕ) → HasOnlyGiven old new → HasNoneUpTo n old → (CanBeGiven new (n + 1) → ⊥) → HasNoneUpTo (n + 1) new
  one_more old new n given none last i word low can = elim (eqb_tells i (n + 1)) [
    | inl same ↦ last (subst (CanBeGiven new) same.1 can)
    | inr other ↦ none i word (below i n low other.1) (can_before old new given.none i can)
  ]
    where
      below : (i n : ℕ) → i ≤ n + 1 → i ≢ n + 1 → i ≤ n
      below i n low off = grind arith

  pub none_left : (v : ClientView M) (n : ℕ) → 1024 ≤ n → HasNoneUpTo n v → HasNoneToGive v
  none_left v n all none i word can = none i word (omega (arith, word.1, all)) can
