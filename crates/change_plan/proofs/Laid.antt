-- Where the blocks lie that are written: of no inode, of one, and of one more.
use Rattle.std.proofs.Common.{◌≡◌, ◌<◌, ◌+◌, ◌-◌, ◌⊎◌, ◌∙◌, inl, inr, ℕ, List, [], ◌∷◌, ◌++◌, length, get_or, map, true, Some, refl, sym, ap, subst, arith}
use Rattle.std.specs.List.{Contains}
use Rattle.std.proofs.lemmas.Bool.{cases_lt}
use Rattle.std.proofs.lemmas.List.{length-append, length-map, get_or-map, get_or_append_left, get_or-append-add}
use Rattle.std.proofs.lemmas.List.Elements.{Contains-append_left, Contains-append_right, Contains-append_cases, Contains-get_or}
use Rattle.tier_device.specs.declared.media.Tier.{Tier}
use Rattle.tier_device.specs.declared.media.Tier.TheVariants.{Fast}
use Rattle.inode_plan.specs.graph_change.Change.{Change, Changes, change_at}
use Rattle.inode_plan.specs.layout.Places.{Sizes}
use Rattle.inode_plan.specs.extent_tree.Map.{TierRuns, lies_at}
use Rattle.inode_plan.specs.area_reader.Store.{Store}
use Rattle.inode_plan.specs.area_commit.declared.slots.ChangedSlot.{ChangedSlot}
use Rattle.inode_plan.specs.area_commit.Plan.{is_changed}
use Rattle.inode_plan.proofs.area_commit_lemmas.Members.{nothing}
use Rattle.inode_plan.specs.PlacedFile.{nth_number}
use Rattle.inode_plan.proofs.Moves.{later_is_greater}
use Rattle.change_plan.specs.FileLayout.{LeavesFile, WritesBlock, ComesBefore, nth_block, nth_data, Writes, IsLaid, AreLaid}
use Rattle.change_plan.specs.Parts.{with_at}
use Rattle.change_plan.proofs.Climbs.{mapped_in, mapped_from}
use Rattle.change_plan.proofs.Pieces.{at_one, at_other, changed_old, changed_last, changed_either}

-- ---- of one that writes none

pub lays_none : (g : Sizes) (s : Store) (c : Change) (i : ℕ) (m : TierRuns) → (LeavesFile g s c i → ⊥) → IsLaid g s c i m []
lays_none g s c i m other = record { numbers = []; written = inr (other, refl); many = refl; there = λ n within. absurd (omega (arith, within)) }

-- ---- of none

pub none_laid : (g : Sizes) (s : Store) (cs : Changes) (IsOne : ℕ → Type 0) (m : ℕ → TierRuns) → ((i : ℕ) → IsOne i → ⊥) → AreLaid g s cs IsOne m []
none_laid g s cs IsOne m none = record {
  blocks = [];
  written = record { rising = λ j n less within. absurd (omega (arith, within)); each = λ i k. (λ at. absurd (nothing (i, k) at), λ is. absurd (none i is.0)) };
  many = refl;
  there = λ n within. absurd (omega (arith, within));
}

-- ---- one list behind another

-- a place of both is one of the first, or one of the second
of_both : {A : Type 0} (xs ys : List A) (d : A) (n : ℕ) → n < length (xs ++ ys) → ((n < length xs) × (get_or (xs ++ ys) n d ≡ get_or xs n d)) ⊎ ((k : ℕ) × (k < length ys) × (length xs + k ≡ n) × (get_or (xs ++ ys) n d ≡ get_or ys k d))
of_both xs ys d n within = elim (cases_lt n (length xs)) [
  | inl front ↦ inl (front, get_or_append_left xs ys d n front)
  | inr past ↦
      let at : length xs + (n - length xs) ≡ n = omega (arith, past) in
      let all = length-append xs ys in
      inr (n - length xs, omega (arith, past, all, within), at, ap (λ (j : ℕ). get_or (xs ++ ys) j d) (sym at) ∙ get_or-append-add xs ys (n - length xs) d)
]

-- what holds at each place of two lists of one length, and of two behind them, holds at each place of all
at_all : {A B : Type 0} (P : A → B → Type 0) (xs ys : List A) (us vs : List B) (a : A) (b : B) → length us ≡ length xs → ((n : ℕ) → n < length xs → P (get_or xs n a) (get_or us n b)) → ((n : ℕ) → n < length ys → P (get_or ys n a) (get_or vs n b)) → (n : ℕ) → n < length (xs ++ ys) → P (get_or (xs ++ ys) n a) (get_or (us ++ vs) n b)
at_all P xs ys us vs a b same front back n within = elim (of_both xs ys a n within) [
  | inl r ↦ subst (λ x. P x (get_or (us ++ vs) n b)) (sym r.1) (subst (λ u. P (get_or xs n a) u) (sym (get_or_append_left us vs b n (let less = r.0 in omega (arith, less, same)))) (front n r.0))
  | inr r ↦
      let at : length us + r.0 ≡ n = (let is = r.2 in omega (arith, is, same)) in
      subst (λ x. P x (get_or (us ++ vs) n b)) (sym r.3) (subst (λ u. P (get_or ys r.0 a) u) (sym (ap (λ (j : ℕ). get_or (us ++ vs) j b) (sym at) ∙ get_or-append-add us vs r.0 b)) (back r.0 r.1))
]

-- ---- of one more

-- these blocks of one inode
abbrev of_inode : ℕ → List ℕ → List (ℕ × ℕ)
of_inode i numbers = map (λ k. (i, k)) numbers

nth_of : (i : ℕ) (numbers : List ℕ) (n : ℕ) → n < length numbers → nth_block (of_inode i numbers) n ≡ (i, nth_number numbers n)
nth_of i numbers n within = get_or-map (λ (k : ℕ). (i, k)) numbers n 0 (0, 0) within

long_of : (i : ℕ) (numbers : List ℕ) → length (of_inode i numbers) ≡ length numbers
long_of i numbers = length-map {B = ℕ × ℕ} numbers (λ (k : ℕ). (i, k))

-- the numbers rise
rise_of : (g : Sizes) (s : Store) (c : Change) (i : ℕ) (numbers : List ℕ) → Writes g s c i numbers → (j n : ℕ) → j < n → n < length numbers → nth_number numbers j < nth_number numbers n
rise_of g s c i numbers (inl is) j n less within = later_is_greater 0 is.1.rising.0 j n numbers is.1.rising.1 less within
rise_of g s c i numbers (inr none) j n less within = absurd (let long = ap length none.1 in omega (arith, within, long))

module _ (g : Sizes) (s : Store) (cs : Changes) (i : ℕ) (slots : List ChangedSlot) (last : ChangedSlot) (last_is : last.inode ≡ i) (m : ℕ → TierRuns) (its_runs : TierRuns) (places its_places : List (Tier × ℕ)) (below : (j : ℕ) → is_changed slots j ≡ true → j < i)
    (laid : AreLaid g s cs (λ j. is_changed slots j ≡ true) m places) (its : IsLaid g s (change_at cs i) i its_runs its_places) where
  abbrev all_slots : List ChangedSlot
  all_slots = slots ++ (last ∷ [])

  abbrev own : List (ℕ × ℕ)
  own = of_inode i its.numbers

  abbrev all : List (ℕ × ℕ)
  all = laid.blocks ++ own

  abbrev IsEarlier : ℕ → ℕ → Type 0
  IsEarlier j k = (is_changed slots j ≡ true) × WritesBlock g s cs j k

  abbrev IsOfAll : ℕ → ℕ → Type 0
  IsOfAll j k = (is_changed all_slots j ≡ true) × WritesBlock g s cs j k

  earlier : (n : ℕ) → n < length laid.blocks → (nth_block laid.blocks n).0 < i
  earlier n within = (let b = nth_block laid.blocks n in below b.0 ((laid.written.each b.0 b.1).0 (Contains-get_or laid.blocks n (0, 0) within)).0)

  -- ---- they rise

  own_long : length own ≡ length its.numbers
  own_long = long_of i its.numbers

  own_rising : (j n : ℕ) → j < n → n < length own → ComesBefore (nth_block own j) (nth_block own n)
  own_rising j n less within =
      let inside : n < length its.numbers = omega (arith, within, own_long) in
      let more = rise_of g s (change_at cs i) i its.numbers its.written j n less inside in
      subst (λ (b : ℕ × ℕ). ComesBefore b (nth_block own n)) (sym (nth_of i its.numbers j (omega (arith, less, inside)))) (subst (λ (b : ℕ × ℕ). ComesBefore (i, nth_number its.numbers j) b) (sym (nth_of i its.numbers n inside)) (inr (refl, more)))

  crossing : (j n : ℕ) → j < length laid.blocks → n < length own → ComesBefore (nth_block laid.blocks j) (nth_block own n)
  crossing j n front back =
      let less = earlier j front in
      subst (λ (b : ℕ × ℕ). ComesBefore (nth_block laid.blocks j) b) (sym (nth_of i its.numbers n (omega (arith, back, own_long)))) (inl less)

  both : (j n : ℕ) (b c : ℕ × ℕ) → nth_block all j ≡ b → nth_block all n ≡ c → ComesBefore b c → ComesBefore (nth_block all j) (nth_block all n)
  both j n b c first second before = subst (λ (d : ℕ × ℕ). ComesBefore d (nth_block all n)) (sym first) (subst (λ (d : ℕ × ℕ). ComesBefore b d) (sym second) before)

  rising : (j n : ℕ) → j < n → n < length all → ComesBefore (nth_block all j) (nth_block all n)
  rising j n less within = elim (of_both laid.blocks own (0, 0) n within) [
    | inl r ↦ both j n (nth_block laid.blocks j) (nth_block laid.blocks n) (get_or_append_left laid.blocks own (0, 0) j (let front = r.0 in omega (arith, less, front))) r.1 (laid.written.rising j n less r.0)
    | inr r ↦ elim (of_both laid.blocks own (0, 0) j (omega (arith, less, within))) [
      | inl q ↦ both j n (nth_block laid.blocks j) (nth_block own r.0) q.1 r.3 (crossing j r.0 q.0 r.1)
      | inr q ↦ both j n (nth_block own q.0) (nth_block own r.0) q.3 r.3 (own_rising q.0 r.0 (let one = q.2 in let two = r.2 in omega (arith, one, two, less)) r.1)
    ]
  ]

  -- ---- they are all

  own_written : (j k : ℕ) → Contains own (j, k) → IsOfAll j k
  own_written j k at =
      let r = mapped_from (λ (n : ℕ). (i, n)) its.numbers (j, k) at in
      elim its.written [
        | inl is ↦ subst (λ (b : ℕ × ℕ). IsOfAll b.0 b.1) r.2 (subst (λ (n : ℕ). is_changed all_slots n ≡ true) last_is (changed_last slots last), record { is_file = is.0; writes = (is.1.each r.0).0 r.1 })
        | inr none ↦ absurd (nothing r.0 (subst (λ (ks : List ℕ). Contains ks r.0) none.1 r.1))
      ]

  own_there : (k : ℕ) → WritesBlock g s cs i k → Contains own (i, k)
  own_there k w = elim its.written [
    | inl is ↦ mapped_in (λ (n : ℕ). (i, n)) its.numbers k ((is.1.each k).1 w.writes)
    | inr none ↦ absurd (none.0 w.is_file)
  ]

  of_all : (j k : ℕ) → Contains all (j, k) → IsOfAll j k
  of_all j k at = elim (Contains-append_cases laid.blocks own (j, k) at) [
    | inl old ↦ (let is = (laid.written.each j k).0 old in (changed_old slots last j is.0, is.1))
    | inr new ↦ own_written j k new
  ]

  is_there : (j k : ℕ) → IsOfAll j k → Contains all (j, k)
  is_there j k is = elim (changed_either slots last j is.0) [
    | inl old ↦ Contains-append_left laid.blocks own (j, k) ((laid.written.each j k).1 (old, is.1))
    | inr here ↦
        let same : i ≡ j = sym last_is ∙ here in
        Contains-append_right laid.blocks own (j, k) (subst (λ (n : ℕ). Contains own (n, k)) same (own_there k (subst (λ (n : ℕ). WritesBlock g s cs n k) (sym same) is.1)))
  ]

  -- ---- they lie there

  abbrev ms : ℕ → TierRuns
  ms = with_at i its_runs m

  abbrev LiesIn : ℕ × ℕ → Tier × ℕ → Type 0
  LiesIn b p = lies_at (ms b.0) p.0 b.1 ≡ Some p.1

  old_there : (n : ℕ) → n < length laid.blocks → LiesIn (nth_block laid.blocks n) (nth_data places n)
  old_there n within =
      let b = nth_block laid.blocks n in
      let less = earlier n within in
      subst (λ (r : TierRuns). lies_at r (nth_data places n).0 b.1 ≡ Some (nth_data places n).1) (sym (at_other i its_runs m b.0 (λ same. omega (arith, same, less)))) (laid.there n within)

  new_there : (n : ℕ) → n < length own → LiesIn (nth_block own n) (nth_data its_places n)
  new_there n within =
      let inside : n < length its.numbers = omega (arith, within, own_long) in
      subst (λ (b : ℕ × ℕ). LiesIn b (nth_data its_places n)) (sym (nth_of i its.numbers n inside)) (
      subst (λ (r : TierRuns). lies_at r (nth_data its_places n).0 (nth_number its.numbers n) ≡ Some (nth_data its_places n).1) (sym (at_one i its_runs m)) (its.there n inside)
      )

  pub more_laid : AreLaid g s cs (λ j. is_changed all_slots j ≡ true) ms (places ++ its_places)
  more_laid = record {
    blocks = all;
    written = record { rising = rising; each = λ j k. (of_all j k, is_there j k) };
    many = (let a = length-append places its_places in let b = length-append laid.blocks own in omega (arith, a, b, laid.many, its.many, own_long));
    there = at_all LiesIn laid.blocks own places its_places (0, 0) (Fast, 0) laid.many old_there new_there;
  }
