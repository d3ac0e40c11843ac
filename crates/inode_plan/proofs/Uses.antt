-- What a planned directory has a use for, and what it gives up.
use Rattle.std.proofs.Common.{◌≡◌, ◌≢◌, ◌≤◌, ◌<◌, ◌+◌, ◌-◌, ◌∷◌, ◌∙◌, ◌||◌, true, ℕ, zero, suc, List, [], length, drop, Bool, Option, Some, None, refl, sym, ap, subst, arith, inl, inr, ◌⊎◌}
use Rattle.std.specs.Prelude.{◌==◌, option_map, if◌then◌else◌}
use Rattle.std.specs.List.{Contains}
use Rattle.std.proofs.lemmas.Bool.{cases_lt, cases_eq, eq-eqb, ne_eqb, lt-ltb, le-ltb}
use Rattle.std.proofs.lemmas.Option.{none-some}
use Rattle.std.proofs.lemmas.List.{length-append, length-drop, get_or-drop, get_or_default, get_or_append_left, get_or-append_right}
use Rattle.std.proofs.lemmas.List.Elements.{Contains-append_left, Contains-append_right, Contains-append_cases}
use Rattle.tier_device.specs.declared.media.Tier.{Tier}
use Rattle.tier_device.specs.declared.media.Tier.TheVariants.{Fast, Block, Slow}
use Rattle.area_commit.specs.layout.declared.slot.Slot.TheVariants as slots
use Rattle.area_commit.specs.layout.declared.extents.Extent.{Extent}
use Rattle.area_commit.specs.layout.Places.{Sizes, is_node}
use Rattle.area_commit.specs.layout.Slot.{is_root_block}
use Rattle.area_commit.specs.extent_tree.Places.{place_of}
use Rattle.area_commit.specs.InodeRewrite.{block_by}
use Rattle.inode_plan.specs.Blocks.{nth_block, HaveOwnPlaces, AreNodeBlocks, use_on_fast, use_in, root_blocks, lost_blocks}
use Rattle.inode_plan.specs.Spare.{CanBeWritten, AreSpares}
use Rattle.inode_plan.specs.PlacedDirectory.{ListPlaces}
use Rattle.inode_plan.specs.PlannedDirectory.{on_fast}
use Rattle.inode_plan.specs.declared.directory_change.ChangedDirectory.{ChangedDirectory}
use Rattle.inode_plan.proofs.Parts.{root_same}
use Rattle.inode_plan.proofs.Lists.{RootCase, NoRoot, OldRoot, NewRoot, wanted_none, wanted_no_root}
use Rattle.inode_plan.proofs.Lists as lists

-- ---- small facts

pub some_is : (x y : ℕ) → Some x ≡ Some y → x ≡ y
some_is x y e = cc

-- one of a list by its place
pub contains_nth : (xs : List ℕ) (k : ℕ) → k < length xs → Contains xs (nth_block xs k)
contains_nth xs k lt = (k, lt, get_or_default xs k (nth_block xs k) 0 lt)

pub nth_contained : (xs : List ℕ) (p : ℕ) → Contains xs p → (k : ℕ) × (k < length xs) × (nth_block xs k ≡ p)
nth_contained xs p at = (at.0, at.1, get_or_default xs at.0 0 p at.1 ∙ at.2)

-- ---- uses of a root and places

pub root_use : (root : ℕ) (places : List ℕ) (p : ℕ) → use_on_fast root places None ≡ Some p → (root ≢ 0) × (root ≡ p)
root_use root places p is = elim (cases_eq root 0) [
  | inl none ↦ absurd (none-some p (sym (ap (λ (b : Bool). if b then None else Some root) (eq-eqb root 0 none)) ∙ is))
  | inr some ↦ (some, some_is root p (sym (ap (λ (b : Bool). if b then None else Some root) (ne_eqb root 0 some)) ∙ is))
]

pub use_root : (root : ℕ) (places : List ℕ) → root ≢ 0 → use_on_fast root places None ≡ Some root
use_root root places some = ap (λ (b : Bool). if b then None else Some root) (ne_eqb root 0 some)

pub place_use : (root : ℕ) (places : List ℕ) (k p : ℕ) → use_on_fast root places (Some k) ≡ Some p → (k < length places) × (nth_block places k ≡ p)
place_use root places k p is = elim (cases_lt k (length places)) [
  | inl lt ↦ (lt, some_is (nth_block places k) p (sym (ap (λ (b : Bool). if b then Some (nth_block places k) else None) (lt-ltb k (length places) lt)) ∙ is))
  | inr past ↦ absurd (none-some p (sym (ap (λ (b : Bool). if b then Some (nth_block places k) else None) (le-ltb k (length places) past)) ∙ is))
]

pub use_place : (root : ℕ) (places : List ℕ) (k : ℕ) → k < length places → use_on_fast root places (Some k) ≡ Some (nth_block places k)
use_place root places k lt = ap (λ (b : Bool). if b then Some (nth_block places k) else None) (lt-ltb k (length places) lt)

-- a use of any tier is one of the fast tier
pub record FastUse (root : ℕ) (places : List ℕ) (t : Tier) (k : Option ℕ) (b : Tier × ℕ) : Type 0 where
  pub tier_is : t ≡ Fast
  pub block_is : b ≡ (Fast, b.1)
  pub use_is : use_on_fast root places k ≡ Some b.1

pub fast_use : (root : ℕ) (places : List ℕ) (t : Tier) (k : Option ℕ) (b : Tier × ℕ) → use_in root places t k ≡ Some b → FastUse root places t k b
fast_use root places Fast k b is = by (use_on_fast root places k) refl is
  where
    by : (o : Option ℕ) → use_on_fast root places k ≡ o → option_map (λ p. (Fast, p)) o ≡ Some b → FastUse root places Fast k b
    by None o_is is = absurd (none-some b is)
    by (Some p) o_is is = let e : (Fast, p) ≡ b = cc in record { tier_is = refl; block_is = sym e ∙ ap (λ (c : Tier × ℕ). (Fast, c.1)) e; use_is = o_is ∙ ap (λ (c : Tier × ℕ). Some c.1) e }
fast_use root places Block k b is = absurd (none-some b is)
fast_use root places Slow k b is = absurd (none-some b is)

pub use_fast : (root : ℕ) (places : List ℕ) (k : Option ℕ) (p : ℕ) → use_on_fast root places k ≡ Some p → use_in root places Fast k ≡ Some (Fast, p)
use_fast root places k p is = ap (option_map (λ q. (Fast, q))) is

-- ---- what a slot and its runs have is that

pub lies_at_place : (places : List ℕ) (runs : List Extent) → ListPlaces places runs → (k p : ℕ) → place_of runs k ≡ Some p → (k < length places) × (nth_block places k ≡ p)
lies_at_place places runs lie k p at = elim (cases_lt k (length places)) [
  | inl lt ↦ (lt, some_is (nth_block places k) p (sym (lie.there k lt) ∙ at))
  | inr past ↦ absurd (none-some p (sym (lie.none k past) ∙ at))
]

place_same : (root : ℕ) (places : List ℕ) (runs : List Extent) → ListPlaces places runs → (k : ℕ) → place_of runs k ≡ use_on_fast root places (Some k)
place_same root places runs lie k = elim (cases_lt k (length places)) [
  | inl lt ↦ lie.there k lt ∙ sym (use_place root places k lt)
  | inr past ↦ lie.none k past ∙ sym (ap (λ (b : Bool). if b then Some (nth_block places k) else None) (le-ltb k (length places) past))
]

pub block_is_use : (names entries touch root : ℕ) (places : List ℕ) (runs : List Extent) → ListPlaces places runs → (t : Tier) (k : Option ℕ) → block_by (slots.Directory names entries touch root) (on_fast runs) t k ≡ use_in root places t k
block_is_use names entries touch root places runs lie Fast None = root_same root
block_is_use names entries touch root places runs lie Fast (Some k) = ap (option_map (λ p. (Fast, p))) (place_same root places runs lie k)
block_is_use names entries touch root places runs lie Block None = refl
block_is_use names entries touch root places runs lie Block (Some k) = refl
block_is_use names entries touch root places runs lie Slow None = refl
block_is_use names entries touch root places runs lie Slow (Some k) = refl

-- ---- once

-- root and places that are apart have one use each
pub use_once : (root : ℕ) (places : List ℕ) → HaveOwnPlaces places → (root ≢ 0 → (k : ℕ) → k < length places → nth_block places k ≢ root) → (j k : Option ℕ) (p : ℕ) → use_on_fast root places j ≡ Some p → use_on_fast root places k ≡ Some p → j ≡ k
use_once root places apart root_apart None None p one two = refl
use_once root places apart root_apart None (Some k) p one two =
    let r = root_use root places p one in
    let q = place_use root places k p two in
    absurd (root_apart r.0 k q.0 (q.1 ∙ sym r.1))
use_once root places apart root_apart (Some j) None p one two =
    let r = root_use root places p two in
    let q = place_use root places j p one in
    absurd (root_apart r.0 j q.0 (q.1 ∙ sym r.1))
use_once root places apart root_apart (Some j) (Some k) p one two =
    let a = place_use root places j p one in
    let b = place_use root places k p two in
    ap Some (apart j k a.0 b.0 (a.1 ∙ sym b.1))

-- ---- of the node pool

root_is_node : (g : Sizes) (root : ℕ) → is_root_block g root ≡ true → root ≢ 0 → is_node g root ≡ true
root_is_node g root is some = subst (λ (b : Bool). (b || is_node g root) ≡ true) (ne_eqb root 0 some) is

-- root and places of the node pool are the blocks of all uses
pub use_node : (g : Sizes) (root : ℕ) (places : List ℕ) → is_root_block g root ≡ true → AreNodeBlocks g places → (k : Option ℕ) (p : ℕ) → use_on_fast root places k ≡ Some p → is_node g p ≡ true
use_node g root places root_node nodes None p is = let r = root_use root places p is in subst (λ b. is_node g b ≡ true) r.1 (root_is_node g root root_node r.0)
use_node g root places root_node nodes (Some k) p is = let q = place_use root places k p is in subst (λ b. is_node g b ≡ true) q.1 (nodes k q.0)

-- ---- kept or spare

module _ (g : Sizes) (x : ChangedDirectory) (spares : List ℕ) (can : CanBeWritten g x) (are : AreSpares g x spares) where
  abbrev old : List ℕ
  old = x.blocks.places.items

  abbrev new : ℕ
  new = length x.entries.blocks

  abbrev after : List ℕ
  after = lists.after g x spares can are

  abbrev root_then : ℕ
  root_then = lists.root_then g x spares can are

  pub kept_on_fast : (k : Option ℕ) (p : ℕ) → use_on_fast root_then after k ≡ Some p → (use_on_fast x.blocks.root old k ≡ Some p) ⊎ Contains spares p
  kept_on_fast None p is =
      let r = root_use root_then after p is in
      elim (lists.case_of g x spares can are) [
        | NoRoot none zero' ↦ absurd (r.0 zero')
        | OldRoot some root same ↦ inl (use_root x.blocks.root old root ∙ ap Some (sym same ∙ r.1))
        | NewRoot some root was many same ↦ inr (subst (Contains spares) (sym same ∙ r.1) (contains_nth spares new (omega (arith, many))))
      ]
  kept_on_fast (Some k) p is =
      let q = place_use root_then after k p is in
      let at = lists.after_at g x spares can are k q.0 in
      elim (cases_lt k (length old)) [
        | inl here ↦ inl (use_place x.blocks.root old k here ∙ ap Some (sym (lists.old_at g x spares can are k here) ∙ sym at ∙ q.1))
        | inr past ↦
            let inside = lists.after_in g x spares can are k q.0 in
            inr (subst (Contains spares) (sym (lists.spare_at g x spares can are k past) ∙ sym at ∙ q.1) (contains_nth spares (k - length old) (omega (arith, inside, past, length-append old spares))))
      ]

  pub once_on_fast : (j k : Option ℕ) (p : ℕ) → use_on_fast root_then after j ≡ Some p → use_on_fast root_then after k ≡ Some p → j ≡ k
  once_on_fast = use_once root_then after (lists.after_apart g x spares can are) (lists.after_root_apart g x spares can are)

  -- each spare block has a use
  pub spare_used : (p : ℕ) → Contains spares p → (k : Option ℕ) × (use_on_fast root_then after k ≡ Some p)
  spare_used p has =
      let at = nth_contained spares p has in
      let j = at.0 in
      let enough = are.enough in
      let long = lists.long g x spares can are in
      let as_block : length old + j < length after → (k : Option ℕ) × (use_on_fast root_then after k ≡ Some p) = λ lt. (
        Some (length old + j),
        use_place root_then after (length old + j) lt
            ∙ ap Some (lists.after_at g x spares can are (length old + j) lt ∙ lists.spare_at g x spares can are (length old + j) (omega arith) ∙ ap (nth_block spares) (let e : length old + j - length old ≡ j = omega arith in e) ∙ at.2),
      ) in
      elim (lists.case_of g x spares can are) [
        | NoRoot none zero' ↦ let no = enough ∙ wanted_none x.blocks.root (length old) new none in let lt = at.1 in absurd (omega (arith, no, lt))
        | OldRoot some root same ↦ let many = enough ∙ wanted_no_root x.blocks.root (length old) new root in let lt = at.1 in as_block (omega (arith, many, lt, long))
        | NewRoot some root was many same ↦ elim (cases_lt j new) [
          | inl lt ↦ as_block (omega (arith, was, lt, long))
          | inr past ↦
              let lt = at.1 in
              let last : new ≡ j = omega (arith, many, past, lt) in
              let is : root_then ≡ p = same ∙ ap (nth_block spares) last ∙ at.2 in
              let not : root_then ≢ 0 = λ zero'. some (lists.after_rooted g x spares can are zero') in
              (None, use_root root_then after not ∙ ap Some is)
        ]
      ]

  -- ---- what is given up

  abbrev lost : List ℕ
  lost = lost_blocks x.blocks.root old new

  tail_none : new ≢ 0 → (if new == 0 then root_blocks x.blocks.root else []) ≡ []
  tail_none some = ap (λ (b : Bool). if b then root_blocks x.blocks.root else []) (ne_eqb new 0 some)

  tail_root : new ≡ 0 → x.blocks.root ≢ 0 → (if new == 0 then root_blocks x.blocks.root else []) ≡ x.blocks.root ∷ []
  tail_root none root = ap (λ (b : Bool). if b then root_blocks x.blocks.root else []) (eq-eqb new 0 none) ∙ ap (λ (b : Bool). if b then [] else x.blocks.root ∷ []) (ne_eqb x.blocks.root 0 root)

  tail_zero : x.blocks.root ≡ 0 → (if new == 0 then root_blocks x.blocks.root else []) ≡ []
  tail_zero zero' = elim (cases_eq new 0) [
    | inl none ↦ ap (λ (b : Bool). if b then root_blocks x.blocks.root else []) (eq-eqb new 0 none) ∙ ap (λ (b : Bool). if b then [] else x.blocks.root ∷ []) (eq-eqb x.blocks.root 0 zero')
    | inr some ↦ tail_none some
  ]

  -- a block behind the new ones is used no more
  behind_unused : (m : ℕ) → m < length old → new ≤ m → (k : Option ℕ) → use_on_fast root_then after k ≢ Some (nth_block old m)
  behind_unused m lt past None is =
      let r = root_use root_then after (nth_block old m) is in
      elim (lists.case_of g x spares can are) [
        | NoRoot none zero' ↦ r.0 zero'
        | OldRoot some root same ↦ can.blocks_are.root_apart root m lt (sym r.1 ∙ same)
        | NewRoot some root was many same ↦ omega (arith, was, lt)
      ]
  behind_unused m lt past (Some k) is =
      let q = place_use root_then after k (nth_block old m) is in
      let inside = lists.after_in g x spares can are k q.0 in
      let long = lists.long g x spares can are in
      let below = q.0 in
      let e : k ≡ m = lists.all_apart g x spares can are k m inside (omega (arith, lt, length-append old spares)) (sym (lists.after_at g x spares can are k q.0) ∙ q.1 ∙ sym (lists.old_at g x spares can are m lt)) in
      omega (arith, e, long, below, past)

  -- where no block is left, nothing is used
  none_unused : new ≡ 0 → (k : Option ℕ) (p : ℕ) → use_on_fast root_then after k ≢ Some p
  none_unused none None p is = (root_use root_then after p is).0 (lists.after_unrooted g x spares can are none)
  none_unused none (Some k) p is = let lt = (place_use root_then after k p is).0 in let long = lists.long g x spares can are in omega (arith, lt, long, none)

  nothing : (p : ℕ) → Contains [] p → ⊥
  nothing p (n, below, is) = omega (arith, below)

  pub lost_was : (p : ℕ) → Contains lost p → ((k : Option ℕ) × (use_on_fast x.blocks.root old k ≡ Some p)) × ((k : Option ℕ) → use_on_fast root_then after k ≢ Some p)
  lost_was p has = elim (Contains-append_cases (drop new old) (if new == 0 then root_blocks x.blocks.root else []) p has) [
    | inl behind ↦
        let at = nth_contained (drop new old) p behind in
        let j = at.0 in
        let below = at.1 in
        let lt : new + j < length old = omega (arith, below, length-drop new old) in
        let is : nth_block old (new + j) ≡ p = sym (get_or-drop new old j 0) ∙ at.2 in
        ((Some (new + j), use_place x.blocks.root old (new + j) lt ∙ ap Some is), λ k used. behind_unused (new + j) lt (omega arith) k (used ∙ ap Some (sym is)))
    | inr root ↦ elim (cases_eq new 0) [
      | inl none ↦ elim (cases_eq x.blocks.root 0) [
        | inl zero' ↦ absurd (nothing p (subst (λ xs. Contains xs p) (tail_zero zero') root))
        | inr some ↦
            let at = nth_contained (x.blocks.root ∷ []) p (subst (λ xs. Contains xs p) (tail_root none some) root) in
            let is : x.blocks.root ≡ p = one_is at.0 at.1 at.2 in
            ((None, use_root x.blocks.root old some ∙ ap Some is), λ k used. none_unused none k p used)
      ]
      | inr some ↦ absurd (nothing p (subst (λ xs. Contains xs p) (tail_none some) root))
    ]
  ]
    where
      one_is : (n : ℕ) → n < length (x.blocks.root ∷ []) → nth_block (x.blocks.root ∷ []) n ≡ p → x.blocks.root ≡ p
      one_is zero lt is = is
      one_is (suc n) lt is = absurd (omega (arith, lt))

  pub lost_is : (p : ℕ) → ((k : Option ℕ) × (use_on_fast x.blocks.root old k ≡ Some p)) → ((k : Option ℕ) → use_on_fast root_then after k ≢ Some p) → Contains lost p
  lost_is p (None, was) not =
      let r = root_use x.blocks.root old p was in
      elim (lists.case_of g x spares can are) [
        | NoRoot none zero' ↦ Contains-append_right (drop new old) (if new == 0 then root_blocks x.blocks.root else []) p (subst (λ xs. Contains xs p) (sym (tail_root none r.0)) (subst (Contains (x.blocks.root ∷ [])) r.1 (contains_nth (x.blocks.root ∷ []) 0 (omega arith))))
        | OldRoot some root same ↦ absurd (not None (use_root root_then after (λ zero'. root (sym same ∙ zero')) ∙ ap Some (same ∙ r.1)))
        | NewRoot some root old_none many same ↦ absurd (r.0 root)
      ]
  lost_is p (Some m, was) not =
      let q = place_use x.blocks.root old m p was in
      let inside = q.0 in
      elim (cases_lt m new) [
        | inl here ↦
            let long = lists.long g x spares can are in
            let lt : m < length after = omega (arith, here, long) in
            absurd (not (Some m) (use_place root_then after m lt ∙ ap Some (lists.after_at g x spares can are m lt ∙ lists.old_at g x spares can are m inside ∙ q.1)))
        | inr past ↦
            let lt : m - new < length (drop new old) = omega (arith, past, inside, length-drop new old) in
            let at : new + (m - new) ≡ m = omega (arith, past) in
            let is : nth_block (drop new old) (m - new) ≡ p = get_or-drop new old (m - new) 0 ∙ ap (nth_block old) at ∙ q.1 in
            Contains-append_left (drop new old) (if new == 0 then root_blocks x.blocks.root else []) p (subst (Contains (drop new old)) is (contains_nth (drop new old) (m - new) lt))
      ]

  -- what it had for a use is no spare block
  spare_unused : (k : Option ℕ) (p : ℕ) → use_on_fast x.blocks.root old k ≡ Some p → Contains spares p → ⊥
  spare_unused None p was has = let r = root_use x.blocks.root old p was in let at = nth_contained spares p has in are.not_root at.0 at.1 (at.2 ∙ sym r.1)
  spare_unused (Some m) p was has = let q = place_use x.blocks.root old m p was in let at = nth_contained spares p has in are.not_places at.0 m at.1 q.0 (at.2 ∙ sym q.1)

  -- what it had for a use, and has not for that one, is given up
  pub each_lost : (k : Option ℕ) (p : ℕ) → use_on_fast x.blocks.root old k ≡ Some p → use_on_fast root_then after k ≢ Some p → Contains lost p
  each_lost k p was none = lost_is p (k, was) (λ j is. elim (kept_on_fast j p is) [
    | inl had ↦ none (subst (λ (l : Option ℕ). use_on_fast root_then after l ≡ Some p) (use_once x.blocks.root old can.blocks_are.apart can.blocks_are.root_apart j k p had was) is)
    | inr spare ↦ spare_unused k p was spare
  ])

  -- ---- no block is given up twice

  abbrev tail : List ℕ
  tail = if new == 0 then root_blocks x.blocks.root else []

  record IsRootAt (j : ℕ) : Type 0 where
    some : x.blocks.root ≢ 0
    first : j ≡ 0
    is : nth_block tail j ≡ x.blocks.root

  tail_at : (j : ℕ) → j < length tail → IsRootAt j
  tail_at j lt = elim (cases_eq x.blocks.root 0) [
    | inl zero' ↦ absurd (let l : length tail ≡ 0 = ap (λ (xs : List ℕ). length xs) (tail_zero zero') in omega (arith, l, lt))
    | inr some ↦ elim (cases_eq new 0) [
      | inl none ↦
          let is = tail_root none some in
          let l : length tail ≡ 1 = ap (λ (xs : List ℕ). length xs) is in
          let first : j ≡ 0 = omega (arith, l, lt) in
          record { some = some; first = first; is = ap (λ (xs : List ℕ). nth_block xs j) is ∙ ap (nth_block (x.blocks.root ∷ [])) first }
      | inr more ↦ absurd (let l : length tail ≡ 0 = ap (λ (xs : List ℕ). length xs) (tail_none more) in omega (arith, l, lt))
    ]
  ]

  behind_at : (j : ℕ) → j < length (drop new old) → nth_block lost j ≡ nth_block old (new + j)
  behind_at j lt = get_or_append_left (drop new old) tail 0 j lt ∙ get_or-drop new old j 0

  behind_in : (j : ℕ) → j < length (drop new old) → new + j < length old
  behind_in j lt = omega (arith, lt, length-drop new old)

  root_at : (j : ℕ) → j < length lost → length (drop new old) ≤ j → IsRootAt (j - length (drop new old))
  root_at j lt past = tail_at (j - length (drop new old)) (omega (arith, lt, past, length-append (drop new old) tail))

  lost_root : (j : ℕ) → j < length lost → length (drop new old) ≤ j → nth_block lost j ≡ x.blocks.root
  lost_root j lt past = get_or-append_right (drop new old) tail (length (drop new old)) j 0 refl past ∙ (root_at j lt past).is

  pub lost_apart : HaveOwnPlaces lost
  lost_apart j k lj lk same = elim (cases_lt j (length (drop new old))) [
    | inl j_in ↦ elim (cases_lt k (length (drop new old))) [
      | inl k_in ↦ let e = can.blocks_are.apart (new + j) (new + k) (behind_in j j_in) (behind_in k k_in) (sym (behind_at j j_in) ∙ same ∙ behind_at k k_in) in omega (arith, e)
      | inr k_past ↦ absurd (can.blocks_are.root_apart (root_at k lk k_past).some (new + j) (behind_in j j_in) (sym (behind_at j j_in) ∙ same ∙ lost_root k lk k_past))
    ]
    | inr j_past ↦ elim (cases_lt k (length (drop new old))) [
      | inl k_in ↦ absurd (can.blocks_are.root_apart (root_at j lj j_past).some (new + k) (behind_in k k_in) (sym (behind_at k k_in) ∙ sym same ∙ lost_root j lj j_past))
      | inr k_past ↦ let a = (root_at j lj j_past).first in let b = (root_at k lk k_past).first in omega (arith, a, b, j_past, k_past)
    ]
  ]
