-- The blocks of a changed directory: those that it had and spare ones, and its root.
use Rattle.std.proofs.Common.{◌≡◌, ◌≢◌, ◌≤◌, ◌<◌, ◌+◌, ◌-◌, ◌^◌, ◌++◌, ◌∙◌, ◌&&◌, ℕ, List, length, true, false, Bool, refl, sym, ap, subst, arith, inl, inr}
use Rattle.std.specs.Prelude.{◌==◌, not, nat_le, nat_lt, if◌then◌else◌}
use Rattle.std.proofs.lemmas.Bool.{cases_lt, cases_eq, eq-eqb, ne_eqb, and_parts, leb-true, ltb-true, or_left, or_right}
use Rattle.std.proofs.lemmas.List.{length-append, length-take-le, get_or-take, get_or_append_left, get_or-append_right}
use Rattle.tier_device.specs.declared.media.Tier.TheVariants.{Fast}
use Rattle.area_commit.specs.layout.Places.{Sizes, IsAllowed, is_node, node_end, tier_blocks}
use Rattle.area_commit.specs.layout.Slot.{is_root_block}
use Rattle.inode_plan.specs.Blocks.{nth_block, HaveOwnPlaces, AreNodeBlocks, spares_wanted, places_after, root_after}
use Rattle.inode_plan.specs.Spare.{CanBeWritten, AreSpares}
use Rattle.inode_plan.specs.declared.directory_change.ChangedDirectory.{ChangedDirectory}

-- ---- a block of the node pool

pub node_some : (g : Sizes) (k : ℕ) → is_node g k ≡ true → 292 ≤ k
node_some g k is = leb-true 292 k (and_parts (nat_le 292 k) (nat_lt k (node_end g)) is).0

pub node_not_zero : (g : Sizes) (k : ℕ) → is_node g k ≡ true → k ≢ 0
node_not_zero g k is zero' = let some = node_some g k is in omega (arith, some, zero')

pub node_room : (g : Sizes) (k : ℕ) → is_node g k ≡ true → k < tier_blocks g Fast
node_room g k is = let high = ltb-true k (node_end g) (and_parts (nat_le 292 k) (nat_lt k (node_end g)) is).1 in omega (arith, high)

-- its number and the next one have 32 bits
pub node_small : (g : Sizes) (k : ℕ) → IsAllowed g → is_node g k ≡ true → k + 1 < 2 ^ 32
node_small g k allowed is =
    let high = ltb-true k (node_end g) (and_parts (nat_le 292 k) (nat_lt k (node_end g)) is).1 in
    let units = allowed.few_units in
    omega (arith, high, units)

pub node_root : (g : Sizes) (k : ℕ) → is_node g k ≡ true → is_root_block g k ≡ true
node_root g k is = or_right (k == 0) (is_node g k) is

-- ---- how many spare blocks are wanted

pub wanted_with_root : (root old new : ℕ) → root ≡ 0 → new ≢ 0 → spares_wanted root old new ≡ (new - old) + 1
wanted_with_root root old new none some =
    ap (λ (b : Bool). (new - old) + (if b && not (new == 0) then 1 else 0)) (eq-eqb root 0 none) ∙ ap (λ (b : Bool). (new - old) + (if not b then 1 else 0)) (ne_eqb new 0 some)

pub wanted_no_root : (root old new : ℕ) → root ≢ 0 → spares_wanted root old new ≡ new - old
wanted_no_root root old new some =
    ap (λ (b : Bool). (new - old) + (if b && not (new == 0) then 1 else 0)) (ne_eqb root 0 some) ∙ (let e : (new - old) + 0 ≡ new - old = omega arith in e)

pub wanted_none : (root old new : ℕ) → new ≡ 0 → spares_wanted root old new ≡ 0
wanted_none root old new none = by (root == 0)
  where
    by : (b : Bool) → (new - old) + (if b && not (new == 0) then 1 else 0) ≡ 0
    by true = ap (λ (c : Bool). (new - old) + (if not c then 1 else 0)) (eq-eqb new 0 none) ∙ omega (arith, none)
    by false = omega (arith, none)

pub wanted_most : (root old new : ℕ) → new ≤ old + spares_wanted root old new
wanted_most root old new = omega arith

-- ---- the root

-- it has none; the old one; or a spare one, where it had no block before
pub data RootCase (root old : ℕ) (spares : List ℕ) (new after : ℕ) : Type 0 where
  NoRoot : new ≡ 0 → after ≡ 0 → RootCase root old spares new after
  OldRoot : new ≢ 0 → root ≢ 0 → after ≡ root → RootCase root old spares new after
  NewRoot : new ≢ 0 → root ≡ 0 → old ≡ 0 → length spares ≡ new + 1 → after ≡ nth_block spares new → RootCase root old spares new after

pub root_case : (root old : ℕ) (spares : List ℕ) (new : ℕ) → length spares ≡ spares_wanted root old new → (root ≡ 0 → old ≡ 0) → RootCase root old spares new (root_after root spares new)
root_case root old spares new enough rooted = elim (cases_eq new 0) [
  | inl none ↦ NoRoot none (ap (λ (b : Bool). if b then 0 else (if root == 0 then nth_block spares (length spares - 1) else root)) (eq-eqb new 0 none))
  | inr some ↦
      let there : root_after root spares new ≡ (if root == 0 then nth_block spares (length spares - 1) else root) = ap (λ (b : Bool). if b then 0 else (if root == 0 then nth_block spares (length spares - 1) else root)) (ne_eqb new 0 some) in
      elim (cases_eq root 0) [
        | inl zero' ↦
            let was = rooted zero' in
            let many = enough ∙ wanted_with_root root old new zero' some in
            let long : length spares ≡ new + 1 = omega (arith, was, many) in
            let last : length spares - 1 ≡ new = omega (arith, long) in
            NewRoot some zero' was long (there ∙ ap (λ (b : Bool). if b then nth_block spares (length spares - 1) else root) (eq-eqb root 0 zero') ∙ ap (nth_block spares) last)
        | inr old_root ↦ OldRoot some old_root (there ∙ ap (λ (b : Bool). if b then nth_block spares (length spares - 1) else root) (ne_eqb root 0 old_root))
      ]
]

-- ---- all blocks

module _ (g : Sizes) (x : ChangedDirectory) (spares : List ℕ) (can : CanBeWritten g x) (are : AreSpares g x spares) where
  abbrev old : List ℕ
  old = x.blocks.places.items

  abbrev new : ℕ
  new = length x.entries.blocks

  pub room : new ≤ length old + length spares
  room = let most = wanted_most x.blocks.root (length old) new in let enough = are.enough in omega (arith, most, enough)

  pub old_at : (k : ℕ) → k < length old → nth_block (old ++ spares) k ≡ nth_block old k
  old_at k lt = get_or_append_left old spares 0 k lt

  pub spare_at : (k : ℕ) → length old ≤ k → nth_block (old ++ spares) k ≡ nth_block spares (k - length old)
  spare_at k le = get_or-append_right old spares (length old) k 0 refl le

  spare_in : (k : ℕ) → k < length (old ++ spares) → length old ≤ k → k - length old < length spares
  spare_in k lt le = omega (arith, lt, le, length-append old spares)

  pub all_nodes : AreNodeBlocks g (old ++ spares)
  all_nodes k lt = elim (cases_lt k (length old)) [
    | inl here ↦ subst (λ b. is_node g b ≡ true) (sym (old_at k here)) (can.blocks_are.nodes k here)
    | inr past ↦ subst (λ b. is_node g b ≡ true) (sym (spare_at k past)) (are.nodes (k - length old) (spare_in k lt past))
  ]

  pub all_apart : HaveOwnPlaces (old ++ spares)
  all_apart j k lj lk same = elim (cases_lt j (length old)) [
    | inl j_old ↦ elim (cases_lt k (length old)) [
      | inl k_old ↦ can.blocks_are.apart j k j_old k_old (sym (old_at j j_old) ∙ same ∙ old_at k k_old)
      | inr k_new ↦ absurd (are.not_places (k - length old) j (spare_in k lk k_new) j_old (sym (spare_at k k_new) ∙ sym same ∙ old_at j j_old))
    ]
    | inr j_new ↦ elim (cases_lt k (length old)) [
      | inl k_old ↦ absurd (are.not_places (j - length old) k (spare_in j lj j_new) k_old (sym (spare_at j j_new) ∙ same ∙ old_at k k_old))
      | inr k_new ↦
          let e = are.apart (j - length old) (k - length old) (spare_in j lj j_new) (spare_in k lk k_new) (sym (spare_at j j_new) ∙ same ∙ spare_at k k_new) in
          omega (arith, e, j_new, k_new)
    ]
  ]

  pub some_spare : x.blocks.root ≡ 0 → 0 < new → 0 < length spares
  some_spare none some = let enough = are.enough ∙ wanted_with_root x.blocks.root (length old) new none (λ zero'. omega (arith, some, zero')) in omega (arith, enough)

  -- ---- those that it has then

  abbrev pub after : List ℕ
  after = places_after old spares new

  pub long : length after ≡ new
  long = length-take-le new (old ++ spares) (let r = room in omega (arith, r, length-append old spares))

  pub after_at : (k : ℕ) → k < length after → nth_block after k ≡ nth_block (old ++ spares) k
  after_at k lt = get_or-take new (old ++ spares) k 0 (subst (λ n. k < n) long lt)

  pub after_in : (k : ℕ) → k < length after → k < length (old ++ spares)
  after_in k lt = let r = room in let l = long in omega (arith, lt, r, l, length-append old spares)

  pub after_nodes : AreNodeBlocks g after
  after_nodes k lt = subst (λ b. is_node g b ≡ true) (sym (after_at k lt)) (all_nodes k (after_in k lt))

  pub after_apart : HaveOwnPlaces after
  after_apart j k lj lk same = all_apart j k (after_in j lj) (after_in k lk) (sym (after_at j lj) ∙ same ∙ after_at k lk)

  abbrev pub root_then : ℕ
  root_then = root_after x.blocks.root spares new

  pub case_of : RootCase x.blocks.root (length old) spares new root_then
  case_of = root_case x.blocks.root (length old) spares new are.enough can.blocks_are.rooted

  pub after_root_node : is_root_block g root_then ≡ true
  after_root_node = elim case_of [
    | NoRoot none is ↦ subst (λ r. is_root_block g r ≡ true) (sym is) (or_left (0 == 0) (is_node g 0) refl)
    | OldRoot some root is ↦ subst (λ r. is_root_block g r ≡ true) (sym is) can.blocks_are.root_node
    | NewRoot some root was many is ↦ subst (λ r. is_root_block g r ≡ true) (sym is) (node_root g (nth_block spares new) (are.nodes new (omega (arith, many))))
  ]

  pub after_root_apart : root_then ≢ 0 → (k : ℕ) → k < length after → nth_block after k ≢ root_then
  after_root_apart some_root k lt same = elim case_of [
    | NoRoot none is ↦ some_root is
    | OldRoot some root is ↦ elim (cases_lt k (length old)) [
      | inl here ↦ can.blocks_are.root_apart root k here (sym (old_at k here) ∙ sym (after_at k lt) ∙ same ∙ is)
      | inr past ↦ are.not_root (k - length old) (spare_in k (after_in k lt) past) (sym (spare_at k past) ∙ sym (after_at k lt) ∙ same ∙ is)
    ]
    | NewRoot some root was many is ↦
        let past : length old ≤ k = omega (arith, was) in
        let inside = subst (λ n. k < n) long lt in
        let e = are.apart (k - length old) new (spare_in k (after_in k lt) past) (omega (arith, many)) (sym (spare_at k past) ∙ sym (after_at k lt) ∙ same ∙ is) in
        omega (arith, e, was, inside)
  ]

  -- there is a root exactly where there is a block
  pub after_rooted : root_then ≡ 0 → new ≡ 0
  after_rooted zero' = elim case_of [
    | NoRoot none is ↦ none
    | OldRoot some root is ↦ absurd (root (sym is ∙ zero'))
    | NewRoot some root was many is ↦ absurd (node_not_zero g (nth_block spares new) (are.nodes new (omega (arith, many))) (sym is ∙ zero'))
  ]

  pub after_unrooted : new ≡ 0 → root_then ≡ 0
  after_unrooted none = ap (λ (b : Bool). if b then 0 else (if x.blocks.root == 0 then nth_block spares (length spares - 1) else x.blocks.root)) (eq-eqb new 0 none)
