-- What is known of a directory by its slot and its extents.
use Rattle.std.proofs.Common.{◌≡◌, ◌≢◌, ◌≤◌, ◌<◌, ◌+◌, ◌^◌, ◌∙◌, ◌&&◌, ℕ, List, [], length, true, false, refl, sym, ap, subst, arith, Option, Some, None, inl, inr}
use Rattle.std.specs.Prelude.{option_map, IfSome, nat_lt, nat_le, ◌==◌, if◌then◌else◌, Bool}
use Rattle.std.proofs.lemmas.Bool.{cases_lt, and_parts, leb-true, lt-ltb, le-ltb, eq-eqb, ne_eqb}
use Rattle.std.proofs.lemmas.Option.{none-some}
use Rattle.tier_device.specs.declared.media.Tier.{Tier}
use Rattle.tier_device.specs.declared.media.Tier.TheVariants.{Fast, Block, Slow}
use Rattle.area_commit.specs.file_graph.declared.effect.Kind.TheVariants as kind
use Rattle.posix_calls.specs.declared.limits.TheConstants.{MAX_NAMES, MAX_ENTRIES}
use Rattle.area_commit.specs.layout.declared.slot.Slot.{Slot}
use Rattle.area_commit.specs.layout.declared.slot.Slot.TheVariants as slots
use Rattle.area_commit.specs.layout.declared.geometry.Space.TheVariants as space
use Rattle.area_commit.specs.layout.Extents.{ExtentList}
use Rattle.area_commit.specs.layout.Places.{Sizes, is_node, is_run, node_end}
use Rattle.area_commit.specs.layout.Slot.{fits_slot, is_root_block}
use Rattle.area_commit.specs.extent_tree.Places.{place_of}
use Rattle.area_commit.proofs.extent_tree_lemmas.Spelled.{list-parts, lies-within}
use Rattle.area_commit.specs.tree_blocks.Inode.{LogicalBlocks, inode_of, AreDirectoryBlocks, IsDirectoryBlock, blocks_for}
use Rattle.area_commit.specs.area_reader.Store.{Store, slot, root_of, space_of, length_of, place, logical_block, inode}
use Rattle.area_commit.specs.area_reader.Format.{Use, used_block}
use Rattle.area_commit.specs.area_reader.Checks.{HasFound}
use Rattle.area_commit.specs.area_reader.Map.{extents_in, place_by, IsOwnList}
use Rattle.area_commit.specs.area_reader.declared.inode.InodeParts.{InodeParts}
use Rattle.area_commit.specs.area_reader.declared.tiers.InodeExtents.{InodeExtents}
use Rattle.area_commit.proofs.area_reader_lemmas.Damages.{option_cases, as_directory, blocks_is, length_is, none_read, no_entries, other_place}
use Rattle.area_commit.proofs.area_reader_lemmas.Parts.{slot_as, extents_all}
use Rattle.area_commit.proofs.area_reader_lemmas.Tails.{place_is, place_past}
use Rattle.inode_plan.specs.Blocks.{nth_block, HaveOwnPlaces, AreSound, use_in, use_of}
use Rattle.inode_plan.specs.declared.blocks.DirectoryBlocks.{DirectoryBlocks}
use Rattle.inode_plan.specs.DirectoryStart.{AreDirectoryParts, LieInPool, ArePlacesOf}

-- ---- the block of a root

abbrev pub as_fast : ℕ → Tier × ℕ
as_fast p = (Fast, p)

abbrev pub one_or_none : Bool → ℕ → Option ℕ
one_or_none b root = if b then None else Some root

abbrev pub fast_or_none : Bool → ℕ → Option (Tier × ℕ)
fast_or_none b root = if b then None else Some (Fast, root)

pub root_same : (root : ℕ) → fast_or_none (root == 0) root ≡ option_map as_fast (one_or_none (root == 0) root)
root_same root = by (root == 0)
  where
    by : (b : Bool) → fast_or_none b root ≡ option_map as_fast (one_or_none b root)
    by true = refl
    by false = refl

-- ---- the slot of a directory

-- what stands in it
pub record DirectorySlot (x : Slot) : Type 0 where
  pub names : ℕ
  pub entries : ℕ
  pub touch : ℕ
  pub root : ℕ
  pub is : x ≡ slots.Directory names entries touch root

pub directory_slot : (x : Slot) (blocks : LogicalBlocks) → (inode_of x blocks).kind ≡ Some kind.Directory → DirectorySlot x
directory_slot slots.Free blocks is = cc
directory_slot (slots.File names size touch fast block slow) blocks is = cc
directory_slot (slots.Directory names entries touch root) blocks is = record { names = names; entries = entries; touch = touch; root = root; is = refl }

other_roots : (x : Slot) (t : Tier) → DirectorySlot x → t ≢ Fast → root_of x t ≡ 0
other_roots x t d other = subst (λ (y : Slot). root_of y t ≡ 0) (sym d.is) (by t other)
  where
    by : (t : Tier) → t ≢ Fast → root_of (slots.Directory d.names d.entries d.touch d.root) t ≡ 0
    by Fast other = absurd (other refl)
    by Block other = refl
    by Slow other = refl

its_space : (x : Slot) → DirectorySlot x → space_of x Fast ≡ space.Nodes
its_space x d = subst (λ (y : Slot). space_of y Fast ≡ space.Nodes) (sym d.is) refl

-- the limits that it keeps
pub record SlotLimits (g : Sizes) (x : Slot) (blocks : LogicalBlocks) : Type 0 where
  pub names : (inode_of x blocks).names ≤ MAX_NAMES
  pub entries : (inode_of x blocks).size ≤ MAX_ENTRIES
  pub root : is_root_block g (root_of x Fast) ≡ true

pub slot_limits : (g : Sizes) (x : Slot) (blocks : LogicalBlocks) → DirectorySlot x → fits_slot g x ≡ true → SlotLimits g x blocks
slot_limits g x blocks d fits = subst (λ (y : Slot). SlotLimits g y blocks) (sym d.is) (
    let f : fits_slot g (slots.Directory d.names d.entries d.touch d.root) ≡ true = subst (λ (y : Slot). fits_slot g y ≡ true) d.is fits in
    let rest = (and_parts (nat_lt d.touch (2 ^ 64)) (nat_le d.names MAX_NAMES && nat_le d.entries MAX_ENTRIES && is_root_block g d.root) f).1 in
    let front = and_parts (nat_le d.names MAX_NAMES && nat_le d.entries MAX_ENTRIES) (is_root_block g d.root) rest in
    let first = and_parts (nat_le d.names MAX_NAMES) (nat_le d.entries MAX_ENTRIES) front.0 in
    record { names = leb-true d.names MAX_NAMES first.0; entries = leb-true d.entries MAX_ENTRIES first.1; root = front.1 })

-- ---- where its blocks lie

module _ (g : Sizes) (s : Store) (i : ℕ) (x : InodeParts) (are : AreDirectoryParts g s i x) where
  pub slot_is : slot g s i ≡ x.slot
  slot_is = slot_as g s i x.slot are.slot_is

  pub kind_of : (inode_of x.slot (logical_block g s i)).kind ≡ Some kind.Directory
  kind_of = ap (λ (y : Slot). (inode_of y (logical_block g s i)).kind) (sym slot_is) ∙ are.kind_is

  pub its_slot : DirectorySlot x.slot
  its_slot = directory_slot x.slot (logical_block g s i) kind_of

  pub found : HasFound g s i x.extents
  found = extents_all g s i x.slot x.extents are.slot_is are.extents

  pub long : length_of x.slot ≡ blocks_for (inode g s i).size
  long = ap length_of (sym slot_is) ∙ length_is (slot g s i) (logical_block g s i) are.kind_is

  pub directory : AreDirectoryBlocks i (inode g s i).size (logical_block g s i)
  directory = subst (AreDirectoryBlocks i (inode g s i).size) (blocks_is (slot g s i) (logical_block g s i) kind.Directory are.kind_is) (as_directory i (inode g s i) are.kind_is (are.spelled.inodes i are.number).consistent)

  -- each block is there
  lies : (k : ℕ) → k < length_of x.slot → (p : ℕ) × (place g s i Fast k ≡ Some p)
  lies k lt = elim (option_cases (place g s i Fast k)) [
    | inl there ↦ there
    | inr none ↦
        let part = directory.parts k (subst (λ n. k < n) long lt) in
        absurd (no_entries i (inode g s i).size k are.number (subst (λ b. IsDirectoryBlock i (inode g s i).size k b) (none_read g s i k are.kind_is none) part))
  ]

  by_found : (t : Tier) (k : ℕ) → place g s i t k ≡ place_by x.extents t k
  by_found = place_is g s i x.extents found

  in_pool : (k p : ℕ) → place_by x.extents Fast k ≡ Some p → is_node g p ≡ true
  in_pool k p at = by x.extents.fast ((are.extents Fast).list) at
    where
      by : (o : Option ExtentList) → IfSome o (IsOwnList g (space_of x.slot Fast) i) → place_of (extents_in o) k ≡ Some p → is_node g p ≡ true
      by None own at = absurd (none-some p at)
      by (Some v) own at =
          let lies = lies-within g (space_of x.slot Fast) v.extents (list-parts g (space_of x.slot Fast) v own.fits).each k p at in
          let run : is_run g space.Nodes p 1 ≡ true = subst (λ sp. is_run g sp p 1 ≡ true) (its_space x.slot its_slot) lies.1 in
          let parts = and_parts (nat_le 292 p) (nat_le (p + 1) (node_end g)) run in
          let high = leb-true (p + 1) (node_end g) parts.1 in
          let below : nat_lt p (node_end g) ≡ true = lt-ltb p (node_end g) (omega (arith, high)) in
          ap (λ (b : Bool). b && nat_lt p (node_end g)) parts.0 ∙ below

  pub lie_in_pool : LieInPool g x.extents (length_of x.slot)
  lie_in_pool = record {
    there = λ k lt. let p = lies k lt in let at = sym (by_found Fast k) ∙ p.1 in (p.0, at, in_pool k p.0 at);
    others = λ t k other. sym (by_found t k) ∙ other_place g s i t k other are.kind_is;
  }

  others : (t : Tier) → t ≢ Fast → (k : Option ℕ) → None ≡ used_block g s (record { inode = i; tier = t; logical = k })
  others t other None =
      let none : root_of (slot g s i) t ≡ 0 = ap (λ (y : Slot). root_of y t) slot_is ∙ other_roots x.slot t its_slot other in
      sym (ap (λ (b : Bool). if b then None else Some (Fast, root_of (slot g s i) t)) (eq-eqb (root_of (slot g s i) t) 0 none))
  others t other (Some k) = sym (ap (option_map (λ p. (t, p))) (other_place g s i t k other are.kind_is))

  -- ---- its places

  module _ (places : List ℕ) (is : ArePlacesOf x.extents (length_of x.slot) places) where
    pub at_place : (k : ℕ) → k < length places → place g s i Fast k ≡ Some (nth_block places k)
    at_place k lt = by_found Fast k ∙ is.each k (subst (λ n. k < n) is.long lt)

    pub nodes : (k : ℕ) → k < length places → is_node g (nth_block places k) ≡ true
    nodes k lt = in_pool k (nth_block places k) (is.each k (subst (λ n. k < n) is.long lt))

    used_at : (k : ℕ) → k < length places → used_block g s (record { inode = i; tier = Fast; logical = Some k }) ≡ Some (Fast, nth_block places k)
    used_at k lt = ap (option_map (λ p. (Fast, p))) (at_place k lt)

    pub apart : (j k : ℕ) → j < length places → k < length places → nth_block places j ≡ nth_block places k → j ≡ k
    apart j k lj lk same = of_use j k (are.spelled.apart (record { inode = i; tier = Fast; logical = Some j }) (record { inode = i; tier = Fast; logical = Some k }) (Fast, nth_block places k) (used_at j lj ∙ ap (λ p. Some (Fast, p)) same) (used_at k lk))
      where
        logical_same : (u v : Use) → u ≡ v → u.logical ≡ v.logical
        logical_same u v e = ap (λ (w : Use). w.logical) e

        of_use : (j k : ℕ) → (let u : Use = record { inode = i; tier = Fast; logical = Some j } in let v : Use = record { inode = i; tier = Fast; logical = Some k } in u ≡ v) → j ≡ k
        of_use j k e = let l : Some j ≡ Some k = logical_same (record { inode = i; tier = Fast; logical = Some j }) (record { inode = i; tier = Fast; logical = Some k }) e in cc

    -- a root is another block than those that it lists
    pub root_apart : root_of x.slot Fast ≢ 0 → (k : ℕ) → k < length places → nth_block places k ≢ root_of x.slot Fast
    root_apart some k lt same = of_use (are.spelled.apart (record { inode = i; tier = Fast; logical = None }) (record { inode = i; tier = Fast; logical = Some k }) (Fast, root_of x.slot Fast) used_root (used_at k lt ∙ ap (λ p. Some (Fast, p)) same))
      where
        used_root : used_block g s (record { inode = i; tier = Fast; logical = None }) ≡ Some (Fast, root_of x.slot Fast)
        used_root = ap (λ (y : Slot). if root_of y Fast == 0 then None else Some (Fast, root_of y Fast)) slot_is ∙ ap (λ (b : Bool). if b then None else Some (Fast, root_of x.slot Fast)) (ne_eqb (root_of x.slot Fast) 0 some)

        of_use : (let u : Use = record { inode = i; tier = Fast; logical = None } in let v : Use = record { inode = i; tier = Fast; logical = Some k } in u ≡ v) → ⊥
        of_use e = let l : None ≡ Some k = ap (λ (w : Use). w.logical) e in cc

    -- where there is no root, no block is listed
    pub rooted : root_of x.slot Fast ≡ 0 → length places ≡ 0
    rooted none = elim (cases_lt 0 (length places)) [
      | inl some ↦
          let no_list : x.extents.fast ≡ None = ((are.extents Fast).none).1 none in
          absurd (none-some (nth_block places 0) (sym (ap (λ o. place_of (extents_in o) 0) no_list) ∙ is.each 0 (subst (λ n. 0 < n) is.long some)))
      | inr past ↦ omega (arith, past)
    ]

    -- they are sound
    pub sound : (blocks : DirectoryBlocks) → blocks.root ≡ root_of x.slot Fast → blocks.places.items ≡ places → AreSound g blocks
    sound blocks root_is places_are = record {
      nodes = subst (λ ps. (k : ℕ) → k < length ps → is_node g (nth_block ps k) ≡ true) (sym places_are) nodes;
      apart = subst HaveOwnPlaces (sym places_are) apart;
      root_node = subst (λ r. is_root_block g r ≡ true) (sym root_is) (slot_limits g x.slot (λ k. []) its_slot are.fits).root;
      root_apart = λ some k lt same. root_apart (λ zero'. some (root_is ∙ zero')) k (subst (λ ps. k < length ps) places_are lt) (ap (λ ps. nth_block ps k) (sym places_are) ∙ same ∙ root_is);
      rooted = λ none. ap (λ ps. length ps) places_are ∙ rooted (sym root_is ∙ none);
    }

    root_use : (y : Slot) → option_map as_fast (one_or_none (root_of y Fast == 0) (root_of y Fast)) ≡ fast_or_none (root_of y Fast == 0) (root_of y Fast)
    root_use y = sym (root_same (root_of y Fast))

    place_use : (k : ℕ) → (if nat_lt k (length places) then Some (nth_block places k) else None) ≡ place g s i Fast k
    place_use k = elim (cases_lt k (length places)) [
      | inl lt ↦ ap (λ (b : Bool). if b then Some (nth_block places k) else None) (lt-ltb k (length places) lt) ∙ sym (at_place k lt)
      | inr past ↦ ap (λ (b : Bool). if b then Some (nth_block places k) else None) (le-ltb k (length places) past) ∙ sym (place_past g s i Fast k (subst (λ (y : Slot). length_of y ≤ k) (sym slot_is) (subst (λ n. n ≤ k) is.long past)))
    ]

    -- what it has for each use
    pub uses : (t : Tier) (k : Option ℕ) → use_in (root_of x.slot Fast) places t k ≡ used_block g s (record { inode = i; tier = t; logical = k })
    uses Fast None = root_use x.slot ∙ ap (λ (y : Slot). if root_of y Fast == 0 then None else Some (Fast, root_of y Fast)) (sym slot_is)
    uses Fast (Some k) = ap (option_map (λ p. (Fast, p))) (place_use k)
    uses Block k = others Block (λ e. cc) k
    uses Slow k = others Slow (λ e. cc) k

    pub uses_of : (blocks : DirectoryBlocks) → blocks.root ≡ root_of x.slot Fast → blocks.places.items ≡ places → (t : Tier) (k : Option ℕ) → use_of blocks t k ≡ used_block g s (record { inode = i; tier = t; logical = k })
    uses_of blocks root_is places_are t k = ap (λ r. use_in r blocks.places.items t k) root_is ∙ ap (λ ps. use_in (root_of x.slot Fast) ps t k) places_are ∙ uses t k

-- the tier that has a block of a directory is the fast one
pub pool_place : (g : Sizes) (x : InodeExtents) (count : ℕ) → LieInPool g x count → (k : ℕ) → k < count → (t : Tier) (p : ℕ) → place_by x t k ≡ Some p → (place_by x Fast k ≡ Some p) × (is_node g p ≡ true)
pool_place g x count lie k lt Fast p at = (at, (let there = lie.there k lt in let same : there.0 ≡ p = some_same (sym there.1 ∙ at) in subst (λ q. is_node g q ≡ true) same there.2))
  where
    some_same : {a b : ℕ} → Some a ≡ Some b → a ≡ b
    some_same e = cc
pool_place g x count lie k lt Block p at = absurd (none-some p (sym (lie.others Block k (λ e. cc)) ∙ at))
pool_place g x count lie k lt Slow p at = absurd (none-some p (sym (lie.others Slow k (λ e. cc)) ∙ at))
