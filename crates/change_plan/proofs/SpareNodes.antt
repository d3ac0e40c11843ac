-- Blocks of the node pool that are taken behind others are spare blocks for a directory.
use Rattle.std.proofs.Common.{◌≡◌, ◌≢◌, ◌≤◌, ◌<◌, ◌+◌, ◌-◌, ◌++◌, ◌∷◌, ◌∙◌, inl, inr, ℕ, zero, suc, List, [], Bool, Option, Some, None, length, take, refl, sym, ap, subst, arith, true}
use Rattle.std.specs.Prelude.{IsSome, nat_le, nat_lt, option_map, if◌then◌else◌}
use Rattle.std.specs.List.{Contains}
use Rattle.std.proofs.lemmas.Bool.{cases_lt, cases_eq, ne_eqb, lt-ltb, le-leb, and_from}
use Rattle.std.proofs.lemmas.List.{length-append, length-take-le, get_or-take, get_or_default, get_or_append_left, get_or-append_right}
use Rattle.std.proofs.lemmas.List.Elements.{Contains-append_right}
use Rattle.tier_device.specs.declared.media.Tier.TheVariants.{Fast}
use Rattle.inode_plan.specs.graph_change.Change.{Change}
use Rattle.inode_plan.specs.layout.Places.{Sizes, IsAllowed, is_node, node_end}
use Rattle.block_alloc.specs.Runs.{Rising, blocks_of}
use Rattle.inode_plan.specs.batch_journal.Images.{image_for}
use Rattle.inode_plan.specs.area_reader.Store.{Store}
use Rattle.inode_plan.specs.area_reader.Reads.{Free}
use Rattle.inode_plan.specs.area_reader.Format.{Use, used_block, IsSpelled}
use Rattle.inode_plan.specs.area_commit.Value.{PoolsView}
use Rattle.inode_plan.specs.area_commit.declared.allocation.Allocation.{Allocation}
use Rattle.inode_plan.proofs.area_commit_lemmas.Chosen.{no_use}
use Rattle.inode_plan.proofs.area_commit_lemmas.Returned.{were_free}
use Rattle.inode_plan.specs.Blocks.{nth_block, HaveOwnPlaces, use_of, use_on_fast}
use Rattle.inode_plan.specs.PlannedDirectory.{HaveNoImage}
use Rattle.inode_plan.specs.Spare.{spares_for, CanBeWritten, AreSpares}
use Rattle.inode_plan.specs.DirectoryStart.{IsStarted, IsSoundStart, IsChanged}
use Rattle.inode_plan.specs.declared.directory_start.StartedDirectory.{StartedDirectory}
use Rattle.inode_plan.specs.declared.directory_change.ChangedDirectory.{ChangedDirectory}
use Rattle.change_plan.specs.PlanAddition.{HasTaken}
use Rattle.change_plan.specs.Directory.{AreOfOthers, IsReadyToWrite}
use Rattle.change_plan.proofs.PlannedPart.{from_used, use_at}

-- ---- rising numbers

rising_above : (low end : ℕ) (xs : List ℕ) → Rising low end xs → (k : ℕ) → k < length xs → low ≤ nth_block xs k
rising_above low end [] r k lt = absurd (omega (arith, lt))
rising_above low end (x ∷ xs) r zero lt = r.0
rising_above low end (x ∷ xs) r (suc k) lt = let more = rising_above (x + 1) end xs r.2 k (omega (arith, lt)) in omega (arith, more, r.0)

rising_apart : (low end : ℕ) (xs : List ℕ) → Rising low end xs → HaveOwnPlaces xs
rising_apart low end [] r j k lj lk same = absurd (omega (arith, lj))
rising_apart low end (x ∷ xs) r zero zero lj lk same = refl
rising_apart low end (x ∷ xs) r zero (suc k) lj lk same = let more = rising_above (x + 1) end xs r.2 k (omega (arith, lk)) in absurd (omega (arith, more, same))
rising_apart low end (x ∷ xs) r (suc j) zero lj lk same = let more = rising_above (x + 1) end xs r.2 j (omega (arith, lj)) in absurd (omega (arith, more, same))
rising_apart low end (x ∷ xs) r (suc j) (suc k) lj lk same = ap suc (rising_apart (x + 1) end xs r.2 j k (omega (arith, lj)) (omega (arith, lk)) same)

-- ---- one of a list by its place

at_place : (xs : List ℕ) (k : ℕ) → k < length xs → Contains xs (nth_block xs k)
at_place xs k lt = (k, lt, get_or_default xs k (nth_block xs k) 0 lt)

place_of_one : (xs : List ℕ) (p : ℕ) → Contains xs p → (k : ℕ) × (k < length xs) × (nth_block xs k ≡ p)
place_of_one xs p at = (at.0, at.1, get_or_default xs at.0 0 p at.1 ∙ at.2)

no_image_from : (p : ℕ) (images : List (ℕ × List ℕ)) → (IsSome (image_for p images) → ⊥) → image_for p images ≡ None
no_image_from p images none = by (image_for p images) none
  where
    by : (o : Option (List ℕ)) → (IsSome o → ⊥) → o ≡ None
    by None not = refl
    by (Some image) not = absurd (not refl)

module _ (g : Sizes) (s : Store) (c : Change) (i : ℕ) (start : StartedDirectory) (x : ChangedDirectory) (left : PoolsView) (taken : Allocation) (images : List (ℕ × List ℕ)) (allowed : IsAllowed g) (spelled : IsSpelled g s) (has : HasTaken g s left taken) (others : AreOfOthers g s i taken images) (starts : IsStarted g s c.base i start) (sound : IsSoundStart g start) (changed : IsChanged c start x) (can : CanBeWritten g x) (enough : spares_for x ≤ length left.nodes.free) where
  abbrev free : List ℕ
  free = left.nodes.free

  abbrev first : List ℕ
  first = blocks_of taken.nodes.items

  abbrev spares : List ℕ
  spares = take (spares_for x) free

  abbrev old : List ℕ
  old = x.blocks.places.items

  -- ---- what is free

  is_free : (p : ℕ) → Contains free p → Free g s Fast p × (p < node_end g)
  is_free p at = (has.free.nodes p).0 (subst (λ xs. Contains xs p) has.took.nodes.front (Contains-append_right first free p at))

  was_free : (p : ℕ) → Contains first p → Free g s Fast p
  was_free p at = ((were_free g s has.before left taken has.ranges has.free has.took).nodes p at).0

  free_node : (p : ℕ) → Contains free p → is_node g p ≡ true
  free_node p at =
      let f = is_free p at in
      let low : 292 ≤ p = f.0.room.first in
      and_from (nat_le 292 p) (nat_lt p (node_end g)) (le-leb 292 p low) (lt-ltb p (node_end g) f.1)

  all_apart : HaveOwnPlaces (first ++ free)
  all_apart = rising_apart left.nodes.first left.nodes.end (first ++ free) has.undo.nodes.before

  behind : (k : ℕ) → nth_block (first ++ free) (length first + k) ≡ nth_block free k
  behind k = get_or-append_right first free (length first) (length first + k) 0 refl (omega arith) ∙ ap (nth_block free) (let e : length first + k - length first ≡ k = omega arith in e)

  beside : (p : ℕ) → Contains first p → Contains free p → ⊥
  beside p one two =
      let a = place_of_one first p one in
      let b = place_of_one free p two in
      let below = a.1 in
      let inside = b.1 in
      let e = all_apart a.0 (length first + b.0) (omega (arith, below, length-append first free)) (omega (arith, inside, length-append first free)) (get_or_append_left first free 0 a.0 a.1 ∙ a.2 ∙ sym (behind b.0 ∙ b.2)) in
      omega (arith, e, below)

  -- ---- the spare blocks

  many : length spares ≡ spares_for x
  many = length-take-le (spares_for x) free enough

  spare_at : (k : ℕ) → k < length spares → nth_block spares k ≡ nth_block free k
  spare_at k lt = get_or-take (spares_for x) free k 0 (subst (λ n. k < n) many lt)

  spare_in : (k : ℕ) → k < length spares → k < length free
  spare_in k lt = let m = many in omega (arith, lt, m, enough)

  spare_free : (k : ℕ) → k < length spares → Contains free (nth_block spares k)
  spare_free k lt = subst (Contains free) (sym (spare_at k lt)) (at_place free k (spare_in k lt))

  spare_one : (p : ℕ) → Contains spares p → Contains free p
  spare_one p at = let k = place_of_one spares p at in subst (Contains free) k.2 (spare_free k.0 k.1)

  spares_apart : HaveOwnPlaces spares
  spares_apart j k lj lk same =
      let j_in = spare_in j lj in
      let k_in = spare_in k lk in
      let e = all_apart (length first + j) (length first + k) (omega (arith, j_in, length-append first free)) (omega (arith, k_in, length-append first free)) (behind j ∙ sym (spare_at j lj) ∙ same ∙ spare_at k lk ∙ sym (behind k)) in
      omega (arith, e)

  -- ---- what the directory has

  abbrev its : Option ℕ → Use
  its k = use_at i Fast k

  has_use : (k : Option ℕ) (p : ℕ) → use_on_fast x.blocks.root old k ≡ Some p → used_block g s (its k) ≡ Some (Fast, p)
  has_use k p is = from_used c.base (used_block g s (its k)) (Fast, p) (sym (starts.uses Fast k) ∙ ap (λ b. use_of b Fast k) (sym changed.blocks_are) ∙ ap (option_map (λ q. (Fast, q))) is)

  has_place : (k : ℕ) → k < length old → used_block g s (its (Some k)) ≡ Some (Fast, nth_block old k)
  has_place k lt = has_use (Some k) (nth_block old k) (ap (λ (b : Bool). if b then Some (nth_block old k) else None) (lt-ltb k (length old) lt))

  has_root : x.blocks.root ≢ 0 → used_block g s (its None) ≡ Some (Fast, x.blocks.root)
  has_root some = has_use None x.blocks.root (ap (λ (b : Bool). if b then None else Some x.blocks.root) (ne_eqb x.blocks.root 0 some))

  not_root : (j : ℕ) → j < length spares → nth_block spares j ≢ x.blocks.root
  not_root j lt same = elim (cases_eq x.blocks.root 0) [
    | inl none ↦ (let low : 292 ≤ nth_block spares j = (is_free (nth_block spares j) (spare_free j lt)).0.room.first in omega (arith, low, same, none))
    | inr some ↦ no_use g s Fast (nth_block spares j) (is_free (nth_block spares j) (spare_free j lt)).0 (its None) (has_root some ∙ ap (λ n. Some (Fast, n)) (sym same))
  ]

  are_spares : AreSpares g x spares
  are_spares = record {
    enough = many;
    nodes = λ k lt. free_node (nth_block spares k) (spare_free k lt);
    apart = spares_apart;
    not_places = λ j k lj lk same. no_use g s Fast (nth_block spares j) (is_free (nth_block spares j) (spare_free j lj)).0 (its (Some k)) (has_place k lk ∙ ap (λ n. Some (Fast, n)) (sym same));
    not_root = not_root;
  }

  -- ---- images

  none_of_its : (k : Option ℕ) (p : ℕ) → used_block g s (its k) ≡ Some (Fast, p) → IsSome (image_for p images) → ⊥
  none_of_its k p here some = elim (others p some) [
    | inl other ↦ other.1 (ap (λ (v : Use). v.inode) (spelled.apart other.0 (its k) (Fast, p) other.2 here))
    | inr at ↦ no_use g s Fast p (was_free p at) (its k) here
  ]

  none_of_free : (p : ℕ) → Contains free p → IsSome (image_for p images) → ⊥
  none_of_free p at some = elim (others p some) [
    | inl other ↦ no_use g s Fast p (is_free p at).0 other.0 other.2
    | inr before ↦ beside p before at
  ]

  no_image : HaveNoImage x spares images
  no_image = record {
    places = λ k lt. elim (cases_lt k (length old)) [
      | inl here ↦ (let e = get_or_append_left old spares 0 k here in ap (λ b. image_for b images) e ∙ no_image_from (nth_block old k) images (none_of_its (Some k) (nth_block old k) (has_place k here)))
      | inr past ↦
          let e = get_or-append_right old spares (length old) k 0 refl past in
          let inside : k - length old < length spares = omega (arith, lt, past, length-append old spares) in
          ap (λ b. image_for b images) e ∙ no_image_from (nth_block spares (k - length old)) images (none_of_free (nth_block spares (k - length old)) (spare_free (k - length old) inside))
    ];
    root = λ some. no_image_from x.blocks.root images (none_of_its None x.blocks.root (has_root some));
  }

  pub ready : IsReadyToWrite g s c i start x spares images
  ready = record {
    allowed = allowed;
    starts = starts;
    sound = sound;
    changed = changed;
    can = can;
    spare = are_spares;
    free = λ p at. (is_free p (spare_one p at)).0;
    no_image = no_image;
  }
