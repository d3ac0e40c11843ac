-- What stands on the media once the images of a planned directory do.
use Rattle.std.proofs.Common.{◌≡◌, ◌≢◌, ◌≤◌, ◌<◌, ◌∷◌, ◌∙◌, ◌↔◌, true, ℕ, zero, suc, List, [], length, Option, Some, None, refl, sym, ap, subst, arith, inl, inr, ◌⊎◌}
use Rattle.std.specs.Prelude.{IsSome}
use Rattle.std.specs.List.{Contains}
use Rattle.std.proofs.lemmas.Bool.{cases_lt, cases_eq}
use Rattle.std.proofs.lemmas.List.Elements.{All-get_or}
use Rattle.tier_device.specs.declared.media.Tier.{Tier}
use Rattle.tier_device.specs.declared.media.Tier.TheVariants.{Fast, Block, Slow}
use Rattle.area_commit.specs.graph_change.Change.{Change}
use Rattle.area_commit.specs.graph_change.Net.{names_after}
use Rattle.area_commit.specs.layout.declared.slot.Slot.{Slot}
use Rattle.area_commit.specs.layout.declared.slot.Slot.TheVariants as slots
use Rattle.area_commit.specs.layout.Places.{Sizes, is_node}
use Rattle.area_commit.specs.layout.Extents.{extents_spelling}
use Rattle.area_commit.specs.batch_journal.Images.{image_for, or_else, with_images}
use Rattle.area_commit.specs.extent_tree.Map.{runs_in}
use Rattle.area_commit.specs.tree_blocks.After.{start_node, IsDirectoryAfter}
use Rattle.area_commit.specs.tree_blocks.Directory.{numbered_blocks}
use Rattle.area_commit.specs.area_reader.Store.{Store, root_of, inode}
use Rattle.area_commit.specs.InodeRewrite.{IsFit, IsListed, list_of, block_by}
use Rattle.area_commit.specs.InodeChange.{IsDirectorySlot, IsDirectoryWritten}
use Rattle.inode_plan.specs.Blocks.{nth_block, use_in, use_of, use_on_fast, lost_blocks}
use Rattle.area_commit.specs.area_reader.Format.{used_block}
use Rattle.block_alloc.specs.Runs.{blocks_of}
use Rattle.block_alloc.specs.Value.{FreeBlocks}
use Rattle.area_commit.specs.Release.{AreUsed, IsInUse}
use Rattle.inode_plan.specs.DirectoryStart.{use_from}
use Rattle.inode_plan.specs.PlacedDirectory.{ListPlaces}
use Rattle.inode_plan.specs.PlannedDirectory.{IsPlannedFrom, StandThere, on_fast, HaveImages}
use Rattle.inode_plan.specs.declared.directory_start.StartedDirectory.{StartedDirectory}
use Rattle.inode_plan.specs.declared.directory_change.ChangedDirectory.{ChangedDirectory}
use Rattle.inode_plan.specs.declared.plan.DirectoryPlan.{DirectoryPlan}
use Rattle.inode_plan.proofs.Fits.{is_fit, no_places}
use Rattle.inode_plan.proofs.Uses.{nth_contained, contains_nth, root_use, use_root, place_use, use_place, use_node, block_is_use, FastUse, fast_use, use_fast, kept_on_fast, once_on_fast, spare_used, lost_was, lost_is, each_lost, lost_apart}
use Rattle.inode_plan.proofs.Given.{blocks_are, all_used}
use Rattle.inode_plan.proofs.Lists.{RootCase, NoRoot, OldRoot, NewRoot}
use Rattle.inode_plan.proofs.Lists as lists

-- a number is one of some, or not
contains_cases : (xs : List ℕ) (k : ℕ) → Contains xs k ⊎ (Contains xs k → ⊥)
contains_cases [] k = inr (λ (n, below, is). omega (arith, below))
contains_cases (x ∷ xs) k = elim (cases_eq x k) [
  | inl here ↦ inl (zero, omega arith, here)
  | inr other ↦ elim (contains_cases xs k) [
    | inl (n, below, is) ↦ inl (suc n, omega (arith, below), is)
    | inr none ↦ inr (not none other)
  ]
]
  where
    not : (Contains xs k → ⊥) → (x ≡ k → ⊥) → Contains (x ∷ xs) k → ⊥
    not none other (zero, below, is) = other is
    not none other (suc n, below, is) = none (n, omega (arith, below), is)

module _ (g : Sizes) (s : Store) (c : Change) (i touch : ℕ) (start : StartedDirectory) (x : ChangedDirectory) (spares : List ℕ) (before now : List (ℕ × List ℕ)) (plan : DirectoryPlan) (p : IsPlannedFrom g s c i start x touch spares before now plan) where
  abbrev places : List ℕ
  places = lists.after g x spares p.can p.spare

  abbrev root : ℕ
  root = lists.root_then g x spares p.can p.spare

  pub slot_is : plan.slot ≡ slots.Directory x.names x.entries.count touch root
  slot_is = p.planned.slot_is

  pub places_are : plan.places.items ≡ places
  places_are = p.planned.places_are

  lie : ListPlaces places plan.list.extents
  lie = subst (λ ps. ListPlaces ps plan.list.extents) places_are p.planned.lie

  long : length places ≡ length x.entries.blocks
  long = lists.long g x spares p.can p.spare

  pub fit : IsFit g plan.slot (on_fast plan.list.extents)
  fit = subst (λ (y : Slot). IsFit g y (on_fast plan.list.extents)) (sym slot_is)
      (is_fit g places plan.list.extents lie (lists.after_nodes g x spares p.can p.spare) (lists.after_apart g x spares p.can p.spare) x.names x.entries.count touch root
      p.touch_fits p.can.names_fit p.planned.held.few (lists.after_root_node g x spares p.can p.spare) (long ∙ p.planned.held.long))

  -- ---- images

  blocks : HaveImages x.entries.blocks places x.written before p.planned.images_are.mid
  blocks = subst (λ ps. HaveImages x.entries.blocks ps x.written before p.planned.images_are.mid) places_are p.planned.images_are.blocks

  -- the image of a place is no other than that of the block there
  past_list : (k : ℕ) → k < length places → image_for (nth_block places k) now ≡ image_for (nth_block places k) p.planned.images_are.mid
  past_list k lt = p.planned.images_are.listing.others (nth_block places k) (λ same. elim (cases_eq root 0) [
    | inl zero' ↦ zero'
    | inr some ↦ absurd (lists.after_root_apart g x spares p.can p.spare some k lt (sym same))
  ])

  at_written : (n : ℕ) → n < length x.written → with_images now (s Fast) (nth_block places (nth_block x.written n)) ≡ numbered_blocks x.entries.blocks (nth_block x.written n)
  at_written n lt =
      let inside : nth_block x.written n < length places = subst (λ m. nth_block x.written n < m) (sym long) (All-get_or (λ k. k < length x.entries.blocks) x.written n 0 lt p.can.inside) in
      ap (λ o. or_else o (s Fast (nth_block places (nth_block x.written n)))) (past_list (nth_block x.written n) inside ∙ blocks.there n lt)

  at_kept : (k : ℕ) → k < length places → (Contains x.written k → ⊥) → with_images now (s Fast) (nth_block places k) ≡ s Fast (nth_block places k)
  at_kept k lt not =
      let none_written : (n : ℕ) → n < length x.written → nth_block places (nth_block x.written n) ≢ nth_block places k = λ n below same.
      (let inside : nth_block x.written n < length places = subst (λ m. nth_block x.written n < m) (sym long) (All-get_or (λ k. k < length x.entries.blocks) x.written n 0 below p.can.inside) in
      let e = lists.after_apart g x spares p.can p.spare (nth_block x.written n) k inside lt same in
      not (subst (Contains x.written) e (contains_nth x.written n below))) in
      let at = lists.after_at g x spares p.can p.spare k lt in
      let none : image_for (nth_block places k) before ≡ None = ap (λ b. image_for b before) at ∙ p.no_image.places k (lists.after_in g x spares p.can p.spare k lt) in
      ap (λ o. or_else o (s Fast (nth_block places k))) (past_list k lt ∙ blocks.others (nth_block places k) none_written ∙ none)

  -- ---- the entries

  old_is : x.blocks.places.items ≡ start.blocks.places.items
  old_is = ap (λ b. b.places.items) p.changed.blocks_are

  kept_same : (k : ℕ) → k < length places → (Contains x.written k → ⊥) → s Fast (nth_block places k) ≡ numbered_blocks x.entries.blocks k
  kept_same k lt not = elim (cases_lt k (length start.entries.blocks)) [
    | inl here ↦
        let l = p.sound.long in
        let inside_start : k < length start.blocks.places.items = subst (λ n. k < n) (sym l) here in
        let inside : k < length x.blocks.places.items = subst (λ xs. k < length xs) (sym old_is) inside_start in
        let at : nth_block places k ≡ nth_block start.blocks.places.items k = lists.after_at g x spares p.can p.spare k lt ∙ lists.old_at g x spares p.can p.spare k inside ∙ ap (λ xs. nth_block xs k) old_is in
        let was : numbered_blocks start.entries.blocks k ≡ s Fast (nth_block start.blocks.places.items k) = p.starts.held.each k inside_start in
        let same : numbered_blocks x.entries.blocks k ≡ numbered_blocks start.entries.blocks k = elim (p.changed.written_are.others k (subst (λ n. k < n) long lt)) [ inl has ↦ absurd (not has) | inr same ↦ same ] in
        ap (s Fast) at ∙ sym was ∙ sym same
    | inr past ↦ absurd (not (p.changed.written_are.added k past (subst (λ n. k < n) long lt)))
  ]

  stands : (k : ℕ) → k < length places → with_images now (s Fast) (nth_block places k) ≡ numbered_blocks x.entries.blocks k
  stands k lt = elim (contains_cases x.written k) [
    | inl has ↦ (let n = nth_contained x.written k has in subst (λ j. with_images now (s Fast) (nth_block places j) ≡ numbered_blocks x.entries.blocks j) n.2 (at_written n.0 n.1))
    | inr not ↦ at_kept k lt not ∙ kept_same k lt not
  ]

  slot_shape : IsDirectorySlot (names_after c.names (start_node c.base (inode g s i)).names) x.entries.count plan.slot
  slot_shape = subst (λ (y : Slot). IsDirectorySlot (names_after c.names (start_node c.base (inode g s i)).names) x.entries.count y) (sym slot_is)
      (ap (λ n. slots.Directory n x.entries.count touch root) (p.changed.names_are ∙ ap (names_after c.names) p.starts.names_is))

  pub written : (after : Store) → StandThere now s after (on_fast plan.list.extents) → IsDirectoryWritten g c start.entries x.entries s after i plan.slot (on_fast plan.list.extents)
  written after there = record {
    is_directory = p.starts.kind_is;
    slot_is = slot_shape;
    read = p.starts.entries_are;
    changed = subst (λ j. IsDirectoryAfter j c.entries start.entries.count (numbered_blocks start.entries.blocks) x.entries.count (numbered_blocks x.entries.blocks)) p.starts.owner_is p.changed.entries_are;
    blocks = λ k lt.
        (let inside : k < length places = subst (λ n. k < n) (sym (long ∙ p.planned.held.long)) lt in
        (nth_block places k, lie.there k inside, there k (nth_block places k) (lie.there k inside) ∙ stands k inside));
  }

  -- ---- the list

  list_is : plan.list ≡ list_of i plan.list.extents
  list_is = p.planned.list_is ∙ ap (λ j. list_of j plan.list.extents) (p.changed.owner_is ∙ p.starts.owner_is)

  list_stands : root ≢ 0 → with_images now (s Fast) root ≡ extents_spelling (list_of i plan.list.extents)
  list_stands some = elim (p.planned.images_are.listing.image some) [
    | inl stays ↦
        let old_root : x.blocks.root ≢ 0 = λ zero'. some (stays.same_root ∙ zero') in
        let no_place : (n : ℕ) → n < length x.written → nth_block places (nth_block x.written n) ≢ root = λ n below same.
        lists.after_root_apart g x spares p.can p.spare some (nth_block x.written n) (subst (λ m. nth_block x.written n < m) (sym long) (All-get_or (λ k. k < length x.entries.blocks) x.written n 0 below p.can.inside)) same in
        let none : image_for root now ≡ None = stays.no_image ∙ blocks.others root no_place ∙ ap (λ r. image_for r before) stays.same_root ∙ p.no_image.root old_root in
        let start_root : start.blocks.root ≢ 0 = λ zero'. old_root (ap (λ b. b.root) p.changed.blocks_are ∙ zero') in
        let root_is : root ≡ start.blocks.root = stays.same_root ∙ ap (λ b. b.root) p.changed.blocks_are in
        ap (λ o. or_else o (s Fast root)) none ∙ ap (s Fast) root_is ∙ sym (p.starts.list_is start_root) ∙ sym p.changed.list_is ∙ stays.same_list ∙ ap extents_spelling list_is
    | inr new_list ↦ ap (λ o. or_else o (s Fast root)) new_list.image ∙ ap extents_spelling list_is
  ]

  pub listed : (t : Tier) → IsListed (with_images now (s Fast)) i (root_of plan.slot t) (runs_in (on_fast plan.list.extents) t)
  listed Fast = subst (λ r. IsListed (with_images now (s Fast)) i r plan.list.extents) (sym (ap (λ (y : Slot). root_of y Fast) slot_is)) (elim (cases_eq (length x.entries.blocks) 0) [
    | inl none ↦ inl (lists.after_unrooted g x spares p.can p.spare none, no_places places plan.list.extents lie (long ∙ none))
    | inr blocks ↦ (let some : root ≢ 0 = λ zero'. blocks (lists.after_rooted g x spares p.can p.spare zero') in inr (some, list_stands some))
  ])
  listed Block = inl (ap (λ (y : Slot). root_of y Block) slot_is, refl)
  listed Slow = inl (ap (λ (y : Slot). root_of y Slow) slot_is, refl)

  -- ---- uses

  its_use : (t : Tier) (k : Option ℕ) → block_by plan.slot (on_fast plan.list.extents) t k ≡ use_in root places t k
  its_use t k = ap (λ (y : Slot). block_by y (on_fast plan.list.extents) t k) slot_is ∙ block_is_use x.names x.entries.count touch root places plan.list.extents lie t k

  -- what it had is what it starts from
  had : (k : Option ℕ) → use_in x.blocks.root x.blocks.places.items Fast k ≡ use_from c.base (used_block g s (record { inode = i; tier = Fast; logical = k }))
  had k = ap (λ b. use_of b Fast k) p.changed.blocks_are ∙ p.starts.uses Fast k

  pub kept : (t : Tier) (k : Option ℕ) (b : Tier × ℕ) → block_by plan.slot (on_fast plan.list.extents) t k ≡ Some b → (use_from c.base (used_block g s (record { inode = i; tier = t; logical = k })) ≡ Some b) ⊎ ((b.0 ≡ Fast) × Contains spares b.1)
  kept t k b is =
      let f = fast_use root places t k b (sym (its_use t k) ∙ is) in
      elim (kept_on_fast g x spares p.can p.spare k b.1 f.use_is) [
        | inl was ↦ inl (subst (λ (u : Tier). use_from c.base (used_block g s (record { inode = i; tier = u; logical = k })) ≡ Some b) (sym f.tier_is) (sym (had k) ∙ use_fast x.blocks.root x.blocks.places.items k b.1 was ∙ ap Some (sym f.block_is)))
        | inr spare ↦ inr (ap (λ (d : Tier × ℕ). d.0) f.block_is, spare)
      ]

  pub once : (t u : Tier) (j k : Option ℕ) (b : Tier × ℕ) → block_by plan.slot (on_fast plan.list.extents) t j ≡ Some b → block_by plan.slot (on_fast plan.list.extents) u k ≡ Some b → (t ≡ u) × (j ≡ k)
  once t u j k b one two =
      let f = fast_use root places t j b (sym (its_use t j) ∙ one) in
      let h = fast_use root places u k b (sym (its_use u k) ∙ two) in
      (f.tier_is ∙ sym h.tier_is, once_on_fast g x spares p.can p.spare j k b.1 f.use_is h.use_is)

  pub all : (q : ℕ) → Contains spares q → (k : Option ℕ) × (block_by plan.slot (on_fast plan.list.extents) Fast k ≡ Some (Fast, q))
  all q has = let u = spare_used g x spares p.can p.spare q has in (u.0, its_use Fast u.0 ∙ use_fast root places u.0 q u.1)

  pub own_images : (q : ℕ) → ((k : Option ℕ) → block_by plan.slot (on_fast plan.list.extents) Fast k ≢ Some (Fast, q)) → image_for q now ≡ image_for q before
  own_images q not =
      let no_root : root ≡ q → root ≡ 0 = λ same. elim (cases_eq root 0) [
        | inl zero' ↦ zero'
        | inr some ↦ absurd (not None (its_use Fast None ∙ use_fast root places None q (use_root root places some ∙ ap Some same)))
      ] in
      let no_place : (n : ℕ) → n < length x.written → nth_block places (nth_block x.written n) ≢ q = λ n below same.
      (let inside : nth_block x.written n < length places = subst (λ m. nth_block x.written n < m) (sym long) (All-get_or (λ k. k < length x.entries.blocks) x.written n 0 below p.can.inside) in
      not (Some (nth_block x.written n)) (its_use Fast (Some (nth_block x.written n)) ∙ use_fast root places (Some (nth_block x.written n)) q (use_place root places (nth_block x.written n) inside ∙ ap Some same))) in
      p.planned.images_are.listing.others q no_root ∙ blocks.others q no_place

  pub nodes : (t : Tier) (k : Option ℕ) (b : Tier × ℕ) → block_by plan.slot (on_fast plan.list.extents) t k ≡ Some b → (b.0 ≡ Fast) × (is_node g b.1 ≡ true)
  nodes t k b is =
      let f = fast_use root places t k b (sym (its_use t k) ∙ is) in
      (ap (λ (d : Tier × ℕ). d.0) f.block_is, use_node g root places (lists.after_root_node g x spares p.can p.spare) (lists.after_nodes g x spares p.can p.spare) k b.1 f.use_is)

  -- a spare block is written: it is the new root, or a block that comes
  spare_imaged : (q : ℕ) → Contains spares q → (k : Option ℕ) → use_on_fast root places k ≡ Some q → IsSome (image_for q now)
  spare_imaged q has None is =
      let r = root_use root places q is in
      let at = nth_contained spares q has in
      elim (p.planned.images_are.listing.image r.0) [
        | inl stays ↦ absurd (p.spare.not_root at.0 at.1 (at.2 ∙ sym r.1 ∙ stays.same_root))
        | inr new_list ↦ subst (λ b. IsSome (image_for b now)) r.1 (subst IsSome (sym new_list.image) refl)
      ]
  spare_imaged q has (Some k) is =
      let r = place_use root places k q is in
      let at = nth_contained spares q has in
      let there = lists.after_at g x spares p.can p.spare k r.0 in
      elim (cases_lt k (length x.blocks.places.items)) [
        | inl here ↦ absurd (p.spare.not_places at.0 k at.1 here (at.2 ∙ sym r.1 ∙ there ∙ lists.old_at g x spares p.can p.spare k here))
        | inr past ↦
            let behind : length start.entries.blocks ≤ k = subst (λ n. n ≤ k) (ap length old_is ∙ p.sound.long) past in
            let n = nth_contained x.written k (p.changed.written_are.added k behind (subst (λ m. k < m) long r.0)) in
            let image : IsSome (image_for (nth_block places k) p.planned.images_are.mid) = subst (λ j. IsSome (image_for (nth_block places j) p.planned.images_are.mid)) n.2 (subst IsSome (sym (blocks.there n.0 n.1)) refl) in
            subst (λ b. IsSome (image_for b now)) r.1 (subst IsSome (sym (past_list k r.0)) image)
      ]

  pub imaged : (q : ℕ) → Contains spares q → IsSome (image_for q now)
  imaged q has = let u = spare_used g x spares p.can p.spare q has in spare_imaged q has u.0 u.1

  -- ---- what is given up

  lost_are : blocks_of plan.lost.items ≡ lost_blocks x.blocks.root x.blocks.places.items (length x.entries.blocks)
  lost_are = ap blocks_of p.planned.lost_are ∙ blocks_are (lost_blocks x.blocks.root x.blocks.places.items (length x.entries.blocks))

  unused : (q : ℕ) → ((k : Option ℕ) → use_on_fast root places k ≢ Some q) → (k : Option ℕ) → block_by plan.slot (on_fast plan.list.extents) Fast k ≢ Some (Fast, q)
  unused q not k is = let f = fast_use root places Fast k (Fast, q) (sym (its_use Fast k) ∙ is) in not k f.use_is

  pub exact : (q : ℕ) → Contains (blocks_of plan.lost.items) q ↔ (((k : Option ℕ) × (use_from c.base (used_block g s (record { inode = i; tier = Fast; logical = k })) ≡ Some (Fast, q))) × ((k : Option ℕ) → block_by plan.slot (on_fast plan.list.extents) Fast k ≢ Some (Fast, q)))
  exact q = (
    λ has. (let w = lost_was g x spares p.can p.spare q (subst (λ xs. Contains xs q) lost_are has) in
        ((w.0.0, sym (had w.0.0) ∙ use_fast x.blocks.root x.blocks.places.items w.0.0 q w.0.1), unused q w.1)),
    λ both.
        (let f = fast_use x.blocks.root x.blocks.places.items Fast both.0.0 (Fast, q) (had both.0.0 ∙ both.0.1) in
        subst (λ xs. Contains xs q) (sym lost_are) (lost_is g x spares p.can p.spare q (both.0.0, f.use_is) (λ k is. both.1 k (its_use Fast k ∙ use_fast root places k q is)))),
  )

  -- what it had, on any tier
  had_by : (t : Tier) (k : Option ℕ) (b : Tier × ℕ) → use_from c.base (used_block g s (record { inode = i; tier = t; logical = k })) ≡ Some b → FastUse x.blocks.root x.blocks.places.items t k b
  had_by t k b was = fast_use x.blocks.root x.blocks.places.items t k b (ap (λ d. use_of d t k) p.changed.blocks_are ∙ p.starts.uses t k ∙ was)

  pub had_nodes : (t : Tier) (k : Option ℕ) (b : Tier × ℕ) → use_from c.base (used_block g s (record { inode = i; tier = t; logical = k })) ≡ Some b → (b.0 ≡ Fast) × (is_node g b.1 ≡ true)
  had_nodes t k b was =
      let f = had_by t k b was in
      (ap (λ (d : Tier × ℕ). d.0) f.block_is, use_node g x.blocks.root x.blocks.places.items p.can.blocks_are.root_node p.can.blocks_are.nodes k b.1 f.use_is)

  pub each : (t : Tier) (k : Option ℕ) (b : Tier × ℕ) → use_from c.base (used_block g s (record { inode = i; tier = t; logical = k })) ≡ Some b → block_by plan.slot (on_fast plan.list.extents) t k ≢ Some b → Contains (blocks_of plan.lost.items) b.1
  each t k b was none =
      let f = had_by t k b was in
      let none_then : use_on_fast root places k ≢ Some b.1 = λ is. none (its_use t k ∙ ap (λ (u : Tier). use_in root places u k) f.tier_is ∙ use_fast root places k b.1 is ∙ ap Some (sym f.block_is)) in
      subst (λ xs. Contains xs b.1) (sym lost_are) (each_lost g x spares p.can p.spare k b.1 f.use_is none_then)

  pub given : (pool : FreeBlocks) → ((k : Option ℕ) (b : ℕ) → use_from c.base (used_block g s (record { inode = i; tier = Fast; logical = k })) ≡ Some (Fast, b) → IsInUse pool b) → AreUsed pool plan.lost.items
  given pool each = subst (AreUsed pool) (sym p.planned.lost_are) (all_used pool (lost_blocks x.blocks.root x.blocks.places.items (length x.entries.blocks)) (lost_apart g x spares p.can p.spare)
      (λ q has. (let w = lost_was g x spares p.can p.spare q has in each w.0.0 q (sym (had w.0.0) ∙ use_fast x.blocks.root x.blocks.places.items w.0.0 q w.0.1))))
