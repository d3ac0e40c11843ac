-- Which blocks a planned file has a use for.
use Rattle.std.proofs.Common.{◌≡◌, ◌≢◌, ◌≤◌, ◌<◌, ◌*◌, ◌⊎◌, ◌∙◌, inl, inr, ℕ, List, length, get_or, Option, Some, None, refl, sym, ap, subst, arith, true}
use Rattle.std.specs.Prelude.{IsSome, IfSome, ◌==◌}
use Rattle.std.specs.List.{Contains}
use Rattle.std.proofs.lemmas.Bool.{false≢true, cases_Bool, cond-true, cond-false, eqb-false}
use Rattle.std.proofs.lemmas.List.{get_or-map, length-map}
use Rattle.std.proofs.lemmas.List.Elements.{Contains-get_or}
use Rattle.tier_device.specs.declared.media.Tier.{Tier}
use Rattle.tier_device.specs.declared.media.Tier.TheVariants as tiers
use Rattle.inode_plan.specs.graph_change.Change.{Change}
use Rattle.inode_plan.specs.graph_change.Net.{Base, Kept, Made, Gone, names_after}
use Rattle.inode_plan.specs.layout.declared.geometry.Space.TheVariants as space
use Rattle.inode_plan.specs.layout.declared.slot.Slot.{Slot}
use Rattle.inode_plan.specs.layout.Extents.{ExtentList, extents_spelling}
use Rattle.inode_plan.specs.layout.Places.{Sizes, is_node, data_first, tier_blocks}
use Rattle.inode_plan.specs.layout.Slot.{fits_slot}
use Rattle.inode_plan.specs.batch_journal.Images.{image_for, or_else, with_images}
use Rattle.inode_plan.specs.extent_tree.BlockFormat.{LiesWithin}
use Rattle.inode_plan.specs.extent_tree.Map.{TierRuns, runs_in, lies_at}
use Rattle.inode_plan.specs.tree_blocks.After.{start_node}
use Rattle.inode_plan.specs.area_reader.Store.{Store, slot, root_of, place, inode}
use Rattle.inode_plan.specs.area_reader.Reads.{Free}
use Rattle.inode_plan.specs.area_reader.Format.{used_block}
use Rattle.inode_plan.specs.area_reader.Map.{in_tier}
use Rattle.inode_plan.proofs.area_reader_lemmas.Lists.{slot_here_fits}
use Rattle.inode_plan.proofs.area_reader_lemmas.Shown.{slot_limits}
use Rattle.inode_plan.specs.area_commit.InodeRewrite.{IsFit, IsListed, block_by}
use Rattle.inode_plan.specs.area_commit.InodeChange.{places_from, IsFileWritten}
use Rattle.inode_plan.specs.area_commit.Batches.{AreNodes}
use Rattle.inode_plan.specs.area_commit.Lists.{HaveOwnRoots}
use Rattle.inode_plan.specs.Lists.{root_for}
use Rattle.inode_plan.specs.area_commit.declared.plan.FreedBlocks.{FreedBlocks}
use Rattle.inode_plan.specs.area_commit.DataWrite.{HoldData}
use Rattle.inode_plan.specs.PlacedFile.{nth_number, nth_place}
use Rattle.inode_plan.specs.MapChange.{AreFresh, AreData, TakesPlace}
use Rattle.inode_plan.specs.PlannedFile.{pair_of, pairs_of, HasData}
use Rattle.inode_plan.specs.Roots.{missing_roots, wanted_before, SparesFit, ListsStand}
use Rattle.inode_plan.proofs.After.{numbers_as, keeps_or_takes, after_within}
use Rattle.inode_plan.proofs.Stores.{from_kept, file_is_fit, as_changed}
use Rattle.inode_plan.proofs.Listed.{inside as spare_inside, all_listed, root_uses, all_used}
use Rattle.inode_plan.proofs.Vacant.{roots_differ}
use Rattle.change_plan.specs.FileLayout.{IsLaid, nth_data}
use Rattle.change_plan.specs.Part.{Share, IsIn, IsPut}
use Rattle.change_plan.specs.File.{slot_from, IsPlannedFile}
use Rattle.change_plan.proofs.Blocked.{contains_at, place_at, root_block, block_root, place_block, block_place, same_block, node_is, node_within, data_within}

-- ---- what the change starts from

-- a root from which the change starts is the inode's
pub from_root : (base : Base) (y : Slot) (t : Tier) → root_of (slot_from base y) t ≢ 0 → root_of y t ≡ root_of (slot_from base y) t
from_root Kept y t some = refl
from_root (Made kind) y t some = absurd (some refl)
from_root Gone y t some = absurd (some refl)

from_fits : (g : Sizes) (base : Base) (y : Slot) → fits_slot g y ≡ true → fits_slot g (slot_from base y) ≡ true
from_fits g Kept y fits = fits
from_fits g (Made kind) y fits = refl
from_fits g Gone y fits = refl

module _ (g : Sizes) (s : Store) (c : Change) (touch i : ℕ) (x : Slot) (m : TierRuns) (share : Share) (bytes : List ℕ) (old new : List (ℕ × List ℕ)) (lost : FreedBlocks) (p : IsPlannedFile g s c touch i x m share bytes old new lost) where
  -- ---- what was taken

  spare_fits : SparesFit g (slot_from c.base (slot g s i)) share.nodes
  spare_fits = record {
    node = λ n lt. node_is g (get_or share.nodes n 0) (p.nodes_are.free n lt).room.first (p.nodes_are.node n lt);
    apart = p.nodes_are.apart;
    fresh = λ t n lt same.
        (let low = (p.nodes_are.free n lt).room.first in
        let some : root_of (slot_from c.base (slot g s i)) t ≢ 0 = λ zero. omega (arith, low, same, zero) in
        let its = from_root c.base (slot g s i) t some in
        (p.nodes_are.free n lt).unread i (inr (inl (t, refl, (λ none. some (sym its ∙ none)), sym (its ∙ same)))));
  }

  pub fits : fits_slot g x ≡ true
  fits = p.limits (from_fits g c.base (slot g s i) (slot_here_fits g s i)) spare_fits

  inside : (n : ℕ) → n < length p.numbers → n < length p.places
  inside n lt = let many = p.many in omega (arith, lt, many)

  pub was_there : (t : Tier) (k b : ℕ) → lies_at p.before t k ≡ Some b → place g s i t k ≡ Some b
  was_there t k b at = from_kept c.base (place g s i t k) b (sym (p.was.starts t k) ∙ at)

  pub fresh : AreFresh p.places (length p.numbers) p.before
  fresh = record {
    apart = λ j n lt less. p.places_are.apart j n (inside j lt) (inside n less);
    free = λ n k lt at. (p.places_are.free n (inside n lt)).unread i (inr (inr (k, was_there (nth_place p.places n).tier k (nth_place p.places n).block at)));
  }

  are_data : AreData g p.places (length p.numbers)
  are_data n lt = p.places_are.are_data n (inside n lt)

  pub is_fit : IsFit g x m
  is_fit = file_is_fit g c (names_after c.names (start_node c.base (inode g s i)).names) (start_node c.base (inode g s i)).size x p.numbers p.places p.before m
      fits p.slot_is p.changes.tidy p.changes.bounded.length p.numbers_are p.map p.normal fresh are_data p.was.once p.was.below p.was.apart p.was.within

  new_within : (t : Tier) → LiesWithin g (space.Data t) (runs_in m t)
  new_within = after_within c p.numbers p.places p.before m p.numbers_are p.map g p.changes.tidy p.changes.bounded.length are_data p.was.within

  new_data : (t : Tier) (k b : ℕ) → lies_at m t k ≡ Some b → (data_first g t ≤ b) × (b < tier_blocks g t)
  new_data t k b at = data_within g t b (new_within t k b at).1

  pub old_data : (t : Tier) (k b : ℕ) → lies_at p.before t k ≡ Some b → (data_first g t ≤ b) × (b < tier_blocks g t)
  old_data t k b at = data_within g t b (p.was.within t k b at).1

  root_node : (t : Tier) → root_of x t ≢ 0 → is_node g (root_of x t) ≡ true
  root_node t some = (slot_limits g x fits).roots t some

  -- ---- what is listed

  -- a tier with extents has a block for them
  root_by : (t : Tier) (v : ExtentList) → in_tier p.lists t ≡ Some v → root_of x t ≢ 0
  root_by t v is = elim (cases_Bool (root_of (slot_from c.base (slot g s i)) t == 0)) [
    | inl lacks ↦
        let some : missing_roots (root_of (slot_from c.base (slot g s i)) t) (in_tier p.lists t) ≡ 1 = ap (missing_roots (root_of (slot_from c.base (slot g s i)) t)) is ∙ cond-true (root_of (slot_from c.base (slot g s i)) t == 0) 1 0 lacks in
        let low = (p.nodes_are.free (wanted_before (slot_from c.base (slot g s i)) p.lists t) (spare_inside (slot_from c.base (slot g s i)) p.lists t (length share.nodes) p.wanted some)).room.first in
        let same = root_is ∙ cond-true (root_of (slot_from c.base (slot g s i)) t == 0) (get_or share.nodes (wanted_before (slot_from c.base (slot g s i)) p.lists t) 0) (root_of (slot_from c.base (slot g s i)) t) lacks in
        λ none. omega (arith, low, same, none)
    | inr has ↦ λ none. eqb-false (root_of (slot_from c.base (slot g s i)) t) 0 has (sym (root_is ∙ cond-false (root_of (slot_from c.base (slot g s i)) t == 0) (get_or share.nodes (wanted_before (slot_from c.base (slot g s i)) p.lists t) 0) (root_of (slot_from c.base (slot g s i)) t) has) ∙ none)
  ]
    where
      root_is : root_of x t ≡ root_for (root_of (slot_from c.base (slot g s i)) t) (Some v) (get_or share.nodes (wanted_before (slot_from c.base (slot g s i)) p.lists t) 0)
      root_is = p.roots t ∙ ap (λ o. root_for (root_of (slot_from c.base (slot g s i)) t) o (get_or share.nodes (wanted_before (slot_from c.base (slot g s i)) p.lists t) 0)) is

  some_by : (t : Tier) (o : Option ExtentList) → in_tier p.lists t ≡ o → IsSome o → root_of x t ≢ 0
  some_by t None is some = absurd (false≢true some)
  some_by t (Some v) is some = root_by t v is

  some_root : (t : Tier) → IsSome (in_tier p.lists t) → root_of x t ≢ 0
  some_root t some = some_by t (in_tier p.lists t) refl some

  own_roots : HaveOwnRoots x p.lists
  own_roots t u here there same = roots_differ g x t u fits (some_root t here) same

  image_of : (t : Tier) (o : Option ExtentList) → in_tier p.lists t ≡ o → IfSome o (λ v. with_images new (s tiers.Fast) (root_of x t) ≡ extents_spelling v)
  image_of t None is = tt
  image_of t (Some v) is = ap (λ o. or_else o (s tiers.Fast (root_of x t))) (p.images.each own_roots t v is)

  has_images : ListsStand (with_images new (s tiers.Fast)) x p.lists
  has_images t = image_of t (in_tier p.lists t) refl

  pub listed : (t : Tier) → IsListed (with_images new (s tiers.Fast)) i (root_of x t) (runs_in m t)
  listed = all_listed g (with_images new (s tiers.Fast)) i m p.lists share.nodes (slot_from c.base (slot g s i)) x p.lists_are p.roots spare_fits p.wanted has_images

  -- a tier with a block for them has extents
  list_by : (t : Tier) → root_of x t ≢ 0 → (o : Option ExtentList) → in_tier p.lists t ≡ o → (v : ExtentList) × (in_tier p.lists t ≡ Some v)
  list_by t some None is = absurd (some (p.roots t ∙ ap (λ o. root_for (root_of (slot_from c.base (slot g s i)) t) o (get_or share.nodes (wanted_before (slot_from c.base (slot g s i)) p.lists t) 0)) is))
  list_by t some (Some v) is = (v, is)

  -- ---- uses

  in_share : (t : Tier) (k b : ℕ) → TakesPlace p.numbers p.places t k b → Contains share.«data» (t, b)
  in_share t k b takes =
      let lt = inside takes.at takes.inside in
      let there : Contains (pairs_of p.places) (get_or (pairs_of p.places) takes.at (tiers.Fast, 0)) = Contains-get_or (pairs_of p.places) takes.at (tiers.Fast, 0) (let long = length-map p.places pair_of in omega (arith, long, lt)) in
      let is : get_or (pairs_of p.places) takes.at (tiers.Fast, 0) ≡ (t, b) = get_or-map pair_of p.places takes.at (record { tier = tiers.Fast; block = 0 }) (tiers.Fast, 0) lt ∙ sym (same_block t b (pair_of (nth_place p.places takes.at)) takes.tier (sym takes.block)) in
      subst (λ (d : List (Tier × ℕ)). Contains d (t, b)) (sym p.stored) (subst (λ (e : Tier × ℕ). Contains (pairs_of p.places) e) is there)

  -- a block that has a use is one from which the change starts, or of the share
  pub root_from : (t : Tier) → root_of x t ≢ 0 → (root_of x t ≡ root_of (slot_from c.base (slot g s i)) t) ⊎ Contains share.nodes (root_of x t)
  root_from t some = root_uses p.lists share.nodes (slot_from c.base (slot g s i)) x t p.roots p.wanted some

  pub lies_from : (t : Tier) (k b : ℕ) → lies_at m t k ≡ Some b → (lies_at p.before t k ≡ Some b) ⊎ Contains share.«data» (t, b)
  lies_from t k b at = elim (keeps_or_takes c p.numbers p.places p.before m p.numbers_are p.map t k b at) [
    | inl kept ↦ inl kept.was
    | inr taken ↦ inr (in_share t k b taken)
  ]

  use_root : (t : Tier) (b : Tier × ℕ) → root_of x t ≢ 0 → (tiers.Fast, root_of x t) ≡ b → (root_of x t ≡ root_of (slot_from c.base (slot g s i)) t) ⊎ Contains share.nodes (root_of x t)
      → (used_block g s (record { inode = i; tier = t; logical = None }) ≡ Some b) ⊎ IsIn share b
  use_root t b some is (inl kept) =
      let its = from_root c.base (slot g s i) t (λ zero. some (kept ∙ zero)) in
      inl (block_root (root_of (slot g s i) t) (λ zero. some (kept ∙ sym its ∙ zero)) ∙ ap (λ n. Some (tiers.Fast, n)) (its ∙ sym kept) ∙ ap Some is)
  use_root t b some is (inr there) = inr (subst (λ (e : Tier × ℕ). IsIn share e) is (inl (refl, there)))

  pub uses : (t : Tier) (k : Option ℕ) (b : Tier × ℕ) → block_by x m t k ≡ Some b → (used_block g s (record { inode = i; tier = t; logical = k }) ≡ Some b) ⊎ IsIn share b
  uses t None b at = let r = root_block (root_of x t) b at in use_root t b r.0 r.1 (root_from t r.0)
  uses t (Some k) b at =
      let r = place_block t (lies_at m t k) b at in
      elim (lies_from t k r.0 r.1) [
        | inl was ↦ inl (block_place t (place g s i t k) r.0 (was_there t k r.0 was) ∙ ap Some r.2)
        | inr there ↦ inr (subst (λ (e : Tier × ℕ). IsIn share e) r.2 (inr there))
      ]

  -- no block has two uses
  logical_root : (t u : Tier) (k : ℕ) (b : Tier × ℕ) → block_by x m t (Some k) ≡ Some b → block_by x m u None ≡ Some b → ⊥
  logical_root t u k b at_k at_u =
      let r = place_block t (lies_at m t k) b at_k in
      let n = root_block (root_of x u) b at_u in
      let same = r.2 ∙ sym n.1 in
      let fast : t ≡ tiers.Fast = ap (λ (e : Tier × ℕ). e.0) same in
      let place_is : r.0 ≡ root_of x u = ap (λ (e : Tier × ℕ). e.1) same in
      let low = new_data tiers.Fast k r.0 (subst (λ (w : Tier). lies_at m w k ≡ Some r.0) fast r.1) in
      let high = node_within g (root_of x u) (root_node u n.0) in
      omega (arith, low.0, high.1, place_is)

  pub once : (t u : Tier) (j k : Option ℕ) (b : Tier × ℕ) → block_by x m t j ≡ Some b → block_by x m u k ≡ Some b → (t ≡ u) × (j ≡ k)
  once t u None None b at_j at_k =
      let a = root_block (root_of x t) b at_j in
      let d = root_block (root_of x u) b at_k in
      (roots_differ g x t u fits a.0 (ap (λ (e : Tier × ℕ). e.1) (a.1 ∙ sym d.1)), refl)
  once t u None (Some k) b at_j at_k = absurd (logical_root u t k b at_k at_j)
  once t u (Some j) None b at_j at_k = absurd (logical_root t u j b at_j at_k)
  once t u (Some j) (Some k) b at_j at_k =
      let a = place_block t (lies_at m t j) b at_j in
      let d = place_block u (lies_at m u k) b at_k in
      let same = a.2 ∙ sym d.2 in
      let tier : t ≡ u = ap (λ (e : Tier × ℕ). e.0) same in
      let block : a.0 ≡ d.0 = ap (λ (e : Tier × ℕ). e.1) same in
      (tier, ap Some (is_fit.apart t j k a.0 a.1 (subst (λ (w : Tier). lies_at m w k ≡ Some a.0) (sym tier) (d.1 ∙ ap Some (sym block)))))

  -- ---- all that was taken is used

  -- the tier that a block of the node pool is for
  spare_named : (k : ℕ) → Contains share.nodes k → (t : Tier) × (root_of x t ≢ 0) × (root_of x t ≡ k)
  spare_named k at =
      let r = contains_at share.nodes k at in
      let low = (p.nodes_are.free r.0 r.1).room.first in
      let named = all_used p.lists share.nodes (slot_from c.base (slot g s i)) x r.0 p.roots p.wanted r.1 in
      let is = named.1 in
      (named.0, (λ zero. omega (arith, low, is, zero)), named.1 ∙ r.2)

  pub all : (b : Tier × ℕ) → IsIn share b → (t : Tier) × (k : Option ℕ) × (block_by x m t k ≡ Some b)
  all b (inl (fast, at)) =
      let r = spare_named b.1 at in
      (r.0, None, block_root (root_of x r.0) r.1 ∙ ap Some (same_block tiers.Fast (root_of x r.0) b fast r.2))
  all b (inr at) =
      let r = place_at p.places b (subst (λ (d : List (Tier × ℕ)). Contains d b) p.stored at) in
      let lt = r.1 in
      let many = p.many in
      let q = nth_place p.places r.0 in
      (q.tier, Some (nth_number p.numbers r.0), block_place q.tier (lies_at m q.tier (nth_number p.numbers r.0)) q.block (p.map.there r.0 (omega (arith, lt, many))) ∙ ap Some r.2)

  -- and was free
  pub were_free : (b : Tier × ℕ) → IsIn share b → Free g s b.0 b.1
  were_free b (inl (fast, at)) =
      let r = contains_at share.nodes b.1 at in
      subst (λ (u : Tier). Free g s u b.1) (sym fast) (subst (λ (k : ℕ). Free g s tiers.Fast k) r.2 (p.nodes_are.free r.0 r.1))
  were_free b (inr at) =
      let r = place_at p.places b (subst (λ (d : List (Tier × ℕ)). Contains d b) p.stored at) in
      subst (λ (e : Tier × ℕ). Free g s e.0 e.1) r.2 (p.places_are.free r.0 r.1)

  -- ---- images

  pub imaged : (k : ℕ) → Contains share.nodes k → IsSome (image_for k new)
  imaged k at =
      let r = spare_named k at in
      let v = list_by r.0 r.1 (in_tier p.lists r.0) refl in
      subst (λ n. IsSome (image_for n new)) r.2 (subst IsSome (sym (p.images.each own_roots r.0 v.0 v.1)) refl)

  pub images : (k : ℕ) → ((t : Tier) (l : Option ℕ) → block_by x m t l ≡ Some (tiers.Fast, k) → ⊥) → image_for k new ≡ image_for k old
  images k none = p.images.others k (λ t some same. none t None (block_root (root_of x t) (some_root t some) ∙ ap (λ n. Some (tiers.Fast, n)) same))

  pub nodes : AreNodes g old → AreNodes g new
  nodes before k some = elim (cases_Bool (is_node g k)) [
    | inl is ↦ is
    | inr other ↦ before k (subst IsSome (p.images.others k (λ t list same. false≢true (sym other ∙ subst (λ n. is_node g n ≡ true) same (root_node t (some_root t list))))) some)
  ]

  -- ---- where what is written lies

  stored_at : (n : ℕ) → n < length p.places → nth_data share.«data» n ≡ pair_of (nth_place p.places n)
  stored_at n lt = ap (λ (d : List (Tier × ℕ)). nth_data d n) p.stored ∙ get_or-map pair_of p.places n (record { tier = tiers.Fast; block = 0 }) (tiers.Fast, 0) lt

  pub is_laid : IsLaid g s c i m share.«data»
  is_laid = record {
    numbers = p.numbers;
    written = inl (p.changes.kind_is, numbers_as (lies_at p.before) c p.numbers p.numbers_are (places_from g s i c.base) p.was.starts);
    many = ap length p.stored ∙ length-map p.places pair_of ∙ p.many;
    there = λ n lt. subst (λ (b : Tier × ℕ). lies_at m b.0 (nth_number p.numbers n) ≡ Some b.1) (sym (stored_at n (inside n lt))) (p.map.there n lt);
  }

  -- ---- the store

  pub size : length bytes ≡ 4096 * length share.«data»
  size = p.bytes_are.long ∙ ap (λ n. 4096 * n) (sym (ap length p.stored ∙ length-map p.places pair_of ∙ p.many))

  has_data : (after : Store) → IsPut g s share bytes new i x m after → HasData g c.base s after i p.places bytes
  has_data after put = record {
    holds = subst (λ (d : List (Tier × ℕ)). HoldData after d bytes) p.stored put.holds;
    stays = λ t k b at. put.stays t k b (from_kept c.base (place g s i t k) b at) (p.was.within t k b (p.was.starts t k ∙ at)).1;
  }

  pub written : (after : Store) → IsPut g s share bytes new i x m after → IsFileWritten g c s after i x m
  written after put = record {
    is_file = p.changes.kind_is;
    slot_is = p.slot_is;
    blocks = as_changed g c s after i p.before m p.numbers p.places bytes (start_node c.base (inode g s i)).blocks p.was.starts p.was.once p.numbers_are p.map (let many = p.many in omega (arith, many)) p.bytes_are (has_data after put) (λ k. refl);
  }
