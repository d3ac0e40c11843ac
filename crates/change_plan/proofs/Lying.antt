-- Where blocks lie in a store in which a change is carried out.
use Rattle.std.proofs.Common.{◌≡◌, ◌∙◌, inl, inr, ℕ, true, Option, Some, None, refl, sym, ap}
use Rattle.std.specs.Prelude.{option_map, is_some, unwrap_or}
use Rattle.std.specs.FinMap as fin
use Rattle.std.proofs.lemmas.Bool.{false≢true}
use Rattle.std.proofs.lemmas.Option.{none-some}
use Rattle.std.proofs.lemmas.List.Elements.{Contains-get_or}
use Rattle.tier_device.specs.declared.media.Tier.{Tier}
use Rattle.inode_plan.specs.file_graph.declared.effect.Kind.TheVariants as kind
use Rattle.inode_plan.specs.graph_change.Change.{Change, Changes, change_at, new_change, writes_block}
use Rattle.inode_plan.specs.graph_change.Net.{Kept}
use Rattle.inode_plan.proofs.graph_change_lemmas.Touched.{nothing_written}
use Rattle.inode_plan.specs.layout.declared.slot.Slot.{Slot}
use Rattle.inode_plan.specs.layout.Places.{Sizes}
use Rattle.inode_plan.specs.extent_tree.Map.{TierRuns, lies_at}
use Rattle.inode_plan.specs.area_reader.Store.{Store, place}
use Rattle.inode_plan.specs.area_commit.Allocations.{taken_data}
use Rattle.inode_plan.specs.area_commit.declared.plan.Rewrite.{Rewrite}
use Rattle.inode_plan.specs.area_commit.Plan.{is_rewritten, IsPlanned}
use Rattle.inode_plan.specs.area_commit.PlanOutcome.{IsCarriedOut}
use Rattle.inode_plan.specs.area_commit.InodeChange.{places_from}
use Rattle.inode_plan.proofs.area_commit_lemmas.Holes.{over_written}
use Rattle.change_plan.specs.FileLayout.{LeavesFile, WritesBlock, nth_block, nth_data, AreInTurn, AreFirstFree, GetPlaces, LieInPlaces, KeepsPlaces}
use Rattle.change_plan.specs.Parts.{AreParts, share_of}
use Rattle.change_plan.proofs.PlannedPart.{no_file}
use Rattle.change_plan.proofs.Summed.{written_for}

-- the place of a use is its block's
pub place_stays : (t : Tier) (a b : Option ℕ) → option_map {U = Tier × ℕ} (λ p. (t, p)) a ≡ option_map {U = Tier × ℕ} (λ p. (t, p)) b → a ≡ b
place_stays t None None e = refl
place_stays t None (Some q) e = absurd (none-some (t, q) e)
place_stays t (Some p) None e = absurd (none-some (t, p) (sym e))
place_stays t (Some p) (Some q) e = ap (λ (o : Option (Tier × ℕ)). option_map (λ (c : Tier × ℕ). c.1) o) e

-- a block that is written is of an inode in the change
in_change : (g : Sizes) (s : Store) (cs : Changes) (i k : ℕ) → WritesBlock g s cs i k → fin.contains_key cs i ≡ true
in_change g s cs i k w = by (fin.get cs i) refl
  where
    by : (o : Option Change) → fin.get cs i ≡ o → fin.contains_key cs i ≡ true
    by (Some c) is = ap is_some is
    by None is = absurd (false≢true (sym (ap (λ (o : Option Change). writes_block (unwrap_or o (new_change Kept)) k) is ∙ nothing_written Kept k) ∙ over_written (places_from g s i (change_at cs i).base) k (change_at cs i) w.writes))

module _ (g : Sizes) (s : Store) (cs : Changes) (touch : ℕ) (x : ℕ → Slot) (m : ℕ → TierRuns) (plan : Rewrite) (parts : AreParts g s cs touch x m plan.slots.items (share_of plan.taken) plan.bytes.items plan.nodes plan.lost) where
  -- the blocks of the files that are written
  all_written : ((i : ℕ) → fin.contains_key cs i ≡ is_rewritten plan i) → AreInTurn (WritesBlock g s cs) parts.laid.blocks
  all_written inodes = record {
    rising = parts.laid.written.rising;
    each = λ i k. (λ at. ((parts.laid.written.each i k).0 at).1, λ w. (parts.laid.written.each i k).1 (sym (inodes i) ∙ in_change g s cs i k w, w));
  }

  pub places_got : ((i : ℕ) → fin.contains_key cs i ≡ is_rewritten plan i) → AreFirstFree g s (taken_data plan.taken) → GetPlaces g s cs parts.laid.blocks (taken_data plan.taken)
  places_got inodes first = record { written = all_written inodes; many = parts.laid.many; first = first }

  module _ (planned : IsPlanned g s x m plan) (new : Store) (done : IsCarriedOut g s plan new) (read : (i : ℕ) → is_rewritten plan i ≡ true → (t : Tier) (k : ℕ) → place g new i t k ≡ lies_at (m i) t k) where
    pub places_kept : (i : ℕ) → is_rewritten plan i ≡ true → LeavesFile g s (change_at cs i) i → KeepsPlaces g (change_at cs i) s new i
    places_kept i its file = elim (written_for g s cs touch x m plan parts planned new done i its) [
      | inl is ↦ record { others = λ t k not_written stays. read i its t k ∙ is.blocks.others t k not_written stays; gone = λ t k not_written cut. read i its t k ∙ is.blocks.gone t k not_written cut }
      | inr (inl directory) ↦ absurd (no_file directory.2.is_directory file)
      | inr (inr gone) ↦ absurd (none-some kind.File (sym gone.none ∙ file))
    ]

    pub blocks_lie : ((i : ℕ) → fin.contains_key cs i ≡ is_rewritten plan i) → AreFirstFree g s (taken_data plan.taken) → LieInPlaces g s cs new
    blocks_lie inodes first = record {
      blocks = parts.laid.blocks;
      places = taken_data plan.taken;
      got = places_got inodes first;
      there = λ n within.
          (let b = nth_block parts.laid.blocks n in
          let its = ((parts.laid.written.each b.0 b.1).0 (Contains-get_or parts.laid.blocks n (0, 0) within)).0 in
          read b.0 its (nth_data (taken_data plan.taken) n).0 b.1 ∙ parts.laid.there n within);
    }
