-- Questions of the shared area, one after the other.
use Rattle.std.proofs.Common.{◌≡◌, ◌∙◌, ◌≤◌, ℕ, List, ap, subst, sym}
use Rattle.std.proofs.Math.Path.{fun_ext}
use Rattle.std.specs.Prelude.{Option}
use Rattle.tier_device.specs.declared.media.Media.{Ghosts}
use Rattle.tier_device.specs.declared.media.Tier.{Tier}
use Rattle.call_driver.specs.call_effects.Wholes.{tree_of}
use Rattle.call_driver.specs.layout.Places.{Sizes}
use Rattle.call_driver.specs.shared_area.Parts.{IsTierOf}
use Rattle.call_driver.specs.area_reader.Store.{graph, disk, store_of}
use Rattle.call_driver.specs.event_steps.View.{SystemView}
use Rattle.workload_cli.specs.OfSystem.{HasLooked, LiesIn, tree_in}

module _ {M : Type 0} (device : Ghosts M) where
  -- one behind another
  pub looked_on : (old mid new : SystemView M) → HasLooked device old mid → HasLooked device mid new → HasLooked device old new
  looked_on old mid new a b = record {
    seats = b.seats ∙ a.seats;
    book = b.book ∙ a.book;
    geometry = b.geometry ∙ a.geometry;
    opening = b.opening ∙ a.opening;
    unmoved = record {
      clock = b.unmoved.clock ∙ a.unmoved.clock;
      reads = λ t. b.unmoved.reads t ∙ a.unmoved.reads t;
      past = λ m t c le then. a.unmoved.past m t c le (b.unmoved.past m t c (before m le) then);
      kept = λ m t c le left. b.unmoved.kept m t c (before m le) (a.unmoved.kept m t c le left);
    };
  }
    where
      before : (m : ℕ) → m ≤ device.moment old.kernel.area.media → m ≤ device.moment mid.kernel.area.media
      before m le = subst (λ n. m ≤ n) (sym a.unmoved.clock) le

  -- the media spell the same graph
  pub same_graph : (old new : SystemView M) → HasLooked device old new → graph new.kernel.area.geometry (disk device new.kernel.area) ≡ graph old.kernel.area.geometry (disk device old.kernel.area)
  same_graph old new a =
      ap (λ g. graph g (disk device new.kernel.area)) a.geometry ∙ ap (λ (content : Tier → List ℕ). graph old.kernel.area.geometry (store_of content)) (fun_ext a.unmoved.reads)

  pub same_tree : (old new : SystemView M) → HasLooked device old new → tree_in device new.kernel ≡ tree_in device old.kernel
  same_tree old new a = ap tree_of (same_graph old new a)

  -- and blocks lie where they did
  pub same_place : (old new : SystemView M) (i block : ℕ) (tier : Option Tier) → HasLooked device old new → LiesIn device new.kernel i block tier → LiesIn device old.kernel i block tier
  same_place old new i block tier a lies =
      subst (λ (content : Tier → List ℕ). IsTierOf old.kernel.area.geometry (store_of content) i block tier) (fun_ext a.unmoved.reads) (subst (λ (g : Sizes). IsTierOf g (disk device new.kernel.area) i block tier) a.geometry lies)
