-- The blocks that a change writes.
use Rattle.std.proofs.Common.{◌≡◌, ℕ, List, [], ◌∷◌, true, Some}
use Rattle.std.specs.List.{AllByRecursion}
use Rattle.record_validation.specs.file_graph.declared.effect.Kind.TheVariants as kind
use Rattle.area_reader.specs.graph_change.Change.{Changes, change_at, writes_block}
use Rattle.area_reader.specs.layout.Places.{Sizes}
use Rattle.area_reader.specs.tree_blocks.After.{start_node}
use Rattle.area_reader.specs.Store.{Store, inode}
use Rattle.change_plan.specs.area_commit.InodeChange.{places_from, writes_over}
use Rattle.change_plan.specs.BlockDemand.{AreWritten}
use Rattle.change_plan.proofs.area_commit_lemmas.Holes.{over_written}

module _ (g : Sizes) (s : Store) (cs : Changes) where
  each_one : (bs : List (ℕ × ℕ)) → AllByRecursion (λ b. ((start_node (change_at cs b.0).base (inode g s b.0)).kind ≡ Some kind.File) × (writes_over (places_from g s b.0 (change_at cs b.0).base) (change_at cs b.0) b.1 ≡ true)) bs
      → AllByRecursion (λ b. writes_block (change_at cs b.0) b.1 ≡ true) bs
  each_one [] all = tt
  each_one (b ∷ bs) all = (over_written (places_from g s b.0 (change_at cs b.0).base) b.1 (change_at cs b.0) all.0.1, each_one bs all.1)

  -- into each of them bytes are put, or a file is cut within it
  pub written_each : (bs : List (ℕ × ℕ)) → AreWritten g s cs bs → AllByRecursion (λ b. writes_block (change_at cs b.0) b.1 ≡ true) bs
  written_each bs are = each_one bs are.each
