use Rattle.std.proofs.Common.{◌≤◌, ℕ, Option, Some, None, sym, subst}
use Rattle.std.specs.Prelude.{IfSome}
use Rattle.posix_calls.specs.declared.limits.TheConstants.{MAX_NAMES}
use Rattle.area_commit.specs.graph_change.Net.{names_after}
use Rattle.inode_plan.specs.Blocks.{AreSound}
use Rattle.inode_plan.proofs.directory_laws.changed_directory_can_be_written.Goals as goal

few_names : (o : Option ℕ) (old : ℕ) → IfSome o (λ n. n ≤ MAX_NAMES) → old ≤ MAX_NAMES → names_after o old ≤ MAX_NAMES
few_names None old some few = few
few_names (Some n) old some few = some

pub returns : goal.returns
returns c g change start x bounded sound changed = record {
  names_fit = subst (λ n. n ≤ MAX_NAMES) (sym changed.names_are) (few_names change.names start.names bounded.names sound.names_fit);
  blocks_are = subst (AreSound g) (sym changed.blocks_are) sound.blocks_are;
  inside = changed.written_are.inside;
}
