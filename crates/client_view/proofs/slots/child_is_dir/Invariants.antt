use Rattle.std.proofs.Common.{◌≡◌, false, None}
use Rattle.std.specs.Prelude.{unwrap_or}
use Rattle.posix_calls.specs.Tree.{any_up_to}
use Rattle.client_plan.specs.file_graph.declared.effect.Kind.TheVariants as kinds
use Rattle.client_plan.specs.call_effects.Knowledge.{lists_as}
use Rattle.client_view.specs.KnowledgeTables.{copy_at}
use Rattle.client_view.proofs.slots.child_is_dir.Given as goal

abbrev pub invariant-loop-before : goal.invariant-loop-before
invariant-loop-before l = record {
  directory : any_up_to l.before (λ d. lists_as l.inode kinds.Directory (unwrap_or (copy_at l.slots d) None)) ≡ false;
  file : l.is_file ≡ any_up_to l.before (λ d. lists_as l.inode kinds.File (unwrap_or (copy_at l.slots d) None));
}
