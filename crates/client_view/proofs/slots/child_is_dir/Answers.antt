use Rattle.std.proofs.Common.{◌+◌, None, arith, add-one, ap, sym, ◌∙◌}
use Rattle.std.specs.Prelude.{unwrap_or}
use Rattle.posix_calls.specs.declared.limits.TheConstants.{MAX_INODE}
use Rattle.client_plan.specs.file_graph.declared.effect.Kind.TheVariants as kinds
use Rattle.posix_calls.proofs.Sums.{any_none, any_more, any_there}
use Rattle.client_plan.specs.call_effects.Knowledge.{lists_as}
use Rattle.client_view.specs.KnowledgeTables.{copy_at, is_listed_in}
use Rattle.client_view.proofs.ListedKinds.{any_with_next, told_dir}
use Rattle.client_view.proofs.slots.child_is_dir.Goals as goal

pub loop-before-init : goal.loop-before-init
loop-before-init c = record { directory = any_none _; file = sym (any_none _) }

pub loop-before-preserved : goal.loop-before-preserved
loop-before-preserved c = record {
  directory = any_more c.loop-before.before _ (ap (λ d. lists_as c.args.inode kinds.Directory (unwrap_or (copy_at c.args.slots.now d) None)) (sym (add-one c.loop-before.before)) ∙ sym c.kinds_in-told.ensures.directory ∙ c.if-told.false) c.loop-before.invariant.directory;
  file = any_with_next c.loop-before.before (λ d. lists_as c.args.inode kinds.File (unwrap_or (copy_at c.args.slots.now d) None)) c.loop-before.is_file c.kinds_in-told.result.file c.loop-before.invariant.file c.kinds_in-told.ensures.file;
}

pub returns-then-told : goal.returns-then-told
returns-then-told c =
    sym (told_dir (is_listed_in c.args.slots.now c.args.inode kinds.Directory) (is_listed_in c.args.slots.now c.args.inode kinds.File)
    (any_there MAX_INODE (c.loop-before.before + 1) _ (omega arith) (omega (arith, c.loop-before-test.true)) (sym c.kinds_in-told.ensures.directory ∙ c.if-told.true)))
