use Rattle.std.proofs.Common.{◌∙◌, ap, refl}
use Rattle.std.proofs.Math.ListN.{drop_of_length-le}
use Rattle.world_files.proofs.area_recovery_lemmas.SettlementPhases.{passed_on}
use Rattle.workload_cli.specs.Patches.{patched}
use Rattle.workload_cli.proofs.PutPatches.{none_put, one_put}
use Rattle.workload_cli.proofs.image.put_patches.Goals as goal

pub loop-patch-init : goal.loop-patch-init
loop-patch-init c = refl

pub loop-patch-preserved : goal.loop-patch-preserved
loop-patch-preserved c =
    c.loop-patch.invariant ∙ one_put c.loop-patch.image.items c.args.patches.now c.loop-patch.patch-index c.patch-item.result c.patch-item.is c.loop-patch-test.true c.put_bytes.new.image.items c.in_ok-put_bytes.ensures.within c.in_ok-put_bytes.ensures.put

pub returns-in_err-put_bytes-clause-past : goal.returns-in_err-put_bytes-clause-past
returns-in_err-put_bytes-clause-past c =
    let past = c.in_err-put_bytes.ensures.past in
    passed_on c.from_residual.result _ _ c.from_residual.ensures.1 (past.0, c.loop-patch.invariant ∙ none_put c.loop-patch.image.items c.args.patches.now c.loop-patch.patch-index c.patch-item.result c.patch-item.is c.loop-patch-test.true past.1)

pub returns-clause-put : goal.returns-clause-put
returns-clause-put c = c.loop-patch.invariant ∙ ap (patched c.loop-patch.image.items) (drop_of_length-le c.args.patches.now c.loop-patch-test.false)
