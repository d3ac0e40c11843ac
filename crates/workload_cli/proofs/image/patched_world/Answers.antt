use Rattle.std.proofs.Common.{inl}
use Rattle.world_files.proofs.area_recovery_lemmas.SettlementPhases.{passed_on}
use Rattle.workload_cli.proofs.ImageRefusals.{past_refused, patched_refused, patched_world}
use Rattle.workload_cli.proofs.image.patched_world.Goals as goal

pub returns-in_err-image-clause-refused : goal.returns-in_err-image-clause-refused
returns-in_err-image-clause-refused c = passed_on c.from_residual.result _ _ c.from_residual.ensures.1 (inl c.in_err-image.ensures.only)

pub returns-in_err-put_patches-clause-refused : goal.returns-in_err-put_patches-clause-refused
returns-in_err-put_patches-clause-refused c =
    let past = c.in_err-put_patches.ensures.past in
    let r = c.from_residual-in_err-put_patches in
    passed_on r.result _ _ r.ensures.1 (past_refused _ _ c.args.sizes c.args.patches.now c.in_ok-image.image.items c.in_ok-image.ensures.image _ past.0 past.1)

pub returns-clause-world : goal.returns-clause-world
returns-clause-world c = patched_world _ _ c.args.sizes c.args.patches.now c.in_ok-image.image.items c.in_ok-image.ensures.image c.put_patches.new.image.items c.as_slice.result.now c.in_ok-put_patches.ensures.put c.as_slice.ensures.value c.recover_image.result c.recover_image.ensures.world

pub returns-clause-refused : goal.returns-clause-refused
returns-clause-refused c = patched_refused _ _ c.args.sizes c.args.patches.now c.in_ok-image.image.items c.in_ok-image.ensures.image c.put_patches.new.image.items c.as_slice.result.now c.in_ok-put_patches.ensures.put c.as_slice.ensures.value c.recover_image.result c.recover_image.ensures.refused
