use Rattle.std.proofs.Common.{inl, subst}
use Rattle.std.specs.Prelude.{option_map}
use Rattle.world_files.specs.ImageFiles.{MayHold}
use Rattle.world_files.proofs.area_recovery_lemmas.SettlementPhases.{passed_on}
use Rattle.workload_cli.proofs.ImageRefusals.{fresh_refused, fresh_world, held_refused, held_world}
use Rattle.workload_cli.proofs.image.image_world.Goals as goal

pub returns-in_err-image-clause-refused : goal.returns-in_err-image-clause-refused
returns-in_err-image-clause-refused c = passed_on c.from_residual.result _ _ c.from_residual.ensures.1 (inl c.in_err-image.ensures.only)

pub returns-in-Some-clause-world : goal.returns-in-Some-clause-world
returns-in-Some-clause-world c = held_world _ c.args.file.now c.args.sizes c.in-Some.image.items c.as_slice.result.now (subst (λ held. MayHold c.args.file.now (option_map (λ b. b.items) held)) c.in-Some.is c.in_ok-image.ensures.held) c.as_slice.ensures.value c.recover_image.result c.recover_image.ensures.world

pub returns-in-Some-clause-refused : goal.returns-in-Some-clause-refused
returns-in-Some-clause-refused c = held_refused _ c.args.file.now c.in-Some.image.items c.as_slice.result.now (subst (λ held. MayHold c.args.file.now (option_map (λ b. b.items) held)) c.in-Some.is c.in_ok-image.ensures.held) c.as_slice.ensures.value c.recover_image.result c.recover_image.ensures.refused

pub returns-in-None-clause-world : goal.returns-in-None-clause-world
returns-in-None-clause-world c = fresh_world _ c.args.file.now c.args.sizes (subst (λ held. MayHold c.args.file.now (option_map (λ b. b.items) held)) c.in-None.is c.in_ok-image.ensures.held) c.format_world.result c.format_world.ensures.world

pub returns-in-None-clause-refused : goal.returns-in-None-clause-refused
returns-in-None-clause-refused c = fresh_refused _ c.args.file.now (subst (λ held. MayHold c.args.file.now (option_map (λ b. b.items) held)) c.in-None.is c.in_ok-image.ensures.held) c.format_world.result c.format_world.ensures.only
