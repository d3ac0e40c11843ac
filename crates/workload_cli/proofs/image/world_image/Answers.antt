use Rattle.workload_cli.proofs.WorldImages.{image_of_rested}
use Rattle.workload_cli.proofs.image.world_image.Goals as goal

pub returns-clause-image : goal.returns-clause-image
returns-clause-image c = image_of_rested _ _ c.args.session (λ v. v.items) c.image_bytes.result c.in_ok-into_parts.field-0 c.in_ok-into_parts.ensures.rest c.image_bytes.ensures.bytes
