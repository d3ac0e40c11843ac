use Rattle.workload_cli.proofs.ImageRefusals.{fresh_image}
use Rattle.workload_cli.proofs.image.fresh_image.Goals as goal

pub returns-clause-image : goal.returns-clause-image
returns-clause-image c = fresh_image _ _ c.args.sizes (λ bytes. bytes.items) _ c.in_ok-format_world.ensures.world c.world_image.result c.world_image.ensures.image
