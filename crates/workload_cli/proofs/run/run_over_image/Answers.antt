use Rattle.workload_cli.proofs.WorldImages.{image_run}
use Rattle.workload_cli.proofs.run.run_over_image.Goals as goal

pub returns-in-Ok : goal.returns-in-Ok
returns-in-Ok g c = image_run _ _ (g.H.ImageHome.keeps c.args.home.now) _ c.args.lines.left c.in-Ok.session c.args.file.now c.args.options.now.sizes c.in-Ok.ensures.world c.answer_over_image.result c.answer_over_image.ensures
