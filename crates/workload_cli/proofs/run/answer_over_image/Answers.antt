use Rattle.workload_cli.proofs.WorldImages.{kept_behind}
use Rattle.workload_cli.proofs.run.answer_over_image.Goals as goal

pub returns-in-Ok : goal.returns-in-Ok
returns-in-Ok g c = let run = c.in-Ok.ensures in kept_behind _ _ (g.H.ImageHome.keeps c.args.home.now) _ c.args.lines.left c.args.session run.0 c.answer_all.new.session run.1 run.2 c.keep_image.result c.keep_image.ensures
