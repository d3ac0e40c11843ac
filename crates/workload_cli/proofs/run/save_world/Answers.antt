use Rattle.workload_cli.proofs.WorldImages.{keeps_image}
use Rattle.workload_cli.proofs.run.save_world.Goals as goal

pub returns : goal.returns
returns g c = keeps_image _ _ (g.H.ImageHome.keeps c.args.home.now) c.args.session c.in_ok-bytes.bytes.items c.as_slice.result.now c.in_ok-bytes.ensures.image c.as_slice.ensures.value c.keep.result c.keep.ensures
