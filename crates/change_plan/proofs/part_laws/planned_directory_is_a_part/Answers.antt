use Rattle.change_plan.proofs.PlannedPart.{directory_part}
use Rattle.change_plan.proofs.part_laws.planned_directory_is_a_part.Goals as goal

pub returns : goal.returns
returns c g s d i touch start x spares old new plan lost p are free lose =
    let written = c.planned_directory_is_written.ensures in
    let uses = c.planned_blocks_are_kept_or_spare.ensures in
    let losses = c.planned_losses_are_exact.ensures in
    directory_part g s d i touch start x spares old new plan lost p are free (record {
      fit = written.fit g s d i touch start x spares old new plan p;
      listed = written.listed g s d i touch start x spares old new plan p;
      written = written.written g s d i touch start x spares old new plan p;
      kept = uses.kept g s d i touch start x spares old new plan p;
      once = uses.once g s d i touch start x spares old new plan p;
      all = uses.all g s d i touch start x spares old new plan p;
      images = uses.images g s d i touch start x spares old new plan p;
      imaged = uses.imaged g s d i touch start x spares old new plan p;
      nodes = uses.nodes g s d i touch start x spares old new plan p;
      exact = losses.exact g s d i touch start x spares old new plan p;
      had = losses.had g s d i touch start x spares old new plan p;
      each = losses.each g s d i touch start x spares old new plan p;
      given = λ pool. losses.given g s d i touch start x spares old new plan pool p;
      apart = c.runs_lie_apart.ensures.used;
    }) lose
