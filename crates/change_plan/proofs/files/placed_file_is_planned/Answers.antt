use Rattle.change_plan.proofs.FileWhole.{planned}
use Rattle.change_plan.proofs.files.placed_file_is_planned.Goals as goal

pub returns : goal.returns
returns c g s change touch i numbers places f spare bytes old new x left lost tidy bounded are many free placed spares wanted rooted holds loses =
    planned g s change touch i numbers places f spare bytes old new x left lost placed rooted tidy bounded are many free spares wanted holds loses
