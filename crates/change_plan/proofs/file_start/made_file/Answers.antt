use Rattle.std.proofs.Common.{refl}
use Rattle.change_plan.proofs.StartsFile.{made_map}
use Rattle.change_plan.proofs.file_start.made_file.Goals as goal

pub returns : goal.returns
returns c g s i = record { kind_is = refl; slot_is = refl; map = made_map c.new.result c.new.ensures g s i; found = tt; blocks = refl }
