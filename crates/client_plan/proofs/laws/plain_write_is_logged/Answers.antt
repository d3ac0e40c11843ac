use Rattle.client_plan.proofs.WriteLogged.{write_is_logged}
use Rattle.client_plan.proofs.laws.plain_write_is_logged.Goals as goal

pub returns : goal.returns
returns c = λ p h number at bytes w plain. write_is_logged p h number at bytes w plain
