-- What clients that can be shared out are once a call ends.
use Rattle.std.proofs.Common.{Result, Ok, Err}
use Rattle.std.specs.Prelude.{OnOk}

pub can_be : {T E : Type 0} {P : Type 0} (r : Result T E) → P → OnOk r P
can_be (Ok x) p = p
can_be (Err e) p = tt
