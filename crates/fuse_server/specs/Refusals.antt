-- Why a message has no answer.
use Rattle.std.specs.Prelude.{List, ℕ}
use Rattle.fuse_wire.specs.Reasons.{IsWrong}
use Rattle.fuse_server.specs.declared.server.ServeError.{ServeError}
use Rattle.fuse_server.specs.declared.server.ServeError.TheVariants.{Message, Memory}

-- a message that has no answer is not whole, for the reason that is named; else there was no memory
abbrev pub IsNoAnswer : List ℕ → ServeError → Type 0
IsNoAnswer message (Message error) = IsWrong message error
IsNoAnswer message Memory = Unit {0}
