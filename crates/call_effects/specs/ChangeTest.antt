-- Which operations change the graph.
use Rattle.std.specs.Prelude.{Bool, true, false}
use Rattle.posix_calls.specs.declared.operation.Operation.{Operation}
use Rattle.posix_calls.specs.declared.operation.Operation.TheVariants.{Tell, OpenFile, CloseFile}

-- whether an operation has effects; to answer, to open a file as it is and to close one have none
abbrev pub changes : Operation → Bool
changes (Tell answer) = false
changes (OpenFile i empties number reads writes) = empties
changes (CloseFile i number) = false
changes _ = true
