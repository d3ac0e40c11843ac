-- The outcome of a client's call over a graph and descriptors.
use Rattle.std.specs.Prelude.{ℕ, Result, Err, if◌then◌else◌}
use Rattle.posix_calls.specs.Tree.{Descriptors}
use Rattle.posix_calls.specs.Query.{run}
use Rattle.posix_calls.specs.Decide.{decide}
use Rattle.posix_calls.specs.Operations.{is_client}
use Rattle.posix_calls.specs.declared.operation.Operation.{Operation}
use Rattle.posix_calls.specs.declared.errno.Errno.{Errno}
use Rattle.posix_calls.specs.declared.errno.Errno.TheVariants as errno
use Rattle.posix_calls.specs.declared.call.Call.{Call}
use Rattle.log_record.specs.file_graph.Graph.{Graph}
use Rattle.call_effects.specs.Wholes.{graph_view}

-- the outcome of a call by the stored counts of names; who is no client is refused before all else
abbrev pub answer_over : Graph → Descriptors → ℕ → Call → Result Operation Errno
answer_over g held client call = if is_client client then run (graph_view g held) (decide (held client) call) else Err errno.Invalid
