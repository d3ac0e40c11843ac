-- What the texts of a line stand for.
use Rattle.std.specs.Prelude.{ℕ, List, [], take, Option, Some, None}
use Rattle.posix_calls.specs.declared.call.Call.{Call}
use Rattle.posix_calls.specs.declared.call.Call.TheVariants as call
use Rattle.script.specs.declared.runs.TheConstants.{MAX_DATA}
use Rattle.script.specs.Script.{path_bytes, repeated_bytes}
use Rattle.script.specs.declared.path_text.PathText.{PathText}
use Rattle.script.specs.declared.data_text.DataText.{DataText}
use Rattle.script.specs.declared.call_text.CallText.{CallText}
use Rattle.script.specs.declared.call_text.CallText.TheVariants as text
use Rattle.script.specs.declared.call_text.Line.{Line}
use Rattle.script.specs.declared.call_text.Line.TheVariants as line
use Rattle.script.specs.declared.system_line.SystemLine.{SystemLine}
use Rattle.script.specs.declared.system_line.SystemLine.TheVariants as system
use Rattle.script.specs.SystemLines.{Asked, Calls, Steps, Digests, Wipes, Dies, Buries, Moves, Places, Books, Stops, Halts, Fails, Recovers}

-- the value, or no bytes
abbrev pub or_empty : Option (List ℕ) → List ℕ
or_empty None = []
or_empty (Some bytes) = bytes

-- the bytes of a path
abbrev pub path_of : PathText → List ℕ
path_of p = or_empty (path_bytes p.text.now)

-- the bytes of a text of runs
abbrev pub data_of : DataText → List ℕ
data_of d = or_empty (repeated_bytes d.text.now)

-- the call, with one byte more than a call may write in place of all that are too many
abbrev pub asked_call : CallText → Call
asked_call (text.Open path flags) = call.Open (path_of path) flags
asked_call (text.Close d) = call.Close d
asked_call (text.Pread d at n) = call.Pread d at n
asked_call (text.Pwrite d at bytes) = call.Pwrite d at (take MAX_DATA (data_of bytes))
asked_call (text.Truncate path n) = call.Truncate (path_of path) n
asked_call (text.Mkdir path) = call.Mkdir (path_of path)
asked_call (text.Rmdir path) = call.Rmdir (path_of path)
asked_call (text.Link old new) = call.Link (path_of old) (path_of new)
asked_call (text.Unlink path) = call.Unlink (path_of path)
asked_call (text.Rename old new) = call.Rename (path_of old) (path_of new)
asked_call (text.Exchange first second) = call.Exchange (path_of first) (path_of second)
asked_call (text.List path) = call.List (path_of path)
asked_call (text.Stat path) = call.Stat (path_of path)

-- the client and its call, where the line has one
abbrev pub line_seen : Line → Option (ℕ × Call)
line_seen line.Silent = None
line_seen (line.Asks c q) = Some (c, asked_call q)

-- what is asked of a running system, where the line asks something
abbrev pub system_line_seen : SystemLine → Option Asked
system_line_seen system.Silent = None
system_line_seen (system.Call c m q) = Some (Calls c m (asked_call q))
system_line_seen (system.Step c) = Some (Steps c)
system_line_seen (system.Digest c) = Some (Digests c)
system_line_seen (system.Wipe c) = Some (Wipes c)
system_line_seen (system.Die c) = Some (Dies c)
system_line_seen (system.Bury c) = Some (Buries c)
system_line_seen (system.Migrate path first count to) = Some (Moves (path_of path) first count to)
system_line_seen (system.Where path block) = Some (Places (path_of path) block)
system_line_seen system.Book = Some Books
system_line_seen (system.Stop call fill) = Some (Stops call fill)
system_line_seen (system.Halt fills) = Some (Halts fills)
system_line_seen (system.Fail call medium) = Some (Fails call medium)
system_line_seen system.Recover = Some Recovers
