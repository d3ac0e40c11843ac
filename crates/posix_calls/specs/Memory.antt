-- Which calls take memory when they are decided: for the names on their paths, and for the bytes and names that they carry.
use Rattle.std.specs.Prelude.{ℕ, ◌+◌, ◌-◌, List, length, min, Bool, false, ◌&&◌, ◌||◌, nat_lt, nat_le, Option, Some, None, is_some, Result, Ok, Err, is_ok}
use Rattle.posix_calls.specs.Path.{path_names}
use Rattle.posix_calls.specs.FirstName.{comes_to_name}
use Rattle.posix_calls.specs.Tree.{Own}
use Rattle.posix_calls.specs.Query.{Seen}
use Rattle.posix_calls.specs.Part.{Part}
use Rattle.posix_calls.specs.Walk.{size_seen, is_root}
use Rattle.posix_calls.specs.Answers.{count_in}
use Rattle.posix_calls.specs.declared.limits.TheConstants.{ROOT, MAX_TRANSFER, MAX_FILE}
use Rattle.posix_calls.specs.declared.errno.Errno.{Errno}
use Rattle.posix_calls.specs.declared.descriptor.Descriptor.{Descriptor}
use Rattle.posix_calls.specs.declared.call.Call.{Call}
use Rattle.posix_calls.specs.declared.call.Call.TheVariants as call

-- whether a directory is known to have a name
abbrev pub has_names : Option (Option Seen) → Bool
has_names None = false
has_names (Some s) = nat_lt 0 (count_in s)

-- whether a file is known to have bytes there, and these are known
abbrev pub has_bytes : Part → ℕ → ℕ → ℕ → Option (Option Seen) → Bool
has_bytes p i at count None = false
has_bytes p i at count (Some s) = nat_lt 0 (min count (size_seen s - at)) && is_some (p.bytes i at (min count (size_seen s - at)))

-- whether a read has bytes to return
abbrev pub reads_bytes : Part → Option Descriptor → ℕ → ℕ → Bool
reads_bytes p None at count = false
reads_bytes p (Some d) at count = d.reads && nat_le count MAX_TRANSFER && has_bytes p d.inode at count (p.node d.inode)

-- whether it is the root that is listed, and it is known to have a name
abbrev pub lists_root : Part → Result (List (List ℕ)) Errno → Bool
lists_root p (Err e) = false
lists_root p (Ok names) = is_root names && has_names (p.node ROOT)

-- whether a write has bytes to put
abbrev pub writes_bytes : Option Descriptor → ℕ → List ℕ → Bool
writes_bytes None at bytes = false
writes_bytes (Some d) at bytes = d.writes && nat_lt 0 (length bytes) && nat_le (length bytes) MAX_TRANSFER && nat_le (at + length bytes) MAX_FILE

-- whether the paths of a call on two of them reach a name
abbrev pub come_to_names : List ℕ → List ℕ → Bool
come_to_names old new = comes_to_name old || (is_ok (path_names old) && comes_to_name new)

-- whether a call takes memory, decided by who knows a part of the tree
abbrev pub takes_memory : Part → Own → Call → Bool
takes_memory p own (call.Open path flags) = comes_to_name path
takes_memory p own (call.Close number) = false
takes_memory p own (call.Pread number at count) = reads_bytes p (own number) at count
takes_memory p own (call.Pwrite number at bytes) = writes_bytes (own number) at bytes
takes_memory p own (call.Truncate path len) = comes_to_name path
takes_memory p own (call.Mkdir path) = comes_to_name path
takes_memory p own (call.Rmdir path) = comes_to_name path
takes_memory p own (call.Link old new) = come_to_names old new
takes_memory p own (call.Unlink path) = comes_to_name path
takes_memory p own (call.Rename old new) = come_to_names old new
takes_memory p own (call.Exchange first second) = come_to_names first second
takes_memory p own (call.List path) = comes_to_name path || lists_root p (path_names path)
takes_memory p own (call.Stat path) = comes_to_name path
