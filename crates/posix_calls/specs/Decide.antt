-- Trusted: headline
-- Each call's errors in their order, and its operation if none holds.
use Rattle.std.specs.Prelude.{ℕ, zero, suc, ◌+◌, ◌-◌, List, [], ◌∷◌, map, length, min, Bool, true, false, ◌&&◌, ◌||◌, not, ◌==◌, nat_lt, nat_le, Option, Some, None, if◌then◌else◌}
use Rattle.std.specs.FinMap as fin
use Rattle.std.specs.List.{list_any}
use Rattle.posix_calls.specs.Path.{path_names}
use Rattle.posix_calls.specs.Tree.{Own}
use Rattle.posix_calls.specs.declared.descriptor.Descriptor.{Descriptor}
use Rattle.posix_calls.specs.Query.{Seen, File, Dir, Query, Gives, Refuses, Look, Range, ◌>>=◌}
use Rattle.posix_calls.specs.Walk.{Place, refuse, read_or_error, entries_at, size_at, size_seen, names_at, kind_at, prefix, is_root, is_there, leads_to, there, is_full}
use Rattle.posix_calls.specs.declared.limits.TheConstants.{MAX_DESCRIPTORS, MAX_FILE, MAX_NAMES, MAX_TRANSFER}
use Rattle.posix_calls.specs.declared.errno.Errno.TheVariants as errno
use Rattle.posix_calls.specs.declared.call.Flags.{Flags}
use Rattle.posix_calls.specs.declared.call.Call.{Call}
use Rattle.posix_calls.specs.declared.call.Call.TheVariants as call
use Rattle.posix_calls.specs.declared.call.Reply.TheVariants as reply
use Rattle.posix_calls.specs.declared.operation.Operation.{Operation}
use Rattle.posix_calls.specs.declared.operation.Operation.TheVariants.{Tell, NewDir, NewFile, OpenFile, CloseFile, Write, Resize, RemoveDir, AddName, DropName, Move, Exchange}
use Rattle.posix_calls.specs.declared.operation.Replaced.{Replaced}
use Rattle.posix_calls.specs.declared.operation.Replaced.TheVariants.{Nothing, OldFile, OldDir}

-- ---- descriptors

-- the inode that is open, where the descriptor passes
abbrev pub open_inode : (Descriptor → Bool) → Option Descriptor → Query ℕ
open_inode test None = Refuses errno.BadDescriptor
open_inode test (Some d) = if test d then Gives d.inode else Refuses errno.BadDescriptor

-- the lowest of this number of numbers from n on at which nothing is open
abbrev pub lowest_free : Own → ℕ → ℕ → Option ℕ
lowest_free own n zero = None
lowest_free own n (suc many) = elim (own n) [ None ↦ Some n | Some d ↦ lowest_free own (n + 1) many ]

-- the number, or an error where none is free
abbrev pub number_or : Option ℕ → Query ℕ
number_or None = Refuses errno.TooManyOpen
number_or (Some n) = Gives n

-- ---- open, close, pread, pwrite

-- whether flags ask for what makes no sense
abbrev pub is_senseless : Flags → Bool
is_senseless f = (f.truncate && not f.write) || (f.exclusive && not f.create) || (not f.read && not f.write)

-- whether there are bytes to take away
abbrev pub empties : Bool → ℕ → Query Bool
empties false i = Gives false
empties true i = Look i (λ s. Gives (nat_lt 0 (size_seen s)))

-- what is there is opened, and what is not there is made
abbrev pub open_there : Place → ℕ → Flags → Option ℕ → Query Operation
open_there place number f (Some i) = do
  empty ← empties f.truncate i
  Gives (OpenFile i empty number f.read f.write)
open_there place number f None = do
  _ ← refuse errno.NoEntry (not f.create)
  _ ← refuse errno.NoSpace (is_full place)
  Gives (NewFile place.location number f.read f.write)

-- what follows once the path is read
abbrev pub open_at : Own → List (List ℕ) → Flags → Query Operation
open_at own names f = do
  _ ← refuse errno.Invalid (is_senseless f)
  number ← number_or (lowest_free own 0 MAX_DESCRIPTORS)
  place ← prefix names
  _ ← refuse errno.Exists (f.create && f.exclusive && is_there place.inode)
  is_dir ← kind_at place.inode
  _ ← refuse errno.IsDirectory is_dir
  open_there place number f place.inode

-- a file is opened, and made first where it is not there and the flags say so
unfoldable pub open_path : Own → List ℕ → Flags → Query Operation
open_path own path f = do
  names ← read_or_error (path_names path)
  open_at own names f

-- a number is given back
unfoldable pub close : Own → ℕ → Query Operation
close own number = do
  i ← open_inode (λ d. true) (own number)
  Gives (CloseFile i number)

-- this number of bytes of a file from at on, which are there; none are asked for where there are none
abbrev pub bytes_from : ℕ → ℕ → ℕ → Query (List ℕ)
bytes_from i at zero = Gives []
bytes_from i at (suc count) = Range i at (suc count) (λ bytes. Gives bytes)

-- the bytes present, up to as many as asked; none at or past the end
unfoldable pub pread : Own → ℕ → ℕ → ℕ → Query Operation
pread own number at count = do
  i ← open_inode (λ d. d.reads) (own number)
  _ ← refuse errno.Invalid (nat_lt MAX_TRANSFER count)
  size ← size_at i
  bytes ← bytes_from i at (min count (size - at))
  Gives (Tell (reply.Read bytes))

-- no bytes are written at once, and change nothing
abbrev pub write_at : ℕ → ℕ → List ℕ → Query Operation
write_at i at [] = Gives (Tell (reply.Wrote 0))
write_at i at (b ∷ bytes) = do
  _ ← refuse errno.FileTooBig (nat_lt MAX_FILE (at + length (b ∷ bytes)))
  Gives (Write i at (b ∷ bytes))

-- bytes are put at an offset
unfoldable pub pwrite : Own → ℕ → ℕ → List ℕ → Query Operation
pwrite own number at bytes = do
  i ← open_inode (λ d. d.writes) (own number)
  _ ← refuse errno.Invalid (nat_lt MAX_TRANSFER (length bytes))
  write_at i at bytes

-- ---- truncate, mkdir, rmdir, link, unlink

-- a file is cut or grown to a length; where it has that already nothing changes
unfoldable pub truncate : List ℕ → ℕ → Query Operation
truncate path len = do
  names ← read_or_error (path_names path)
  place ← prefix names
  i ← there place.inode
  is_dir ← kind_at place.inode
  _ ← refuse errno.IsDirectory is_dir
  _ ← refuse errno.FileTooBig (nat_lt MAX_FILE len)
  size ← size_at i
  Gives (if size == len then Tell reply.Done else Resize i len)

-- an empty directory is made
unfoldable pub mkdir : List ℕ → Query Operation
mkdir path = do
  names ← read_or_error (path_names path)
  place ← prefix names
  _ ← refuse errno.Exists (is_there place.inode)
  _ ← refuse errno.NoSpace (is_full place)
  Gives (NewDir place.location)

-- what follows once the path is read
abbrev pub rmdir_at : List (List ℕ) → Query Operation
rmdir_at names = do
  _ ← refuse errno.Busy (is_root names)
  place ← prefix names
  i ← there place.inode
  is_dir ← kind_at place.inode
  _ ← refuse errno.NotDirectory (not is_dir)
  entries ← entries_at i
  _ ← refuse errno.NotEmpty (nat_lt 0 (fin.len entries))
  Gives (RemoveDir place.location i)

-- an empty directory goes
unfoldable pub rmdir : List ℕ → Query Operation
rmdir path = do
  names ← read_or_error (path_names path)
  rmdir_at names

-- what follows once both paths are read
abbrev pub link_at : List (List ℕ) → List (List ℕ) → Query Operation
link_at old_names new_names = do
  from ← prefix old_names
  i ← there from.inode
  is_dir ← kind_at from.inode
  _ ← refuse errno.NotPermitted is_dir
  to ← prefix new_names
  _ ← refuse errno.Exists (is_there to.inode)
  names ← names_at i
  _ ← refuse errno.TooManyLinks (nat_le MAX_NAMES names)
  _ ← refuse errno.NoSpace (is_full to)
  Gives (AddName to.location i)

-- a file has one more name
unfoldable pub link : List ℕ → List ℕ → Query Operation
link old new = do
  old_names ← read_or_error (path_names old)
  new_names ← read_or_error (path_names new)
  link_at old_names new_names

-- what follows once the path is read
abbrev pub unlink_at : List (List ℕ) → Query Operation
unlink_at names = do
  _ ← refuse errno.Busy (is_root names)
  place ← prefix names
  i ← there place.inode
  is_dir ← kind_at place.inode
  _ ← refuse errno.NotPermitted is_dir
  Gives (DropName place.location i)

-- a file has one name fewer
unfoldable pub unlink : List ℕ → Query Operation
unlink path = do
  names ← read_or_error (path_names path)
  unlink_at names

-- ---- rename

-- a directory is replaced if it is empty
abbrev pub replacing_dir : ℕ → Query Replaced
replacing_dir j = do
  entries ← entries_at j
  _ ← refuse errno.NotEmpty (nat_lt 0 (fin.len entries))
  Gives (OldDir j)

-- what is at the new name is replaced if it is of the old one's kind; a name in another directory needs room
abbrev pub replaced_at : Place → Place → Bool → Option ℕ → Query Replaced
replaced_at from to old_dir None = do
  _ ← refuse errno.NoSpace (not (from.location.parent == to.location.parent) && is_full to)
  Gives Nothing
replaced_at from to old_dir (Some j) = do
  new_dir ← kind_at (Some j)
  _ ← refuse errno.NotDirectory (old_dir && not new_dir)
  _ ← refuse errno.IsDirectory (not old_dir && new_dir)
  if new_dir then replacing_dir j else Gives (OldFile j)

-- the name moves
abbrev pub rename_to : Place → Place → ℕ → Query Operation
rename_to from to i = do
  old_dir ← kind_at from.inode
  replaced ← replaced_at from to old_dir to.inode
  Gives (Move from.location to.location i old_dir replaced)

-- what follows once both paths are read
abbrev pub rename_at : List (List ℕ) → List (List ℕ) → Query Operation
rename_at old_names new_names = do
  _ ← refuse errno.Busy (is_root old_names || is_root new_names)
  from ← prefix old_names
  i ← there from.inode
  to ← prefix new_names
  _ ← refuse errno.Invalid (list_any (λ d. d == i) to.walked)
  if leads_to i to.inode then Gives (Tell reply.Done) else rename_to from to i

-- a name moves, in place of what was there; between two names of one node nothing changes
unfoldable pub rename : List ℕ → List ℕ → Query Operation
rename old new = do
  old_names ← read_or_error (path_names old)
  new_names ← read_or_error (path_names new)
  rename_at old_names new_names

-- ---- exchange

-- the two names change nodes, unless one of these is a directory on the other's prefix
abbrev pub exchange_apart : Place → Place → ℕ → ℕ → Query Operation
exchange_apart one two i j = do
  _ ← refuse errno.Invalid (list_any (λ d. d == j) one.walked || list_any (λ d. d == i) two.walked)
  Gives (Exchange one.location two.location i j)

-- what follows once both paths are read
abbrev pub exchange_at : List (List ℕ) → List (List ℕ) → Query Operation
exchange_at first_names second_names = do
  _ ← refuse errno.Busy (is_root first_names || is_root second_names)
  one ← prefix first_names
  i ← there one.inode
  two ← prefix second_names
  j ← there two.inode
  if i == j then Gives (Tell reply.Done) else exchange_apart one two i j

-- two names change what they lead to; between two names of one node nothing changes
unfoldable pub exchange : List ℕ → List ℕ → Query Operation
exchange first second = do
  first_names ← read_or_error (path_names first)
  second_names ← read_or_error (path_names second)
  exchange_at first_names second_names

-- ---- list, stat

-- what follows once the path is read
abbrev pub list_at : List (List ℕ) → Query Operation
list_at names = do
  place ← prefix names
  i ← there place.inode
  is_dir ← kind_at place.inode
  _ ← refuse errno.NotDirectory (not is_dir)
  entries ← entries_at i
  Gives (Tell (reply.Listed (map (λ e. e.0) (fin.entries entries))))

-- all names in a directory, in the order of their bytes
unfoldable pub list_path : List ℕ → Query Operation
list_path path = do
  names ← read_or_error (path_names path)
  list_at names

-- what there is to say of a node
abbrev pub node_description : Option Seen → Query Operation
node_description None = Refuses errno.NoEntry
node_description (Some (File names size)) = Gives (Tell (reply.File size names))
node_description (Some (Dir entries)) = Gives (Tell (reply.Dir (fin.len entries)))

-- what is at a path
unfoldable pub stat : List ℕ → Query Operation
stat path = do
  names ← read_or_error (path_names path)
  place ← prefix names
  i ← there place.inode
  Look i node_description

-- what a call of a client with these descriptors asks, and its outcome
abbrev pub decide : Own → Call → Query Operation
decide own (call.Open path flags) = open_path own path flags
decide own (call.Close number) = close own number
decide own (call.Pread number at count) = pread own number at count
decide own (call.Pwrite number at bytes) = pwrite own number at bytes
decide own (call.Truncate path len) = truncate path len
decide own (call.Mkdir path) = mkdir path
decide own (call.Rmdir path) = rmdir path
decide own (call.Link old new) = link old new
decide own (call.Unlink path) = unlink path
decide own (call.Rename old new) = rename old new
decide own (call.Exchange first second) = exchange first second
decide own (call.List path) = list_path path
decide own (call.Stat path) = stat path
