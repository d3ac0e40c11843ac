-- Calls on small trees, computed by the definitions: what each comes to, and in which order its errors are tested.
use Rattle.std.proofs.Common.{◌≡◌, ℕ, ◌+◌, ◌-◌, [], ◌∷◌, List, true, false, refl, Some, None, Ok, Err}
use Rattle.std.specs.Prelude.{codes}
use Rattle.std.specs.FinMap as fin
use Rattle.posix_calls.specs.Content.{Entries}
use Rattle.posix_calls.specs.Tree.{Tree, Own, set_node, set_own}
use Rattle.posix_calls.specs.EmptyTree.{empty_tree}
use Rattle.posix_calls.specs.Tree as N
use Rattle.posix_calls.specs.declared.errno.Errno.TheVariants as errno
use Rattle.posix_calls.specs.declared.call.Flags.{Flags}
use Rattle.posix_calls.specs.declared.call.Reply.TheVariants as reply
use Rattle.posix_calls.specs.declared.limits.TheConstants.{MAX_FILE}
use Rattle.posix_calls.specs.Query.{run, view_of}
use Rattle.posix_calls.specs.Walk.{walk}
use Rattle.posix_calls.specs.Decide.{open_path, close, pread, pwrite, truncate, mkdir, rmdir, link, unlink, rename, exchange, list_path, stat}
use Rattle.posix_calls.specs.declared.operation.Operation.TheVariants.{Tell, NewDir, NewFile, CloseFile, Write, RemoveDir, DropName, Move, Exchange}
use Rattle.posix_calls.specs.declared.operation.Replaced.TheVariants.{Nothing}
use Rattle.posix_calls.proofs.Answers.{runs}
use Rattle.posix_calls.proofs.Directory.{lists}

unfoldable pub one_of : List ℕ → ℕ → Entries ℕ
one_of name i = fin.insert fin.empty name i

-- directories /a (2), /a/b (3) and /e (4), and the file /a/f (5)
small : Tree
small = set_node (set_node (set_node (set_node (set_node empty_tree 1 (Some (N.Dir (fin.insert (one_of (codes "a") 2) (codes "e") 4)))) 2 (Some (N.Dir (fin.insert (one_of (codes "b") 3) (codes "f") 5)))) 3 (Some (N.Dir fin.empty))) 4 (Some (N.Dir fin.empty))) 5 (Some (N.File (97 ∷ 98 ∷ 99 ∷ [])))

-- nothing is open
unfoldable pub closed : Own
closed n = None

-- file 5 is open at number 0, for reading or for writing
unfoldable pub reading : Own
reading = set_own closed 0 (Some (record { inode = 5; reads = true; writes = false }))

unfoldable pub writing : Own
writing = set_own closed 0 (Some (record { inode = 5; reads = false; writes = true }))

-- all numbers are in use
unfoldable pub full : Own
full n = Some (record { inode = 5; reads = true; writes = true })

-- ---- open: paths, flags, numbers, prefix, taken, directory, not there

unfoldable pub r : Flags
r = record { read = true; write = false; create = false; exclusive = false; truncate = false }

unfoldable pub rt : Flags
rt = record r { truncate = true }

unfoldable pub rc : Flags
rc = record r { create = true }

rcx : Flags
rcx = record rc { exclusive = true }

open_flags_before_number : run (view_of small) (open_path full (codes "/f") rt) ≡ Err errno.Invalid
unfolding open_path walk small full rt r
open_flags_before_number = simp runs refl

open_number_before_prefix : run (view_of small) (open_path full (codes "/n/f") r) ≡ Err errno.TooManyOpen
unfolding open_path walk small full r
open_number_before_prefix = simp runs refl

open_prefix : run (view_of small) (open_path closed (codes "/a/f/x") r) ≡ Err errno.NotDirectory
unfolding open_path walk small one_of closed r
open_prefix = simp (runs, fin.gets) refl

open_taken_before_directory : run (view_of small) (open_path closed (codes "/") rcx) ≡ Err errno.Exists
unfolding open_path walk small one_of closed r rc rcx
open_taken_before_directory = simp runs refl

open_directory : run (view_of small) (open_path closed (codes "/") r) ≡ Err errno.IsDirectory
unfolding open_path walk small one_of closed r
open_directory = simp runs refl

open_not_there : run (view_of small) (open_path closed (codes "/a/x") r) ≡ Err errno.NoEntry
unfolding open_path walk small one_of closed r
open_not_there = simp (runs, fin.gets) refl

open_makes : run (view_of small) (open_path reading (codes "/a/x") rc) ≡ Ok (NewFile (record { parent = 2; name = codes "x" }) 1 true false)
unfolding open_path walk small one_of closed reading r rc
open_makes = simp (runs, fin.gets) refl

-- ---- close, pread, pwrite

close_closed : run (view_of small) (close reading 1) ≡ Err errno.BadDescriptor
unfolding close small closed reading
close_closed = simp runs refl

close_open : run (view_of small) (close reading 0) ≡ Ok (CloseFile 5 0)
unfolding close small closed reading
close_open = simp runs refl

pread_not_for_reading : run (view_of small) (pread writing 0 0 65537) ≡ Err errno.BadDescriptor
unfolding pread small closed writing
pread_not_for_reading = simp runs refl

pread_too_much : run (view_of small) (pread reading 0 0 65537) ≡ Err errno.Invalid
unfolding pread small closed reading
pread_too_much = simp runs refl

pread_to_the_end : run (view_of small) (pread reading 0 1 65536) ≡ Ok (Tell (reply.Read (98 ∷ 99 ∷ [])))
unfolding pread small one_of closed reading
pread_to_the_end = simp runs refl

pwrite_not_for_writing : run (view_of small) (pwrite reading 0 (MAX_FILE + 1) []) ≡ Err errno.BadDescriptor
unfolding pwrite small closed reading
pwrite_not_for_writing = simp runs refl

pwrite_nothing : run (view_of small) (pwrite writing 0 (MAX_FILE + 1) []) ≡ Ok (Tell (reply.Wrote 0))
unfolding pwrite small closed writing
pwrite_nothing = simp runs refl

pwrite_last_byte : run (view_of small) (pwrite writing 0 (MAX_FILE - 1) (97 ∷ [])) ≡ Ok (Write 5 (MAX_FILE - 1) (97 ∷ []))
unfolding pwrite small closed writing
pwrite_last_byte = simp runs refl

pwrite_too_big : run (view_of small) (pwrite writing 0 MAX_FILE (97 ∷ [])) ≡ Err errno.FileTooBig
unfolding pwrite small closed writing
pwrite_too_big = simp runs refl

-- ---- truncate, mkdir, rmdir, link, unlink

truncate_directory_first : run (view_of small) (truncate (codes "/") (MAX_FILE + 1)) ≡ Err errno.IsDirectory
unfolding truncate walk small one_of
truncate_directory_first = simp runs refl

truncate_too_big : run (view_of small) (truncate (codes "/a/f") (MAX_FILE + 1)) ≡ Err errno.FileTooBig
unfolding truncate walk small one_of
truncate_too_big = simp (runs, fin.gets) refl

truncate_same : run (view_of small) (truncate (codes "/a/f") 3) ≡ Ok (Tell reply.Done)
unfolding truncate walk small one_of
truncate_same = simp (runs, fin.gets) refl

mkdir_root : run (view_of small) (mkdir (codes "/")) ≡ Err errno.Exists
unfolding mkdir walk small one_of
mkdir_root = simp runs refl

mkdir_in_nothing : run (view_of small) (mkdir (codes "/n/x")) ≡ Err errno.NoEntry
unfolding mkdir walk small one_of
mkdir_in_nothing = simp (runs, fin.gets) refl

mkdir_makes : run (view_of empty_tree) (mkdir (codes "/a")) ≡ Ok (NewDir (record { parent = 1; name = codes "a" }))
unfolding mkdir walk
mkdir_makes = simp (runs, fin.gets) refl

rmdir_root : run (view_of small) (rmdir (codes "/")) ≡ Err errno.Busy
unfolding rmdir walk small one_of
rmdir_root = simp runs refl

rmdir_file : run (view_of small) (rmdir (codes "/a/f")) ≡ Err errno.NotDirectory
unfolding rmdir walk small one_of
rmdir_file = simp (runs, fin.gets) refl

rmdir_full : run (view_of small) (rmdir (codes "/a")) ≡ Err errno.NotEmpty
unfolding rmdir walk small one_of
rmdir_full = simp (runs, fin.gets) refl

rmdir_empty : run (view_of small) (rmdir (codes "/e")) ≡ Ok (RemoveDir (record { parent = 1; name = codes "e" }) 4)
unfolding rmdir walk small one_of
rmdir_empty = simp (runs, fin.gets) refl

link_directory_before_new : run (view_of small) (link (codes "/") (codes "/n/x")) ≡ Err errno.NotPermitted
unfolding link walk small one_of
link_directory_before_new = simp runs refl

link_paths_first : run (view_of small) (link (codes "/n/x") (codes "x")) ≡ Err errno.Invalid
unfolding link walk small one_of
link_paths_first = simp runs refl

link_onto_root : run (view_of small) (link (codes "/a/f") (codes "/")) ≡ Err errno.Exists
unfolding link walk small one_of
link_onto_root = simp (runs, fin.gets) refl

unlink_root : run (view_of small) (unlink (codes "/")) ≡ Err errno.Busy
unfolding unlink walk small one_of
unlink_root = simp runs refl

unlink_directory : run (view_of small) (unlink (codes "/e")) ≡ Err errno.NotPermitted
unfolding unlink walk small one_of
unlink_directory = simp (runs, fin.gets) refl

unlink_file : run (view_of small) (unlink (codes "/a/f")) ≡ Ok (DropName (record { parent = 2; name = codes "f" }) 5)
unfolding unlink walk small one_of
unlink_file = simp (runs, fin.gets) refl

-- ---- rename

rename_root_before_prefix : run (view_of small) (rename (codes "/n/x") (codes "/")) ≡ Err errno.Busy
unfolding rename walk small one_of
rename_root_before_prefix = simp runs refl

rename_into_itself : run (view_of small) (rename (codes "/a") (codes "/a/b/c")) ≡ Err errno.Invalid
unfolding rename walk small one_of
rename_into_itself = simp (runs, fin.gets) refl

rename_same : run (view_of small) (rename (codes "/a") (codes "/a")) ≡ Ok (Tell reply.Done)
unfolding rename walk small one_of
rename_same = simp (runs, fin.gets) refl

rename_directory_onto_file : run (view_of small) (rename (codes "/a/b") (codes "/a/f")) ≡ Err errno.NotDirectory
unfolding rename walk small one_of
rename_directory_onto_file = simp (runs, fin.gets) refl

rename_file_onto_directory : run (view_of small) (rename (codes "/a/f") (codes "/a")) ≡ Err errno.IsDirectory
unfolding rename walk small one_of
rename_file_onto_directory = simp (runs, fin.gets) refl

rename_onto_full : run (view_of small) (rename (codes "/e") (codes "/a")) ≡ Err errno.NotEmpty
unfolding rename walk small one_of
rename_onto_full = simp (runs, fin.gets) refl

rename_onto_parent : run (view_of small) (rename (codes "/a/b") (codes "/a")) ≡ Err errno.NotEmpty
unfolding rename walk small one_of
rename_onto_parent = simp (runs, fin.gets) refl

rename_moves : run (view_of small) (rename (codes "/a/b") (codes "/g")) ≡ Ok (Move (record { parent = 2; name = codes "b" }) (record { parent = 1; name = codes "g" }) 3 true Nothing)
unfolding rename walk small one_of
rename_moves = simp (runs, fin.gets) refl

-- ---- exchange

exchange_root_before_prefix : run (view_of small) (exchange (codes "/n/x") (codes "/")) ≡ Err errno.Busy
unfolding exchange walk small one_of
exchange_root_before_prefix = simp runs refl

exchange_first_not_there_before_second_prefix : run (view_of small) (exchange (codes "/x") (codes "/a/f/x")) ≡ Err errno.NoEntry
unfolding exchange walk small one_of
exchange_first_not_there_before_second_prefix = simp (runs, fin.gets) refl

exchange_second_not_there_before_invalid : run (view_of small) (exchange (codes "/a") (codes "/a/b/c")) ≡ Err errno.NoEntry
unfolding exchange walk small one_of
exchange_second_not_there_before_invalid = simp (runs, fin.gets) refl

exchange_with_what_is_in_it : run (view_of small) (exchange (codes "/a") (codes "/a/b")) ≡ Err errno.Invalid
unfolding exchange walk small one_of
exchange_with_what_is_in_it = simp (runs, fin.gets) refl

exchange_with_what_it_is_in : run (view_of small) (exchange (codes "/a/b") (codes "/a")) ≡ Err errno.Invalid
unfolding exchange walk small one_of
exchange_with_what_it_is_in = simp (runs, fin.gets) refl

exchange_same : run (view_of small) (exchange (codes "/a") (codes "/a")) ≡ Ok (Tell reply.Done)
unfolding exchange walk small one_of
exchange_same = simp (runs, fin.gets) refl

exchange_file_with_directory : run (view_of small) (exchange (codes "/a/f") (codes "/e")) ≡ Ok (Exchange (record { parent = 2; name = codes "f" }) (record { parent = 1; name = codes "e" }) 5 4)
unfolding exchange walk small one_of
exchange_file_with_directory = simp (runs, fin.gets) refl

-- ---- list, stat

list_file : run (view_of small) (list_path (codes "/a/f")) ≡ Err errno.NotDirectory
unfolding list_path walk small one_of
list_file = simp (runs, fin.gets) refl

list_names : run (view_of small) (list_path (codes "/a")) ≡ Ok (Tell (reply.Listed (codes "b" ∷ codes "f" ∷ [])))
unfolding list_path walk small one_of
list_names = simp (runs, fin.gets, lists) refl

stat_nothing : run (view_of small) (stat (codes "/a/x")) ≡ Err errno.NoEntry
unfolding stat walk small one_of
stat_nothing = simp (runs, fin.gets) refl
