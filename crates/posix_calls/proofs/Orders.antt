-- Which of two errors comes first, where both hold.
use Rattle.std.proofs.Common.{◌≡◌, ℕ, ◌+◌, [], ◌∷◌, List, Bool, true, false, refl, Some, None, Option, Ok, Err, length, replicate, cond, ◌==◌, ◌||◌}
use Rattle.std.specs.Prelude.{codes, nat_lt}
use Rattle.std.specs.FinMap as fin
use Rattle.posix_calls.specs.Content.{Entries}
use Rattle.posix_calls.specs.declared.errno.Errno.TheVariants as errno
use Rattle.posix_calls.specs.declared.call.Reply.TheVariants as reply
use Rattle.posix_calls.specs.declared.limits.TheConstants.{MAX_FILE}
use Rattle.posix_calls.specs.Query.{View, Seen, File, Dir, run}
use Rattle.posix_calls.specs.Walk.{walk}
use Rattle.posix_calls.specs.Decide.{open_path, pwrite, truncate, mkdir, link, rename, stat}
use Rattle.posix_calls.specs.declared.operation.Operation.TheVariants.{Tell, NewFile, Move}
use Rattle.posix_calls.specs.declared.operation.Replaced.TheVariants.{Nothing, OldFile}
use Rattle.posix_calls.proofs.Answers.{runs}
use Rattle.posix_calls.proofs.Rows.{one_of, closed, full, reading, writing, r, rt, rc}

-- a path with a name of 65 letters
too_long : List ℕ
too_long = 47 ∷ replicate 65 110

-- directories / (1) and /a (2), the empty /e (3), and the file /f (4) with 1,000 names
module _ (in_a : Entries ℕ) where
  is_dir : ℕ → Option Bool
  is_dir i = cond (i == 4 || i == 5) (Some false) (Some true)

  nodes : ℕ → Option Seen
  nodes i = cond (i == 1) (Some (Dir (fin.insert (fin.insert (fin.insert (one_of (codes "a") 2) (codes "e") 3) (codes "f") 4) (codes "g") 2))) (cond (i == 2) (Some (Dir in_a)) (cond (i == 3) (Some (Dir fin.empty)) (Some (File 1000 0))))

  crowded : View
  crowded = record { is_dir = is_dir; node = nodes; bytes = λ i at count. [] }

  -- ---- open

  open_path_first : run crowded (open_path full too_long rt) ≡ Err errno.NameTooLong
  unfolding open_path too_long r rt full
  open_path_first = simp runs refl

  open_not_there_before_full : fin.len in_a ≡ 3584 → fin.get in_a (codes "x") ≡ None → run crowded (open_path closed (codes "/a/x") r) ≡ Err errno.NoEntry
  unfolding open_path walk crowded nodes is_dir one_of closed r
  open_not_there_before_full many none = simp (runs, fin.gets, many, none) refl

  open_full : fin.len in_a ≡ 3584 → fin.get in_a (codes "x") ≡ None → run crowded (open_path closed (codes "/a/x") rc) ≡ Err errno.NoSpace
  unfolding open_path walk crowded nodes is_dir one_of closed r rc
  open_full many none = simp (runs, fin.gets, many, none) refl

  open_last : fin.len in_a ≡ 3583 → fin.get in_a (codes "x") ≡ None → run crowded (open_path closed (codes "/a/x") rc) ≡ Ok (NewFile (record { parent = 2; name = codes "x" }) 0 true false)
  unfolding open_path walk crowded nodes is_dir one_of closed r rc
  open_last many none = simp (runs, fin.gets, many, none) refl

  -- ---- pwrite, truncate, mkdir

  pwrite_number_first : (at : ℕ) (bytes : List ℕ) → run crowded (pwrite reading 0 at bytes) ≡ Err errno.BadDescriptor
  unfolding pwrite reading closed
  pwrite_number_first at bytes = simp runs refl

  pwrite_count_before_size : (at : ℕ) (bytes : List ℕ) → nat_lt 65536 (length bytes) ≡ true → run crowded (pwrite writing 0 at bytes) ≡ Err errno.Invalid
  unfolding pwrite writing closed
  pwrite_count_before_size at bytes long = simp (runs, long) refl

  truncate_path_before_size : run crowded (truncate too_long (MAX_FILE + 1)) ≡ Err errno.NameTooLong
  unfolding truncate too_long
  truncate_path_before_size = simp runs refl

  truncate_not_there_before_size : run crowded (truncate (codes "/n") (MAX_FILE + 1)) ≡ Err errno.NoEntry
  unfolding truncate walk crowded nodes is_dir one_of
  truncate_not_there_before_size = simp (runs, fin.gets) refl

  mkdir_taken_before_full : fin.len in_a ≡ 3584 → fin.get in_a (codes "x") ≡ Some 9 → run crowded (mkdir (codes "/a/x")) ≡ Err errno.Exists
  unfolding mkdir walk crowded nodes is_dir one_of
  mkdir_taken_before_full many taken = simp (runs, fin.gets, many, taken) refl

  mkdir_full : fin.len in_a ≡ 3584 → fin.get in_a (codes "x") ≡ None → run crowded (mkdir (codes "/a/x")) ≡ Err errno.NoSpace
  unfolding mkdir walk crowded nodes is_dir one_of
  mkdir_full many none = simp (runs, fin.gets, many, none) refl

  -- ---- link

  link_old_path_first : run crowded (link too_long (codes "x")) ≡ Err errno.NameTooLong
  unfolding link too_long
  link_old_path_first = simp runs refl

  link_not_there_before_new : run crowded (link (codes "/n") (codes "/f/x")) ≡ Err errno.NoEntry
  unfolding link walk crowded nodes is_dir one_of
  link_not_there_before_new = simp (runs, fin.gets) refl

  link_taken_before_names : run crowded (link (codes "/f") (codes "/e")) ≡ Err errno.Exists
  unfolding link walk crowded nodes is_dir one_of
  link_taken_before_names = simp (runs, fin.gets) refl

  link_names_before_full : fin.len in_a ≡ 3584 → fin.get in_a (codes "x") ≡ None → run crowded (link (codes "/f") (codes "/a/x")) ≡ Err errno.TooManyLinks
  unfolding link walk crowded nodes is_dir one_of
  link_names_before_full many none = simp (runs, fin.gets, none) refl

  -- ---- rename

  rename_old_path_first : run crowded (rename too_long (codes "x")) ≡ Err errno.NameTooLong
  unfolding rename too_long
  rename_old_path_first = simp runs refl

  rename_paths_before_root : run crowded (rename (codes "/") too_long) ≡ Err errno.NameTooLong
  unfolding rename too_long
  rename_paths_before_root = simp runs refl

  rename_not_there_before_new : run crowded (rename (codes "/n") (codes "/f/x")) ≡ Err errno.NoEntry
  unfolding rename walk crowded nodes is_dir one_of
  rename_not_there_before_new = simp (runs, fin.gets) refl

  rename_new_prefix_before_under : fin.get in_a (codes "n") ≡ None → run crowded (rename (codes "/a") (codes "/a/n/x")) ≡ Err errno.NoEntry
  unfolding rename walk crowded nodes is_dir one_of
  rename_new_prefix_before_under none = simp (runs, fin.gets, none) refl

  rename_full : fin.len in_a ≡ 3584 → fin.get in_a (codes "x") ≡ None → run crowded (rename (codes "/e") (codes "/a/x")) ≡ Err errno.NoSpace
  unfolding rename walk crowded nodes is_dir one_of
  rename_full many none = simp (runs, fin.gets, many, none) refl

  -- a name that is there, or one in the same directory, takes no room
  rename_onto_in_full : fin.len in_a ≡ 3584 → fin.get in_a (codes "x") ≡ Some 5 → run crowded (rename (codes "/f") (codes "/a/x")) ≡ Ok (Move (record { parent = 1; name = codes "f" }) (record { parent = 2; name = codes "x" }) 4 false (OldFile 5))
  unfolding rename walk crowded nodes is_dir one_of
  rename_onto_in_full many there = simp (runs, fin.gets, there) refl

  rename_within_full : fin.len in_a ≡ 3584 → fin.get in_a (codes "y") ≡ Some 4 → fin.get in_a (codes "x") ≡ None → run crowded (rename (codes "/a/y") (codes "/a/x")) ≡ Ok (Move (record { parent = 2; name = codes "y" }) (record { parent = 2; name = codes "x" }) 4 false Nothing)
  unfolding rename walk crowded nodes is_dir one_of
  rename_within_full many old new = simp (runs, fin.gets, many, old, new) refl

  -- ---- stat

  stat_file : run crowded (stat (codes "/f")) ≡ Ok (Tell (reply.File 0 1000))
  unfolding stat walk crowded nodes is_dir one_of
  stat_file = simp (runs, fin.gets) refl
