-- Calls on the root are refused by whoever knows that it is a directory.
use Rattle.std.proofs.Common.{◌≡◌, ℕ, List, [], true, false, Some, Ok, Err, cond, Bool}
use Rattle.std.specs.Prelude.{◌&&◌}
use Rattle.posix_calls.specs.Path.{path_names}
use Rattle.posix_calls.specs.Tree.{Own}
use Rattle.posix_calls.specs.declared.errno.Errno.TheVariants as errno
use Rattle.posix_calls.specs.declared.call.Flags.{Flags}
use Rattle.posix_calls.specs.Query.{◌>>=◌}
use Rattle.posix_calls.specs.Part.{Part, Known, run_part}
use Rattle.posix_calls.specs.Walk.{is_root, walk}
use Rattle.posix_calls.specs.Decide.{is_senseless, lowest_free, open_path, truncate, mkdir, rmdir, link, unlink, rename, exchange}
use Rattle.call_effects.proofs.KnownKinds.{or_true}

module _ (p : Part) where
  pub root_mkdir : (path : List ℕ) → path_names path ≡ Ok [] → run_part p (mkdir path) ≡ Known (Err errno.Exists)
  unfolding mkdir run_part ◌>>=◌ walk
  root_mkdir path e = rw e

  pub root_rmdir : (path : List ℕ) → path_names path ≡ Ok [] → run_part p (rmdir path) ≡ Known (Err errno.Busy)
  unfolding rmdir run_part ◌>>=◌ walk
  root_rmdir path e = rw e

  pub root_unlink : (path : List ℕ) → path_names path ≡ Ok [] → run_part p (unlink path) ≡ Known (Err errno.Busy)
  unfolding unlink run_part ◌>>=◌ walk
  root_unlink path e = rw e

  pub root_rename_from : (old new : List ℕ) (names : List (List ℕ)) → path_names old ≡ Ok [] → path_names new ≡ Ok names → run_part p (rename old new) ≡ Known (Err errno.Busy)
  unfolding rename run_part ◌>>=◌ walk
  root_rename_from old new names e f = rw (e, f)

  pub root_truncate : (path : List ℕ) (len : ℕ) → p.is_dir 1 ≡ Some (Some true) → path_names path ≡ Ok [] → run_part p (truncate path len) ≡ Known (Err errno.IsDirectory)
  unfolding truncate run_part ◌>>=◌ walk
  root_truncate path len root e = rw (e, root)

  pub root_link : (old new : List ℕ) (names : List (List ℕ)) → p.is_dir 1 ≡ Some (Some true) → path_names old ≡ Ok [] → path_names new ≡ Ok names → run_part p (link old new) ≡ Known (Err errno.NotPermitted)
  unfolding link run_part ◌>>=◌ walk
  root_link old new names root e f = rw (e, f, root)

  pub root_rename_to : (old new : List ℕ) (names : List (List ℕ)) → path_names old ≡ Ok names → path_names new ≡ Ok [] → run_part p (rename old new) ≡ Known (Err errno.Busy)
  unfolding rename run_part ◌>>=◌ walk
  root_rename_to old new names e f = rw (e, f, or_true (is_root names))

  pub root_exchange_first : (first second : List ℕ) (names : List (List ℕ)) → path_names first ≡ Ok [] → path_names second ≡ Ok names → run_part p (exchange first second) ≡ Known (Err errno.Busy)
  unfolding exchange run_part ◌>>=◌ walk
  root_exchange_first first second names e f = rw (e, f)

  pub root_exchange_second : (first second : List ℕ) (names : List (List ℕ)) → path_names first ≡ Ok names → path_names second ≡ Ok [] → run_part p (exchange first second) ≡ Known (Err errno.Busy)
  unfolding exchange run_part ◌>>=◌ walk
  root_exchange_second first second names e f = rw (e, f, or_true (is_root names))

  flags : Bool → Bool → Bool → Bool → Bool → Flags
  flags read write create exclusive truncate = record { read = read; write = write; create = create; exclusive = exclusive; truncate = truncate }

  open_by : (own : Own) (path : List ℕ) (read write create exclusive truncate : Bool) (n : ℕ) → p.is_dir 1 ≡ Some (Some true) → path_names path ≡ Ok [] → is_senseless (flags read write create exclusive truncate) ≡ false → lowest_free own 0 32 ≡ Some n
      → run_part p (open_path own path (flags read write create exclusive truncate)) ≡ Known (Err (cond (create && exclusive) errno.Exists errno.IsDirectory))
  unfolding open_path run_part ◌>>=◌ walk flags
  open_by own path read write true true truncate n root e sense free = rw (e, sense, free)
  open_by own path read write true false truncate n root e sense free = rw (e, sense, free, root)
  open_by own path read write false true truncate n root e sense free = rw (e, sense, free, root)
  open_by own path read write false false truncate n root e sense free = rw (e, sense, free, root)

  pub root_open : (own : Own) (path : List ℕ) (f : Flags) (n : ℕ) → p.is_dir 1 ≡ Some (Some true) → path_names path ≡ Ok [] → is_senseless f ≡ false → lowest_free own 0 32 ≡ Some n → run_part p (open_path own path f) ≡ Known (Err (cond (f.create && f.exclusive) errno.Exists errno.IsDirectory))
  unfolding flags
  root_open own path f n root e sense free = open_by own path f.read f.write f.create f.exclusive f.truncate n root e sense free
