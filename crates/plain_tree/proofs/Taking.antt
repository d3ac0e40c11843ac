-- A call whose operation takes memory takes memory itself.
use Rattle.std.proofs.Common.{◌≡◌, ℕ, List, [], ◌∷◌, refl, Some, None, Option, Ok, Err, Result, ap, sym, ◌∙◌, subst, true, false, Bool, ◌==◌, cond, length, arith}
use Rattle.std.specs.Prelude.{◌&&◌, ◌||◌, not, is_none, nat_lt, option_map, if◌then◌else◌}
use Rattle.std.specs.Option.{option_or}
use Rattle.std.proofs.lemmas.Bool.Decides.{nat_tests}
use Rattle.posix_calls.specs.declared.errno.Errno.{Errno}
use Rattle.posix_calls.specs.declared.errno.Errno.TheVariants as errno
use Rattle.posix_calls.specs.declared.call.Flags.{Flags}
use Rattle.posix_calls.specs.declared.call.Call.{Call}
use Rattle.posix_calls.specs.declared.call.Call.TheVariants as call
use Rattle.posix_calls.specs.declared.descriptor.Descriptor.{Descriptor}
use Rattle.posix_calls.specs.declared.operation.Operation.{Operation}
use Rattle.posix_calls.specs.Tree.{State, Own}
use Rattle.posix_calls.specs.Path.{components, fault, first_fault, unless, reading_behind, reading_short, path_names}
use Rattle.posix_calls.specs.FirstName.{first_is_faultless, name_behind, name_first, comes_to_name}
use Rattle.posix_calls.specs.Query.{Seen, File, Dir, Gives, Refuses, View, run, view_of, dir_test}
use Rattle.posix_calls.specs.Part.{whole_part}
use Rattle.posix_calls.specs.Walk.{Place, read_or_error, prefix, is_root, is_there, is_true, kind_at, walk}
use Rattle.posix_calls.specs.Decide.{open_inode, node_description, write_at, open_path, close, pread, pwrite, truncate, mkdir, rmdir, link, unlink, rename, exchange, list_path, stat, decide}
use Rattle.posix_calls.specs.Memory.{writes_bytes, takes_memory}
use Rattle.posix_calls.specs.WellFormed.{IsWellFormed}
use Rattle.posix_calls.proofs.Comes.{bind_ok, no_bit, not_refused, given}
use Rattle.plain_tree.specs.Plain.{takes_room}

-- ---- paths that were read

module _ (names : List (List ℕ)) (named : is_root names ≡ false) where
  no_name : [] ≡ names → ⊥
  no_name same = let clash : true ≡ false = ap is_root same ∙ named in absurd (cc)

  first_read : (parts : List (List ℕ)) → unless (first_fault parts) parts ≡ Ok names → first_is_faultless parts ≡ true
  first_read [] e = absurd (no_name (let same : [] ≡ names = cc in same))
  first_read (part ∷ parts) e = by_fault (fault part) e where
    by_fault : (o : Option Errno) → unless (option_or o (first_fault parts)) (part ∷ parts) ≡ Ok names → is_none o ≡ true
    by_fault None e = refl
    by_fault (Some x) e = absurd (cc)

  behind_read : (bytes : List ℕ) → reading_behind bytes ≡ Ok names → name_behind bytes ≡ true
  behind_read [] e = absurd (no_name (let same : [] ≡ names = cc in same))
  behind_read (b ∷ bytes) e = first_read (components (b ∷ bytes)) e

  short_read : (bytes : List ℕ) → reading_short bytes ≡ Ok names → name_first bytes ≡ true
  short_read [] e = absurd (cc)
  short_read (b ∷ bytes) e = by_slash (b == 47) e where
    by_slash : (c : Bool) → (if c then reading_behind bytes else Err errno.Invalid) ≡ Ok names → (c && name_behind bytes) ≡ true
    by_slash true e = behind_read bytes e
    by_slash false e = absurd (cc)

  -- a path that was read, and is not that of the root, begins with a name
  pub name_read : (bytes : List ℕ) → path_names bytes ≡ Ok names → comes_to_name bytes ≡ true
  name_read bytes e = by_length (nat_lt 1024 (length bytes)) e where
    by_length : (c : Bool) → (if c then Err errno.NameTooLong else reading_short bytes) ≡ Ok names → (not c && name_first bytes) ≡ true
    by_length true e = absurd (cc)
    by_length false e = short_read bytes e

said_is : {A : Type 0} (v : View) (r : Result A Errno) (x : A) → run v (read_or_error r) ≡ Ok x → r ≡ Ok x
unfolding run
said_is v (Ok y) x e = cc
said_is v (Err y) x e = absurd (cc)

or_first : (a b : Bool) → a ≡ true → (a || b) ≡ true
or_first a b e = ap (λ z. z || b) e

-- the descriptor that passed
record IsOpen (test : Descriptor → Bool) (o : Option Descriptor) : Type 0 where
  it : Descriptor
  is : o ≡ Some it
  passes : test it ≡ true

open_is : (v : View) (test : Descriptor → Bool) (o : Option Descriptor) (i : ℕ) → run v (open_inode test o) ≡ Ok i → IsOpen test o
unfolding run
open_is v test None i e = absurd (cc)
open_is v test (Some d) i e = by_test (test d) refl e where
  by_test : (b : Bool) → test d ≡ b → run v (cond b (Gives d.inode) (Refuses errno.BadDescriptor)) ≡ Ok i → IsOpen test (Some d)
  by_test true passes e = record { it = d; is = refl; passes = passes }
  by_test false passes e = absurd (cc)

module _ (s : State) (fine : IsWellFormed s) where
  abbrev v : View
  v = view_of s.tree

  -- what is no directory, and what is not there, is not the root
  not_root : (names : List (List ℕ)) (place : Place) (b : Bool) → run v (prefix names) ≡ Ok place → run v (kind_at place.inode) ≡ Ok b → b ≡ false → is_root names ≡ false
  unfolding walk run
  not_root (name ∷ names) place b e asked no_dir = refl
  not_root [] place b e asked no_dir =
      let same = given v e in
      let known : run v (kind_at (Some 1)) ≡ Ok b = ap (λ (p : Place). run v (kind_at p.inode)) same ∙ asked in
      let told : is_true (option_map dir_test (s.tree 1)) ≡ b = cc in
      absurd (let clash : true ≡ false = sym (ap is_true fine.root) ∙ told ∙ no_dir in cc)

  unmade_root : (names : List (List ℕ)) (place : Place) → run v (prefix names) ≡ Ok place → is_there place.inode ≡ false → is_root names ≡ false
  unfolding walk
  unmade_root (name ∷ names) place e none = refl
  unmade_root [] place e none = absurd (let same = given v e in let clash : true ≡ false = ap (λ (p : Place). is_there p.inode) same ∙ none in cc)

  abbrev Takes : ℕ → Call → Type 0
  Takes client c = takes_memory (whole_part v) (s.descriptors client) c ≡ true

  -- ---- by a path

  open_takes : (client : ℕ) (path : List ℕ) (f : Flags) (operation : Operation) → run v (open_path (s.descriptors client) path f) ≡ Ok operation → comes_to_name path ≡ true
  unfolding open_path
  open_takes client path f operation e =
      let names = bind_ok v _ _ _ e in
      let senseless = bind_ok v _ _ _ names.2 in
      let number = bind_ok v _ _ _ senseless.2 in
      let place = bind_ok v _ _ _ number.2 in
      let exists = bind_ok v _ _ _ place.2 in
      let is_dir = bind_ok v _ _ _ exists.2 in
      let refused = bind_ok v _ _ _ is_dir.2 in
      name_read names.0 (not_root names.0 place.0 is_dir.0 place.1 is_dir.1 (not_refused v errno.IsDirectory _ _ refused.1)) path (said_is v (path_names path) names.0 names.1)

  truncate_takes : (path : List ℕ) (len : ℕ) (operation : Operation) → run v (truncate path len) ≡ Ok operation → comes_to_name path ≡ true
  unfolding truncate
  truncate_takes path len operation e =
      let names = bind_ok v _ _ _ e in
      let place = bind_ok v _ _ _ names.2 in
      let i = bind_ok v _ _ _ place.2 in
      let is_dir = bind_ok v _ _ _ i.2 in
      let refused = bind_ok v _ _ _ is_dir.2 in
      name_read names.0 (not_root names.0 place.0 is_dir.0 place.1 is_dir.1 (not_refused v errno.IsDirectory _ _ refused.1)) path (said_is v (path_names path) names.0 names.1)

  mkdir_takes : (path : List ℕ) (operation : Operation) → run v (mkdir path) ≡ Ok operation → comes_to_name path ≡ true
  unfolding mkdir
  mkdir_takes path operation e =
      let names = bind_ok v _ _ _ e in
      let place = bind_ok v _ _ _ names.2 in
      let new = bind_ok v _ _ _ place.2 in
      name_read names.0 (unmade_root names.0 place.0 place.1 (not_refused v errno.Exists _ _ new.1)) path (said_is v (path_names path) names.0 names.1)

  rmdir_takes : (path : List ℕ) (operation : Operation) → run v (rmdir path) ≡ Ok operation → comes_to_name path ≡ true
  unfolding rmdir
  rmdir_takes path operation e =
      let names = bind_ok v _ _ _ e in
      let busy = bind_ok v _ _ _ names.2 in
      name_read names.0 (not_refused v errno.Busy _ _ busy.1) path (said_is v (path_names path) names.0 names.1)

  unlink_takes : (path : List ℕ) (operation : Operation) → run v (unlink path) ≡ Ok operation → comes_to_name path ≡ true
  unfolding unlink
  unlink_takes path operation e =
      let names = bind_ok v _ _ _ e in
      let busy = bind_ok v _ _ _ names.2 in
      name_read names.0 (not_refused v errno.Busy _ _ busy.1) path (said_is v (path_names path) names.0 names.1)

  link_takes : (old new : List ℕ) (operation : Operation) → run v (link old new) ≡ Ok operation → comes_to_name old ≡ true
  unfolding link
  link_takes old new operation e =
      let old_names = bind_ok v _ _ _ e in
      let new_names = bind_ok v _ _ _ old_names.2 in
      let from = bind_ok v _ _ _ new_names.2 in
      let i = bind_ok v _ _ _ from.2 in
      let is_dir = bind_ok v _ _ _ i.2 in
      let refused = bind_ok v _ _ _ is_dir.2 in
      name_read old_names.0 (not_root old_names.0 from.0 is_dir.0 from.1 is_dir.1 (not_refused v errno.NotPermitted _ _ refused.1)) old (said_is v (path_names old) old_names.0 old_names.1)

  rename_takes : (old new : List ℕ) (operation : Operation) → run v (rename old new) ≡ Ok operation → comes_to_name old ≡ true
  unfolding rename
  rename_takes old new operation e =
      let old_names = bind_ok v _ _ _ e in
      let new_names = bind_ok v _ _ _ old_names.2 in
      let busy = bind_ok v _ _ _ new_names.2 in
      let roots = no_bit (is_root old_names.0) (is_root new_names.0) (not_refused v errno.Busy _ _ busy.1) in
      name_read old_names.0 roots.0 old (said_is v (path_names old) old_names.0 old_names.1)

  exchange_takes : (first second : List ℕ) (operation : Operation) → run v (exchange first second) ≡ Ok operation → comes_to_name first ≡ true
  unfolding exchange
  exchange_takes first second operation e =
      let first_names = bind_ok v _ _ _ e in
      let second_names = bind_ok v _ _ _ first_names.2 in
      let busy = bind_ok v _ _ _ second_names.2 in
      let roots = no_bit (is_root first_names.0) (is_root second_names.0) (not_refused v errno.Busy _ _ busy.1) in
      name_read first_names.0 roots.0 first (said_is v (path_names first) first_names.0 first_names.1)

  -- ---- by a descriptor

  tells_none : (operation told : Operation) → told ≡ operation → takes_room told ≡ false → takes_room operation ≡ true → ⊥
  tells_none operation told same quiet takes = let clash : false ≡ true = sym quiet ∙ ap takes_room same ∙ takes in absurd (cc)

  write_takes : (d : Descriptor) (i at : ℕ) (bytes : List ℕ) (operation : Operation) → d.writes ≡ true → nat_lt 65536 (length bytes) ≡ false → run v (write_at i at bytes) ≡ Ok operation → takes_room operation ≡ true → writes_bytes (Some d) at bytes ≡ true
  write_takes d i at [] operation writes small e takes = absurd (tells_none operation _ (given v e) refl takes)
  write_takes d i at (b ∷ bytes) operation writes small e takes =
      let big = bind_ok v _ _ _ e in
      let fits = not_refused v errno.FileTooBig _ _ big.1 in
      rw writes (grind (arith, nat_tests, small, fits))

  pwrite_takes : (own : Own) (number at : ℕ) (bytes : List ℕ) (operation : Operation) → run v (pwrite own number at bytes) ≡ Ok operation → takes_room operation ≡ true → writes_bytes (own number) at bytes ≡ true
  unfolding pwrite
  pwrite_takes own number at bytes operation e takes =
      let i = bind_ok v _ _ _ e in
      let long = bind_ok v _ _ _ i.2 in
      let d = open_is v (λ d. d.writes) (own number) i.0 i.1 in
      subst (λ (o : Option Descriptor). writes_bytes o at bytes ≡ true) (sym d.is) (write_takes d.it i.0 at bytes operation d.passes (not_refused v errno.Invalid _ _ long.1) long.2 takes)

  close_none : (own : Own) (number : ℕ) (operation : Operation) → run v (close own number) ≡ Ok operation → takes_room operation ≡ true → ⊥
  unfolding close
  close_none own number operation e takes = let i = bind_ok v _ _ _ e in tells_none operation _ (given v i.2) refl takes

  pread_none : (own : Own) (number at count : ℕ) (operation : Operation) → run v (pread own number at count) ≡ Ok operation → takes_room operation ≡ true → ⊥
  unfolding pread
  pread_none own number at count operation e takes =
      let i = bind_ok v _ _ _ e in
      let long = bind_ok v _ _ _ i.2 in
      let size = bind_ok v _ _ _ long.2 in
      let bytes = bind_ok v _ _ _ size.2 in
      tells_none operation _ (given v bytes.2) refl takes

  list_none : (path : List ℕ) (operation : Operation) → run v (list_path path) ≡ Ok operation → takes_room operation ≡ true → ⊥
  unfolding list_path
  list_none path operation e takes =
      let names = bind_ok v _ _ _ e in
      let place = bind_ok v _ _ _ names.2 in
      let i = bind_ok v _ _ _ place.2 in
      let is_dir = bind_ok v _ _ _ i.2 in
      let refused = bind_ok v _ _ _ is_dir.2 in
      let entries = bind_ok v _ _ _ refused.2 in
      tells_none operation _ (given v entries.2) refl takes

  described_none : (o : Option Seen) (operation : Operation) → run v (node_description o) ≡ Ok operation → takes_room operation ≡ true → ⊥
  unfolding run
  described_none None operation e takes = absurd (cc)
  described_none (Some (File names bytes)) operation e takes = tells_none operation _ (given v e) refl takes
  described_none (Some (Dir entries)) operation e takes = tells_none operation _ (given v e) refl takes

  stat_none : (path : List ℕ) (operation : Operation) → run v (stat path) ≡ Ok operation → takes_room operation ≡ true → ⊥
  unfolding stat run
  stat_none path operation e takes =
      let names = bind_ok v _ _ _ e in
      let place = bind_ok v _ _ _ names.2 in
      let i = bind_ok v _ _ _ place.2 in
      described_none (v.node i.0) operation i.2 takes

  -- ---- every call

  pub taken : (client : ℕ) (c : Call) (operation : Operation) → run v (decide (s.descriptors client) c) ≡ Ok operation → takes_room operation ≡ true → Takes client c
  taken client (call.Open path flags) operation e takes = open_takes client path flags operation e
  taken client (call.Close number) operation e takes = absurd (close_none (s.descriptors client) number operation e takes)
  taken client (call.Pread number at count) operation e takes = absurd (pread_none (s.descriptors client) number at count operation e takes)
  taken client (call.Pwrite number at bytes) operation e takes = pwrite_takes (s.descriptors client) number at bytes operation e takes
  taken client (call.Truncate path len) operation e takes = truncate_takes path len operation e
  taken client (call.Mkdir path) operation e takes = mkdir_takes path operation e
  taken client (call.Rmdir path) operation e takes = rmdir_takes path operation e
  taken client (call.Link old new) operation e takes = or_first (comes_to_name old) _ (link_takes old new operation e)
  taken client (call.Unlink path) operation e takes = unlink_takes path operation e
  taken client (call.Rename old new) operation e takes = or_first (comes_to_name old) _ (rename_takes old new operation e)
  taken client (call.Exchange first second) operation e takes = or_first (comes_to_name first) _ (exchange_takes first second operation e)
  taken client (call.List path) operation e takes = absurd (list_none path operation e takes)
  taken client (call.Stat path) operation e takes = absurd (stat_none path operation e takes)
