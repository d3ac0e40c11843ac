-- Each call that is not refused comes to an operation that fits the state.
use Rattle.std.proofs.Common.{◌≡◌, ◌≢◌, ℕ, List, [], ◌∷◌, refl, Some, None, Option, Ok, cond, ap, sym, ◌∙◌, subst, true, false, Bool, ◌==◌}
use Rattle.std.specs.Prelude.{not, option_map}
use Rattle.std.proofs.lemmas.Bool.{eq-eqb}
use Rattle.std.specs.List.{list_any}
use Rattle.posix_calls.specs.declared.errno.Errno.TheVariants as errno
use Rattle.posix_calls.specs.declared.call.Flags.{Flags}
use Rattle.posix_calls.specs.declared.call.Call.{Call}
use Rattle.posix_calls.specs.declared.call.Call.TheVariants as call
use Rattle.posix_calls.specs.declared.call.Reply.TheVariants as reply
use Rattle.posix_calls.specs.Tree.{State}
use Rattle.posix_calls.specs.declared.descriptor.Descriptor.{Descriptor}
use Rattle.posix_calls.specs.Query.{Seen, File, Dir, Gives, View, run, view_of, dir_test}
use Rattle.posix_calls.specs.Walk.{Place, prefix, is_root, is_there, kind_at, walk, leads_to}
use Rattle.posix_calls.specs.Decide.{node_description, write_at, open_there, replaced_at, replacing_dir, rename_to, open_path, close, pread, pwrite, truncate, mkdir, rmdir, link, unlink, rename, exchange_apart, exchange, list_path, stat, decide}
use Rattle.posix_calls.specs.declared.operation.Operation.{Operation}
use Rattle.posix_calls.specs.declared.operation.Replaced.{Replaced}
use Rattle.posix_calls.specs.declared.operation.Operation.TheVariants.{Tell, Resize}
use Rattle.posix_calls.specs.declared.operation.Replaced.TheVariants.{OldFile}
use Rattle.posix_calls.specs.WellFormed.{IsFile, IsWellFormed}
use Rattle.posix_calls.proofs.Changes.{IsRoom, entry}
use Rattle.posix_calls.proofs.Trees.{node_of, some_kind}
use Rattle.posix_calls.proofs.Fits.{Fits, FitsReplaced, IsNumber}
use Rattle.posix_calls.proofs.Moved.{IsWay}
use Rattle.posix_calls.proofs.Comes.{bind_ok, no_bit, not_refused, given, bare_seen, kind_seen, there_is, nothing_there, IsPlace, place_is, walk_is, opened_is, number_is, lowest_is}

module _ (s : State) (fine : IsWellFormed s) where
  abbrev v : View
  v = view_of s.tree

  abbrev FitsIn : ℕ → Operation → Type 0
  FitsIn client operation = Fits s.tree (s.descriptors client) operation

  fits_as : (client : ℕ) (x y : Operation) → x ≡ y → FitsIn client x → FitsIn client y
  fits_as client x y e = subst (FitsIn client) e

  -- a walk that was not of the root ended in a directory
  beyond : (names : List (List ℕ)) (place : Place) → run v (prefix names) ≡ Ok place → is_root names ≡ false → IsPlace s.tree place
  beyond [] place e busy = absurd (cc)
  beyond (name ∷ names) place e busy = place_is s.tree 1 [] name names place fine.root e

  -- the root is there, so where nothing is the walk was not of it
  unmade : (names : List (List ℕ)) (place : Place) → run v (prefix names) ≡ Ok place → is_there place.inode ≡ false → IsPlace s.tree place
  unfolding walk
  unmade [] place e none = absurd (let same = given v e in let clash : true ≡ false = ap (λ (p : Place). is_there p.inode) same ∙ none in cc)
  unmade (name ∷ names) place e none = place_is s.tree 1 [] name names place fine.root e

  room_at : (place : Place) → IsPlace s.tree place → place.inode ≡ None → IsRoom s.tree place.location
  room_at place at none = record { directory = at.directory; none = sym at.inode ∙ none }

  -- what was answered of a place's inode is so
  kind_there : (place : Place) (i : ℕ) (b : Bool) → IsPlace s.tree place → place.inode ≡ Some i → run v (kind_at place.inode) ≡ Ok b → option_map dir_test (s.tree i) ≡ Some b
  kind_there place i b at is e = kind_seen s.tree i b (node_of s place.location i fine (sym at.inode ∙ is)) (ap (λ o. run v (kind_at o)) (sym is) ∙ e)

  entry_at : (place : Place) (i : ℕ) → IsPlace s.tree place → place.inode ≡ Some i → entry s.tree place.location ≡ Some i
  entry_at place i at is = sym at.inode ∙ is

  -- what was answered to be no directory is a file; the root is one
  pub file_at : (names : List (List ℕ)) (place : Place) (i : ℕ) (b : Bool) → run v (prefix names) ≡ Ok place → place.inode ≡ Some i → run v (kind_at place.inode) ≡ Ok b → b ≡ false → IsFile (s.tree i)
  unfolding walk
  file_at [] place i b e is asked no_dir =
      let same = given v e in
      let one : Some 1 ≡ Some i = ap (λ (p : Place). p.inode) same ∙ is in
      let root : 1 ≡ i = cc in
      let dir = fine.root in
      let known = kind_seen s.tree 1 b (some_kind (s.tree 1) true dir) (ap (λ o. run v (kind_at o)) (one ∙ sym is) ∙ asked) in
      absurd (let clash : Some true ≡ Some false = sym dir ∙ known ∙ ap (λ c. Some c) no_dir in cc)
  file_at (name ∷ names) place i b e is asked no_dir = kind_there place i b (place_is s.tree 1 [] name names place fine.root e) is asked ∙ ap (λ c. Some c) no_dir

  -- ---- by a descriptor

  open_file : (client number i : ℕ) (o : Descriptor) → s.descriptors client number ≡ Some o → o.inode ≡ i → IsFile (s.tree i)
  open_file client number i o is same = subst (λ k. IsFile (s.tree k)) same (fine.opened client number o is)

  close_fits : (client number : ℕ) (operation : Operation) → run v (close (s.descriptors client) number) ≡ Ok operation → FitsIn client operation
  unfolding close
  close_fits client number operation e =
      let i = bind_ok v _ _ _ e in
      let o = opened_is v (λ d. true) (s.descriptors client number) i.0 i.1 in
      fits_as client _ operation (given v i.2) (o.0, o.1, o.2)

  pread_fits : (client number at count : ℕ) (operation : Operation) → run v (pread (s.descriptors client) number at count) ≡ Ok operation → FitsIn client operation
  unfolding pread
  pread_fits client number at count operation e =
      let i = bind_ok v _ _ _ e in
      let long = bind_ok v _ _ _ i.2 in
      let size = bind_ok v _ _ _ long.2 in
      let bytes = bind_ok v _ _ _ size.2 in
      fits_as client _ operation (given v bytes.2) tt

  write_fits : (client i at : ℕ) (bytes : List ℕ) (operation : Operation) → IsFile (s.tree i) → run v (write_at i at bytes) ≡ Ok operation → FitsIn client operation
  write_fits client i at [] operation is e = fits_as client _ operation (given v e) tt
  write_fits client i at (b ∷ bytes) operation is e = let big = bind_ok v _ _ _ e in fits_as client _ operation (given v big.2) is

  pwrite_fits : (client number at : ℕ) (bytes : List ℕ) (operation : Operation) → run v (pwrite (s.descriptors client) number at bytes) ≡ Ok operation → FitsIn client operation
  unfolding pwrite
  pwrite_fits client number at bytes operation e =
      let i = bind_ok v _ _ _ e in
      let long = bind_ok v _ _ _ i.2 in
      let o = opened_is v (λ d. d.writes) (s.descriptors client number) i.0 i.1 in
      write_fits client i.0 at bytes operation (open_file client number i.0 o.0 o.1 o.2) long.2

  -- ---- by a path

  there_fits : (client : ℕ) (names : List (List ℕ)) (place : Place) (number : ℕ) (f : Flags) (b : Bool) (o : Option ℕ) (operation : Operation) → run v (prefix names) ≡ Ok place → place.inode ≡ o → run v (kind_at place.inode) ≡ Ok b → b ≡ false
      → IsNumber (s.descriptors client) number → run v (open_there place number f o) ≡ Ok operation → FitsIn client operation
  there_fits client names place number f b (Some i) operation walked is asked no_dir num e =
      let empty = bind_ok v _ _ _ e in
      fits_as client _ operation (given v empty.2) (file_at names place i b walked is asked no_dir, num)
  there_fits client names place number f b None operation walked is asked no_dir num e =
      let missing = bind_ok v _ _ _ e in
      let full = bind_ok v _ _ _ missing.2 in
      fits_as client _ operation (given v full.2) (room_at place (unmade names place walked (ap is_there is)) is, num)

  open_fits : (client : ℕ) (path : List ℕ) (f : Flags) (operation : Operation) → run v (open_path (s.descriptors client) path f) ≡ Ok operation → FitsIn client operation
  unfolding open_path
  open_fits client path f operation e =
      let names = bind_ok v _ _ _ e in
      let senseless = bind_ok v _ _ _ names.2 in
      let number = bind_ok v _ _ _ senseless.2 in
      let place = bind_ok v _ _ _ number.2 in
      let exists = bind_ok v _ _ _ place.2 in
      let is_dir = bind_ok v _ _ _ exists.2 in
      let refused = bind_ok v _ _ _ is_dir.2 in
      let low = lowest_is (s.descriptors client) number.0 (number_is v _ number.0 number.1) in
      there_fits client names.0 place.0 number.0 f is_dir.0 place.0.inode operation place.1 refl is_dir.1 (not_refused v errno.IsDirectory _ _ refused.1) (record { few = low.0; free = low.1 }) refused.2

  truncate_fits : (client : ℕ) (path : List ℕ) (len : ℕ) (operation : Operation) → run v (truncate path len) ≡ Ok operation → FitsIn client operation
  unfolding truncate
  truncate_fits client path len operation e =
      let names = bind_ok v _ _ _ e in
      let place = bind_ok v _ _ _ names.2 in
      let i = bind_ok v _ _ _ place.2 in
      let is_dir = bind_ok v _ _ _ i.2 in
      let refused = bind_ok v _ _ _ is_dir.2 in
      let big = bind_ok v _ _ _ refused.2 in
      let size = bind_ok v _ _ _ big.2 in
      let file = file_at names.0 place.0 i.0 is_dir.0 place.1 (there_is v place.0.inode i.0 i.1) is_dir.1 (not_refused v errno.IsDirectory _ _ refused.1) in
      fits_as client _ operation (given v size.2) (elim (size.0 == len) as (λ b. FitsIn client (cond b (Tell reply.Done) (Resize i.0 len))) [ true ↦ tt | false ↦ file ])

  mkdir_fits : (client : ℕ) (path : List ℕ) (operation : Operation) → run v (mkdir path) ≡ Ok operation → FitsIn client operation
  unfolding mkdir
  mkdir_fits client path operation e =
      let names = bind_ok v _ _ _ e in
      let place = bind_ok v _ _ _ names.2 in
      let new = bind_ok v _ _ _ place.2 in
      let room = bind_ok v _ _ _ new.2 in
      let none = not_refused v errno.Exists _ _ new.1 in
      fits_as client _ operation (given v room.2) (room_at place.0 (unmade names.0 place.0 place.1 none) (nothing_there place.0.inode none))

  not_not : (b : Bool) → not b ≡ false → b ≡ true
  not_not true e = refl
  not_not false e = absurd (cc)

  rmdir_fits : (client : ℕ) (path : List ℕ) (operation : Operation) → run v (rmdir path) ≡ Ok operation → FitsIn client operation
  unfolding rmdir
  rmdir_fits client path operation e =
      let names = bind_ok v _ _ _ e in
      let busy = bind_ok v _ _ _ names.2 in
      let place = bind_ok v _ _ _ busy.2 in
      let i = bind_ok v _ _ _ place.2 in
      let is_dir = bind_ok v _ _ _ i.2 in
      let refused = bind_ok v _ _ _ is_dir.2 in
      let entries = bind_ok v _ _ _ refused.2 in
      let full = bind_ok v _ _ _ entries.2 in
      let at = beyond names.0 place.0 place.1 (not_refused v errno.Busy _ _ busy.1) in
      let is = there_is v place.0.inode i.0 i.1 in
      let dir = kind_there place.0 i.0 is_dir.0 at is is_dir.1 ∙ ap (λ b. Some b) (not_not is_dir.0 (not_refused v errno.NotDirectory _ _ refused.1)) in
      fits_as client _ operation (given v full.2) (entry_at place.0 i.0 at is, dir, bare_seen s.tree i.0 entries.0 entries.1 (not_refused v errno.NotEmpty _ _ full.1))

  unlink_fits : (client : ℕ) (path : List ℕ) (operation : Operation) → run v (unlink path) ≡ Ok operation → FitsIn client operation
  unfolding unlink
  unlink_fits client path operation e =
      let names = bind_ok v _ _ _ e in
      let busy = bind_ok v _ _ _ names.2 in
      let place = bind_ok v _ _ _ busy.2 in
      let i = bind_ok v _ _ _ place.2 in
      let is_dir = bind_ok v _ _ _ i.2 in
      let refused = bind_ok v _ _ _ is_dir.2 in
      let at = beyond names.0 place.0 place.1 (not_refused v errno.Busy _ _ busy.1) in
      let is = there_is v place.0.inode i.0 i.1 in
      fits_as client _ operation (given v refused.2) (entry_at place.0 i.0 at is, kind_there place.0 i.0 is_dir.0 at is is_dir.1 ∙ ap (λ b. Some b) (not_refused v errno.NotPermitted _ _ refused.1))

  link_fits : (client : ℕ) (old new : List ℕ) (operation : Operation) → run v (link old new) ≡ Ok operation → FitsIn client operation
  unfolding link
  link_fits client old new operation e =
      let old_names = bind_ok v _ _ _ e in
      let new_names = bind_ok v _ _ _ old_names.2 in
      let from = bind_ok v _ _ _ new_names.2 in
      let i = bind_ok v _ _ _ from.2 in
      let is_dir = bind_ok v _ _ _ i.2 in
      let refused = bind_ok v _ _ _ is_dir.2 in
      let to = bind_ok v _ _ _ refused.2 in
      let exists = bind_ok v _ _ _ to.2 in
      let names = bind_ok v _ _ _ exists.2 in
      let many = bind_ok v _ _ _ names.2 in
      let full = bind_ok v _ _ _ many.2 in
      let file = file_at old_names.0 from.0 i.0 is_dir.0 from.1 (there_is v from.0.inode i.0 i.1) is_dir.1 (not_refused v errno.NotPermitted _ _ refused.1) in
      let none = not_refused v errno.Exists _ _ exists.1 in
      fits_as client _ operation (given v full.2) (room_at to.0 (unmade new_names.0 to.0 to.1 none) (nothing_there to.0.inode none), file)

  -- ---- rename

  replaced_fits : (from to : Place) (i : ℕ) (old_dir : Bool) (o : Option ℕ) (replaced : Replaced) → IsPlace s.tree to → to.inode ≡ o → leads_to i o ≡ false → run v (replaced_at from to old_dir o) ≡ Ok replaced → FitsReplaced s.tree to.location i replaced
  replaced_fits from to i old_dir None replaced at is other e =
      let full = bind_ok v _ _ _ e in
      subst (FitsReplaced s.tree to.location i) (given v full.2) (room_at to at is)
  replaced_fits from to i old_dir (Some j) replaced at is other e =
      let new_dir = bind_ok v _ _ _ e in
      let no_dir = bind_ok v _ _ _ new_dir.2 in
      let no_file = bind_ok v _ _ _ no_dir.2 in
      let asked : run v (kind_at to.inode) ≡ Ok new_dir.0 = ap (λ x. run v (kind_at x)) is ∙ new_dir.1 in
      let known = kind_there to j new_dir.0 at is asked in
      let apart : i ≢ j = λ same. let yes : (i == j) ≡ true = eq-eqb i j same in let clash : true ≡ false = sym yes ∙ other in absurd (cc) in
      elim (new_dir.0) as (λ b. new_dir.0 ≡ b → run v (cond b (replacing_dir j) (Gives (OldFile j))) ≡ Ok replaced → FitsReplaced s.tree to.location i replaced) [
        | true ↦ λ yes rest.
            let entries = bind_ok v _ _ _ rest in
            let full = bind_ok v _ _ _ entries.2 in
            subst (FitsReplaced s.tree to.location i) (given v full.2) (apart, entry_at to j at is, known ∙ ap (λ b. Some b) yes, bare_seen s.tree j entries.0 entries.1 (not_refused v errno.NotEmpty _ _ full.1))
        | false ↦ λ yes rest. subst (FitsReplaced s.tree to.location i) (given v rest) (apart, entry_at to j at is, known ∙ ap (λ b. Some b) yes)
      ] refl no_file.2

  renamed_fits : (client : ℕ) (from to : Place) (i : ℕ) (operation : Operation) → IsPlace s.tree from → from.inode ≡ Some i → IsPlace s.tree to → leads_to i to.inode ≡ false → IsWay s.tree i to.location.parent → run v (rename_to from to i) ≡ Ok operation → FitsIn client operation
  renamed_fits client from to i operation at is at_to other way e =
      let old_dir = bind_ok v _ _ _ e in
      let replaced = bind_ok v _ _ _ old_dir.2 in
      fits_as client _ operation (given v replaced.2) (entry_at from i at is, replaced_fits from to i old_dir.0 to.inode replaced.0 at_to refl other replaced.1, way)

  -- the way to the new name's directory does not come by what moves
  way_of : (names : List (List ℕ)) (place : Place) (i : ℕ) → run v (prefix names) ≡ Ok place → is_root names ≡ false → list_any (λ d. d == i) place.walked ≡ false → IsWay s.tree i place.location.parent
  way_of [] place i e busy apart = absurd (cc)
  way_of (name ∷ names) place i e busy apart = let w = walk_is s.tree i 1 [] name names place e apart in (w.steps, w.clear, w.chain)

  rename_fits : (client : ℕ) (old new : List ℕ) (operation : Operation) → run v (rename old new) ≡ Ok operation → FitsIn client operation
  unfolding rename
  rename_fits client old new operation e =
      let old_names = bind_ok v _ _ _ e in
      let new_names = bind_ok v _ _ _ old_names.2 in
      let busy = bind_ok v _ _ _ new_names.2 in
      let from = bind_ok v _ _ _ busy.2 in
      let i = bind_ok v _ _ _ from.2 in
      let to = bind_ok v _ _ _ i.2 in
      let under = bind_ok v _ _ _ to.2 in
      let roots = no_bit (is_root old_names.0) (is_root new_names.0) (not_refused v errno.Busy _ _ busy.1) in
      let at = beyond old_names.0 from.0 from.1 roots.0 in
      let at_to = beyond new_names.0 to.0 to.1 roots.1 in
      let way = way_of new_names.0 to.0 i.0 to.1 roots.1 (not_refused v errno.Invalid _ _ under.1) in
      elim (leads_to i.0 to.0.inode) as (λ b. leads_to i.0 to.0.inode ≡ b → run v (cond b (Gives (Tell reply.Done)) (rename_to from.0 to.0 i.0)) ≡ Ok operation → FitsIn client operation) [
        | true ↦ λ same done. fits_as client _ operation (given v done) tt
        | false ↦ λ other rest. renamed_fits client from.0 to.0 i.0 operation at (there_is v from.0.inode i.0 i.1) at_to other way rest
      ] refl under.2

  -- ---- exchange

  exchanged_fits : (client : ℕ) (one two : Place) (i j : ℕ) (operation : Operation) → i ≢ j → IsPlace s.tree one → one.inode ≡ Some i → IsPlace s.tree two → two.inode ≡ Some j
      → (list_any (λ d. d == j) one.walked ≡ false → IsWay s.tree j one.location.parent) → (list_any (λ d. d == i) two.walked ≡ false → IsWay s.tree i two.location.parent)
      → run v (exchange_apart one two i j) ≡ Ok operation → FitsIn client operation
  exchanged_fits client one two i j operation other at_one is_one at_two is_two way_one way_two e =
      let under = bind_ok v _ _ _ e in
      let clear = no_bit (list_any (λ d. d == j) one.walked) (list_any (λ d. d == i) two.walked) (not_refused v errno.Invalid _ _ under.1) in
      fits_as client _ operation (given v under.2) (other, entry_at one i at_one is_one, entry_at two j at_two is_two, way_two clear.1, way_one clear.0)

  exchange_fits : (client : ℕ) (first second : List ℕ) (operation : Operation) → run v (exchange first second) ≡ Ok operation → FitsIn client operation
  unfolding exchange
  exchange_fits client first second operation e =
      let first_names = bind_ok v _ _ _ e in
      let second_names = bind_ok v _ _ _ first_names.2 in
      let busy = bind_ok v _ _ _ second_names.2 in
      let one = bind_ok v _ _ _ busy.2 in
      let i = bind_ok v _ _ _ one.2 in
      let two = bind_ok v _ _ _ i.2 in
      let j = bind_ok v _ _ _ two.2 in
      let roots = no_bit (is_root first_names.0) (is_root second_names.0) (not_refused v errno.Busy _ _ busy.1) in
      elim (i.0 == j.0) as (λ b. (i.0 == j.0) ≡ b → run v (cond b (Gives (Tell reply.Done)) (exchange_apart one.0 two.0 i.0 j.0)) ≡ Ok operation → FitsIn client operation) [
        | true ↦ λ same done. fits_as client _ operation (given v done) tt
        | false ↦ λ other rest. exchanged_fits client one.0 two.0 i.0 j.0 operation
            (λ same. let yes : (i.0 == j.0) ≡ true = eq-eqb i.0 j.0 same in let clash : true ≡ false = sym yes ∙ other in absurd (cc))
            (beyond first_names.0 one.0 one.1 roots.0) (there_is v one.0.inode i.0 i.1)
            (beyond second_names.0 two.0 two.1 roots.1) (there_is v two.0.inode j.0 j.1)
            (way_of first_names.0 one.0 j.0 one.1 roots.0) (way_of second_names.0 two.0 i.0 two.1 roots.1) rest
      ] refl j.2

  -- ---- list, stat

  list_fits : (client : ℕ) (path : List ℕ) (operation : Operation) → run v (list_path path) ≡ Ok operation → FitsIn client operation
  unfolding list_path
  list_fits client path operation e =
      let names = bind_ok v _ _ _ e in
      let place = bind_ok v _ _ _ names.2 in
      let i = bind_ok v _ _ _ place.2 in
      let is_dir = bind_ok v _ _ _ i.2 in
      let refused = bind_ok v _ _ _ is_dir.2 in
      let entries = bind_ok v _ _ _ refused.2 in
      fits_as client _ operation (given v entries.2) tt

  described_fits : (client : ℕ) (o : Option Seen) (operation : Operation) → run v (node_description o) ≡ Ok operation → FitsIn client operation
  unfolding run
  described_fits client None operation e = absurd (cc)
  described_fits client (Some (File names bytes)) operation e = fits_as client _ operation (given v e) tt
  described_fits client (Some (Dir entries)) operation e = fits_as client _ operation (given v e) tt

  stat_fits : (client : ℕ) (path : List ℕ) (operation : Operation) → run v (stat path) ≡ Ok operation → FitsIn client operation
  unfolding stat run
  stat_fits client path operation e =
      let names = bind_ok v _ _ _ e in
      let place = bind_ok v _ _ _ names.2 in
      let i = bind_ok v _ _ _ place.2 in
      described_fits client (v.node i.0) operation i.2

  -- ---- every call

  pub decide_fits : (client : ℕ) (c : Call) (operation : Operation) → run v (decide (s.descriptors client) c) ≡ Ok operation → FitsIn client operation
  decide_fits client (call.Open path flags) operation e = open_fits client path flags operation e
  decide_fits client (call.Close number) operation e = close_fits client number operation e
  decide_fits client (call.Pread number at count) operation e = pread_fits client number at count operation e
  decide_fits client (call.Pwrite number at bytes) operation e = pwrite_fits client number at bytes operation e
  decide_fits client (call.Truncate path len) operation e = truncate_fits client path len operation e
  decide_fits client (call.Mkdir path) operation e = mkdir_fits client path operation e
  decide_fits client (call.Rmdir path) operation e = rmdir_fits client path operation e
  decide_fits client (call.Link old new) operation e = link_fits client old new operation e
  decide_fits client (call.Unlink path) operation e = unlink_fits client path operation e
  decide_fits client (call.Rename old new) operation e = rename_fits client old new operation e
  decide_fits client (call.Exchange first second) operation e = exchange_fits client first second operation e
  decide_fits client (call.List path) operation e = list_fits client path operation e
  decide_fits client (call.Stat path) operation e = stat_fits client path operation e
