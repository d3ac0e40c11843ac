-- Each call that is not refused comes to an operation that passes no limit, and so a step keeps the limits.
use Rattle.std.proofs.Common.{◌≡◌, inl, inr, ℕ, ◌+◌, ◌<◌, List, [], ◌∷◌, length, refl, Some, None, Option, Ok, Err, Result, cond, ap, sym, ◌∙◌, subst, Bool, true, false, ◌==◌}
use Rattle.std.specs.Prelude.{◌&&◌, not, nat_le, option_map}
use Rattle.std.proofs.lemmas.Bool.{ltb-false}
use Rattle.std.proofs.lemmas.Bool.Decides.{eqb_tells, leb_tells}
use Rattle.std.specs.FinMap as fin
use Rattle.posix_calls.specs.Name.{is_name}
use Rattle.posix_calls.specs.Path.{path_names}
use Rattle.posix_calls.specs.declared.errno.Errno.TheVariants as errno
use Rattle.posix_calls.specs.declared.call.Flags.{Flags}
use Rattle.posix_calls.specs.declared.call.Call.{Call}
use Rattle.posix_calls.specs.declared.call.Call.TheVariants as call
use Rattle.posix_calls.specs.declared.call.Reply.{Reply}
use Rattle.posix_calls.specs.declared.call.Reply.TheVariants as reply
use Rattle.posix_calls.specs.Tree.{Tree, Node, File, Dir, State, names_of, entries_of}
use Rattle.posix_calls.specs.Query.{Seen, Query, Gives, View, run, view_of, seen_node, dir_test}
use Rattle.posix_calls.specs.Query as query
use Rattle.posix_calls.specs.Walk.{Place, read_or_error, walk, prefix, is_root, is_there, names_seen, leads_to}
use Rattle.posix_calls.specs.Decide.{node_description, write_at, open_there, replaced_at, replacing_dir, rename_to, open_path, close, pread, pwrite, truncate, mkdir, rmdir, link, unlink, rename, exchange_apart, exchange, list_path, stat, decide}
use Rattle.posix_calls.specs.declared.operation.Operation.{Operation}
use Rattle.posix_calls.specs.declared.operation.Replaced.{Replaced}
use Rattle.posix_calls.specs.declared.operation.Operation.TheVariants.{Tell, Resize}
use Rattle.posix_calls.specs.declared.operation.Replaced.TheVariants.{Nothing, OldFile}
use Rattle.posix_calls.specs.Operations.{answer, Follows, Step}
use Rattle.posix_calls.specs.WellFormed.{IsFile, IsWellFormed, IsWithinLimits}
use Rattle.posix_calls.specs.declared.limits.TheConstants.{MAX_FILE}
use Rattle.posix_calls.proofs.Fits.{Fits}
use Rattle.posix_calls.proofs.Able.{Able, IsFew, HasRoom}
use Rattle.posix_calls.proofs.Comes.{bind_ok, no_bit, not_refused, given, looked, entries_are, there_is}
use Rattle.posix_calls.proofs.Calls.{file_at, decide_fits}
use Rattle.posix_calls.proofs.Keeping.{operation_within}
use Rattle.posix_calls.proofs.Lasting.{answered}
use Rattle.posix_calls.proofs.Readings.{AreNames, reading_names}

-- a test that did not pass
fewer : (a b : ℕ) → nat_le a b ≡ false → b < a
fewer a b e = elim (leb_tells a b) [ inl more ↦ absurd (let clash : true ≡ false = sym more.0 ∙ e in cc) | inr less ↦ less.1 ]

said_is : {A : Type 0} (v : View) (r : Result A _) (x : A) → run v (read_or_error r) ≡ Ok x → r ≡ Ok x
unfolding run
said_is v (Ok y) x e = e
said_is v (Err y) x e = absurd (cc)

-- a name that a walk ended at is one, and its directory has as many entries as were counted
pub record IsEnd (t : Tree) (place : Place) : Type 0 where
  pub valid : is_name place.location.name ≡ true
  pub count : place.entries ≡ fin.len (entries_of (t place.location.parent))

end_is : (t : Tree) (from : ℕ) (way : List ℕ) (name : List ℕ) (names : List (List ℕ)) (place : Place) → AreNames (name ∷ names) → run (view_of t) (walk from way (name ∷ names)) ≡ Ok place → IsEnd t place
unfolding walk
end_is t from way name [] place valid e =
    let v = view_of t in
    let s = bind_ok v _ _ _ e in
    subst (IsEnd t) (given v s.2) (record { valid = valid.0; count = ap fin.len (sym (entries_are t from s.0 s.1)) })
end_is t from way name (next ∷ names) place valid e =
    let v = view_of t in
    let s = bind_ok v _ _ _ e in
    let c = bind_ok v _ _ _ s.2 in
    end_is t c.0 (from ∷ way) next names place valid.1 c.2

module _ (s : State) (fine : IsWellFormed s) where
  abbrev v : View
  v = view_of s.tree

  abbrev AbleIn : Operation → Type 0
  AbleIn operation = Able s.tree operation

  able_as : (x y : Operation) → x ≡ y → AbleIn x → AbleIn y
  able_as x y e = subst AbleIn e

  end_beyond : (names : List (List ℕ)) (place : Place) → AreNames names → run v (prefix names) ≡ Ok place → is_root names ≡ false → IsEnd s.tree place
  end_beyond [] place valid e busy = absurd (cc)
  end_beyond (name ∷ names) place valid e busy = end_is s.tree 1 [] name names place valid e

  -- a place without a node, in a directory that is not full
  few_at : (names : List (List ℕ)) (place : Place) → AreNames names → run v (prefix names) ≡ Ok place → is_there place.inode ≡ false → nat_le 3584 place.entries ≡ false → IsFew s.tree place.location
  unfolding walk
  few_at [] place valid e none few = absurd (let same = given v e in let clash : true ≡ false = ap (λ (p : Place). is_there p.inode) same ∙ none in cc)
  few_at (name ∷ names) place valid e none few =
      let end = end_is s.tree 1 [] name names place valid e in
      record { few = subst (λ n. n < 3584) end.count (fewer 3584 place.entries few); valid = end.valid }

  there_able : (names : List (List ℕ)) (place : Place) (number : ℕ) (f : Flags) (o : Option ℕ) (operation : Operation) → AreNames names → run v (prefix names) ≡ Ok place → place.inode ≡ o → run v (open_there place number f o) ≡ Ok operation → AbleIn operation
  there_able names place number f (Some i) operation valid walked is e = let empty = bind_ok v _ _ _ e in able_as _ operation (given v empty.2) tt
  there_able names place number f None operation valid walked is e =
      let missing = bind_ok v _ _ _ e in
      let full = bind_ok v _ _ _ missing.2 in
      able_as _ operation (given v full.2) (few_at names place valid walked (ap is_there is) (not_refused v errno.NoSpace _ _ full.1))

  open_able : (client : ℕ) (path : List ℕ) (f : Flags) (operation : Operation) → run v (open_path (s.descriptors client) path f) ≡ Ok operation → AbleIn operation
  unfolding open_path
  open_able client path f operation e =
      let names = bind_ok v _ _ _ e in
      let senseless = bind_ok v _ _ _ names.2 in
      let number = bind_ok v _ _ _ senseless.2 in
      let place = bind_ok v _ _ _ number.2 in
      let exists = bind_ok v _ _ _ place.2 in
      let is_dir = bind_ok v _ _ _ exists.2 in
      let refused = bind_ok v _ _ _ is_dir.2 in
      there_able names.0 place.0 number.0 f place.0.inode operation (reading_names path names.0 (said_is v (path_names path) names.0 names.1)) place.1 refl refused.2

  write_able : (i at : ℕ) (bytes : List ℕ) (operation : Operation) → run v (write_at i at bytes) ≡ Ok operation → AbleIn operation
  write_able i at [] operation e = able_as _ operation (given v e) tt
  write_able i at (b ∷ bytes) operation e = let big = bind_ok v _ _ _ e in able_as _ operation (given v big.2) (ltb-false MAX_FILE (at + length (b ∷ bytes)) (not_refused v errno.FileTooBig _ _ big.1))

  pwrite_able : (client number at : ℕ) (bytes : List ℕ) (operation : Operation) → run v (pwrite (s.descriptors client) number at bytes) ≡ Ok operation → AbleIn operation
  unfolding pwrite
  pwrite_able client number at bytes operation e =
      let i = bind_ok v _ _ _ e in
      let long = bind_ok v _ _ _ i.2 in
      write_able i.0 at bytes operation long.2

  close_able : (client number : ℕ) (operation : Operation) → run v (close (s.descriptors client) number) ≡ Ok operation → AbleIn operation
  unfolding close
  close_able client number operation e = let i = bind_ok v _ _ _ e in able_as _ operation (given v i.2) tt

  pread_able : (client number at count : ℕ) (operation : Operation) → run v (pread (s.descriptors client) number at count) ≡ Ok operation → AbleIn operation
  unfolding pread
  pread_able client number at count operation e =
      let i = bind_ok v _ _ _ e in
      let long = bind_ok v _ _ _ i.2 in
      let size = bind_ok v _ _ _ long.2 in
      let bytes = bind_ok v _ _ _ size.2 in
      able_as _ operation (given v bytes.2) tt

  truncate_able : (path : List ℕ) (len : ℕ) (operation : Operation) → run v (truncate path len) ≡ Ok operation → AbleIn operation
  unfolding truncate
  truncate_able path len operation e =
      let names = bind_ok v _ _ _ e in
      let place = bind_ok v _ _ _ names.2 in
      let i = bind_ok v _ _ _ place.2 in
      let is_dir = bind_ok v _ _ _ i.2 in
      let refused = bind_ok v _ _ _ is_dir.2 in
      let big = bind_ok v _ _ _ refused.2 in
      let size = bind_ok v _ _ _ big.2 in
      able_as _ operation (given v size.2) (elim (size.0 == len) as (λ b. AbleIn (cond b (Tell reply.Done) (Resize i.0 len))) [ true ↦ tt | false ↦ ltb-false MAX_FILE len (not_refused v errno.FileTooBig _ _ big.1) ])

  mkdir_able : (path : List ℕ) (operation : Operation) → run v (mkdir path) ≡ Ok operation → AbleIn operation
  unfolding mkdir
  mkdir_able path operation e =
      let names = bind_ok v _ _ _ e in
      let place = bind_ok v _ _ _ names.2 in
      let new = bind_ok v _ _ _ place.2 in
      let room = bind_ok v _ _ _ new.2 in
      able_as _ operation (given v room.2) (few_at names.0 place.0 (reading_names path names.0 (said_is v (path_names path) names.0 names.1)) place.1 (not_refused v errno.Exists _ _ new.1) (not_refused v errno.NoSpace _ _ room.1))

  rmdir_able : (path : List ℕ) (operation : Operation) → run v (rmdir path) ≡ Ok operation → AbleIn operation
  unfolding rmdir
  rmdir_able path operation e =
      let names = bind_ok v _ _ _ e in
      let busy = bind_ok v _ _ _ names.2 in
      let place = bind_ok v _ _ _ busy.2 in
      let i = bind_ok v _ _ _ place.2 in
      let is_dir = bind_ok v _ _ _ i.2 in
      let refused = bind_ok v _ _ _ is_dir.2 in
      let entries = bind_ok v _ _ _ refused.2 in
      let full = bind_ok v _ _ _ entries.2 in
      able_as _ operation (given v full.2) tt

  unlink_able : (path : List ℕ) (operation : Operation) → run v (unlink path) ≡ Ok operation → AbleIn operation
  unfolding unlink
  unlink_able path operation e =
      let names = bind_ok v _ _ _ e in
      let busy = bind_ok v _ _ _ names.2 in
      let place = bind_ok v _ _ _ busy.2 in
      let i = bind_ok v _ _ _ place.2 in
      let is_dir = bind_ok v _ _ _ i.2 in
      let refused = bind_ok v _ _ _ is_dir.2 in
      able_as _ operation (given v refused.2) tt

  names_are : (n : ℕ) (o : Option Node) → IsFile o → names_seen (option_map (seen_node n) o) ≡ n
  names_are n None e = absurd (cc)
  names_are n (Some (File bytes)) e = refl
  names_are n (Some (Dir es)) e = absurd (cc)

  link_able : (old new : List ℕ) (operation : Operation) → run v (link old new) ≡ Ok operation → AbleIn operation
  unfolding link
  link_able old new operation e =
      let old_names = bind_ok v _ _ _ e in
      let new_names = bind_ok v _ _ _ old_names.2 in
      let from = bind_ok v _ _ _ new_names.2 in
      let i = bind_ok v _ _ _ from.2 in
      let is_dir = bind_ok v _ _ _ i.2 in
      let refused = bind_ok v _ _ _ is_dir.2 in
      let to = bind_ok v _ _ _ refused.2 in
      let exists = bind_ok v _ _ _ to.2 in
      let names = bind_ok v _ _ _ exists.2 in
      let many = bind_ok v _ _ _ names.2 in
      let full = bind_ok v _ _ _ many.2 in
      let file = file_at s fine old_names.0 from.0 i.0 is_dir.0 from.1 (there_is v from.0.inode i.0 i.1) is_dir.1 (not_refused v errno.NotPermitted _ _ refused.1) in
      let few = few_at new_names.0 to.0 (reading_names new new_names.0 (said_is v (path_names new) new_names.0 new_names.1)) to.1 (not_refused v errno.Exists _ _ exists.1) (not_refused v errno.NoSpace _ _ full.1) in
      let same : names_of s.tree i.0 ≡ names.0 = sym (names_are (names_of s.tree i.0) (s.tree i.0) file) ∙ looked v i.0 names_seen names.0 names.1 in
      able_as _ operation (given v full.2) (few, subst (λ n. n < 1000) (sym same) (fewer 1000 names.0 (not_refused v errno.TooManyLinks _ _ many.1)))

  -- ---- rename

  room_or_same : (from to : Place) → IsEnd s.tree to → (not (from.location.parent == to.location.parent) && nat_le 3584 to.entries) ≡ false → HasRoom s.tree from.location to.location Nothing
  room_or_same from to end e = elim (eqb_tells from.location.parent to.location.parent) [
    | inl same ↦ inl same.1
    | inr off ↦ inr (subst (λ n. n < 3584) end.count (fewer 3584 to.entries (sym (ap (λ b. not b && nat_le 3584 to.entries) off.0) ∙ e)))
  ]

  room_as : (from to : Place) (x y : Replaced) → x ≡ y → HasRoom s.tree from.location to.location x → HasRoom s.tree from.location to.location y
  room_as from to x y e = subst (HasRoom s.tree from.location to.location) e

  replaced_room : (from to : Place) (old_dir : Bool) (o : Option ℕ) (replaced : Replaced) → IsEnd s.tree to → run v (replaced_at from to old_dir o) ≡ Ok replaced → HasRoom s.tree from.location to.location replaced
  replaced_room from to old_dir None replaced end e =
      let full = bind_ok v _ _ _ e in
      room_as from to _ replaced (given v full.2) (room_or_same from to end (not_refused v errno.NoSpace _ _ full.1))
  replaced_room from to old_dir (Some j) replaced end e =
      let new_dir = bind_ok v _ _ _ e in
      let no_dir = bind_ok v _ _ _ new_dir.2 in
      let no_file = bind_ok v _ _ _ no_dir.2 in
      elim (new_dir.0) as (λ b. run v (cond b (replacing_dir j) (Gives (OldFile j))) ≡ Ok replaced → HasRoom s.tree from.location to.location replaced) [
        | true ↦ λ rest.
            let entries = bind_ok v _ _ _ rest in
            let full = bind_ok v _ _ _ entries.2 in
            room_as from to _ replaced (given v full.2) tt
        | false ↦ λ rest. room_as from to _ replaced (given v rest) tt
      ] no_file.2

  renamed_able : (from to : Place) (i : ℕ) (operation : Operation) → IsEnd s.tree to → run v (rename_to from to i) ≡ Ok operation → AbleIn operation
  renamed_able from to i operation end e =
      let old_dir = bind_ok v _ _ _ e in
      let replaced = bind_ok v _ _ _ old_dir.2 in
      able_as _ operation (given v replaced.2) (end.valid, replaced_room from to old_dir.0 to.inode replaced.0 end replaced.1)

  rename_able : (old new : List ℕ) (operation : Operation) → run v (rename old new) ≡ Ok operation → AbleIn operation
  unfolding rename
  rename_able old new operation e =
      let old_names = bind_ok v _ _ _ e in
      let new_names = bind_ok v _ _ _ old_names.2 in
      let busy = bind_ok v _ _ _ new_names.2 in
      let from = bind_ok v _ _ _ busy.2 in
      let i = bind_ok v _ _ _ from.2 in
      let to = bind_ok v _ _ _ i.2 in
      let under = bind_ok v _ _ _ to.2 in
      let roots = no_bit (is_root old_names.0) (is_root new_names.0) (not_refused v errno.Busy _ _ busy.1) in
      let end = end_beyond new_names.0 to.0 (reading_names new new_names.0 (said_is v (path_names new) new_names.0 new_names.1)) to.1 roots.1 in
      elim (leads_to i.0 to.0.inode) as (λ b. run v (cond b (Gives (Tell reply.Done)) (rename_to from.0 to.0 i.0)) ≡ Ok operation → AbleIn operation) [
        | true ↦ λ done. able_as _ operation (given v done) tt
        | false ↦ λ rest. renamed_able from.0 to.0 i.0 operation end rest
      ] under.2

  -- ---- exchange

  exchange_able : (first second : List ℕ) (operation : Operation) → run v (exchange first second) ≡ Ok operation → AbleIn operation
  unfolding exchange
  exchange_able first second operation e =
      let first_names = bind_ok v _ _ _ e in
      let second_names = bind_ok v _ _ _ first_names.2 in
      let busy = bind_ok v _ _ _ second_names.2 in
      let one = bind_ok v _ _ _ busy.2 in
      let i = bind_ok v _ _ _ one.2 in
      let two = bind_ok v _ _ _ i.2 in
      let j = bind_ok v _ _ _ two.2 in
      elim (i.0 == j.0) as (λ b. run v (cond b (Gives (Tell reply.Done)) (exchange_apart one.0 two.0 i.0 j.0)) ≡ Ok operation → AbleIn operation) [
        | true ↦ λ done. able_as _ operation (given v done) tt
        | false ↦ λ rest. let under = bind_ok v _ _ _ rest in able_as _ operation (given v under.2) tt
      ] j.2

  -- ---- list, stat

  list_able : (path : List ℕ) (operation : Operation) → run v (list_path path) ≡ Ok operation → AbleIn operation
  unfolding list_path
  list_able path operation e =
      let names = bind_ok v _ _ _ e in
      let place = bind_ok v _ _ _ names.2 in
      let i = bind_ok v _ _ _ place.2 in
      let is_dir = bind_ok v _ _ _ i.2 in
      let refused = bind_ok v _ _ _ is_dir.2 in
      let entries = bind_ok v _ _ _ refused.2 in
      able_as _ operation (given v entries.2) tt

  described_able : (o : Option Seen) (operation : Operation) → run v (node_description o) ≡ Ok operation → AbleIn operation
  unfolding run
  described_able None operation e = absurd (cc)
  described_able (Some (query.File names bytes)) operation e = able_as _ operation (given v e) tt
  described_able (Some (query.Dir entries)) operation e = able_as _ operation (given v e) tt

  stat_able : (path : List ℕ) (operation : Operation) → run v (stat path) ≡ Ok operation → AbleIn operation
  unfolding stat run
  stat_able path operation e =
      let names = bind_ok v _ _ _ e in
      let place = bind_ok v _ _ _ names.2 in
      let i = bind_ok v _ _ _ place.2 in
      described_able (v.node i.0) operation i.2

  pub decide_able : (client : ℕ) (c : Call) (operation : Operation) → run v (decide (s.descriptors client) c) ≡ Ok operation → AbleIn operation
  decide_able client (call.Open path flags) operation e = open_able client path flags operation e
  decide_able client (call.Close number) operation e = close_able client number operation e
  decide_able client (call.Pread number at count) operation e = pread_able client number at count operation e
  decide_able client (call.Pwrite number at bytes) operation e = pwrite_able client number at bytes operation e
  decide_able client (call.Truncate path len) operation e = truncate_able path len operation e
  decide_able client (call.Mkdir path) operation e = mkdir_able path operation e
  decide_able client (call.Rmdir path) operation e = rmdir_able path operation e
  decide_able client (call.Link old new) operation e = link_able old new operation e
  decide_able client (call.Unlink path) operation e = unlink_able path operation e
  decide_able client (call.Rename old new) operation e = rename_able old new operation e
  decide_able client (call.Exchange first second) operation e = exchange_able first second operation e
  decide_able client (call.List path) operation e = list_able path operation e
  decide_able client (call.Stat path) operation e = stat_able path operation e

-- ---- a step

follows_within : (s : State) (client new : ℕ) (a : Result Operation _) (r : Reply) (after : State) → IsWellFormed s → IsWithinLimits s.tree → ((operation : Operation) → a ≡ Ok operation → Fits s.tree (s.descriptors client) operation × Able s.tree operation) → Follows s client new a r after → IsWithinLimits after.tree
follows_within s client new (Err e) r after fine within fits f = subst (λ (x : State). IsWithinLimits x.tree) (sym f.1) within
follows_within s client new (Ok operation) r after fine within fits f = let at = fits operation refl in subst (λ (x : State). IsWithinLimits x.tree) (sym f.2) (operation_within s client new operation fine within at.0 at.1 f.0)

-- a step keeps the limits
pub step_within : (old : State) (client : ℕ) (c : Call) (r : Reply) (after : State) → IsWellFormed old → IsWithinLimits old.tree → Step old client c r after → IsWithinLimits after.tree
step_within old client c r after fine within (inl f) = follows_within old client f.0 (answer old client c) r after fine within (λ operation e. let is = answered old client c operation e in (decide_fits old fine client c operation is.is, decide_able old fine client c operation is.is)) f.1
step_within old client c r after fine within (inr g) = subst (λ (x : State). IsWithinLimits x.tree) (sym g.3) within
