-- Each call that is not refused comes to an operation that fits the graph.
use Rattle.std.proofs.Common.{◌≡◌, ◌≢◌, inl, inr, ℕ, zero, suc, ◌+◌, ◌<◌, ◌≤◌, List, [], ◌∷◌, refl, Some, None, Option, Ok, cond, ap, sym, ◌∙◌, subst, true, false, Bool, arith, ◌==◌}
use Rattle.std.specs.Prelude.{◌&&◌, not, nat_lt}
use Rattle.std.specs.List.{list_any}
use Rattle.std.proofs.lemmas.Bool.{ltb-false, eq-eqb}
use Rattle.std.specs.FinMap as fin
use Rattle.posix_calls.specs.Content.{Entries}
use Rattle.posix_calls.specs.Tree.{Descriptors, Own, is_open}
use Rattle.posix_calls.specs.declared.descriptor.Descriptor.{Descriptor}
use Rattle.posix_calls.specs.declared.errno.Errno.TheVariants as errno
use Rattle.posix_calls.specs.declared.call.Flags.{Flags}
use Rattle.posix_calls.specs.declared.call.Reply.TheVariants as replies
use Rattle.posix_calls.specs.declared.call.Call.{Call}
use Rattle.posix_calls.specs.declared.call.Call.TheVariants as call
use Rattle.posix_calls.specs.declared.operation.Operation.{Operation}
use Rattle.posix_calls.specs.declared.operation.Operation.TheVariants.{Tell, Resize}
use Rattle.posix_calls.specs.declared.operation.Replaced.{Replaced}
use Rattle.posix_calls.specs.declared.operation.Replaced.TheVariants.{OldFile}
use Rattle.posix_calls.specs.Query.{Seen, File, Dir, Gives, Refuses, Look, View, run}
use Rattle.posix_calls.specs.Walk.{Place, is_root, leads_to, is_there, is_true, there, prefix, entries_seen, entries_at, kind_at}
use Rattle.posix_calls.specs.Decide.{open_inode, open_there, lowest_free, number_or, replaced_at, replacing_dir, rename_to, write_at, node_description, mkdir, unlink, rmdir, link, rename, exchange_apart, exchange, truncate, pwrite, pread, close, open_path, list_path, stat, decide}
use Rattle.posix_calls.proofs.Open as opens
use Rattle.log_record.specs.file_graph.Graph.{Graph}
use Rattle.log_record.specs.file_graph.declared.effect.Kind.TheVariants as kind
use Rattle.call_effects.specs.Effects.{kind_if}
use Rattle.call_effects.specs.Wholes.{without_kinds, kind_of, tree_of, reachable_graph, graph_view}
use Rattle.call_effects.specs.Fits.{IsEntry, IsUsedFile, IsEmptyDir, IsClear, IsNumber, OperationFits, FitsReplaced}
use Rattle.call_effects.proofs.Asked.{bind_ok, not_refused, given, looked}
use Rattle.call_effects.proofs.Inodes.{no_inodes}
use Rattle.call_effects.proofs.Changes.{IsFair}
use Rattle.call_effects.proofs.Facts.{has_dir, has_file, IsPlace, Leads, leads, named_at, room_at, used_by_name, view_dir, view_is_dir, view_is_file, or_left, clear_walk}

pub place_of : (g : Graph) (d : Descriptors) (names : List (List ℕ)) (place : Place) → IsFair g d → run (graph_view g d) (prefix names) ≡ Ok place → Leads g names place
place_of g d names place sound e = leads g d 1 [] names place sound.typed.root e

pub beyond : (g : Graph) (names : List (List ℕ)) (place : Place) → Leads g names place → is_root names ≡ false → IsPlace g place
beyond g names place (inl end) busy = absurd (let clash : true ≡ false = sym (ap is_root end.0) ∙ busy in cc)
beyond g names place (inr at) busy = at

-- a place without a node is beyond the root
unmade : (g : Graph) (names : List (List ℕ)) (place : Place) → Leads g names place → is_there place.inode ≡ false → IsPlace g place
unmade g names place (inl end) none = absurd (let clash : true ≡ false = sym (ap (λ p. is_there p.inode) end.1) ∙ none in cc)
unmade g names place (inr at) none = at

nothing_there : (o : Option ℕ) → is_there o ≡ false → o ≡ None
nothing_there None e = refl
nothing_there (Some i) e = absurd (cc)

fits_as : (g : Graph) (d : Descriptors) (own : Own) (x y : Operation) → x ≡ y → OperationFits g d own x → OperationFits g d own y
fits_as g d own x y e = subst (OperationFits g d own) e

mkdir_fits : (g : Graph) (d : Descriptors) (own : Own) (path : List ℕ) (operation : Operation) → IsFair g d → run (graph_view g d) (mkdir path) ≡ Ok operation → OperationFits g d own operation
unfolding mkdir
mkdir_fits g d own path operation sound e =
    let v = graph_view g d in
    let names = bind_ok v _ _ _ e in
    let place = bind_ok v _ _ _ names.2 in
    let new = bind_ok v _ _ _ place.2 in
    let room = bind_ok v _ _ _ new.2 in
    let none = not_refused v errno.Exists _ _ new.1 in
    let at = unmade g names.0 place.0 (place_of g d names.0 place.0 sound place.1) none in
    fits_as g d own _ operation (given v room.2) (room_at g place.0 at (nothing_there place.0.inode none))

pub there_is : (v : View) (o : Option ℕ) (i : ℕ) → run v (there o) ≡ Ok i → o ≡ Some i
unfolding run
there_is v None i e = absurd (cc)
there_is v (Some j) i e = let same : j ≡ i = cc in ap (λ x. Some x) same

-- the node at a place, as its kind was answered
kind_is : (v : View) (o : Option ℕ) (i : ℕ) (b : Bool) (c : Bool) → o ≡ Some i → v.is_dir i ≡ Some c → run v (kind_at o) ≡ Ok b → b ≡ c
unfolding run
kind_is v o i b c is known e =
    let asked : run v (kind_at (Some i)) ≡ Ok b = ap (λ x. run v (kind_at x)) (sym is) ∙ e in
    let here : Ok (is_true (v.is_dir i)) ≡ Ok b = asked in
    let now : Ok c ≡ Ok b = sym (ap (λ x. Ok (is_true x)) known) ∙ here in
    cc

-- a named node that was answered to be no directory is a file, whose names are those that are looked up
named_file : (g : Graph) (d : Descriptors) (place : Place) (i : ℕ) (b : Bool) → IsFair g d → IsPlace g place → place.inode ≡ Some i → run (graph_view g d) (kind_at place.inode) ≡ Ok b → b ≡ false → IsEntry g place.location (i, kind.File) × IsUsedFile g d i
named_file g d place i b sound at is e no_dir =
    let node = named_at g d place i sound at is in
    elim (node.kind) as (λ k. node.kind ≡ k → IsEntry g place.location (i, kind.File) × IsUsedFile g d i) [
      | kind.File ↦ λ same.
          let entry = subst (λ k. IsEntry g place.location (i, k)) same node.entry in
          let f = has_file g i (node.node ∙ ap Some same) in
          let used = used_by_name g d place.location i f.names f.bytes kind.File sound entry f.is in
          (entry, record { names = f.names; bytes = f.bytes; is = f.is; used = used })
      | kind.Directory ↦ λ same.
          let f = has_dir g i (node.node ∙ ap Some same) in
          let yes = kind_is (graph_view g d) place.inode i b true is (view_is_dir g d i f.names f.entries f.is) e in
          absurd (let clash : true ≡ false = sym yes ∙ no_dir in cc)
    ] refl

unlink_fits : (g : Graph) (d : Descriptors) (own : Own) (path : List ℕ) (operation : Operation) → IsFair g d → run (graph_view g d) (unlink path) ≡ Ok operation → OperationFits g d own operation
unfolding unlink
unlink_fits g d own path operation sound e =
    let v = graph_view g d in
    let names = bind_ok v _ _ _ e in
    let busy = bind_ok v _ _ _ names.2 in
    let place = bind_ok v _ _ _ busy.2 in
    let i = bind_ok v _ _ _ place.2 in
    let is_dir = bind_ok v _ _ _ i.2 in
    let refused = bind_ok v _ _ _ is_dir.2 in
    let at = beyond g names.0 place.0 (place_of g d names.0 place.0 sound place.1) (not_refused v errno.Busy _ _ busy.1) in
    fits_as g d own _ operation (given v refused.2) (named_file g d place.0 i.0 is_dir.0 sound at (there_is v place.0.inode i.0 i.1) is_dir.1 (not_refused v errno.NotPermitted _ _ refused.1))

-- ---- of an open file

opened_is : (v : View) (test : Descriptor → Bool) (o : Option Descriptor) (i : ℕ) → run v (open_inode test o) ≡ Ok i → (x : Descriptor) × (o ≡ Some x) × (x.inode ≡ i)
unfolding run
opened_is v test None i e = absurd (cc)
opened_is v test (Some x) i e = (x, refl, elim (test x) as (λ b. run v (cond b (Gives x.inode) (Refuses errno.BadDescriptor)) ≡ Ok i → x.inode ≡ i) [ true ↦ λ s. cc | false ↦ λ s. absurd (cc) ] e)

pub open_file : (g : Graph) (d : Descriptors) (c n : ℕ) (x : Descriptor) (i : ℕ) → IsFair g d → d c n ≡ Some x → x.inode ≡ i → IsUsedFile g d i
open_file g d c n x i sound is same =
    let f = has_file g i (ap (λ j. kind_of (g j)) (sym same) ∙ sound.typed.opened c n x is) in
    let range = sound.typed.in_range c n x is in
    let held : is_open d i ≡ true = ap (is_open d) (sym same) ∙ opens.open_there d c n x range.0 range.1 range.2 is in
    record { names = f.names; bytes = f.bytes; is = f.is; used = ap (λ b. f.names == 0 && not b) held ∙ and_false (f.names == 0) } where
      and_false : (b : Bool) → (b && false) ≡ false
      and_false true = refl
      and_false false = refl

write_fits : (g : Graph) (d : Descriptors) (own : Own) (i at : ℕ) (bytes : List ℕ) (operation : Operation) → IsUsedFile g d i → run (graph_view g d) (write_at i at bytes) ≡ Ok operation → OperationFits g d own operation
write_fits g d own i at [] operation is e = fits_as g d own _ operation (given (graph_view g d) e) tt
write_fits g d own i at (b ∷ bytes) operation is e = let big = bind_ok (graph_view g d) _ _ _ e in fits_as g d own _ operation (given (graph_view g d) big.2) is

pwrite_fits : (g : Graph) (d : Descriptors) (own : Own) (client number at : ℕ) (bytes : List ℕ) (operation : Operation) → IsFair g d → run (graph_view g d) (pwrite (d client) number at bytes) ≡ Ok operation → OperationFits g d own operation
unfolding pwrite
pwrite_fits g d own client number at bytes operation sound e =
    let v = graph_view g d in
    let i = bind_ok v _ _ _ e in
    let long = bind_ok v _ _ _ i.2 in
    let x = opened_is v (λ o. o.writes) (d client number) i.0 i.1 in
    write_fits g d own i.0 at bytes operation (open_file g d client number x.0 i.0 sound x.1 x.2) long.2

-- ---- by a path that may be the root's

-- what is no directory is a file, and beyond the root
file_beyond : (g : Graph) (d : Descriptors) (names : List (List ℕ)) (place : Place) (i : ℕ) (b : Bool) → IsFair g d → Leads g names place → place.inode ≡ Some i → run (graph_view g d) (kind_at place.inode) ≡ Ok b → b ≡ false → IsUsedFile g d i
file_beyond g d names place i b sound (inl end) is e no_dir =
    let one : Some 1 ≡ Some i = sym (ap (λ p. p.inode) end.1) ∙ is in
    let same : 1 ≡ i = cc in
    let f = has_dir g i (ap (λ j. kind_of (g j)) (sym same) ∙ sound.typed.root) in
    let yes = kind_is (graph_view g d) place.inode i b true is (view_is_dir g d i f.names f.entries f.is) e in
    absurd (let clash : true ≡ false = sym yes ∙ no_dir in cc)
file_beyond g d names place i b sound (inr at) is e no_dir = (named_file g d place i b sound at is e no_dir).1

truncate_fits : (g : Graph) (d : Descriptors) (own : Own) (path : List ℕ) (len : ℕ) (operation : Operation) → IsFair g d → run (graph_view g d) (truncate path len) ≡ Ok operation → OperationFits g d own operation
unfolding truncate
truncate_fits g d own path len operation sound e =
    let v = graph_view g d in
    let names = bind_ok v _ _ _ e in
    let place = bind_ok v _ _ _ names.2 in
    let i = bind_ok v _ _ _ place.2 in
    let is_dir = bind_ok v _ _ _ i.2 in
    let refused = bind_ok v _ _ _ is_dir.2 in
    let big = bind_ok v _ _ _ refused.2 in
    let seen = bind_ok v _ _ _ big.2 in
    let node = file_beyond g d names.0 place.0 i.0 is_dir.0 sound (place_of g d names.0 place.0 sound place.1) (there_is v place.0.inode i.0 i.1) is_dir.1 (not_refused v errno.IsDirectory _ _ refused.1) in
    fits_as g d own _ operation (given v seen.2) (elim (seen.0 == len) as (λ b. OperationFits g d own (cond b (Tell replies.Done) (Resize i.0 len))) [ true ↦ tt | false ↦ node ])

link_fits : (g : Graph) (d : Descriptors) (own : Own) (old new : List ℕ) (operation : Operation) → IsFair g d → run (graph_view g d) (link old new) ≡ Ok operation → OperationFits g d own operation
unfolding link
link_fits g d own old new operation sound e =
    let v = graph_view g d in
    let old_names = bind_ok v _ _ _ e in
    let new_names = bind_ok v _ _ _ old_names.2 in
    let from = bind_ok v _ _ _ new_names.2 in
    let i = bind_ok v _ _ _ from.2 in
    let is_dir = bind_ok v _ _ _ i.2 in
    let refused = bind_ok v _ _ _ is_dir.2 in
    let to = bind_ok v _ _ _ refused.2 in
    let exists = bind_ok v _ _ _ to.2 in
    let seen = bind_ok v _ _ _ exists.2 in
    let many = bind_ok v _ _ _ seen.2 in
    let full = bind_ok v _ _ _ many.2 in
    let node = file_beyond g d old_names.0 from.0 i.0 is_dir.0 sound (place_of g d old_names.0 from.0 sound from.1) (there_is v from.0.inode i.0 i.1) is_dir.1 (not_refused v errno.NotPermitted _ _ refused.1) in
    let none = not_refused v errno.Exists _ _ exists.1 in
    let at = unmade g new_names.0 to.0 (place_of g d new_names.0 to.0 sound to.1) none in
    fits_as g d own _ operation (given v full.2) (room_at g to.0 at (nothing_there to.0.inode none), node)

-- ---- directories

-- the kind of a named node is what was answered
kind_named : (g : Graph) (d : Descriptors) (place : Place) (i : ℕ) (b : Bool) → IsFair g d → IsPlace g place → place.inode ≡ Some i → run (graph_view g d) (kind_at place.inode) ≡ Ok b → IsEntry g place.location (i, kind_if b) × (kind_of (g i) ≡ Some (kind_if b))
kind_named g d place i b sound at is e =
    let node = named_at g d place i sound at is in
    elim (node.kind) as (λ k. node.kind ≡ k → IsEntry g place.location (i, kind_if b) × (kind_of (g i) ≡ Some (kind_if b))) [
      | kind.File ↦ λ same.
          let entry = subst (λ k. IsEntry g place.location (i, k)) same node.entry in
          let f = has_file g i (node.node ∙ ap Some same) in
          let used = used_by_name g d place.location i f.names f.bytes kind.File sound entry f.is in
          let no_dir = kind_is (graph_view g d) place.inode i b false is (view_is_file g d i f.names f.bytes f.is used) e in
          let kinds : kind.File ≡ kind_if b = sym (ap kind_if no_dir) in
          (subst (λ k. IsEntry g place.location (i, k)) kinds entry, node.node ∙ ap Some (same ∙ kinds))
      | kind.Directory ↦ λ same.
          let f = has_dir g i (node.node ∙ ap Some same) in
          let yes = kind_is (graph_view g d) place.inode i b true is (view_is_dir g d i f.names f.entries f.is) e in
          let kinds : kind.Directory ≡ kind_if b = sym (ap kind_if yes) in
          (subst (λ k. IsEntry g place.location (i, k)) (same ∙ kinds) node.entry, node.node ∙ ap Some (same ∙ kinds))
    ] refl

none_of_test : (n : ℕ) → nat_lt 0 n ≡ false → n ≡ 0
none_of_test n e = let h : n ≤ 0 = ltb-false 0 n e in omega (arith, h)

empty_seen : (g : Graph) (d : Descriptors) (i : ℕ) (es : Entries ℕ) → kind_of (g i) ≡ Some kind.Directory → run (graph_view g d) (entries_at i) ≡ Ok es → nat_lt 0 (fin.len es) ≡ false → IsEmptyDir g i
empty_seen g d i es is e none =
    let f = has_dir g i is in
    let seen = looked (graph_view g d) i entries_seen es e in
    let same : without_kinds f.entries ≡ es = sym (ap entries_seen (view_dir g d i f.names f.entries f.is)) ∙ seen in
    record { names = f.names; entries = f.entries; is = f.is; none = no_inodes f.entries (ap fin.len same ∙ none_of_test (fin.len es) none) }

not_not : (b : Bool) → not b ≡ false → b ≡ true
not_not true e = refl
not_not false e = absurd (cc)

rmdir_fits : (g : Graph) (d : Descriptors) (own : Own) (path : List ℕ) (operation : Operation) → IsFair g d → run (graph_view g d) (rmdir path) ≡ Ok operation → OperationFits g d own operation
unfolding rmdir
rmdir_fits g d own path operation sound e =
    let v = graph_view g d in
    let names = bind_ok v _ _ _ e in
    let busy = bind_ok v _ _ _ names.2 in
    let place = bind_ok v _ _ _ busy.2 in
    let i = bind_ok v _ _ _ place.2 in
    let is_dir = bind_ok v _ _ _ i.2 in
    let refused = bind_ok v _ _ _ is_dir.2 in
    let seen = bind_ok v _ _ _ refused.2 in
    let full = bind_ok v _ _ _ seen.2 in
    let at = beyond g names.0 place.0 (place_of g d names.0 place.0 sound place.1) (not_refused v errno.Busy _ _ busy.1) in
    let node = kind_named g d place.0 i.0 is_dir.0 sound at (there_is v place.0.inode i.0 i.1) is_dir.1 in
    let yes = ap kind_if (not_not is_dir.0 (not_refused v errno.NotDirectory _ _ refused.1)) in
    fits_as g d own _ operation (given v full.2) (subst (λ k. IsEntry g place.0.location (i.0, k)) yes node.0, empty_seen g d i.0 seen.0 (node.1 ∙ ap Some yes) seen.1 (not_refused v errno.NotEmpty _ _ full.1))

replaced_fits : (g : Graph) (d : Descriptors) (own : Own) (from to : Place) (i : ℕ) (old_dir : Bool) (o : Option ℕ) (replaced : Replaced) → IsFair g d → IsPlace g to → to.inode ≡ o → leads_to i o ≡ false
    → run (graph_view g d) (replaced_at from to old_dir o) ≡ Ok replaced → FitsReplaced g d to.location i replaced
replaced_fits g d own from to i old_dir None replaced sound at is other e =
    let full = bind_ok (graph_view g d) _ _ _ e in
    subst (FitsReplaced g d to.location i) (given (graph_view g d) full.2) (room_at g to at is)
replaced_fits g d own from to i old_dir (Some j) replaced sound at is other e =
    let v = graph_view g d in
    let new_dir = bind_ok v _ _ _ e in
    let no_dir = bind_ok v _ _ _ new_dir.2 in
    let no_file = bind_ok v _ _ _ no_dir.2 in
    let asked : run v (kind_at to.inode) ≡ Ok new_dir.0 = ap (λ x. run v (kind_at x)) is ∙ new_dir.1 in
    let node = kind_named g d to j new_dir.0 sound at is asked in
    let apart : i ≢ j = λ same. let yes : (i == j) ≡ true = eq-eqb i j same in let clash : true ≡ false = sym yes ∙ other in absurd (cc) in
    elim (new_dir.0) as (λ b. new_dir.0 ≡ b → run v (cond b (replacing_dir j) (Gives (OldFile j))) ≡ Ok replaced → FitsReplaced g d to.location i replaced) [
      | true ↦ λ so rest.
          let entries = bind_ok v _ _ _ rest in
          let full = bind_ok v _ _ _ entries.2 in
          subst (FitsReplaced g d to.location i) (given v full.2)
          (apart, subst (λ b. IsEntry g to.location (j, kind_if b)) so node.0, empty_seen g d j entries.0 (node.1 ∙ ap (λ b. Some (kind_if b)) so) entries.1 (not_refused v errno.NotEmpty _ _ full.1))
      | false ↦ λ so rest.
          let file = named_file g d to j new_dir.0 sound at is asked so in
          subst (FitsReplaced g d to.location i) (given v rest) (apart, file.0, file.1)
    ] refl no_file.2

renamed_fits : (g : Graph) (d : Descriptors) (own : Own) (from to : Place) (i : ℕ) (operation : Operation) → IsFair g d → IsPlace g from → from.inode ≡ Some i → IsPlace g to → IsClear (tree_of (reachable_graph g d)) i to.location.parent → leads_to i to.inode ≡ false → run (graph_view g d) (rename_to from to i) ≡ Ok operation → OperationFits g d own operation
renamed_fits g d own from to i operation sound at is at_to clear other e =
    let v = graph_view g d in
    let old_dir = bind_ok v _ _ _ e in
    let replaced = bind_ok v _ _ _ old_dir.2 in
    let node = kind_named g d from i old_dir.0 sound at is old_dir.1 in
    fits_as g d own _ operation (given v replaced.2) (node.0, clear, replaced_fits g d own from to i old_dir.0 to.inode replaced.0 sound at_to refl other replaced.1)

-- the walk to a name that is not the root's
clear_of_walk : (g : Graph) (d : Descriptors) (i : ℕ) (names : List (List ℕ)) (place : Place) → IsFair g d → is_root names ≡ false → run (graph_view g d) (prefix names) ≡ Ok place → list_any (λ x. x == i) place.walked ≡ false → IsClear (tree_of (reachable_graph g d)) i place.location.parent
clear_of_walk g d i [] place sound busy e clear = absurd (cc)
clear_of_walk g d i (name ∷ names) place sound busy e clear = clear_walk g d i name names place sound.typed.root e clear

rename_fits : (g : Graph) (d : Descriptors) (own : Own) (old new : List ℕ) (operation : Operation) → IsFair g d → run (graph_view g d) (rename old new) ≡ Ok operation → OperationFits g d own operation
unfolding rename
rename_fits g d own old new operation sound e =
    let v = graph_view g d in
    let old_names = bind_ok v _ _ _ e in
    let new_names = bind_ok v _ _ _ old_names.2 in
    let busy = bind_ok v _ _ _ new_names.2 in
    let from = bind_ok v _ _ _ busy.2 in
    let i = bind_ok v _ _ _ from.2 in
    let to = bind_ok v _ _ _ i.2 in
    let under = bind_ok v _ _ _ to.2 in
    let roots = or_left (is_root old_names.0) (is_root new_names.0) (not_refused v errno.Busy _ _ busy.1) in
    let at = beyond g old_names.0 from.0 (place_of g d old_names.0 from.0 sound from.1) roots.0 in
    let at_to = beyond g new_names.0 to.0 (place_of g d new_names.0 to.0 sound to.1) roots.1 in
    elim (leads_to i.0 to.0.inode) as (λ b. leads_to i.0 to.0.inode ≡ b → run v (cond b (Gives (Tell replies.Done)) (rename_to from.0 to.0 i.0)) ≡ Ok operation → OperationFits g d own operation) [
      | true ↦ λ same done. fits_as g d own _ operation (given v done) tt
      | false ↦ λ other rest. renamed_fits g d own from.0 to.0 i.0 operation sound at (there_is v from.0.inode i.0 i.1) at_to (clear_of_walk g d i.0 new_names.0 to.0 sound roots.1 to.1 (not_refused v errno.Invalid _ _ under.1)) other rest
    ] refl under.2

-- ---- two names that change what they lead to

apart_fits : (g : Graph) (d : Descriptors) (own : Own) (one two : Place) (i j : ℕ) (operation : Operation) → IsFair g d → IsPlace g one → one.inode ≡ Some i → IsPlace g two → two.inode ≡ Some j → (i == j) ≡ false
    → (list_any (λ x. x == j) one.walked ≡ false → IsClear (tree_of (reachable_graph g d)) j one.location.parent) → (list_any (λ x. x == i) two.walked ≡ false → IsClear (tree_of (reachable_graph g d)) i two.location.parent)
    → run (graph_view g d) (exchange_apart one two i j) ≡ Ok operation → OperationFits g d own operation
apart_fits g d own one two i j operation sound at_one is_one at_two is_two other clear_one clear_two e =
    let v = graph_view g d in
    let under = bind_ok v _ _ _ e in
    let clear = or_left (list_any (λ x. x == j) one.walked) (list_any (λ x. x == i) two.walked) (not_refused v errno.Invalid _ _ under.1) in
    let first = named_at g d one i sound at_one is_one in
    let second = named_at g d two j sound at_two is_two in
    let apart : i ≢ j = λ same. let yes : (i == j) ≡ true = eq-eqb i j same in let clash : true ≡ false = sym yes ∙ other in absurd (cc) in
    fits_as g d own _ operation (given v under.2) (record { apart = apart; one = first.kind; two = second.kind; first_is = first.entry; second_is = second.entry; clear_first = clear_one clear.0; clear_second = clear_two clear.1 })

exchange_fits : (g : Graph) (d : Descriptors) (own : Own) (first second : List ℕ) (operation : Operation) → IsFair g d → run (graph_view g d) (exchange first second) ≡ Ok operation → OperationFits g d own operation
unfolding exchange
exchange_fits g d own first second operation sound e =
    let v = graph_view g d in
    let first_names = bind_ok v _ _ _ e in
    let second_names = bind_ok v _ _ _ first_names.2 in
    let busy = bind_ok v _ _ _ second_names.2 in
    let one = bind_ok v _ _ _ busy.2 in
    let i = bind_ok v _ _ _ one.2 in
    let two = bind_ok v _ _ _ i.2 in
    let j = bind_ok v _ _ _ two.2 in
    let roots = or_left (is_root first_names.0) (is_root second_names.0) (not_refused v errno.Busy _ _ busy.1) in
    let at_one = beyond g first_names.0 one.0 (place_of g d first_names.0 one.0 sound one.1) roots.0 in
    let at_two = beyond g second_names.0 two.0 (place_of g d second_names.0 two.0 sound two.1) roots.1 in
    elim (i.0 == j.0) as (λ b. (i.0 == j.0) ≡ b → run v (cond b (Gives (Tell replies.Done)) (exchange_apart one.0 two.0 i.0 j.0)) ≡ Ok operation → OperationFits g d own operation) [
      | true ↦ λ same done. fits_as g d own _ operation (given v done) tt
      | false ↦ λ other rest.
          apart_fits g d own one.0 two.0 i.0 j.0 operation sound at_one (there_is v one.0.inode i.0 i.1) at_two (there_is v two.0.inode j.0 j.1) other
          (clear_of_walk g d j.0 first_names.0 one.0 sound roots.0 one.1) (clear_of_walk g d i.0 second_names.0 two.0 sound roots.1 two.1) rest
    ] refl j.2

-- ---- open

lowest : (own : Own) (n k m : ℕ) → lowest_free own n k ≡ Some m → (own m ≡ None) × (m < n + k)
lowest own n zero m e = absurd (cc)
lowest own n (suc k) m e = elim (own n) as (λ o. own n ≡ o → elim o [ None ↦ Some n | Some x ↦ lowest_free own (n + 1) k ] ≡ Some m → (own m ≡ None) × (m < n + suc k)) [
  | None ↦ λ is here. let same : n ≡ m = cc in (ap own (sym same) ∙ is, omega (arith, same))
  | Some x ↦ λ is later. let r = lowest own (n + 1) k m later in let l = r.1 in (r.0, omega (arith, l))
] refl e

number_some : (v : View) (own : Own) (o : Option ℕ) (number : ℕ) → lowest_free own 0 32 ≡ o → run v (number_or o) ≡ Ok number → IsNumber own number
unfolding run
number_some v own None number is e = absurd (cc)
number_some v own (Some n) number is e =
    let same : n ≡ number = cc in
    let r = lowest own 0 32 number (is ∙ ap (λ x. Some x) same) in
    let l = r.1 in
    record { low = omega (arith, l); none = r.0 }

number_is : (v : View) (own : Own) (number : ℕ) → run v (number_or (lowest_free own 0 32)) ≡ Ok number → IsNumber own number
number_is v own number e = number_some v own (lowest_free own 0 32) number refl e

open_there_fits : (g : Graph) (d : Descriptors) (own : Own) (names : List (List ℕ)) (place : Place) (number : ℕ) (f : Flags) (b : Bool) (o : Option ℕ) (operation : Operation) → IsFair g d → Leads g names place → place.inode ≡ o → run (graph_view g d) (kind_at place.inode) ≡ Ok b → b ≡ false
    → IsNumber own number → run (graph_view g d) (open_there place number f o) ≡ Ok operation → OperationFits g d own operation
open_there_fits g d own names place number f b (Some i) operation sound at is asked no_dir num e =
    let seen = bind_ok (graph_view g d) _ _ _ e in
    fits_as g d own _ operation (given (graph_view g d) seen.2) (file_beyond g d names place i b sound at is asked no_dir, num)
open_there_fits g d own names place number f b None operation sound at is asked no_dir num e =
    let missing = bind_ok (graph_view g d) _ _ _ e in
    let full = bind_ok (graph_view g d) _ _ _ missing.2 in
    fits_as g d own _ operation (given (graph_view g d) full.2) (room_at g place (unmade g names place at (ap is_there is)) is, num)

open_fits : (g : Graph) (d : Descriptors) (own : Own) (path : List ℕ) (f : Flags) (operation : Operation) → IsFair g d → run (graph_view g d) (open_path own path f) ≡ Ok operation → OperationFits g d own operation
unfolding open_path
open_fits g d own path f operation sound e =
    let v = graph_view g d in
    let names = bind_ok v _ _ _ e in
    let senseless = bind_ok v _ _ _ names.2 in
    let number = bind_ok v _ _ _ senseless.2 in
    let place = bind_ok v _ _ _ number.2 in
    let exists = bind_ok v _ _ _ place.2 in
    let is_dir = bind_ok v _ _ _ exists.2 in
    let refused = bind_ok v _ _ _ is_dir.2 in
    open_there_fits g d own names.0 place.0 number.0 f is_dir.0 place.0.inode operation sound (place_of g d names.0 place.0 sound place.1) refl is_dir.1 (not_refused v errno.IsDirectory _ _ refused.1) (number_is v own number.0 number.1) refused.2

-- ---- what changes no tree

close_fits : (g : Graph) (d : Descriptors) (client number : ℕ) (operation : Operation) → IsFair g d → run (graph_view g d) (close (d client) number) ≡ Ok operation → OperationFits g d (d client) operation
unfolding close
close_fits g d client number operation sound e =
    let v = graph_view g d in
    let i = bind_ok v _ _ _ e in
    let x = opened_is v (λ o. true) (d client number) i.0 i.1 in
    fits_as g d (d client) _ operation (given v i.2) (open_file g d client number x.0 i.0 sound x.1 x.2, record { what = x.0; is = x.1; inode = x.2 })

pread_fits : (g : Graph) (d : Descriptors) (own : Own) (number at count : ℕ) (operation : Operation) → run (graph_view g d) (pread own number at count) ≡ Ok operation → OperationFits g d own operation
unfolding pread
pread_fits g d own number at count operation e =
    let v = graph_view g d in
    let i = bind_ok v _ _ _ e in
    let long = bind_ok v _ _ _ i.2 in
    let size = bind_ok v _ _ _ long.2 in
    let bytes = bind_ok v _ _ _ size.2 in
    fits_as g d own _ operation (given v bytes.2) tt

list_fits : (g : Graph) (d : Descriptors) (own : Own) (path : List ℕ) (operation : Operation) → run (graph_view g d) (list_path path) ≡ Ok operation → OperationFits g d own operation
unfolding list_path
list_fits g d own path operation e =
    let v = graph_view g d in
    let names = bind_ok v _ _ _ e in
    let place = bind_ok v _ _ _ names.2 in
    let i = bind_ok v _ _ _ place.2 in
    let is_dir = bind_ok v _ _ _ i.2 in
    let refused = bind_ok v _ _ _ is_dir.2 in
    let entries = bind_ok v _ _ _ refused.2 in
    fits_as g d own _ operation (given v entries.2) tt

described_fits : (g : Graph) (d : Descriptors) (own : Own) (v : View) (s : Option Seen) (operation : Operation) → run v (node_description s) ≡ Ok operation → OperationFits g d own operation
unfolding run
described_fits g d own v None operation e = absurd (cc)
described_fits g d own v (Some (File names size)) operation e = fits_as g d own _ operation (given v e) tt
described_fits g d own v (Some (Dir entries)) operation e = fits_as g d own _ operation (given v e) tt

node_described : (v : View) (i : ℕ) (operation : Operation) → run v (Look i node_description) ≡ Ok operation → run v (node_description (v.node i)) ≡ Ok operation
unfolding run
node_described v i operation e = e

stat_fits : (g : Graph) (d : Descriptors) (own : Own) (path : List ℕ) (operation : Operation) → run (graph_view g d) (stat path) ≡ Ok operation → OperationFits g d own operation
unfolding stat
stat_fits g d own path operation e =
    let v = graph_view g d in
    let names = bind_ok v _ _ _ e in
    let place = bind_ok v _ _ _ names.2 in
    let i = bind_ok v _ _ _ place.2 in
    described_fits g d own v (v.node i.0) operation (node_described v i.0 operation i.2)

-- every call
pub decide_fits : (g : Graph) (d : Descriptors) (client : ℕ) (c : Call) (operation : Operation) → IsFair g d → run (graph_view g d) (decide (d client) c) ≡ Ok operation → OperationFits g d (d client) operation
decide_fits g d client (call.Open path flags) operation sound e = open_fits g d (d client) path flags operation sound e
decide_fits g d client (call.Close number) operation sound e = close_fits g d client number operation sound e
decide_fits g d client (call.Pread number at count) operation sound e = pread_fits g d (d client) number at count operation e
decide_fits g d client (call.Pwrite number at bytes) operation sound e = pwrite_fits g d (d client) client number at bytes operation sound e
decide_fits g d client (call.Truncate path len) operation sound e = truncate_fits g d (d client) path len operation sound e
decide_fits g d client (call.Mkdir path) operation sound e = mkdir_fits g d (d client) path operation sound e
decide_fits g d client (call.Rmdir path) operation sound e = rmdir_fits g d (d client) path operation sound e
decide_fits g d client (call.Link old new) operation sound e = link_fits g d (d client) old new operation sound e
decide_fits g d client (call.Unlink path) operation sound e = unlink_fits g d (d client) path operation sound e
decide_fits g d client (call.Rename old new) operation sound e = rename_fits g d (d client) old new operation sound e
decide_fits g d client (call.Exchange first second) operation sound e = exchange_fits g d (d client) first second operation sound e
decide_fits g d client (call.List path) operation sound e = list_fits g d (d client) path operation e
decide_fits g d client (call.Stat path) operation sound e = stat_fits g d (d client) path operation e
