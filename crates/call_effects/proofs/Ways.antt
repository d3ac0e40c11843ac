-- Each directory stays reached from the root: as the tree of a graph changes, name by name.
use Rattle.std.proofs.Common.{◌≡◌, ◌≢◌, inl, inr, ℕ, List, [], ◌∷◌, refl, Some, None, ap, sym, ◌∙◌, subst, true, false, ◌==◌, if◌then◌else◌}
use Rattle.std.specs.Prelude.{option_map, ◌&&◌, not}
use Rattle.std.proofs.lemmas.Bool.Decides.{eqb_tells}
use Rattle.std.specs.FinMap as fin
use Rattle.posix_calls.specs.Tree.{Tree, File, Dir, Descriptors, set_node, entries_of, names_of, is_open}
use Rattle.posix_calls.specs.Query.{dir_test}
use Rattle.posix_calls.specs.WellFormed.{IsDirectory, IsFile}
use Rattle.posix_calls.specs.declared.operation.Location.{Location}
use Rattle.posix_calls.specs.Operations.{with_entry, without_entry, less_unused}
use Rattle.posix_calls.proofs.Changes.{entry, IsBare, bare_entry, bare_file, bare_same, bare_entries, set_there, set_other, entered_kind, entered_here, entered_keeps, left_kind, left_keeps}
use Rattle.posix_calls.proofs.Reached.{Edge, Chain, Avoids, path_chain, chain_path, chain_moves, chain_stays, reached_moved, reached_beside, reached_new}
use Rattle.posix_calls.proofs.Reached as way
use Rattle.posix_calls.proofs.Kept.{dirs_set, not_both}
use Rattle.call_effects.specs.Wholes.{AreReached}
use Rattle.call_effects.specs.Fits.{IsClear}

pub chains : (t : Tree) → AreReached t → way.AreReached t
chains t reached = λ j is. let p = reached j is in path_chain t p.0 1 j p.1

pub paths : (t : Tree) → way.AreReached t → AreReached t
paths t reached = λ j is. let c = reached j is in chain_path t c.0 1 j c.1

-- trees with the same entries
pub reached_alike : (t u : Tree) → ((a : ℕ) → entries_of (t a) ≡ entries_of (u a)) → ((j : ℕ) → IsDirectory (u j) → IsDirectory (t j)) → way.AreReached t → way.AreReached u
reached_alike t u same dirs reached = λ j is. let r = reached j (dirs j is) in (r.0, chain_stays t u (λ a c e. (e.0, ap (λ m. fin.get m e.0) (sym (same a)) ∙ e.1)) 1 r.0 j r.1)

-- ---- files

no_dir_file : (bytes : List ℕ) → IsDirectory (Some (File bytes)) → ⊥
no_dir_file bytes e = cc

no_dir_none : IsDirectory None → ⊥
no_dir_none e = cc

-- a node without entries is changed for a file
pub reached_file : (t : Tree) (i : ℕ) (bytes : List ℕ) → IsBare (t i) → way.AreReached t → way.AreReached (set_node t i (Some (File bytes)))
reached_file t i bytes bare reached = reached_alike t (set_node t i (Some (File bytes))) (λ a. sym (bare_entries t i (Some (File bytes)) bare refl a)) (λ j is. (dirs_set t i (Some (File bytes)) (no_dir_file bytes) j is).0) reached

reached_gone : (t : Tree) (i : ℕ) → IsBare (t i) → way.AreReached t → way.AreReached (set_node t i None)
reached_gone t i bare reached = reached_alike t (set_node t i None) (λ a. sym (bare_entries t i None bare refl a)) (λ j is. (dirs_set t i None no_dir_none j is).0) reached

pub reached_unused : (held : Descriptors) (t : Tree) (i : ℕ) → IsBare (t i) → way.AreReached t → way.AreReached (less_unused held t i)
reached_unused held t i bare reached = elim (names_of t i == 0 && not (is_open held i)) as (λ b. way.AreReached (if b then set_node t i None else t)) [
  | true ↦ reached_gone t i bare reached
  | false ↦ reached
]

-- ---- a name comes, and one goes

pub reached_entered : (t : Tree) (at : Location) (i : ℕ) → IsDirectory (t at.parent) → entry t at ≡ None → way.AreReached t → way.AreReached (with_entry t at i)
reached_entered t at i parent none reached = λ j is.
    let r = reached j (sym (entered_kind t at i parent j) ∙ is) in
    (r.0, chain_stays t (with_entry t at i) (λ a c e. (e.0, entered_keeps t at i none (record { parent = a; name = e.0 }) c e.1)) 1 r.0 j r.1)

-- the name of a file goes
pub reached_left : (t : Tree) (at : Location) (i : ℕ) → IsDirectory (t at.parent) → entry t at ≡ Some i → IsFile (t i) → way.AreReached t → way.AreReached (without_entry t at)
reached_left t at i parent there file reached =
    reached_beside t (without_entry t at) i reached (bare_file (t i) file)
    (λ a c off e. (e.0, left_keeps t at i there (record { parent = a; name = e.0 }) c off e.1))
    (λ j is. let was : IsDirectory (t j) = sym (left_kind t at parent j) ∙ is in (was, λ same. not_both (t i) file (subst (λ k. IsDirectory (t k)) same was)))

-- what has an entry is not bare
pub parent_off : (t : Tree) (at : Location) (i j : ℕ) → entry t at ≡ Some i → IsBare (t j) → at.parent ≢ j
parent_off t at i j there bare same = bare_entry (t j) at.name i bare (ap (λ k. fin.get (entries_of (t k)) at.name) (sym same) ∙ there)

-- a directory without entries goes with its name
pub bare_left : (t : Tree) (at : Location) (i : ℕ) → entry t at ≡ Some i → IsBare (t i) → IsBare (without_entry t at i)
bare_left t at i there bare = ap entries_of (set_other t at.parent i (Some (Dir (fin.remove (entries_of (t at.parent)) at.name))) (λ e. parent_off t at i i there bare (sym e))) ∙ bare

pub removed_edge : (t : Tree) (at : Location) (i : ℕ) → entry t at ≡ Some i → IsBare (t i) → (a c : ℕ) → c ≢ i → Edge t a c → Edge (set_node (without_entry t at) i None) a c
removed_edge t at i there bare a c off e =
    let x : Location = record { parent = a; name = e.0 } in
    (e.0, bare_same (without_entry t at) i None (bare_left t at i there bare) refl x ∙ left_keeps t at i there x c off e.1)

pub reached_removed : (t : Tree) (at : Location) (i : ℕ) → IsDirectory (t at.parent) → entry t at ≡ Some i → IsBare (t i) → way.AreReached t → way.AreReached (set_node (without_entry t at) i None)
reached_removed t at i parent there bare reached =
    reached_beside t (set_node (without_entry t at) i None) i reached bare (removed_edge t at i there bare)
    (λ j is. let d = dirs_set (without_entry t at) i None no_dir_none j is in (sym (left_kind t at parent j) ∙ d.0, d.1))

-- a new directory
pub reached_made : (t : Tree) (at : Location) (new : ℕ) → t new ≡ None → IsDirectory (t at.parent) → entry t at ≡ None → way.AreReached t → way.AreReached (with_entry (set_node t new (Some (Dir fin.empty))) at new)
reached_made t at new none parent free reached =
    let x = Some (Dir fin.empty) in
    let t1 = set_node t new x in
    let bare : IsBare (t new) = ap entries_of none in
    let off : at.parent ≢ new = λ same. no_dir_none (ap (option_map dir_test) (sym none ∙ ap t (sym same)) ∙ parent) in
    let parent_1 : IsDirectory (t1 at.parent) = ap (option_map dir_test) (set_other t new at.parent x off) ∙ parent in
    let free_1 : entry t1 at ≡ None = bare_same t new x bare refl at ∙ free in
    reached_new t (with_entry t1 at new) new at.parent reached parent
    (λ a c e. let s : Location = record { parent = a; name = e.0 } in (e.0, entered_keeps t1 at new free_1 s c (bare_same t new x bare refl s ∙ e.1)))
    (λ j is other. ap (option_map dir_test) (sym (set_other t new j x other)) ∙ sym (entered_kind t1 at new parent_1 j) ∙ is)
    (at.name, entered_here t1 at new)

pub reached_new_file : (t : Tree) (at : Location) (new : ℕ) → t new ≡ None → IsDirectory (t at.parent) → entry t at ≡ None → way.AreReached t → way.AreReached (with_entry (set_node t new (Some (File []))) at new)
reached_new_file t at new none parent free reached =
    let x = Some (File []) in
    let bare : IsBare (t new) = ap entries_of none in
    let off : at.parent ≢ new = λ same. no_dir_none (ap (option_map dir_test) (sym none ∙ ap t (sym same)) ∙ parent) in
    reached_entered (set_node t new x) at new (ap (option_map dir_test) (set_other t new at.parent x off) ∙ parent) (bare_same t new x bare refl at ∙ free) (reached_file t new [] bare reached)

-- ---- a name moves

-- a way to another node does not come by one without entries
pub avoids_bare : (t : Tree) (i q : ℕ) → IsBare (t i) → q ≢ i → (a : ℕ) (cs : List ℕ) → Chain t a cs q → Avoids i cs
avoids_bare t i q bare other a [] e = tt
avoids_bare t i q bare other a (c ∷ []) e = (λ same. other (sym e.1 ∙ same), tt)
avoids_bare t i q bare other a (c ∷ b ∷ cs) e =
    (λ same. bare_entry (t i) e.1.0.0 b bare (ap (λ k. fin.get (entries_of (t k)) e.1.0.0) (sym same) ∙ e.1.0.1), avoids_bare t i q bare other c (b ∷ cs) e.1)

-- what leads somewhere without a node does so with it
with_node : (t : Tree) (i a c : ℕ) → Edge (set_node t i None) a c → Edge t a c
with_node t i a c e = elim (eqb_tells a i) [
  | inl same ↦ absurd (bare_entry None e.0 c refl (ap (λ o. fin.get (entries_of o) e.0) (sym (set_there t i None)) ∙ ap (λ k. fin.get (entries_of (set_node t i None k)) e.0) (sym same.1) ∙ e.1))
  | inr off ↦ (e.0, ap (λ o. fin.get (entries_of o) e.0) (sym (set_other t i a None off.1)) ∙ e.1)
]

-- a way from the root that does not come by a node
abbrev pub Clear : Tree → ℕ → ℕ → Type 0
Clear t i q = (qs : List ℕ) × Avoids i qs × Chain t 1 qs q

pub clear_of : (t : Tree) (i q : ℕ) → IsClear t i q → Clear t i q
clear_of t i q clear =
    let way = path_chain (set_node t i None) clear.path 1 q clear.leads in
    (way.0, avoids_bare (set_node t i None) i q (ap entries_of (set_there t i None)) clear.apart 1 way.0 way.1, chain_stays (set_node t i None) t (with_node t i) 1 way.0 q way.1)

-- and none by a bare node that goes
pub clear_beside : (t u : Tree) (i j q : ℕ) → IsBare (t j) → q ≢ j → ((a c : ℕ) → c ≢ j → Edge t a c → Edge u a c) → Clear t i q → Clear u i q
clear_beside t u i j q bare other stays clear = (clear.0, clear.1, chain_moves t u j stays 1 clear.0 q (avoids_bare t j q bare other 1 clear.0 clear.2) clear.2)

pub reached_shifted : (t : Tree) (from to : Location) (i : ℕ) → IsDirectory (t from.parent) → entry t from ≡ Some i → IsDirectory (t to.parent) → entry (without_entry t from) to ≡ None → Clear t i to.parent → way.AreReached t → way.AreReached (with_entry (without_entry t from) to i)
reached_shifted t from to i parent there room none clear reached =
    let u = without_entry t from in
    let room_u : IsDirectory (u to.parent) = left_kind t from parent to.parent ∙ room in
    reached_moved t (with_entry u to i) i to.parent reached
    (λ a c off e. let s : Location = record { parent = a; name = e.0 } in (e.0, entered_keeps u to i none s c (left_keeps t from i there s c off e.1)))
    (λ j is. sym (left_kind t from parent j) ∙ sym (entered_kind u to i room_u j) ∙ is)
    (to.name, entered_here u to i) clear.0 clear.1 clear.2
