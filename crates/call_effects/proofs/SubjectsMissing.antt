-- What is missing for an operation's record or growth is a node that the operation changes.
use Rattle.std.proofs.Common.{◌≡◌, ℕ, List, [], ◌∷◌, refl, Some, None, Option, Bool, true, false, ap, sym, ◌∙◌, subst, cond, ◌==◌, ◌||◌, ◌+◌}
use Rattle.std.proofs.lemmas.Bool.{eq-eqb}
use Rattle.posix_calls.specs.declared.operation.Missing.{Missing}
use Rattle.posix_calls.specs.declared.operation.Missing.TheVariants as missing
use Rattle.posix_calls.specs.declared.operation.Location.{Location}
use Rattle.posix_calls.specs.declared.operation.Operation.{Operation}
use Rattle.posix_calls.specs.declared.operation.Operation.TheVariants.{Tell, NewDir, NewFile, OpenFile, CloseFile, Write, Resize, RemoveDir, AddName, DropName, Move, Exchange}
use Rattle.posix_calls.specs.declared.operation.Replaced.TheVariants.{Nothing, OldFile, OldDir}
use Rattle.posix_calls.specs.Query.{Seen, Query, Gives, Look, ◌>>=◌}
use Rattle.posix_calls.specs.Part.{Part, Found, Known, Unknown, run_part}
use Rattle.log_record.specs.file_graph.Graph.{is_among}
use Rattle.call_effects.specs.Effects.{recounted_file}
use Rattle.call_effects.specs.Records.{names_if, effects_asked, growth_asked, entry_rise, move_rise}
use Rattle.call_effects.specs.Subjects.{sorted_inodes, subjects_of, IsSubjectMissing}
use Rattle.call_effects.proofs.SubjectLists.{among_rising}

-- ---- a look, and nothing else

look_misses : {A B : Type 0} (p : Part) (i : ℕ) (f : Option Seen → A) (g : A → B) (what : Missing) → run_part p (Look i (λ s. Gives (f s)) >>= (λ x. Gives (g x))) ≡ Unknown what → (what ≡ missing.Node i) × (p.node i ≡ None)
unfolding run_part ◌>>=◌
look_misses {B = B} p i f g what e =
    elim (p.node i) as (λ o. p.node i ≡ o → ◌≡◌ {A = Found B} (elim o [ None ↦ Unknown (missing.Node i) | Some a ↦ run_part p (Gives (g (f a))) ]) (Unknown what) → (what ≡ missing.Node i) × (p.node i ≡ None)) [
      | None ↦ λ is lacking. ((let same : missing.Node i ≡ what = cc in sym same), is)
      | Some a ↦ λ is lacking. absurd (cc)
    ] refl e

read_misses : {A : Type 0} (p : Part) (i : ℕ) (f : Option Seen → A) (what : Missing) → run_part p (Look i (λ s. Gives (f s))) ≡ Unknown what → (what ≡ missing.Node i) × (p.node i ≡ None)
unfolding run_part
read_misses {A = A} p i f what e =
    elim (p.node i) as (λ o. p.node i ≡ o → ◌≡◌ {A = Found A} (elim o [ None ↦ Unknown (missing.Node i) | Some a ↦ run_part p (Gives (f a)) ]) (Unknown what) → (what ≡ missing.Node i) × (p.node i ≡ None)) [
      | None ↦ λ is lacking. ((let same : missing.Node i ≡ what = cc in sym same), is)
      | Some a ↦ λ is lacking. absurd (cc)
    ] refl e

nothing_misses : {A B : Type 0} (p : Part) (x : A) (what : Missing) → run_part p (Gives x) ≡ Unknown what → B
unfolding run_part
nothing_misses p x what e = absurd (cc)

none_counted : {A B C : Type 0} (p : Part) (x : A) (g : A → B) (what : Missing) → run_part p (Gives x >>= (λ y. Gives (g y))) ≡ Unknown what → C
unfolding run_part ◌>>=◌
none_counted p x g what e = absurd (cc)

-- ---- among the inodes that change

here : (i : ℕ) (is : List ℕ) → is_among i (i ∷ is) ≡ true
here i is = ap (λ b. b || is_among i is) (eq-eqb i i refl)

later : (b c : Bool) → c ≡ true → (b || c) ≡ true
later true c e = refl
later false c e = e

first_of : (i : ℕ) (is : List ℕ) → is_among i (sorted_inodes (i ∷ is)) ≡ true
first_of i is = among_rising i (i ∷ is) ∙ here i is

second_of : (j i : ℕ) (is : List ℕ) → is_among i (sorted_inodes (j ∷ i ∷ is)) ≡ true
second_of j i is = among_rising i (j ∷ i ∷ is) ∙ later (j == i) (is_among i (i ∷ is)) (here i is)

third_of : (j k i : ℕ) → is_among i (sorted_inodes (j ∷ k ∷ i ∷ [])) ≡ true
third_of j k i = among_rising i (j ∷ k ∷ i ∷ []) ∙ later (j == i) (is_among i (k ∷ i ∷ [])) (later (k == i) (is_among i (i ∷ [])) (here i []))

missing_at : {p : Part} {what : Missing} (new : ℕ) (operation : Operation) (i : ℕ) → (what ≡ missing.Node i) × (p.node i ≡ None) → is_among i (subjects_of new operation) ≡ true → IsSubjectMissing p new operation what
missing_at new operation i at among = record { inode = i; is = at.0; among = among; unknown = at.1 }

module _ (p : Part) (new : ℕ) (what : Missing) where
  pub effects_missing : (operation : Operation) → run_part p (effects_asked new operation) ≡ Unknown what → IsSubjectMissing p new operation what
  effects_missing (Tell answer) e = none_counted p 0 _ what e
  effects_missing (NewDir at) e = none_counted p 0 _ what e
  effects_missing (NewFile at number reads writes) e = none_counted p 0 _ what e
  effects_missing (OpenFile i empties number reads writes) e = none_counted p 0 _ what e
  effects_missing (CloseFile i number) e = none_counted p 0 _ what e
  effects_missing (Write i at bytes) e = none_counted p 0 _ what e
  effects_missing (Resize i len) e = none_counted p 0 _ what e
  effects_missing (RemoveDir at i) e = none_counted p 0 _ what e
  effects_missing (AddName at i) e = missing_at new (AddName at i) i (look_misses p i _ _ what e) (first_of i (at.parent ∷ []))
  effects_missing (DropName at i) e = missing_at new (DropName at i) i (look_misses p i _ _ what e) (first_of i (at.parent ∷ []))
  effects_missing (Move from to i is_dir Nothing) e = none_counted p 0 _ what e
  effects_missing (Move from to i is_dir (OldFile j)) e = missing_at new (Move from to i is_dir (OldFile j)) j (look_misses p j _ _ what e) (third_of to.parent from.parent j)
  effects_missing (Move from to i is_dir (OldDir j)) e = none_counted p 0 _ what e
  effects_missing (Exchange first second i j) e = none_counted p 0 _ what e

  rise_missing : (dir : ℕ) → run_part p (entry_rise dir) ≡ Unknown what → (what ≡ missing.Node dir) × (p.node dir ≡ None)
  rise_missing dir e = look_misses p dir _ _ what e

  more_missing : (n dir : ℕ) → run_part p (entry_rise dir >>= (λ rise. Gives (n + rise))) ≡ Unknown what → (what ≡ missing.Node dir) × (p.node dir ≡ None)
  unfolding ◌>>=◌
  more_missing n dir e = read_misses p dir _ what e

  moved_missing : (b : Bool) (dir : ℕ) → run_part p (cond b (Gives 0) (entry_rise dir)) ≡ Unknown what → (what ≡ missing.Node dir) × (p.node dir ≡ None)
  moved_missing true dir e = nothing_misses p 0 what e
  moved_missing false dir e = rise_missing dir e

  pub growth_missing : (operation : Operation) → run_part p (growth_asked operation) ≡ Unknown what → IsSubjectMissing p new operation what
  growth_missing (Tell answer) e = nothing_misses p 0 what e
  growth_missing (NewDir at) e = missing_at new (NewDir at) at.parent (more_missing _ at.parent e) (second_of new at.parent [])
  growth_missing (NewFile at number reads writes) e = missing_at new (NewFile at number reads writes) at.parent (more_missing _ at.parent e) (second_of new at.parent [])
  growth_missing (OpenFile i empties number reads writes) e = nothing_misses p 0 what e
  growth_missing (CloseFile i number) e = nothing_misses p 0 what e
  growth_missing (Write i at bytes) e = missing_at new (Write i at bytes) i (look_misses p i _ _ what e) (here i [])
  growth_missing (Resize i len) e = missing_at new (Resize i len) i (look_misses p i _ _ what e) (here i [])
  growth_missing (RemoveDir at i) e = nothing_misses p 0 what e
  growth_missing (AddName at i) e = missing_at new (AddName at i) at.parent (rise_missing at.parent e) (second_of i at.parent [])
  growth_missing (DropName at i) e = nothing_misses p 0 what e
  growth_missing (Move from to i is_dir Nothing) e = missing_at new (Move from to i is_dir Nothing) to.parent (moved_missing (from.parent == to.parent) to.parent e) (first_of to.parent (from.parent ∷ []))
  growth_missing (Move from to i is_dir (OldFile j)) e = nothing_misses p 0 what e
  growth_missing (Move from to i is_dir (OldDir j)) e = nothing_misses p 0 what e
  growth_missing (Exchange first second i j) e = nothing_misses p 0 what e
