-- An operation's effects and growth as they are asked for, and over the whole.
use Rattle.std.proofs.Common.{◌≡◌, ℕ, ◌+◌, length, refl, Some, None, Option, Ok, cond, ap, sym, ◌∙◌, subst, true, false, ◌==◌}
use Rattle.std.specs.Prelude.{max}
use Rattle.posix_calls.specs.Tree.{Descriptors, Own}
use Rattle.posix_calls.specs.declared.operation.Location.{Location}
use Rattle.posix_calls.specs.declared.operation.Operation.{Operation}
use Rattle.posix_calls.specs.declared.operation.Operation.TheVariants.{Tell, NewDir, NewFile, OpenFile, CloseFile, Write, Resize, RemoveDir, AddName, DropName, Move, Exchange}
use Rattle.posix_calls.specs.declared.operation.Replaced.{Replaced}
use Rattle.posix_calls.specs.declared.operation.Replaced.TheVariants.{Nothing, OldFile, OldDir}
use Rattle.posix_calls.specs.Query.{Gives, ◌>>=◌, run}
use Rattle.posix_calls.specs.Part.{Part, whole_part}
use Rattle.posix_calls.specs.Walk.{names_seen, size_at}
use Rattle.log_record.specs.file_graph.Graph.{Graph}
use Rattle.call_effects.specs.Effects.{stored_count, stored_at, recounted_file, replaced_file, effects_by, effects_of}
use Rattle.call_effects.specs.Records.{names_if, effects_asked, file_rise, entry_rise, move_rise, growth_asked}
use Rattle.call_effects.specs.Wholes.{kind_of, graph_view}
use Rattle.call_effects.specs.Fits.{IsRoom, IsUsedFile, OperationFits, FitsReplaced}
use Rattle.call_effects.proofs.KnownAsking.{query_then, query_gives, query_look, query_entries}
use Rattle.call_effects.proofs.Changes.{IsFair}
use Rattle.call_effects.proofs.Facts.{view_file}
use Rattle.call_effects.proofs.KnownGone.{Stays, QueryKept, dir_stays, used_stays}

-- a file that gets another number of names is one that a call may come to
replaced_used : (g : Graph) (d : Descriptors) (to : Location) (i j : ℕ) (replaced : Replaced) → FitsReplaced g d to i replaced → replaced_file replaced ≡ Some j → IsUsedFile g d j
replaced_used g d to i j Nothing fits is = absurd (cc)
replaced_used g d to i j (OldFile x) fits is = let same : x ≡ j = cc in subst (IsUsedFile g d) same fits.2
replaced_used g d to i j (OldDir x) fits is = absurd (cc)

recounted_used : (g : Graph) (d : Descriptors) (own : Own) (operation : Operation) (j : ℕ) → OperationFits g d own operation → recounted_file operation ≡ Some j → IsUsedFile g d j
recounted_used g d own (AddName at i) j fits is = let same : i ≡ j = cc in subst (IsUsedFile g d) same fits.1
recounted_used g d own (DropName at i) j fits is = let same : i ≡ j = cc in subst (IsUsedFile g d) same fits.1
recounted_used g d own (Move from to i is_dir replaced) j fits is = replaced_used g d to i j replaced fits.2 is
recounted_used g d own (Tell answer) j fits is = absurd (cc)
recounted_used g d own (NewDir at) j fits is = absurd (cc)
recounted_used g d own (NewFile at number reads writes) j fits is = absurd (cc)
recounted_used g d own (OpenFile i empties number reads writes) j fits is = absurd (cc)
recounted_used g d own (CloseFile i number) j fits is = absurd (cc)
recounted_used g d own (Write i at bytes) j fits is = absurd (cc)
recounted_used g d own (Resize i len) j fits is = absurd (cc)
recounted_used g d own (RemoveDir at i) j fits is = absurd (cc)
recounted_used g d own (Exchange first second x y) j fits is = absurd (cc)

-- what is asked for is what is so
effects_by_names : (g : Graph) (d : Descriptors) (new : ℕ) (operation : Operation) (o : Option ℕ) → ((i : ℕ) → o ≡ Some i → IsUsedFile g d i) → run (graph_view g d) (names_if o >>= (λ names. Gives (effects_by names new operation))) ≡ Ok (effects_by (stored_at g o) new operation)
unfolding run ◌>>=◌
effects_by_names g d new operation None used = refl
effects_by_names g d new operation (Some i) used =
    let f = used i refl in
    ap (λ n. Ok (effects_by n new operation)) (ap names_seen (view_file g d i f.names f.bytes f.is f.used) ∙ sym (ap stored_count f.is))

pub effects_are : (g : Graph) (d : Descriptors) (own : Own) (new : ℕ) (operation : Operation) → OperationFits g d own operation → run (graph_view g d) (effects_asked new operation) ≡ Ok (effects_of g new operation)
effects_are g d own new operation fits = effects_by_names g d new operation (recounted_file operation) (λ i is. recounted_used g d own operation i fits is)

-- ---- what is asked for meets no file that is gone

module _ (g : Graph) (d : Descriptors) (own : Own) (fair : IsFair g d) where
  abbrev p : Part
  p = whole_part (graph_view g d)

  abbrev Kept : ℕ → Type 0
  Kept i = Stays g d fair i

  abbrev KeptRange : ℕ → ℕ → ℕ → Type 0
  KeptRange i at count = Kept i

  gives : {A : Type 0} (x : A) → QueryKept g d fair (Gives x)
  gives x = query_gives p Kept Kept KeptRange x

  query_count : (o : Option ℕ) → ((i : ℕ) → o ≡ Some i → IsUsedFile g d i) → QueryKept g d fair (names_if o)
  query_count None used = gives 0
  query_count (Some i) used = query_look p Kept Kept KeptRange i _ (used_stays g d fair i (used i refl)) (λ s. gives _)

  pub query_effects : (new : ℕ) (operation : Operation) → OperationFits g d own operation → QueryKept g d fair (effects_asked new operation)
  query_effects new operation fits = query_then p Kept Kept KeptRange _ _ (query_count (recounted_file operation) (λ i is. recounted_used g d own operation i fits is)) (λ n e. gives _)

  query_rise : (at : Location) → IsRoom g at → QueryKept g d fair (entry_rise at.parent)
  query_rise at room = query_then p Kept Kept KeptRange _ _ (query_entries p Kept Kept KeptRange at.parent (dir_stays g d fair at.parent (ap kind_of room.is))) (λ entries e. gives _)

  query_move : (from to : Location) (i : ℕ) (replaced : Replaced) → FitsReplaced g d to i replaced → QueryKept g d fair (move_rise from to replaced)
  query_move from to i Nothing room = elim (from.parent == to.parent) as (λ b. QueryKept g d fair (cond b (Gives 0) (entry_rise to.parent))) [ true ↦ gives 0 | false ↦ query_rise to room ]
  query_move from to i (OldFile j) fits = gives 0
  query_move from to i (OldDir j) fits = gives 0

  query_size : (i : ℕ) (f : ℕ → ℕ) → IsUsedFile g d i → QueryKept g d fair (size_at i >>= (λ old. Gives (f old)))
  query_size i f used = query_then p Kept Kept KeptRange _ _ (query_look p Kept Kept KeptRange i _ (used_stays g d fair i used) (λ s. gives _)) (λ old e. gives _)

  pub query_growth : (operation : Operation) → OperationFits g d own operation → QueryKept g d fair (growth_asked operation)
  query_growth (NewDir at) room = query_then p Kept Kept KeptRange _ _ (query_rise at room) (λ rise e. gives _)
  query_growth (NewFile at number reads writes) fits = query_then p Kept Kept KeptRange _ _ (query_rise at fits.0) (λ rise e. gives _)
  query_growth (Write i at bytes) used = query_size i (λ old. file_rise old (max old (at + length bytes))) used
  query_growth (Resize i len) used = query_size i (λ old. file_rise old len) used
  query_growth (AddName at i) fits = query_rise at fits.0
  query_growth (Move from to i is_dir replaced) fits = query_move from to i replaced fits.2
  query_growth (Tell answer) fits = gives 0
  query_growth (OpenFile i empties number reads writes) fits = gives 0
  query_growth (CloseFile i number) fits = gives 0
  query_growth (RemoveDir at i) fits = gives 0
  query_growth (DropName at i) fits = gives 0
  query_growth (Exchange first second i j) fits = gives 0
