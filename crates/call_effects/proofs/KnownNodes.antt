-- An operation's effects and its growth miss nothing but nodes: they ask for no bytes.
use Rattle.std.proofs.Common.{◌≡◌, ℕ, Some, None, Option, cond, true, false, ◌==◌, refl, ap, ◌∙◌}
use Rattle.posix_calls.specs.Query.{Seen, Query, Gives, Refuses, IsDir, Look, Range, ◌>>=◌}
use Rattle.posix_calls.specs.Part.{Part, Found, Unknown, run_part}
use Rattle.posix_calls.specs.declared.operation.Location.{Location}
use Rattle.posix_calls.specs.declared.operation.Missing.{Missing}
use Rattle.posix_calls.specs.declared.operation.Missing.TheVariants as missing
use Rattle.posix_calls.specs.declared.operation.Operation.{Operation}
use Rattle.posix_calls.specs.declared.operation.Operation.TheVariants.{Tell, NewDir, NewFile, OpenFile, CloseFile, Write, Resize, RemoveDir, AddName, DropName, Move, Exchange}
use Rattle.posix_calls.specs.declared.operation.Replaced.{Replaced}
use Rattle.posix_calls.specs.declared.operation.Replaced.TheVariants.{Nothing, OldFile, OldDir}
use Rattle.call_effects.specs.Effects.{recounted_file}
use Rattle.call_effects.specs.Records.{names_if, effects_asked, entry_rise, move_rise, growth_asked}
use Rattle.call_effects.specs.Knowledge.{Knowledge, IsNodeMissing, part_of}
use Rattle.call_effects.proofs.KnownAsking.{QueryAll, query_then, query_gives, query_look}
use Rattle.call_effects.proofs.KnownMissing.{missing_no_copy}

abbrev Any : ℕ → Type 0
Any i = Unit {0}

abbrev NoRange : ℕ → ℕ → ℕ → Type 0
NoRange i at count = ⊥

-- where no bytes are asked for, what is missing is a node
node_missing : {A : Type 0} (p : Part) (q : Query A) (what : Missing) → QueryAll p Any Any NoRange q → run_part p q ≡ Unknown what → (i : ℕ) × (what ≡ missing.Node i)
unfolding QueryAll run_part
node_missing p (Gives x) what asks e = absurd (cc)
node_missing p (Refuses x) what asks e = absurd (cc)
node_missing {A = A} p (IsDir j next) what (met, asks) e =
    elim (p.is_dir j) as (λ o. p.is_dir j ≡ o → ◌≡◌ {A = Found A} (elim o [ None ↦ Unknown (missing.Node j) | Some a ↦ run_part p (next a) ]) (Unknown what) → (i : ℕ) × (what ≡ missing.Node i)) [
      | None ↦ λ is lacking. (j, cc)
      | Some a ↦ λ is lacking. node_missing p (next a) what (asks a is) lacking
    ] refl e
node_missing {A = A} p (Look j next) what (met, asks) e =
    elim (p.node j) as (λ o. p.node j ≡ o → ◌≡◌ {A = Found A} (elim o [ None ↦ Unknown (missing.Node j) | Some a ↦ run_part p (next a) ]) (Unknown what) → (i : ℕ) × (what ≡ missing.Node i)) [
      | None ↦ λ is lacking. (j, cc)
      | Some a ↦ λ is lacking. node_missing p (next a) what (asks a is) lacking
    ] refl e
node_missing p (Range j at count next) what (met, asks) e = absurd met

module _ (p : Part) where
  abbrev NodesAlone : {A : Type 0} → Query A → Type 0
  NodesAlone q = QueryAll p Any Any NoRange q

  gives : {A : Type 0} (x : A) → NodesAlone (Gives x)
  gives x = query_gives p Any Any NoRange x

  reads : {A B : Type 0} (i : ℕ) (f : Option Seen → A) (g : A → B) → NodesAlone (Look i (λ s. Gives (f s)) >>= (λ x. Gives (g x)))
  reads i f g = query_then p Any Any NoRange _ _ (query_look p Any Any NoRange i _ tt (λ s. gives _)) (λ x e. gives _)

  names_alone : (o : Option ℕ) → NodesAlone (names_if o)
  names_alone None = gives 0
  names_alone (Some i) = query_look p Any Any NoRange i _ tt (λ s. gives _)

  effects_alone : (new : ℕ) (operation : Operation) → NodesAlone (effects_asked new operation)
  effects_alone new operation = query_then p Any Any NoRange _ _ (names_alone (recounted_file operation)) (λ n e. gives _)

  rise_alone : (dir : ℕ) → NodesAlone (entry_rise dir)
  rise_alone dir = reads dir _ _

  move_alone : (from to : Location) (replaced : Replaced) → NodesAlone (move_rise from to replaced)
  move_alone from to Nothing = elim (from.parent == to.parent) as (λ b. NodesAlone (cond b (Gives 0) (entry_rise to.parent))) [ true ↦ gives 0 | false ↦ rise_alone to.parent ]
  move_alone from to (OldFile j) = gives 0
  move_alone from to (OldDir j) = gives 0

  growth_alone : (operation : Operation) → NodesAlone (growth_asked operation)
  growth_alone (NewDir at) = query_then p Any Any NoRange _ _ (rise_alone at.parent) (λ rise e. gives _)
  growth_alone (NewFile at number reads writes) = query_then p Any Any NoRange _ _ (rise_alone at.parent) (λ rise e. gives _)
  growth_alone (Write i at bytes) = reads i _ _
  growth_alone (Resize i len) = reads i _ _
  growth_alone (AddName at i) = rise_alone at.parent
  growth_alone (Move from to i is_dir replaced) = move_alone from to replaced
  growth_alone (Tell answer) = gives 0
  growth_alone (OpenFile i empties number reads writes) = gives 0
  growth_alone (CloseFile i number) = gives 0
  growth_alone (RemoveDir at i) = gives 0
  growth_alone (DropName at i) = gives 0
  growth_alone (Exchange first second i j) = gives 0

not_copied : {A : Type 0} (k : Knowledge) (q : Query A) (what : Missing) → QueryAll (part_of k) Any Any NoRange q → run_part (part_of k) q ≡ Unknown what → IsNodeMissing k what
not_copied k q what asks e =
    let node = node_missing (part_of k) q what asks e in
    record { inode = node.0; is = node.1; unknown = missing_no_copy k q node.0 (e ∙ ap (λ x. Unknown x) node.1) }

pub effects_miss_nodes : (k : Knowledge) (new : ℕ) (operation : Operation) (what : Missing) → run_part (part_of k) (effects_asked new operation) ≡ Unknown what → IsNodeMissing k what
effects_miss_nodes k new operation what e = not_copied k (effects_asked new operation) what (effects_alone (part_of k) new operation) e

pub growth_misses_nodes : (k : Knowledge) (operation : Operation) (what : Missing) → run_part (part_of k) (growth_asked operation) ≡ Unknown what → IsNodeMissing k what
growth_misses_nodes k operation what e = not_copied k (growth_asked operation) what (growth_alone (part_of k) operation) e
