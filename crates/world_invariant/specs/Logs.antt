-- What lists of records make of a graph, what they touch, which nodes they make, and the units that they have.
use Rattle.std.specs.Prelude.{◌≡◌, ◌≢◌, ℕ, zero, suc, ◌+◌, ◌≤◌, List, [], ◌∷◌, Bool, true, false, ◌==◌, ◌||◌, Option, Some}
use Rattle.posix_calls.specs.Operations.{is_client}
use Rattle.call_effects.specs.file_graph.Graph.{Graph, Node, FileBody, after_effects, touches, is_among}
use Rattle.call_effects.specs.file_graph.Units.{growth}
use Rattle.call_effects.specs.file_graph.declared.effect.Effect.{Effect}
use Rattle.call_effects.specs.file_graph.declared.effect.Effect.TheVariants as effect
use Rattle.call_effects.specs.log_record.declared.format.Record.{Record}
use Rattle.world_invariant.specs.Limits.{IsWithin}

-- the graph after records, one after the other
abbrev pub after_records : Graph → List Record → Graph
after_records g [] = g
after_records g (r ∷ rs) = after_records (after_effects g r.effects) rs

-- the graph after the records of clients 1 to n
unfoldable pub after_clients : (ℕ → List Record) → Graph → ℕ → Graph
after_clients logs g zero = g
after_clients logs g (suc n) = after_records (after_clients logs g n) (logs (suc n))

-- the graph after the records of these clients, in this order
abbrev pub after_each : (ℕ → List Record) → Graph → List ℕ → Graph
after_each logs g [] = g
after_each logs g (c ∷ cs) = after_each logs (after_records g (logs c)) cs

-- whether a record touches an inode
abbrev pub is_touched : ℕ → Record → Bool
is_touched i r = is_among i (touches r.effects)

-- whether one of these records does
abbrev pub is_written : ℕ → List Record → Bool
is_written i [] = false
is_written i (r ∷ rs) = is_touched i r || is_written i rs

-- whether an effect makes a node of this number
abbrev pub makes_node : ℕ → Effect → Bool
makes_node i (effect.Make j k) = j == i
makes_node i _ = false

-- whether one of these effects does
abbrev pub is_made : ℕ → List Effect → Bool
is_made i [] = false
is_made i (e ∷ es) = makes_node i e || is_made i es

-- whether one of these records does
abbrev pub is_made_in : ℕ → List Record → Bool
is_made_in i [] = false
is_made_in i (r ∷ rs) = is_made i r.effects || is_made_in i rs

-- at most one of these records does
abbrev pub IsMadeOnce : ℕ → List Record → Type 0
IsMadeOnce i [] = Unit {0}
IsMadeOnce i (r ∷ rs) = (is_made i r.effects ≡ true → is_made_in i rs ≡ false) × IsMadeOnce i rs

-- the units of records
abbrev pub units_in : List Record → ℕ
units_in [] = 0
units_in (r ∷ rs) = r.units + units_in rs

-- each of these records is so over the graph after those before it
abbrev pub Along : (Graph → Record → Type 0) → Graph → List Record → Type 0
Along IsSo g [] = Unit {0}
Along IsSo g (r ∷ rs) = IsSo g r × Along IsSo (after_effects g r.effects) rs

-- no record raises what it touches by more than its units
abbrev pub IsPaid : Graph → Record → Type 0
IsPaid g r = growth g r.effects ≤ r.units

abbrev pub ArePaid : Graph → List Record → Type 0
ArePaid g rs = Along IsPaid g rs

-- a file that has no name
pub record IsNameless (o : Option Node) : Type 0 where
  pub bytes : List ℕ
  pub is : o ≡ Some (record { names = 0; body = FileBody bytes })

-- what is so of what stands at an inode is so after a record
abbrev pub Keeps : (ℕ → Option Node → Type 0) → Graph → Record → Type 0
Keeps IsSo g r = (i : ℕ) → IsSo i (g i) → IsSo i (after_effects g r.effects i)

-- no record gives a name to a file that has none
abbrev pub NamesNone : Graph → Record → Type 0
NamesNone g r = Keeps (λ i o. IsNameless o) g r

abbrev pub NameNone : Graph → List Record → Type 0
NameNone g rs = Along NamesNone g rs

-- no record takes a node past the limits
abbrev pub KeepLimits : Graph → List Record → Type 0
KeepLimits g rs = Along (Keeps IsWithin) g rs

-- no inode is written by records of two clients
abbrev pub LogsAreApart : (ℕ → List Record) → Type 0
LogsAreApart logs = (c d i : ℕ) → is_client c ≡ true → is_client d ≡ true → d ≢ c → is_written i (logs c) ≡ true → is_written i (logs d) ≡ false

-- none stands in it twice
abbrev pub IsDistinct : List ℕ → Type 0
IsDistinct [] = Unit {0}
IsDistinct (c ∷ cs) = (is_among c cs ≡ false) × IsDistinct cs

-- all clients, each once
pub record IsOrder (cs : List ℕ) : Type 0 where
  pub clients : (c : ℕ) → is_among c cs ≡ true → is_client c ≡ true
  pub all : (c : ℕ) → is_client c ≡ true → is_among c cs ≡ true
  pub once : IsDistinct cs
