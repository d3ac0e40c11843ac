-- What a call needs of a client, in the order in which it is asked for.
use Rattle.std.specs.Prelude.{ℕ, ◌-◌, ◌==◌, ◌&&◌, ◌||◌, nat_le, nat_lt, List, [], ◌∷◌, length, Bool, true, false, Option, Some, None, is_some, Ok, Err, if◌then◌else◌}
use Rattle.posix_calls.specs.Query.{Query}
use Rattle.posix_calls.specs.Part.{Part, Found, Known, Unknown, run_part}
use Rattle.posix_calls.specs.Operations.{makes}
use Rattle.posix_calls.specs.declared.descriptor.Descriptor.{Descriptor}
use Rattle.posix_calls.specs.declared.call.Call.{Call}
use Rattle.posix_calls.specs.declared.call.Call.TheVariants as call
use Rattle.posix_calls.specs.declared.operation.Missing.{Missing}
use Rattle.posix_calls.specs.declared.operation.Missing.TheVariants as missing
use Rattle.posix_calls.specs.declared.operation.DecideError.{DecideError}
use Rattle.posix_calls.specs.declared.operation.DecideError.TheVariants as why
use Rattle.posix_calls.specs.declared.operation.Operation.{Operation}
use Rattle.posix_calls.specs.declared.limits.TheConstants.{ROOT}
use Rattle.call_effects.specs.file_graph.Graph.{is_among}
use Rattle.call_effects.specs.file_graph.declared.effect.Effect.{Effect}
use Rattle.call_effects.specs.log_record.Grammar.{fits, record_bytes}
use Rattle.call_effects.specs.log_record.declared.format.Record.{Record}
use Rattle.call_effects.specs.log_record.declared.format.TheConstants.{MAX_EFFECTS}
use Rattle.client_plan.specs.declared.stop.Stop.{Stop}
use Rattle.client_plan.specs.declared.stop.Stop.TheVariants as stop
use Rattle.client_plan.specs.declared.need.Need.{Need}
use Rattle.client_plan.specs.declared.need.Need.TheVariants.{Unpin, Lease, View, Blocks, Inodes, Units, Pin, Room}
use Rattle.client_plan.specs.declared.need.Mode.TheVariants.{Read, Write}
use Rattle.client_plan.specs.PlanSteps.{PlanSteps, Goes, Refuses, Lacks, ◌>>=◌, unless}
use Rattle.client_plan.specs.Holdings.{Holdings, may_read, first_unused}

-- ---- before all needs: the errors that the call's own words and the client's descriptors decide

-- who knows of the tree that the root is a directory, and nothing else
abbrev pub root_alone : Part
root_alone = record { is_dir = λ i. if i == ROOT then Some (Some true) else None; node = λ i. None; bytes = λ i at count. None }

-- an error ends the call, everything else is left for later
abbrev pub not_refused : {A : Type 0} → Found A → PlanSteps (Unit {0})
not_refused (Known (Err e)) = Refuses e
not_refused (Known (Ok x)) = Goes tt
not_refused (Unknown what) = Goes tt

-- ---- 1. a pin of a file that is not open is given back, unless the call opens a file or writes no bytes

abbrev pub given_back : Option ℕ → PlanSteps (Unit {0})
given_back None = Goes tt
given_back (Some i) = Lacks (Unpin i)

abbrev pub unpin_step : Holdings → Call → PlanSteps (Unit {0})
unpin_step h (call.Open path flags) = Goes tt
unpin_step h (call.Pwrite number at []) = Goes tt
unpin_step h _ = given_back (first_unused h.own h.pins)

-- ---- 2 and 3. what is to be known of the tree, with the errors as early as they are decided

-- a node is held and then viewed, bytes are read
abbrev pub first_look : Holdings → Missing → Need
first_look h (missing.Node i) = if may_read h i then View i else Lease i Read
first_look h (missing.Blocks i first count) = Blocks i first count

abbrev pub found_step : {A : Type 0} → Holdings → Found A → PlanSteps A
found_step h (Known (Ok x)) = Goes x
found_step h (Known (Err e)) = Refuses e
found_step h (Unknown what) = Lacks (first_look h what)

-- what questions come to by what the client knows
abbrev pub look_step : {A : Type 0} → Part → Holdings → Query A → PlanSteps A
look_step p h q = found_step h (run_part p q)

-- ---- 4. a number for a node that is made; none is 0

abbrev pub number_step : List ℕ → Bool → PlanSteps ℕ
number_step (n ∷ ns) makes_node = Goes n
number_step [] true = Lacks (Inodes 1)
number_step [] false = Goes 0

-- ---- 5. each inode that the record changes, in rising order, is held for writing, and what stands there is known; at a new node's nothing does

abbrev pub is_new : ℕ → Operation → ℕ → Bool
is_new new operation i = makes operation && i == new

abbrev pub lease_step : Part → Holdings → ℕ → Operation → ℕ → PlanSteps (Unit {0})
lease_step p h new operation i = do
  _ ← unless (h.writes i) (Lease i Write)
  unless (is_some (p.node i) || is_new new operation i) (View i)

abbrev pub write_step : Part → Holdings → ℕ → Operation → List ℕ → PlanSteps (Unit {0})
write_step p h new operation [] = Goes tt
write_step p h new operation (i ∷ is) = do
  _ ← lease_step p h new operation i
  write_step p h new operation is

-- ---- 6. the units that the record may need, less the spare ones

abbrev pub unit_step : ℕ → ℕ → PlanSteps (Unit {0})
unit_step spare units = unless (nat_le units spare) (Units (units - spare))

-- ---- 7. a file that is opened is pinned

abbrev pub pin_step : List ℕ → Option (ℕ × Descriptor) → PlanSteps (Unit {0})
pin_step pins None = Goes tt
pin_step pins (Some what) = unless (is_among what.1.inode pins) (Pin what.1.inode)

-- ---- 8. the region is there, is wiped, and has room for the record

abbrev pub roomy : Option ℕ → PlanSteps ℕ
roomy None = Lacks Room
roomy (Some most) = Goes most

abbrev pub are_fit : List Effect → Bool
are_fit [] = true
are_fit (e ∷ es) = fits e && are_fit es

-- whether a record has a spelling
abbrev pub is_record : Record → Bool
is_record r = nat_lt r.units 4294967296 && nat_le 1 (length r.effects) && nat_le (length r.effects) MAX_EFFECTS && are_fit r.effects

abbrev pub room_step : ℕ → Record → PlanSteps (Unit {0})
room_step most r = unless (is_record r && nat_le (length (record_bytes r)) most) Room

-- ---- why the code stops

-- what is said of questions that come to nothing
abbrev pub stop_at : Holdings → DecideError → Stop
stop_at h (why.Refused e) = stop.Refused e
stop_at h (why.Missing what) = stop.Lacks (first_look h what)
stop_at h why.Memory = stop.Memory
