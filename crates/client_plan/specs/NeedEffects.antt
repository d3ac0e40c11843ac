-- What each need says of a client, and what the client has once it is served.
use Rattle.std.specs.Prelude.{◌≡◌, ◌⊎◌, ℕ, ◌+◌, ◌<◌, ◌==◌, ◌||◌, ◌&&◌, nat_le, List, [], ◌∷◌, length, true, false, Some, None, Ok, if◌then◌else◌}
use Rattle.posix_calls.specs.Tree.{has_open}
use Rattle.posix_calls.specs.Part.{Part, Known, blocks_missing, run_part}
use Rattle.posix_calls.specs.Decide.{decide}
use Rattle.posix_calls.specs.Operations.{makes}
use Rattle.posix_calls.specs.declared.call.Call.{Call}
use Rattle.posix_calls.specs.declared.limits.TheConstants.{MAX_TRANSFER}
use Rattle.posix_calls.specs.declared.operation.Missing.TheVariants as missing
use Rattle.posix_calls.specs.declared.operation.Operation.{Operation}
use Rattle.call_effects.specs.file_graph.Graph.{is_among}
use Rattle.call_effects.specs.log_record.Grammar.{record_bytes}
use Rattle.call_effects.specs.log_record.declared.format.Record.{Record}
use Rattle.call_effects.specs.ChangeTest.{changes}
use Rattle.call_effects.specs.Records.{effects_asked, units_asked}
use Rattle.client_plan.specs.declared.need.Need.{Need}
use Rattle.client_plan.specs.declared.need.Need.TheVariants.{Unpin, Lease, View, Blocks, Inodes, Units, Pin, Room}
use Rattle.client_plan.specs.declared.need.Mode.{Mode}
use Rattle.client_plan.specs.declared.need.Mode.TheVariants.{Read, Write}
use Rattle.client_plan.specs.Holdings.{Holdings, may_read}
use Rattle.client_plan.specs.NeedOrder.{is_record}

-- ---- what is lacking

-- a read touches these blocks, and not all of its bytes are known
pub record AreUnread (p : Part) (i first count : ℕ) : Type 0 where
  pub at : ℕ
  pub bytes : ℕ
  pub touches : blocks_missing i at bytes ≡ missing.Blocks i first count
  pub unknown : p.bytes i at bytes ≡ None

-- the call's operation may need so many units more than there are spare ones, and some
pub record IsShort (p : Part) (h : Holdings) (call : Call) (n : ℕ) : Type 0 where
  pub operation : Operation
  pub comes : run_part p (decide h.own call) ≡ Known (Ok operation)
  pub units : ℕ
  pub grows : run_part p (units_asked operation) ≡ Known (Ok units)
  pub lacks : units ≡ h.spare + n
  pub some : 0 < n

-- a number is at hand for a new node, where one is made
abbrev pub HasNumber : Holdings → Operation → ℕ → Type 0
HasNumber h operation new = makes operation ≡ true → is_among new h.numbers ≡ true

-- the most bytes that spell the record of a call: those of the longest write, behind 22 others (4 of units, 1 of the count of effects,
-- and of the write 1 of its tag, 4 of its inode, 8 of its offset and 4 of its count of bytes)
abbrev pub longest_record : ℕ
longest_record = 22 + MAX_TRANSFER

-- the call changes something, and its record has no spelling of so few bytes
pub record IsTooLong (p : Part) (h : Holdings) (call : Call) : Type 0 where
  pub operation : Operation
  pub comes : run_part p (decide h.own call) ≡ Known (Ok operation)
  pub changed : changes operation ≡ true
  pub new : ℕ
  pub number : HasNumber h operation new
  pub change : Record
  pub effects : run_part p (effects_asked new operation) ≡ Known (Ok change.effects)
  pub grows : run_part p (units_asked operation) ≡ Known (Ok change.units)
  pub most : ℕ
  pub room : h.room ≡ Some most
  pub long : (is_record change && nat_le (length (record_bytes change)) most) ≡ false

-- the client lacks this; what it is to view it holds
abbrev pub IsLacking : Part → Holdings → Call → Need → Type 0
IsLacking p h call (Unpin i) = (is_among i h.pins ≡ true) × (has_open h.own i ≡ false)
IsLacking p h call (Lease i Read) = may_read h i ≡ false
IsLacking p h call (Lease i Write) = h.writes i ≡ false
IsLacking p h call (View i) = (may_read h i ≡ true) × ((p.node i ≡ None) ⊎ (p.is_dir i ≡ None))
IsLacking p h call (Blocks i first count) = AreUnread p i first count
IsLacking p h call (Inodes n) = h.numbers ≡ []
IsLacking p h call (Units n) = IsShort p h call n
IsLacking p h call (Pin i) = is_among i h.pins ≡ false
IsLacking p h call Room = (h.room ≡ None) ⊎ IsTooLong p h call

-- ---- what is served

-- without an inode
abbrev pub without_inode : ℕ → List ℕ → List ℕ
without_inode i [] = []
without_inode i (j ∷ js) = if j == i then without_inode i js else j ∷ without_inode i js

abbrev pub without_pin : Holdings → ℕ → Holdings
without_pin h i = record h { pins = without_inode i h.pins }

abbrev pub with_pin : Holdings → ℕ → Holdings
with_pin h i = record h { pins = i ∷ h.pins }

abbrev pub with_lease : Holdings → ℕ → Mode → Holdings
with_lease h i Read = record h { reads = λ j. j == i || h.reads j }
with_lease h i Write = record h { reads = λ j. if j == i then false else h.reads j; writes = λ j. j == i || h.writes j }

abbrev pub with_number : Holdings → ℕ → Holdings
with_number h n = record h { numbers = n ∷ h.numbers }

abbrev pub with_units : Holdings → ℕ → Holdings
with_units h n = record h { spare = h.spare + n }

abbrev pub with_room : Holdings → ℕ → Holdings
with_room h most = record h { room = Some most }
