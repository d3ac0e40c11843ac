-- How what a client has stands to what it knows, and a call that is answered or logged.
use Rattle.std.specs.Prelude.{◌≡◌, ◌⊎◌, ℕ, ◌≤◌, [], length, true, Option, Some, None, IsSome, Ok, Err}
use Rattle.posix_calls.specs.Part.{Known, run_part}
use Rattle.posix_calls.specs.Decide.{decide}
use Rattle.posix_calls.specs.Operations.{reply_of}
use Rattle.posix_calls.specs.Kinds.{opens}
use Rattle.posix_calls.specs.declared.call.Call.{Call}
use Rattle.posix_calls.specs.declared.call.Reply.{Reply}
use Rattle.posix_calls.specs.declared.call.Reply.TheVariants.{Failed}
use Rattle.posix_calls.specs.declared.descriptor.Descriptor.{Descriptor}
use Rattle.posix_calls.specs.declared.errno.Errno.{Errno}
use Rattle.posix_calls.specs.declared.operation.Operation.{Operation}
use Rattle.call_effects.specs.file_graph.Graph.{is_among, touches}
use Rattle.call_effects.specs.log_record.Grammar.{IsRecord, record_bytes}
use Rattle.call_effects.specs.log_record.declared.format.Record.{Record}
use Rattle.call_effects.specs.Knowledge.{Knowledge, IsPlanned, part_of}
use Rattle.call_effects.specs.Records.{units_asked}
use Rattle.client_plan.specs.declared.outcome.DescriptorChange.{DescriptorChange}
use Rattle.client_plan.specs.Holdings.{Holdings}
use Rattle.client_plan.specs.CallPlan.{change_of, made_by}

-- what a client has is of the client that knows this
pub record AreHoldingsOf (k : Knowledge) (h : Holdings) : Type 0 where
  pub own : h.own ≡ k.own
  pub numbers : (i : ℕ) → is_among i h.numbers ≡ true → k.granted i ≡ true

-- a call that is refused, by what the client knows
pub record IsRefused (k : Knowledge) (call : Call) (reply : Reply) (descriptor : Option DescriptorChange) : Type 0 where
  pub errno : Errno
  pub comes : run_part (part_of k) (decide k.own call) ≡ Known (Err errno)
  pub told : reply ≡ Failed errno
  pub none : descriptor ≡ None

-- a call that is answered without a record: by what the client knows it comes to an operation without effects, and what that opens is pinned
pub record IsAnswered (k : Knowledge) (h : Holdings) (call : Call) (reply : Reply) (descriptor : Option DescriptorChange) : Type 0 where
  pub operation : Operation
  pub new : ℕ
  pub planned : IsPlanned k call new operation []
  pub pinned : (what : ℕ × Descriptor) → opens new operation ≡ Some what → is_among what.1.inode h.pins ≡ true
  pub told : reply ≡ reply_of operation
  pub opens : descriptor ≡ change_of new operation

-- all that a call has to have as its record is begun: by what the client knows it comes to this record, of which each inode is held for
-- writing and known, but for the node that is made; its units are there, what it opens is pinned, and the region has room for it
pub record IsReady (k : Knowledge) (h : Holdings) (call : Call) (change : Record) (reply : Reply) (made : Option ℕ) (descriptor : Option DescriptorChange) : Type 0 where
  pub operation : Operation
  pub new : ℕ
  pub planned : IsPlanned k call new operation change.effects
  pub counted : run_part (part_of k) (units_asked operation) ≡ Known (Ok change.units)
  pub enough : change.units ≤ h.spare
  pub leased : (i : ℕ) → is_among i (touches change.effects) ≡ true → h.writes i ≡ true
  pub known : (i : ℕ) → is_among i (touches change.effects) ≡ true → IsSome (k.copies i) ⊎ (made ≡ Some i)
  pub pinned : (what : ℕ × Descriptor) → opens new operation ≡ Some what → is_among what.1.inode h.pins ≡ true
  pub spelled : IsRecord change
  pub most : ℕ
  pub room : h.room ≡ Some most
  pub short : length (record_bytes change) ≤ most
  -- what is answered then, and what becomes of the client
  pub told : reply ≡ reply_of operation
  pub makes : made ≡ made_by new operation
  pub opens : descriptor ≡ change_of new operation
