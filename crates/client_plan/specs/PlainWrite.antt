-- A write for which nothing is lacking.
use Rattle.std.specs.Prelude.{◌≡◌, ℕ, ◌+◌, ◌<◌, ◌≤◌, ◌^◌, max, nat_le, List, [], ◌∷◌, length, Bool, true, false, Option, Some, None}
use Rattle.posix_calls.specs.declared.descriptor.Descriptor.{Descriptor}
use Rattle.posix_calls.specs.declared.call.Reply.TheVariants.{Wrote}
use Rattle.posix_calls.specs.Query.{Seen}
use Rattle.posix_calls.specs.Part.{Part}
use Rattle.posix_calls.specs.Walk.{size_seen}
use Rattle.call_effects.specs.file_graph.Numbers.{is_inode}
use Rattle.call_effects.specs.file_graph.declared.effect.Effect.TheVariants.{Bytes}
use Rattle.call_effects.specs.log_record.Grammar.{is_write}
use Rattle.call_effects.specs.log_record.declared.format.Record.{Record}
use Rattle.call_effects.specs.Records.{file_rise}
use Rattle.client_plan.specs.declared.outcome.Outcome.{Outcome}
use Rattle.client_plan.specs.declared.outcome.Outcome.TheVariants.{Log}
use Rattle.client_plan.specs.declared.plain_writes.PlainWrite.{PlainWrite}
use Rattle.client_plan.specs.Holdings.{Holdings, first_unused}

-- this inode is open for writing at a number, the client holds it for writing, and none of its pins is of a file that is not open
pub record IsWritable (h : Holdings) (number i : ℕ) : Type 0 where
  pub descriptor : Descriptor
  pub is : h.own number ≡ Some descriptor
  pub writes : descriptor.writes ≡ true
  pub same : descriptor.inode ≡ i
  pub inode : is_inode i ≡ true
  pub held : h.writes i ≡ true
  pub pins : first_unused h.own h.pins ≡ None

-- whether the record of a write of so many bytes has room, beside which it has 22
abbrev pub has_place : Option ℕ → ℕ → Bool
has_place None count = false
has_place (Some most) count = nat_le (22 + count) most

-- a write of so many bytes lacks nothing: not what it is written to, nor what stands there, nor units, nor room
pub record IsPlainWrite (p : Part) (h : Holdings) (number at count : ℕ) (w : PlainWrite) : Type 0 where
  pub writable : IsWritable h number w.inode
  pub write : is_write at count ≡ true
  pub place : has_place h.room count ≡ true
  pub file : Option Seen
  pub known : p.node w.inode ≡ Some file
  pub rise : w.units ≡ file_rise (size_seen file) (max (size_seen file) (at + count))
  pub paid : w.units ≤ h.spare
  pub small : w.units < 2 ^ 32

-- its record
abbrev pub written_by : PlainWrite → ℕ → List ℕ → Record
written_by w at bytes = record { units = w.units; effects = Bytes w.inode at bytes ∷ [] }

-- what it comes to: its record, answered with the number of its bytes
abbrev pub write_logged : PlainWrite → ℕ → List ℕ → Outcome
write_logged w at bytes = Log (written_by w at bytes) (Wrote (length bytes)) None None
