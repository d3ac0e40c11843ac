-- The marks once a chunk of a client's records is digested: that client's has moved, and no other.
use Rattle.std.proofs.Common.{◌≡◌, ◌≢◌, ℕ, ◌+◌, true, List, length, Some}
use Rattle.posix_calls.specs.Operations.{is_client}
use Rattle.event_steps.specs.log_record.declared.format.Record.{Record}
use Rattle.event_steps.specs.layout.declared.marks.Mark.{Mark}
use Rattle.event_steps.specs.layout.declared.marks.Marks.{Marks}
use Rattle.event_steps.specs.layout.Marks.{marks_of}
use Rattle.event_steps.specs.digester.MarkMoves.{mark_after, mark_of}
use Rattle.system_laws.specs.Relation.{marks_digested}
use Rattle.system_laws.proofs.Marks.{eight_before, eight_in, moved_mark, other_mark}

module _ (v : Marks) (c n : ℕ) (sealed : List Record) where
  abbrev pub moved : Mark
  moved = mark_after (mark_of v c).generation ((mark_of v c).done + n) (length sealed)

  pub mark_moved : (block : List ℕ) → marks_of block ≡ Some (marks_digested v c n sealed) → is_client c ≡ true → mark_of (marks_digested v c n sealed) c ≡ moved
  mark_moved block spelled is_c = moved_mark v c moved is_c (eight_before v c moved (eight_in block (marks_digested v c n sealed) spelled))

  pub mark_stays : (d : ℕ) → is_client c ≡ true → is_client d ≡ true → d ≢ c → mark_of (marks_digested v c n sealed) d ≡ mark_of v d
  mark_stays d is_c is_d off = other_mark v c d moved is_c is_d off
