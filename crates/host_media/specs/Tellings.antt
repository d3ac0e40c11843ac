-- What is known after a call has told more.
use Rattle.std.specs.Prelude.{ℕ, ◌+◌, List, length, drop}
use Rattle.host_media.specs.FileBytes.{Told, Noted, changes_after, known, unknown, with_told, part_told}
use Rattle.host_media.specs.declared.known_bytes.Telling.{Telling}
use Rattle.host_media.specs.declared.known_bytes.Telling.TheVariants as telling

-- after a write of bytes from a place on, in whose place these are known then
abbrev after_write : Noted → ℕ → List ℕ → Told → Noted
after_write old at bytes then = record {
  told = with_told old.told at then;
  writes = old.writes + 1;
  changes = changes_after (part_told old.told at (length bytes)) bytes old.changes;
}

abbrev pub after_telling : Noted → Telling → Noted
after_telling old (telling.Only bytes) = record { told = known bytes.now; writes = 0; changes = 0 }
after_telling old (telling.Read at bytes) = record old { told = with_told old.told at (known bytes.now) }
after_telling old (telling.Written at bytes) = after_write old at bytes.now (known bytes.now)
after_telling old (telling.Torn at bytes) = after_write old at bytes.now (unknown (length bytes.now))
after_telling old (telling.Front len) = record old { told = part_told old.told 0 len }
after_telling old (telling.Behind at) = record old { told = drop at old.told }
