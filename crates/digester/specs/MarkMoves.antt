-- Where marks stand after a digest.
use Rattle.std.specs.Prelude.{ℕ, ◌+◌, ◌-◌, ◌^◌, ◌==◌, ◌&&◌, Bool, get_or, min, if◌then◌else◌, slice_set}
use Rattle.shared_area.specs.layout.declared.marks.Mark.{Mark}
use Rattle.shared_area.specs.layout.declared.marks.Marks.{Marks}
use Rattle.update_log.specs.RecordCounts.{next_generation}

-- the mark when so many of the records of a generation are done: it moves to the next generation once they all are
abbrev pub mark_after : ℕ → ℕ → ℕ → Mark
mark_after g done total = if done == total then record { generation = next_generation g; done = 0 } else record { generation = g; done = done }

-- the mark of a client; clients are counted from 1
abbrev pub mark_of : Marks → ℕ → Mark
mark_of v client = get_or v.clients (client - 1) (record { generation = 0; done = 0 })

-- whether a mark is another one
abbrev pub is_mark : Mark → Mark → Bool
is_mark m o = m.generation == o.generation && m.done == o.done

-- with one client's mark moved, and one digest more; at its greatest value their number stays
abbrev pub marks_after : Marks → ℕ → Mark → Marks
marks_after v client m = record { clients = slice_set v.clients (client - 1) m; digests = min (v.digests + 1) (2 ^ 64 - 1) }
