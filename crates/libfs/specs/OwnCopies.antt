-- Of which inodes a client has copies.
use Rattle.std.specs.Prelude.{ℕ, ◌<◌, List, Option, Some, None, IsSome}
use Rattle.lease_manager.specs.log_record.declared.format.Record.{Record}
use Rattle.lease_manager.specs.RecordCounts.{touch_count}
use Rattle.client_log.specs.call_effects.Knowledge.{Knowledge}
use Rattle.client_view.specs.AfterRecord.{with_made}
use Rattle.libfs.specs.declared.begun_record.Begun.{Begun}

-- the number of the node that the begun record makes, if it makes one
abbrev pub number_made : Option Begun → Option ℕ
number_made None = None
number_made (Some b) = b.change.made

-- there is a copy of each inode that one of these records touches; of the node that is made it is known that nothing stands there yet
abbrev pub AreCopied : List Record → Option ℕ → Knowledge → Type 0
AreCopied rs made k = (i : ℕ) → 0 < touch_count rs i → IsSome ((with_made k made).copies i)
