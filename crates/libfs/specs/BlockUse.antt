-- Which of its blocks a client uses as it answers a call.
use Rattle.std.specs.Prelude.{ℕ, ◌/◌, ◌&&◌, nat_le, List, length, if◌then◌else◌}
use Rattle.std.specs.Option.{option_map_or}
use Rattle.posix_calls.specs.Part.{blocks_touched}
use Rattle.posix_calls.specs.Tree.{Own}
use Rattle.posix_calls.specs.declared.call.Call.{Call}
use Rattle.posix_calls.specs.declared.call.Call.TheVariants as calls
use Rattle.posix_calls.specs.declared.call.Reply.{Reply}
use Rattle.posix_calls.specs.declared.call.Reply.TheVariants as replies
use Rattle.posix_calls.specs.declared.limits.TheConstants.{MAX_FILE, MAX_TRANSFER, UNIT_BYTES}
use Rattle.block_cache.specs.CacheList.{Block, used_run}

-- how many blocks so many bytes of a file from an offset on lie in; no file has bytes past the greatest one, and no read tells more than MAX_TRANSFER
abbrev pub blocks_read : ℕ → ℕ → ℕ
blocks_read at count = if nat_le at MAX_FILE && nat_le count MAX_TRANSFER then blocks_touched at count else 0

-- those in which the bytes lie that a read tells, one after the other; no other call uses any
abbrev pub used_by : Call → Reply → Own → List Block → List Block
used_by (calls.Pread descriptor at count) (replies.Read bytes) own bs = option_map_or (λ d. used_run d.inode (at / UNIT_BYTES) (blocks_read at (length bytes)) bs) (own descriptor) bs
used_by call reply own bs = bs
