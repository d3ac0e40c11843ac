use Rattle.std.proofs.Common.{◌≡◌, ◌<◌, ◌^◌, sum_by, take}
use Rattle.host_media.specs.Sizes.{byte_count}
use Rattle.host_media.proofs.sizes.Sizes.total_len.Given as goal

abbrev pub invariant-loop-one : goal.invariant-loop-one
invariant-loop-one l = (l.total ≡ sum_by byte_count (take l.one-index l.all)) × (l.total < 2 ^ 63)
