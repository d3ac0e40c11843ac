use Rattle.std.proofs.Common.{◌≡◌, ◌++◌, All, map, take}
use Rattle.tier_device.specs.Memory.{IsAtRest, memory_seen}
use Rattle.host_media.specs.Images.{media_bytes, medium_sizes}
use Rattle.host_media.proofs.image.take_media.Given as goal

abbrev pub invariant-loop-one : goal.invariant-loop-one
invariant-loop-one l = record {
  bytes : media_bytes memory_seen l.media.items ++ l.bytes.now ≡ l.fn.bytes.now;
  sizes : map (medium_sizes memory_seen) l.media.items ≡ take l.one-index l.sizes;
  rest : All IsAtRest l.media.items;
}
