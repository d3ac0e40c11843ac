use Rattle.std.proofs.Common.{◌≡◌, ◌++◌, length}
use Rattle.std.specs.Vec.Iter.{into_iter_items, into_iter_len}
use Rattle.host_media.specs.Images.{media_bytes}
use Rattle.host_media.proofs.image.image_of.Given as goal

abbrev pub invariant-loop-one : goal.invariant-loop-one
invariant-loop-one g l = record {
  bytes : l.bytes.items ≡ media_bytes g.M.Media.seen l.yielded;
  split : l.yielded ++ into_iter_items l.one-iterator ≡ l.fn.media.items;
  long : into_iter_len l.one-iterator ≡ length (into_iter_items l.one-iterator);
}
