use Rattle.std.proofs.Common.{◌≡◌, ◌+◌, length, sum_by, take, true}
use Rattle.std.specs.Prelude.{replicate}
use Rattle.host_media.specs.FileBytes.{known}
use Rattle.host_media.specs.FileRange.{range_begin, range_changes, range_told}
use Rattle.host_media.specs.Sizes.{byte_count}
use Rattle.host_media.proofs.PartedFile.{IsParted}
use Rattle.host_media.proofs.file_parts.push_media.Given as goal

abbrev pub invariant-loop-one : goal.invariant-loop-one
invariant-loop-one l = record {
  parted : IsParted l.is_blank (range_begin l.fn.rest) (range_changes l.fn.rest) l.sizes l.one-index (range_begin l.rest) l.media.items;
  left : length (range_told l.rest) + sum_by byte_count (take l.one-index l.sizes) ≡ sum_by byte_count l.sizes;
  blank : l.is_blank ≡ true → range_told l.rest ≡ known (replicate (length (range_told l.rest)) 0);
  changes : range_changes l.rest ≡ range_changes l.fn.rest;
}
