use Rattle.std.proofs.Common.{◌≡◌, ◌≤◌, ◌-◌, ◌++◌}
use Rattle.std.specs.Prelude.{replicate, Some}
use Rattle.host_media.specs.FileBytes.{unknown}
use Rattle.host_media.specs.FileRange.{range_begin, range_told}
use Rattle.host_media.proofs.file_bytes.write_pieces.Given as goal

abbrev pub invariant-pieces : goal.invariant-pieces
invariant-pieces l = record {
  within : l.at ≤ l.len;
  told : range_told l.file ≡ replicate l.at (Some 0) ++ unknown (l.len - l.at);
  begin : range_begin l.file ≡ range_begin l.fn.file;
}

abbrev pub decreases-pieces : goal.decreases-pieces
decreases-pieces l = l.len - l.at
