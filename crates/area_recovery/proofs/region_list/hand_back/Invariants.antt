use Rattle.std.proofs.Common.{◌≡◌, ◌≤◌, ◌+◌, ◌++◌, map, length}
use Rattle.std.specs.Vec.{vec_len, vec_capacity}
use Rattle.std.specs.Vec.Iter.{into_iter_items, into_iter_len}
use Rattle.area_recovery.proofs.region_list.hand_back.Given as goal

abbrev pub invariant-loop-region : goal.invariant-loop-region
invariant-loop-region g l = record {
  split : l.yielded ++ into_iter_items l.region-iterator ≡ into_iter_items l.initial.region-iterator;
  long : into_iter_len l.region-iterator ≡ length (into_iter_items l.region-iterator);
  room : vec_len l.media + into_iter_len l.region-iterator ≤ vec_capacity l.media;
  put : l.media.items ≡ l.initial.media.items ++ map (λ r. r.media) l.yielded;
}
