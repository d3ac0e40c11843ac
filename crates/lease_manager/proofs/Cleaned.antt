-- Records that are counted no longer, one after the other.
use Rattle.std.proofs.Common.{◌≡◌, ℕ, ◌<◌, ◌≤◌, List, length, take, get_or, ap, arith}
use Rattle.std.proofs.lemmas.List.Sums.{sum_by_more_le}
use Rattle.log_record.specs.declared.format.Record.{Record}
use Rattle.lease_manager.specs.Words.{HasWord}
use Rattle.lease_manager.specs.Passes.{PassView, records_of}
use Rattle.lease_manager.specs.RecordCounts.{HasCleaned, is_touched, one_if, touch_count}

module _ (old mid : PassView) (rs : List Record) (k : ℕ) (r : Record) (below : k < length rs) (is : r ≡ get_or rs k r) (h : HasCleaned old (take k rs) mid) where
  -- the next one is still counted
  pub still_counted : ((i : ℕ) → HasWord i → touch_count rs i ≤ records_of old i) → (i : ℕ) → HasWord i → one_if (is_touched r.effects i) ≤ records_of mid i
  still_counted there i w =
      let all = sum_by_more_le (λ (x : Record). one_if (is_touched x.effects i)) rs k r below in
      let one = ap (λ (x : Record). one_if (is_touched x.effects i)) is in
      let so_far = h.counts i w in
      let most = there i w in
      omega arith
