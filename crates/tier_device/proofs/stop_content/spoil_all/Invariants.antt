use Rattle.std.proofs.Common.{◌≡◌, ◌+◌, drop}
use Rattle.tier_device.specs.StopContent.{spoilt_all}
use Rattle.tier_device.specs.CallLog.{calls_of, total_len}
use Rattle.tier_device.proofs.stop_content.spoil_all.Given as goal

abbrev pub invariant-loop-entry : goal.invariant-loop-entry
invariant-loop-entry l = record {
  so_far : spoilt_all l.fill l.tier l.bytes.items (calls_of (drop l.entry-index l.entries) (drop l.used l.written)) ≡ spoilt_all l.fill l.tier l.fn.bytes.items (calls_of l.entries l.written);
  used : l.used + total_len (drop l.entry-index l.entries) ≡ total_len l.entries;
}
