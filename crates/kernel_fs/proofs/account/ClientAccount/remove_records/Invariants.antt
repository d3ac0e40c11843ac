use Rattle.std.proofs.Common.{◌≡◌, ℕ, ◌&&◌, not, drop, ◌-◌}
use Rattle.world_invariant.specs.Logs.{is_made_in, units_in}
use Rattle.kernel_fs.specs.Inodes.{has}
use Rattle.kernel_fs.proofs.account.ClientAccount.remove_records.Given as goal

-- what is left of the records takes as much out of what is left of the account
abbrev pub invariant-records : goal.invariant-records
invariant-records l = record {
  units : l.self.units - units_in (drop l.record-index l.records) ≡ l.initial.self.units - units_in l.records;
  numbers : (i : ℕ) → (has l.self.numbers i && not (is_made_in i (drop l.record-index l.records))) ≡ (has l.initial.self.numbers i && not (is_made_in i l.records));
  waiting : l.self.waiting ≡ l.initial.self.waiting;
  pins : l.self.pins ≡ l.initial.self.pins;
}
