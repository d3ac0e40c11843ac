use Rattle.std.proofs.Common.{◌≡◌, ℕ, ◌&&◌, not, drop}
use Rattle.world_invariant.specs.Logs.{is_made}
use Rattle.kernel_fs.specs.Inodes.{has}
use Rattle.kernel_fs.proofs.account.remove_made.Given as goal

-- what is left of the effects takes out as much of what is left of the numbers
abbrev pub invariant-effects : goal.invariant-effects
invariant-effects l = (i : ℕ) → (has l.numbers i && not (is_made i (drop l.effect-index l.effects))) ≡ (has l.initial.numbers i && not (is_made i l.effects))
