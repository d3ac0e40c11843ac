-- A word that bars a client from a lease shows a mark of another one, and the client holds what it held.
use Rattle.std.proofs.Common.{◌≡◌, ℕ, inr, refl}
use Rattle.libfs.specs.client_plan.declared.need.Mode.{Mode}
use Rattle.libfs.specs.client_plan.declared.need.Mode.TheVariants as modes
use Rattle.libfs.specs.lease_manager.Marks.{ShowsOther}
use Rattle.libfs.specs.lease_manager.Passes.{PassView}
use Rattle.libfs.specs.LeaseCalls.{ShowsBar, refused_pass}

pub bar_is_other : (mode : Mode) (k n : ℕ) → ShowsBar mode k n → ShowsOther k n
bar_is_other modes.Read k n shown = (shown.0, shown.1, shown.2, inr shown.3)
bar_is_other modes.Write k n shown = shown

pub refusal_keeps_modes : (p : PassView) (i : ℕ) (mode : Mode) (n : ℕ) → (refused_pass p i mode n).part.modes ≡ p.part.modes
refusal_keeps_modes p i modes.Read n = refl
refusal_keeps_modes p i modes.Write n = refl
