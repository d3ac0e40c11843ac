-- A client as it begins.
use Rattle.std.specs.Prelude.{◌≡◌, ℕ, false, [], None, is_some, true}
use Rattle.tier_device.specs.declared.media.Media.{Ghosts}
use Rattle.lease_manager.specs.Passes.{PassView, client_of}
use Rattle.client_log.specs.View.{LogView, current_records}
use Rattle.libfs.specs.View.{ClientView}
use Rattle.libfs.specs.ClientHoldings.{known_to}

-- A log with no record and none begun, of which both regions are here.
pub record IsBlank {M : Type 0} (device : Ghosts M) (log : LogView M) : Type 0 where
  pub none : current_records device log ≡ []
  pub idle : log.current.begun ≡ None
  pub here : is_some log.other ≡ true

-- The client of this pass and this log, which knows nothing and was granted nothing.
pub record IsNew {M : Type 0} (pass : PassView) (log : LogView M) (v : ClientView M) : Type 0 where
  pub pass_is : v.pass ≡ pass
  pub log_is : v.log ≡ log
  pub client : (known_to v).client ≡ client_of pass
  pub own : (number : ℕ) → (known_to v).own number ≡ None
  pub copies : (i : ℕ) → (known_to v).copies i ≡ None
  pub blocks : (i b : ℕ) → (known_to v).blocks i b ≡ None
  pub granted : (i : ℕ) → (known_to v).granted i ≡ false
  pub pins : v.pins ≡ []
  pub spare : v.spare ≡ 0
  pub begun : v.begun ≡ None
  pub answered : v.answered ≡ false
  pub sealed : v.sealed ≡ []
