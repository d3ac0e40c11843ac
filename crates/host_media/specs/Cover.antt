-- What the calls of a file say of it, beside what the calls of the medium say.
use Rattle.std.specs.Prelude.{◌≡◌, ℕ, List, Bool, true, false, OnOk, IsErr, IsErrOf, Result}
use Rattle.tier_device.specs.declared.media.MediaError.{MediaError}
use Rattle.tier_device.specs.declared.media.MediaError.TheVariants.{OutOfRange, DeviceFault}
use Rattle.tier_device.specs.declared.media.Tier.{Tier}
use Rattle.host_media.specs.History.{History}
use Rattle.host_media.specs.TierHistory.{LeftNow}

-- each content that a stop may leave by the one history, it may leave by the other
abbrev pub Covers : History → History → Type 0
Covers file media = (t : Tier) (c : List ℕ) → LeftNow file t c → LeftNow media t c

-- A medium fails at its first fault. From then on each call in range is a fault.
pub record Fails {T : Type 0} (before now : Bool) (result : Result T MediaError) : Type 0 where
  pub ok : OnOk result (now ≡ false)
  pub fault : IsErrOf result DeviceFault → now ≡ true
  pub refused : IsErrOf result OutOfRange → now ≡ before
  pub stays : before ≡ true → IsErr result × (now ≡ true)
