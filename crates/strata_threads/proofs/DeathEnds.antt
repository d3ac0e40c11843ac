-- What is known of how a call ended in which its client may die, if it is known of it that something stronger holds.
use Rattle.std.proofs.Common.{◌≡◌, ◌≤◌, ◌+◌, ℕ, inl, inr, arith}
use Rattle.tier_device.specs.declared.media.Media.{Ghosts}
use Rattle.posix_calls.specs.declared.call.Call.{Call}
use Rattle.posix_calls.specs.declared.call.Reply.{Reply}
use Rattle.libfs.specs.RemainsView.{RemainsView}
use Rattle.libfs.specs.View.{ClientView}
use Rattle.strata_threads.specs.ClientDeath.{HasDiedIn, OnAnswered, OnDied}
use Rattle.strata_threads.specs.WaitedTurns.{WaitedView}
use Rattle.strata_threads.specs.declared.call_end.CallEnd.{CallEnd}
use Rattle.strata_threads.specs.declared.call_end.CallEnd.TheVariants.{Answered, Died}

module _ {M : Type 0} {device : Ghosts M} where
  pub on_died : (end : CallEnd M device) (P Q : RemainsView M → Type 0) → ((r : RemainsView M) → P r → Q r) → OnDied end P → OnDied end Q
  on_died (Answered client reply) P Q f has = tt
  on_died (Died remains) P Q f has = f remains.remains has

  pub on_answered : (end : CallEnd M device) (P Q : ClientView M → WaitedView → Reply → Type 0) → ((v : ClientView M) (waited : WaitedView) (reply : Reply) → P v waited reply → Q v waited reply) → OnAnswered end P → OnAnswered end Q
  on_answered (Answered client reply) P Q f has = f client.client client.waited reply has
  on_answered (Died remains) P Q f has = tt

-- of more device calls it died within, too
pub died_within : {M : Type 0} (device : Ghosts M) (call : Call) (left more : ℕ) (v : ClientView M) → left ≤ more → HasDiedIn device call left v → HasDiedIn device call more v
died_within device call left more v within (inl at) = inl (at.0, at.1, at.2, omega (arith, within, at.3))
died_within device call left more v within (inr wiped) = inr wiped
