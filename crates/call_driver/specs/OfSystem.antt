-- A system in memory, as one that plays events.
use Rattle.std.specs.Prelude.{◌≡◌, ℕ, Bool, false}
use Rattle.tier_device.specs.declared.media.Media.{Ghosts}
use Rattle.interleavings.specs.libfs.View.{is_pending}
use Rattle.interleavings.specs.libfs.declared.life.Life.{Life}
use Rattle.interleavings.specs.libfs.declared.life.Life.TheVariants as lives
use Rattle.interleavings.specs.event_steps.Effects.{Carries, Plays}
use Rattle.interleavings.specs.event_steps.Turns.{CanPlay}
use Rattle.interleavings.specs.event_steps.View.{SystemView, undigested_on}
use Rattle.interleavings.specs.Leases.{at_client}
use Rattle.interleavings.specs.event_steps.declared.event.Event.{Event}
use Rattle.interleavings.specs.event_steps.declared.outcome.Outcome.{Outcome}

-- an event has nothing to do, and changes nothing, or it makes of the system what it is to make
abbrev pub plays_in : {M : Type 0} → Ghosts M → SystemView M → Event → Outcome → SystemView M → Type 0
plays_in device w e o new = Carries (CanPlay device w e) (Plays device w e o new) (new ≡ w) o

-- whether a call of a client waits for its answer
abbrev pub waits_in : {M : Type 0} → SystemView M → ℕ → Bool
waits_in w client = at_client w client false (λ s. is_pending s.client)

-- whether a device of a client's regions has failed
abbrev pub failed_in : {M : Type 0} → SystemView M → ℕ → Bool
failed_in w client = at_client w client false (λ s. s.client.log.failed)

-- how many records of a client are not digested
abbrev pub undigested_in : {M : Type 0} → Ghosts M → SystemView M → ℕ → ℕ
undigested_in device w client = at_client w client 0 (undigested_on device)

-- how far a client's life has come
abbrev pub life_in : {M : Type 0} → SystemView M → ℕ → Life
life_in w client = at_client w client lives.Alive (λ s. s.life)
