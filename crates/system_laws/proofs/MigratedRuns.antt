-- A run of a file's blocks goes down to a slower tier, or can't.
use Rattle.std.proofs.Common.{◌≡◌, inl, inr, ℕ, refl}
use Rattle.std.proofs.lemmas.Bool.{cases_Bool}
use Rattle.tier_device.specs.declared.media.Media.{Ghosts}
use Rattle.tier_device.specs.declared.media.Tier.{Tier}
use Rattle.event_steps.specs.area_reader.Store.{disk}
use Rattle.event_steps.specs.shared_area.Ready.{OpensAs}
use Rattle.event_steps.specs.shared_area.TierMoves.{OpensMovedOrNot}
use Rattle.event_steps.specs.Effects.{MakesOver}
use Rattle.event_steps.specs.Turns.{CanPlay}
use Rattle.event_steps.specs.View.{SystemView}
use Rattle.event_steps.specs.declared.event.Event.TheVariants.{Migrate}
use Rattle.event_steps.specs.declared.outcome.Outcome.{Outcome}
use Rattle.system_laws.specs.KeptCalls.{calls_then}
use Rattle.system_laws.specs.Steps.{IsBegunIn, IsStep}
use Rattle.system_laws.specs.WorldView.{WorldView}
use Rattle.system_laws.proofs.FailedKernel.{unchanged_step}
use Rattle.system_laws.proofs.Given.{Given}
use Rattle.system_laws.proofs.SharedStays.{SeenNow, stays_as_well, stays_step}
use Rattle.system_laws.proofs.SpelledParts.{spelled_parts}
use Rattle.system_laws.proofs.StopsNow.{IsSized}

module _ {M : Type 0} (device : Ghosts M) where
  -- At each moment of it the shared medium opens as before, also where a device fails in it.
  pub migrated : Given device → IsSized device → SeenNow device → (v : WorldView M) (i first count : ℕ) (to : Tier) (o : Outcome) (new : SystemView M)
      → IsBegunIn device v new → CanPlay device v.system (Migrate i first count to) → MakesOver device v.system.kernel (Migrate i first count to) o new.kernel → new.seats ≡ v.system.seats
      → IsStep device v (Migrate i first count to) o (record { system = new; calls = calls_then v.calls (Migrate i first count to) o })
  migrated given sized seen_now v i first count to o new begun turn makes seats = elim (cases_Bool v.system.kernel.area.failed) [
    | inl failed ↦ unchanged_step device given v new (Migrate i first count to) o begun (λ t. record { kernel = (makes.answers.failed failed).1 t; seats = seats t }) refl
    | inr going ↦
        let area = v.system.kernel.area in
        let stays = makes.any_moment going in
        let opens = stays_as_well device v.system.kernel new.kernel (OpensMovedOrNot area.geometry (disk device area) i first count to) (OpensAs area.geometry (disk device area)) (λ content is. is.same) stays in
        stays_step device given (spelled_parts device given sized) seen_now v new (Migrate i first count to) o begun going seats makes.book (makes.answers.going going).2.geometry opens refl (λ moves. moves)
  ]
