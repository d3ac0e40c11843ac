-- The status of a seat's client, by how far its life has come and whether a device of it has failed.
use Rattle.std.proofs.Common.{◌≡◌, ◌≢◌, ℕ, Bool, true, false, refl, ap, sym, ◌∙◌, subst}
use Rattle.posix_calls.specs.Operations.{is_client}
use Rattle.event_steps.specs.libfs.declared.life.Life.{Life}
use Rattle.event_steps.specs.libfs.declared.life.Life.TheVariants as lives
use Rattle.event_steps.specs.world_invariant.ClientSteps.{with_client}
use Rattle.event_steps.specs.world_invariant.Invariant.{IsCoherent}
use Rattle.event_steps.specs.world_invariant.World.{Client, World, world_state}
use Rattle.event_steps.specs.world_invariant.World as world
use Rattle.event_steps.proofs.world_invariant_lemmas.Begins.{turned_holds, turned_tree}
use Rattle.system_laws.specs.Relation.{status_of}
use Rattle.system_laws.proofs.Frame.{KeepsSealed}
use Rattle.system_laws.proofs.Seated.{same_world}

-- a living client of which no device has failed
pub alive_status : (life : Life) (failed : Bool) → life ≡ lives.Alive → failed ≡ false → status_of life failed ≡ world.Alive
alive_status life failed alive sound = ap (λ (l : Life). status_of l failed) alive ∙ ap (status_of lives.Alive) sound

-- and one of which a device has
pub failed_status : (life : Life) (failed : Bool) → life ≡ lives.Alive → failed ≡ true → status_of life failed ≡ world.Failed
failed_status life failed alive fails = ap (λ (l : Life). status_of l failed) alive ∙ ap (status_of lives.Alive) fails

-- a dead one of which none has
pub dead_status : (life : Life) (failed : Bool) → life ≡ lives.Dead → failed ≡ false → status_of life failed ≡ world.Dead
dead_status life failed dead sound = ap (λ (l : Life). status_of l failed) dead ∙ ap (status_of lives.Dead) sound

-- without a failure no client has failed
pub not_failed : (life : Life) → status_of life false ≢ world.Failed
not_failed lives.Alive is = absurd (cc is)
not_failed lives.Dead is = absurd (cc is)
not_failed (lives.Settled found) is = absurd (cc is)
not_failed (lives.Buried found) is = absurd (cc is)

-- A client's part of which neither the records nor what is sealed changes.
pub record Stays (w : World) (c : ℕ) (p : Client) : Type 0 where
  pub holds : IsCoherent (with_client w c p)
  pub tree : world_state (with_client w c p) ≡ world_state w
  pub keeps : KeepsSealed (w.clients c) p

module _ (w : World) (c : ℕ) (h : IsCoherent w) (is_c : is_client c ≡ true) where
  pub as_it_was : Stays w c (w.clients c)
  as_it_was = record { holds = subst IsCoherent (sym (same_world w c)) h; tree = ap world_state (same_world w c); keeps = (refl, refl) }

  turned_failed : Stays w c (record (w.clients c) { status = world.Failed })
  turned_failed = record { holds = turned_holds w c world.Failed h is_c refl (λ off. absurd (off refl)); tree = turned_tree w c world.Failed h is_c refl (λ off. absurd (off refl)); keeps = (refl, refl) }

  -- A device of it fails: it has failed then, unless its call was settled before.
  pub fails_then : (life : Life) (failed : Bool) → (w.clients c).status ≡ status_of life failed → Stays w c (record (w.clients c) { status = status_of life true })
  fails_then lives.Alive failed is = turned_failed
  fails_then lives.Dead failed is = turned_failed
  fails_then (lives.Settled found) failed is = subst (λ (p : Client). Stays w c p) (λ t. record (w.clients c) { status = is t }) as_it_was
  fails_then (lives.Buried found) failed is = subst (λ (p : Client). Stays w c p) (λ t. record (w.clients c) { status = is t }) as_it_was
