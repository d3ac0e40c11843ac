-- A begun record whose device has not failed: what its client of the world has and knows once it is in the log.
use Rattle.std.proofs.Common.{◌≡◌, ℕ, true, false, List, ◌∷◌, [], ◌++◌, Option, Some, refl, ap, sym, ◌∙◌, subst}
use Rattle.tier_device.specs.declared.media.Media.{Ghosts}
use Rattle.posix_calls.specs.Operations.{is_client}
use Rattle.posix_calls.specs.declared.call.Call.{Call}
use Rattle.event_steps.specs.log_record.declared.format.Record.{Record}
use Rattle.event_steps.specs.client_log.HasTurn.{HasTurn}
use Rattle.event_steps.specs.client_log.Turns.{record_appended, turn_of}
use Rattle.event_steps.specs.client_view.AfterRecord.{knows_logged}
use Rattle.event_steps.specs.call_effects.Knowledge.{Knowledge}
use Rattle.event_steps.specs.client_plan.CallPlan.{change_of, made_by}
use Rattle.event_steps.specs.client_plan.declared.outcome.DescriptorChange.{DescriptorChange}
use Rattle.event_steps.specs.world_invariant.ClientSteps.{IsBegun}
use Rattle.event_steps.specs.world_invariant.World.{World}
use Rattle.event_steps.specs.world_invariant.World as world
use Rattle.event_steps.specs.libfs.ClientHoldings.{known_to}
use Rattle.event_steps.specs.libfs.declared.begun_record.Begun.{Begun}
use Rattle.event_steps.specs.View.{SeatView}
use Rattle.system_laws.specs.Relation.{IsBegunAs, IsBegunBy, IsClientOf, status_of}
use Rattle.system_laws.proofs.RepliedWorlds.{kept_by, replied_part}
use Rattle.system_laws.proofs.Statuses.{not_failed}

module _ {M : Type 0} (device : Ghosts M) (w : World) (c : ℕ) (s : SeatView M) (call : Option Call) (is_c : is_client c ≡ true) (own : IsClientOf device s call (w.clients c)) (b : Begun) (there : s.client.begun ≡ Some b) where
  -- the world's begun call
  pub its : (y : world.Begun) × ((w.clients c).begun ≡ Some y) × IsBegunBy call b y
  its = subst (λ (x : Option Begun). IsBegunAs call x (w.clients c).begun) there own.begun

  abbrev y : world.Begun
  y = its.0

  pub is_begun : s.client.log.failed ≡ false → IsBegun w c y
  is_begun sound = record { client = is_c; there = its.1; known = λ failed. not_failed s.life (sym (own.status ∙ ap (status_of s.life) sound) ∙ failed) }

  pub knows_then : kept_by (w.clients c).knows y ≡ knows_logged (known_to s.client) b.change.logged.effects b.change.made b.change.descriptor
  knows_then =
      ap (λ (k : Knowledge). kept_by k y) own.knows
      ∙ sym (ap (λ (r : Record). knows_logged (known_to s.client) r.effects (made_by y.new y.operation) (change_of y.new y.operation)) its.2.change)
      ∙ sym (ap (λ (n : Option ℕ). knows_logged (known_to s.client) b.change.logged.effects n (change_of y.new y.operation)) its.2.makes)
      ∙ sym (ap (λ (d : Option DescriptorChange). knows_logged (known_to s.client) b.change.logged.effects b.change.made d) its.2.opens)

  pub turn_then : HasTurn (record_appended (turn_of device s.client.log) b.change.logged) (replied_part (w.clients c) y)
  turn_then = record {
    current = ap (λ (rs : List Record). rs ++ (y.change ∷ [])) own.turn.current ∙ sym (ap (λ (r : Record). (turn_of device s.client.log).current ++ (r ∷ [])) its.2.change);
    other = own.turn.other;
    is_ready = own.turn.is_ready;
    begun = refl;
  }
