-- Events that move no part: what a stop leaves is what it left before.
use Rattle.std.proofs.Common.{◌≡◌, ◌↔◌, inl, inr, ℕ, zero, suc, ◌+◌, ◌-◌, ◌/◌, ◌%◌, ◌<◌, ◌≤◌, true, List, Option, Some, ap, sym, ◌∙◌, subst, arith}
use Rattle.std.specs.Prelude.{slice_set}
use Rattle.std.proofs.lemmas.Bool.Decides.{eqb_tells, nat_tests}
use Rattle.tier_device.specs.declared.media.Media.{Ghosts}
use Rattle.tier_device.specs.declared.media.Tier.{Tier}
use Rattle.posix_calls.specs.Operations.{is_client}
use Rattle.posix_calls.specs.Run.{Run}
use Rattle.posix_calls.specs.declared.call.Call.{Call}
use Rattle.event_steps.specs.View.{SeatView, SystemView, seat_of}
use Rattle.event_steps.specs.declared.event.Event.{Event}
use Rattle.event_steps.specs.declared.outcome.Outcome.{Outcome}
use Rattle.event_lists.specs.Courses.{Content, LeftBetween, PARTS, WorldContent}
use Rattle.event_lists.specs.Plays.{StopsNow}
use Rattle.system_laws.specs.Moves.{EventMoves, Stand}
use Rattle.system_laws.specs.News.{news}
use Rattle.system_laws.specs.Parts.{medium_of, region_medium, region_of}
use Rattle.system_laws.specs.Clocks.{clocks_of, left_of}
use Rattle.system_laws.specs.Relation.{IsWorld}
use Rattle.recovery_laws.specs.Contents.{CanRecover, stored_state}
use Rattle.system_laws.specs.Steps.{IsStep, recoverable}
use Rattle.system_laws.specs.WorldTree.{world_tree}
use Rattle.system_laws.specs.WorldView.{WorldView, calls_of}
use Rattle.system_laws.proofs.Seats.{seat_beside, seat_there}

pub client_part_is : (k : ℕ) → suc k < PARTS → is_client (k / 2 + 1) ≡ true
client_part_is k low = grind (arith, nat_tests, low)

module _ {M : Type 0} where
  -- where only one client's seat has moved, and its regions are on the media that they were on, each part is on its own
  pub media_same : (old new : SystemView M) (c : ℕ) (s x : SeatView M) → is_client c ≡ true → seat_of old c ≡ Some s → new.kernel.area.media ≡ old.kernel.area.media → new.seats ≡ slice_set old.seats (c - 1) x
      → ((r : ℕ) → r < 2 → (region_of x r).media ≡ (region_of s r).media) → (p : ℕ) → p < PARTS → medium_of new p ≡ medium_of old p
  media_same old new c s x is_c there shared seats same zero low = shared
  media_same old new c s x is_c there shared seats same (suc k) low = elim (eqb_tells (k / 2 + 1) c) [
    | inl here ↦
        ap (λ (o : Option (SeatView M)). region_medium new.kernel.area.media o (k % 2)) (ap (seat_of new) here.1 ∙ seat_there old new c s x there seats)
        ∙ same (k % 2) (omega arith)
        ∙ sym (ap (λ (o : Option (SeatView M)). region_medium old.kernel.area.media o (k % 2)) (ap (seat_of old) here.1 ∙ there))
    | inr other ↦
        ap (λ (o : Option (SeatView M)). region_medium new.kernel.area.media o (k % 2)) (seat_beside old new c (k / 2 + 1) x is_c (client_part_is k low) other.1 seats)
        ∙ ap (λ (m : M). region_medium m (seat_of old (k / 2 + 1)) (k % 2)) shared
  ]

module _ {M : Type 0} (device : Ghosts M) where
  -- no clock moves, and the past is the same
  pub record IsStill (old new : SystemView M) : Type 0 where
    pub clocks : Stand (clocks_of device old) (clocks_of device new)
    pub past : (p m : ℕ) (c : Content) → p < PARTS → m ≤ clocks_of device old p → left_of device new p m c ↔ left_of device old p m c

  pub still_media : (old new : SystemView M) → ((p : ℕ) → p < PARTS → medium_of new p ≡ medium_of old p) → IsStill old new
  still_media old new same = record {
    clocks = λ p low. ap device.moment (same p low);
    past = λ p m c low before. (
      subst (λ (n : M). (t : Tier) → device.left n m t (c t)) (same p low),
      subst (λ (n : M). (t : Tier) → device.left n m t (c t)) (sym (same p low)),
    );
  }

  -- what is left during the event was left before it
  pub left_before : (old new : SystemView M) (c : WorldContent) → IsStill old new → LeftBetween (left_of device new) (clocks_of device old) (clocks_of device new) c → LeftBetween (left_of device old) (clocks_of device old) (clocks_of device old) c
  left_before old new c still left = λ p low.
      let at = left p low in
      let before : at.0 ≤ clocks_of device old p = subst (λ (n : ℕ). at.0 ≤ n) (still.clocks p low) at.2 in
      (at.0, at.1, before, (still.past p at.0 (c p) low before).0 at.3)

  -- so an event that moves no part is a step, by the world and the tree behind it
  pub still_step : (old : WorldView M) (new : SystemView M) (calls : List (Option Call)) (e : Event) (o : Outcome)
      → ((c : WorldContent) → LeftBetween (left_of device old.system) (clocks_of device old.system) (clocks_of device old.system) c → StopsNow (recoverable device) old c)
      → new.kernel.area.geometry ≡ old.system.kernel.area.geometry
      → IsStill old.system new
      → EventMoves e (clocks_of device old.system) (clocks_of device new)
      → IsWorld device (record { system = new; calls = calls })
      → Run (world_tree device old) (news (calls_of old) e o).turns (world_tree device (record { system = new; calls = calls }))
      → calls_of (record { system = new; calls = calls }) ≡ (news (calls_of old) e o).calls
      → IsStep device old e o (record { system = new; calls = calls })
  still_step old new calls e o stops geometry still moves world run same = record {
    world = world;
    run = run;
    calls = same;
    moves = moves;
    past = λ p m c low before. still.past p m c low before;
    alike = record {
      can = λ c. (subst (λ g. CanRecover g c) geometry, subst (λ g. CanRecover g c) (sym geometry));
      stored = λ c. ap (λ g. stored_state g c) geometry;
    };
    during = λ c left. stops c (left_before old.system new c still left);
  }
