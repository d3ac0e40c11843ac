-- What holds of the seat of one client, in a system that stands for a world.
use Rattle.std.proofs.Common.{◌≡◌, ℕ, ◌&&◌, not, Bool, true, false, Option, Some, None, refl, sym, ◌∙◌, subst}
use Rattle.std.specs.Prelude.{IfSome, is_some}
use Rattle.std.proofs.lemmas.Bool.{false≢true}
use Rattle.tier_device.specs.declared.media.Media.{Ghosts}
use Rattle.posix_calls.specs.Operations.{is_client}
use Rattle.event_steps.specs.libfs.View.{ClientView, is_pending}
use Rattle.event_steps.specs.libfs.declared.begun_record.Begun.{Begun}
use Rattle.event_steps.specs.Sound.{number_of}
use Rattle.event_steps.specs.Stops.{SeatLeaves}
use Rattle.event_steps.specs.Turns.{HasTurn}
use Rattle.event_steps.specs.View.{HasSeat, SeatView, seat_of}
use Rattle.event_steps.specs.declared.event.Event.{Event}
use Rattle.system_laws.specs.Leaves.{HoldRecords, HoldsRecords, SystemLeaves}
use Rattle.system_laws.specs.Relation.{IsClientOf, StandsMarked}
use Rattle.recovery_laws.specs.Contents.{mark_by}
use Rattle.system_laws.specs.WorldView.{WorldView, calls_of}
use Rattle.system_laws.proofs.Seats.{same_seat}
use Rattle.system_laws.proofs.WorldMoves.{StandsAs, Stood}

module _ {M : Type 0} (device : Ghosts M) (v : WorldView M) (c : ℕ) (s : SeatView M) (is_c : is_client c ≡ true) (there : seat_of v.system c ≡ Some s) where
  pub of_seat : (P : SeatView M → Type 0) → HasSeat v.system c P → P s
  of_seat P had = subst P (same_seat had.0 s (sym had.1 ∙ there)) had.2

  -- it has something to do
  pub turn_at : (e : Event) → IfSome (seat_of v.system c) (λ t. HasTurn device t e) → HasTurn device s e
  turn_at e turn = subst (λ (y : Option (SeatView M)). IfSome y (λ t. HasTurn device t e)) there turn

  pub client_at : (z : Stood) → StandsAs device v z → IsClientOf device s (calls_of v c) (z.world.clients c)
  client_at z is = of_seat (λ y. IsClientOf device y (calls_of v c) (z.world.clients c)) (is.clients c is_c)

  pub marked_at : (z : Stood) → StandsAs device v z → StandsMarked (mark_by (Some z.marks) c) s (z.world.kernel.accounts c) (z.accepted c) (z.world.clients c)
  marked_at z is = of_seat (λ y. StandsMarked (mark_by (Some z.marks) c) y (z.world.kernel.accounts c) (z.accepted c) (z.world.clients c)) (is.marked c is_c)

  pub leaves_at : SystemLeaves device v.system → SeatLeaves device s
  leaves_at leaves = of_seat (SeatLeaves device) (leaves.clients c is_c)

  pub number_at : SystemLeaves device v.system → number_of s ≡ c
  number_at leaves = of_seat (λ y. number_of y ≡ c) (leaves.whose c is_c)

  pub holds_at : HoldRecords device v.system → HoldsRecords device s.client
  holds_at holds = of_seat (λ y. HoldsRecords device y.client) (holds c is_c)

module _ {M : Type 0} (device : Ghosts M) where
  none_begun : (begun : Option Begun) (answered : Bool) → (is_some begun && not answered) ≡ false → answered ≡ false → begun ≡ None
  none_begun None answered pending off = refl
  none_begun (Some b) true pending off = absurd (false≢true (sym off))
  none_begun (Some b) false pending off = absurd (false≢true (sym pending))

  -- while no call waits, a client whose region's device has not failed has begun no record
  pub idle_client : (k : ClientView M) → HoldsRecords device k → is_pending k ≡ false → k.log.failed ≡ false → k.begun ≡ None
  idle_client k holds pending sound = by_answer k.answered refl
    where
      by_answer : (answered : Bool) → k.answered ≡ answered → k.begun ≡ None
      by_answer true is = absurd (false≢true (sym sound ∙ (holds.failed is).0))
      by_answer false is = none_begun k.begun k.answered pending is
