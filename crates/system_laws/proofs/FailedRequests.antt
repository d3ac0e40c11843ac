-- A client asks a kernel of which a device failed before.
use Rattle.std.proofs.Common.{◌≡◌, inl, inr, ℕ, ◌-◌, true, refl, ap, sym, ◌∙◌, subst}
use Rattle.std.specs.Prelude.{slice_set, Result, Ok, Err, OnErr, OnOk}
use Rattle.std.proofs.lemmas.Bool.{false≢true}
use Rattle.tier_device.specs.declared.media.Media.{Ghosts}
use Rattle.posix_calls.specs.Operations.{is_client}
use Rattle.event_steps.specs.libfs.declared.denial.Denied.{Denied}
use Rattle.event_steps.specs.kernel_fs.KernelView.{KernelView}
use Rattle.event_steps.specs.Effects.{Makes, MakesAt}
use Rattle.event_steps.specs.KernelRequests.{IsBooked}
use Rattle.event_steps.specs.Outcomes.{noted_refusals}
use Rattle.event_steps.specs.Turns.{CanPlay}
use Rattle.event_steps.specs.View.{SeatView, SystemView}
use Rattle.event_steps.specs.declared.event.Event.{Event}
use Rattle.event_steps.specs.declared.event.Event.TheVariants as event
use Rattle.event_steps.specs.declared.outcome.Outcome.{Outcome}
use Rattle.event_steps.specs.declared.refusals.Refusals.{Refusals}
use Rattle.event_lists.specs.Courses.{Reading, no_news}
use Rattle.system_laws.specs.Moves.{EventMoves, Stand}
use Rattle.system_laws.specs.News.{news}
use Rattle.system_laws.specs.KeptCalls.{calls_then}
use Rattle.system_laws.specs.Clocks.{clocks_of}
use Rattle.system_laws.specs.Steps.{IsBegunIn, IsStep}
use Rattle.system_laws.specs.WorldView.{WorldView, calls_of}
use Rattle.system_laws.proofs.FailedKernel.{refused_step}
use Rattle.system_laws.proofs.Given.{Given}
use Rattle.system_laws.proofs.Seats.{client_is}

-- the client asks for copies, or for what the kernel's book has
pub data IsRequest (c : ℕ) : Event → Type 0 where
  OfCopy : (i : ℕ) → IsRequest c (event.Fetch c i)
  OfBlocks : (i first count : ℕ) → IsRequest c (event.Blocks c i first count)
  ForUnits : (units inodes : ℕ) → IsRequest c (event.Refill c units inodes)
  ToGiveBack : IsRequest c (event.GiveBack c)
  ToPin : (i : ℕ) → IsRequest c (event.Pin c i)
  ToUnpin : (i : ℕ) → IsRequest c (event.Unpin c i)

refused_so : {P : Type 0} {Q : Type 0} (answer : Result (Unit {0}) Denied) → OnOk answer P → (P → ⊥) → OnErr answer Q → Q
refused_so (Ok x) ok never err = absurd (never ok)
refused_so (Err e) ok never err = err

module _ {M : Type 0} (device : Ghosts M) where
  -- what an event leaves as it was, of client and kernel, but for what the client was refused
  record Refuses (k : KernelView M) (s x : SeatView M) (after : KernelView M) : Type 0 where
    refused : Refusals
    seat : x ≡ record s { refused = refused }
    kernel : after ≡ k

  asked_in_vain : (k : KernelView M) (s x : SeatView M) (answer : Result (Unit {0}) Denied) (after : KernelView M) → x ≡ record s { client = x.client; refused = noted_refusals answer s.refused } → x.client ≡ s.client → after ≡ k → Refuses k s x after
  asked_in_vain k s x answer after rest client kernel = record { refused = noted_refusals answer s.refused; seat = rest ∙ ap (λ v. record s { client = v; refused = noted_refusals answer s.refused }) client; kernel = kernel }

  booked_in_vain : (k : KernelView M) (s x : SeatView M) (answer : Result (Unit {0}) Denied) (o : Outcome) (after : KernelView M) → k.area.failed ≡ true → IsBooked k s answer o x after → Refuses k s x after
  booked_in_vain k s x answer o after failed booked =
      let same = refused_so answer booked.going (λ going. false≢true (sym going ∙ failed)) booked.refused in
      asked_in_vain k s x answer after booked.asks.rest same.0 same.1

  refuses : (k : KernelView M) (s x : SeatView M) (c : ℕ) (e : Event) (o : Outcome) (after : KernelView M) → IsRequest c e → k.area.failed ≡ true → Makes device k s e o x after → Refuses k s x after
  refuses k s x c e o after (OfCopy i) failed (inl none) = record { refused = s.refused; seat = none.same; kernel = none.kernel }
  refuses k s x c e o after (OfCopy i) failed (inr gets) =
      asked_in_vain k s x gets.answer after gets.asks.rest (subst (λ a. OnErr a (x.client ≡ s.client)) (gets.failed failed) gets.refused) (gets.untouched failed)
  refuses k s x c e o after (OfBlocks i first count) failed (inl none) = record { refused = s.refused; seat = none.same; kernel = none.kernel }
  refuses k s x c e o after (OfBlocks i first count) failed (inr gets) = let all = gets.failed failed in asked_in_vain k s x gets.answer after gets.asks.rest all.1 all.2
  refuses k s x c e o after (ForUnits units inodes) failed makes = booked_in_vain k s x makes.answer o after failed makes.booked
  refuses k s x c e o after ToGiveBack failed makes = booked_in_vain k s x makes.answer o after failed makes.booked
  refuses k s x c e o after (ToPin i) failed makes = booked_in_vain k s x makes.answer o after failed makes.booked
  refuses k s x c e o after (ToUnpin i) failed makes = booked_in_vain k s x makes.answer o after failed makes.booked

  -- a request acknowledges nothing, and moves no part
  record IsQuiet (v : WorldView M) (c : ℕ) (e : Event) (o : Outcome) : Type 0 where
    client : CanPlay device v.system e → is_client c ≡ true
    none : news (calls_of v) e o ≡ no_news (calls_of v)
    calls : calls_then v.calls e o ≡ v.calls
    moves : (old new : Reading) → Stand old new → EventMoves e old new

  quiet : (v : WorldView M) (c : ℕ) (e : Event) (o : Outcome) → IsRequest c e → IsQuiet v c e o
  quiet v c e o (OfCopy i) = record { client = λ turn. client_is c turn.0; none = refl; calls = refl; moves = λ old new stand. stand }
  quiet v c e o (OfBlocks i first count) = record { client = λ turn. client_is c turn.0; none = refl; calls = refl; moves = λ old new stand. stand }
  quiet v c e o (ForUnits units inodes) = record { client = λ turn. client_is c turn.0; none = refl; calls = refl; moves = λ old new stand. stand }
  quiet v c e o ToGiveBack = record { client = λ turn. client_is c turn.0; none = refl; calls = refl; moves = λ old new stand. stand }
  quiet v c e o (ToPin i) = record { client = λ turn. client_is c turn.0; none = refl; calls = refl; moves = λ old new stand. stand }
  quiet v c e o (ToUnpin i) = record { client = λ turn. client_is c turn.0; none = refl; calls = refl; moves = λ old new stand. stand }

  -- Neither client nor kernel has changed but for what the client was refused.
  pub failed_request : Given device → (v : WorldView M) (c : ℕ) (e : Event) (o : Outcome) (new : SystemView M) → IsBegunIn device v new → CanPlay device v.system e → MakesAt device v.system c e o new → IsRequest c e → v.system.kernel.area.failed ≡ true
      → IsStep device v e o (record { system = new; calls = calls_then v.calls e o })
  failed_request given v c e o new begun turn makes asks failed =
      let is = quiet v c e o asks in
      let same = refuses v.system.kernel makes.seat makes.seat_then c e o new.kernel asks failed makes.makes in
      subst (λ calls. IsStep device v e o (record { system = new; calls = calls })) (sym is.calls)
      (refused_step device given v new c makes.seat same.refused e o begun (is.client turn) makes.was same.kernel
      (makes.seats ∙ ap (λ (y : SeatView M). slice_set v.system.seats (c - 1) y) same.seat)
      is.none (is.moves (clocks_of device v.system) (clocks_of device new)))
