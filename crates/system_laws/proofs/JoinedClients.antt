-- A new client takes the seat of one that is buried.
use Rattle.std.proofs.Common.{◌≡◌, ℕ, ◌-◌, Bool, true, false, List, [], ◌++◌, drop, Option, Some, None, refl, ap, sym, ◌∙◌, arith}
use Rattle.std.specs.Prelude.{is_some}
use Rattle.std.proofs.lemmas.Bool.{false≢true}
use Rattle.std.proofs.Math.Seq.{drop-nil}
use Rattle.tier_device.specs.declared.media.Media.{Ghosts}
use Rattle.posix_calls.specs.Operations.{is_client}
use Rattle.event_steps.specs.log_record.declared.format.Record.{Record}
use Rattle.event_steps.specs.update_log.View.{RegionView}
use Rattle.event_steps.specs.client_log.HasTurn.{region_at}
use Rattle.event_steps.specs.client_log.Turns.{place_of}
use Rattle.event_steps.specs.lease_manager.Passes.{client_of}
use Rattle.event_steps.specs.world_invariant.Burial.{CanJoin}
use Rattle.event_steps.specs.world_invariant.ClientParts.{IsSoundPart, is_settled}
use Rattle.event_steps.specs.world_invariant.FormatWorld.{idle_client}
use Rattle.event_steps.specs.world_invariant.World.{Client, World, log_of}
use Rattle.event_steps.specs.world_invariant.World as world
use Rattle.event_steps.specs.libfs.ClientEnd.{CanBeRenewed}
use Rattle.event_steps.specs.libfs.Lives.{is_buried}
use Rattle.event_steps.specs.libfs.SealedRegion.{SealedRegionView}
use Rattle.event_steps.specs.libfs.View.{ClientView}
use Rattle.event_steps.specs.libfs.declared.life.Life.{Life}
use Rattle.event_steps.specs.libfs.declared.life.Life.TheVariants as lives
use Rattle.event_steps.specs.Deaths.{IsJoined}
use Rattle.event_steps.specs.Effects.{MakesAt}
use Rattle.event_steps.specs.Sound.{IsSeated}
use Rattle.event_steps.specs.Turns.{CanPlay}
use Rattle.event_steps.specs.View.{SeatView, SystemView, done_of}
use Rattle.event_steps.specs.declared.event.Event.TheVariants.{Join}
use Rattle.event_steps.specs.declared.outcome.Outcome.{Outcome}
use Rattle.event_steps.proofs.world_invariant_lemmas.Burials.{seated_holds, seated_tree}
use Rattle.system_laws.specs.Relation.{IsClientOf, StandsMarked, status_of}
use Rattle.recovery_laws.specs.Contents.{mark_by}
use Rattle.system_laws.specs.Steps.{IsBegunIn, IsStep}
use Rattle.system_laws.specs.WorldView.{WorldView, calls_of}
use Rattle.system_laws.proofs.EmptiedClients.{rest_client, rest_marked, rest_media}
use Rattle.system_laws.proofs.Given.{Given}
use Rattle.system_laws.proofs.OwnSeat.{client_at, leaves_at, marked_at, number_at, turn_at}
use Rattle.system_laws.proofs.Seated.{quiet_step}
use Rattle.system_laws.proofs.Seats.{client_is}
use Rattle.system_laws.proofs.Statuses.{alive_status}
use Rattle.system_laws.proofs.WorldMoves.{Stood}

buried_status : (life : Life) (failed : Bool) → is_buried life ≡ true → status_of life failed ≡ world.Buried
buried_status lives.Alive failed is = absurd (false≢true is)
buried_status lives.Dead failed is = absurd (false≢true is)
buried_status (lives.Settled found) failed is = absurd (false≢true is)
buried_status (lives.Buried found) failed is = refl

-- the other region is here and wiped
wiped_beside : {M : Type 0} (other : Option (RegionView M)) (clean : Bool) → is_some other ≡ true → clean ≡ true → region_at (place_of other clean) ≡ world.Wiped
wiped_beside None clean here wiped = absurd (false≢true here)
wiped_beside (Some r) false here wiped = absurd (false≢true wiped)
wiped_beside (Some r) true here wiped = refl

-- a client whose other region is here has none away
none_away : {M : Type 0} (device : Ghosts M) (k : ClientView M) (away : Option (SealedRegionView M)) → is_some k.log.other ≡ true → IsSeated device k away → away ≡ None
none_away device k None here seated = refl
none_away device k (Some a) here seated = absurd (false≢true (sym (ap is_some seated.gone) ∙ here))

module _ {M : Type 0} (device : Ghosts M) (given : Given device) (v : WorldView M) (c : ℕ) (o : Outcome) (new : SystemView M) (begun : IsBegunIn device v new) (turn : CanPlay device v.system (Join c)) (makes : MakesAt device v.system c (Join c) o new) where
  abbrev s : SeatView M
  s = makes.seat

  abbrev x : SeatView M
  x = makes.seat_then

  abbrev w : World
  w = begun.stands.world

  abbrev z : Stood
  z = record { world = w; accepted = begun.stands.accepted; marks = begun.stands.shared_marks; cut = begun.stands.cut }

  abbrev p : Client
  p = w.clients c

  abbrev made : IsJoined s o x
  made = makes.makes.0

  is_c : is_client c ≡ true
  is_c = client_is c turn.0

  its_turn : (is_buried s.life ≡ true) × CanBeRenewed device s.client.log
  its_turn = turn_at device v c s is_c makes.was (Join c) turn.1

  own : IsClientOf device s (calls_of v c) p
  own = client_at device v c s is_c makes.was z begun.stands.is

  mark : StandsMarked (mark_by (Some z.marks) c) s (w.kernel.accounts c) (z.accepted c) p
  mark = marked_at device v c s is_c makes.was z begun.stands.is

  number : client_of s.client.pass ≡ c
  number = number_at device v c s is_c makes.was begun.leaves

  home : s.away ≡ None
  home = none_away device s.client s.away its_turn.1.here (leaves_at device v c s is_c makes.was begun.leaves).seated

  stood : IsSoundPart w.kernel.shared (w.kernel.accounts c) c p
  stood = begun.stands.is.coherent.stands c is_c

  its_status : p.status ≡ world.Buried
  its_status = own.status ∙ buried_status s.life s.client.log.failed its_turn.0

  other_wiped : region_at (place_of s.client.log.other s.client.log.clean) ≡ world.Wiped
  other_wiped = wiped_beside s.client.log.other s.client.log.clean its_turn.1.here its_turn.1.clean

  unbegun : p.begun ≡ None
  unbegun = stood.rests.idle (ap is_settled its_status)

  unsealed : p.sealed ≡ []
  unsealed = stood.marked.none (λ away. let clash : world.Wiped ≡ world.Away = sym (own.turn.other ∙ other_wiped) ∙ away in cc)

  digested : log_of w c ≡ []
  digested =
      ap (λ (rs : List Record). drop ((w.kernel.accounts c).mark - p.past) rs ++ p.current) unsealed
      ∙ ap (λ (rs : List Record). rs ++ p.current) (drop-nil ((w.kernel.accounts c).mark - p.past))
      ∙ own.turn.current ∙ its_turn.1.none

  can : CanJoin w c
  can = record { client = is_c; buried = its_status; digested = digested; other = own.turn.other ∙ other_wiped; ready = own.turn.is_ready ∙ its_turn.1.ready }

  -- all of its records came back
  past_is : (w.kernel.accounts c).mark ≡ p.past
  past_is = let counts = mark.digested in let none : done_of s.away ≡ 0 = ap (λ (away : Option (SealedRegionView M)). done_of away) home in omega (arith, counts, none)

  same_away : x.away ≡ s.away
  same_away = ap (λ (y : SeatView M). y.away) made.rest

  pub joined : IsStep device v (Join c) o (record { system = new; calls = v.calls })
  joined =
      let sealed : s.client.sealed ≡ [] = sym own.sealed ∙ unsealed in
      let log_failed : x.client.log.failed ≡ false = ap (λ (y : ClientView M). y.log.failed) made.renewed.0.rest ∙ its_turn.1.sound in
      let alive = alive_status x.life x.client.log.failed (ap (λ (y : SeatView M). y.life) made.rest) log_failed in
      quiet_step device given v new c s x (idle_client c (w.kernel.accounts c).mark) (Join c) o begun is_c makes.was makes.makes.1 makes.seats (λ stand. stand) refl
      (seated_holds w c begun.stands.is.coherent can) (seated_tree w c begun.stands.is.coherent can)
      (past_is, sym unsealed)
      (rest_media device s x c (calls_of v c) p (w.kernel.accounts c) number own made.renewed.0 home same_away its_turn.1.none sealed unbegun)
      (rest_client device s x c (calls_of v c) p (w.kernel.accounts c) number own made.renewed.0 home same_away its_turn.1.none sealed unbegun world.Wiped true world.Alive (sym other_wiped) (sym its_turn.1.ready) (sym alive))
      (rest_marked device s x c (calls_of v c) p (w.kernel.accounts c) number own made.renewed.0 home same_away its_turn.1.none sealed unbegun (w.kernel.accounts c) (mark_by (Some z.marks) c) (z.accepted c) world.Wiped true world.Alive refl mark)
