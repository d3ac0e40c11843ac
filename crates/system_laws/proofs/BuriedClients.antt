-- A settled client is buried: its account is emptied, and so is the client; or it is refused, and nothing has changed.
use Rattle.std.proofs.Common.{◌≡◌, ◌≢◌, ℕ, ◌-◌, Bool, true, false, List, [], ◌∷◌, ◌++◌, drop, length, Option, Some, None, refl, ap, sym, ◌∙◌, subst, arith}
use Rattle.std.specs.Prelude.{Result, Ok, Err, slice_set}
use Rattle.std.proofs.lemmas.Bool.{false≢true}
use Rattle.std.proofs.Math.Seq.{drop-nil}
use Rattle.tier_device.specs.declared.media.Media.{Ghosts}
use Rattle.posix_calls.specs.Operations.{is_client}
use Rattle.event_steps.specs.area_reader.Store.{disk, marks}
use Rattle.event_steps.specs.log_record.declared.format.Record.{Record}
use Rattle.event_steps.specs.client_log.View.{current_records}
use Rattle.event_steps.specs.kernel_fs.MachineState.{IsKernelOf}
use Rattle.event_steps.specs.lease_manager.Passes.{client_of}
use Rattle.event_steps.specs.world_invariant.Burial.{CanBury, client_buried}
use Rattle.event_steps.specs.world_invariant.ClientParts.{is_settled as at_rest}
use Rattle.event_steps.specs.world_invariant.FormatWorld.{idle_account, idle_client}
use Rattle.event_steps.specs.world_invariant.Machine.{bury}
use Rattle.event_steps.specs.world_invariant.World.{Client, World, log_of}
use Rattle.event_steps.specs.world_invariant.World as world
use Rattle.event_steps.specs.libfs.ClientEnd.{Buries, IsEmptied}
use Rattle.event_steps.specs.libfs.Lives.{is_settled, life_buried}
use Rattle.event_steps.specs.libfs.View.{begun_record, own_records}
use Rattle.event_steps.specs.libfs.declared.bury_error.BuryError.{BuryError}
use Rattle.event_steps.specs.libfs.declared.begun_record.Begun.{Begun}
use Rattle.event_steps.specs.libfs.declared.life.Life.{Life}
use Rattle.event_steps.specs.libfs.declared.life.Life.TheVariants as lives
use Rattle.event_steps.specs.update_log.Frames.{with_record}
use Rattle.event_steps.specs.Deaths.{IsBuriedOn}
use Rattle.event_steps.specs.Effects.{MakesAt}
use Rattle.event_steps.specs.Turns.{CanPlay}
use Rattle.event_steps.specs.View.{SeatView, SystemView}
use Rattle.event_steps.specs.declared.event.Event.TheVariants.{Bury}
use Rattle.event_steps.specs.declared.outcome.Outcome.{Outcome}
use Rattle.event_steps.proofs.world_invariant_lemmas.Burials.{buried_holds, buried_tree}
use Rattle.system_laws.specs.Relation.{IsBegunAs, IsClientOf, StandsMarked, machine_of, status_of}
use Rattle.system_laws.specs.Relation as cuts
use Rattle.recovery_laws.specs.Contents.{mark_by}
use Rattle.system_laws.specs.Steps.{IsBegunIn, IsStep}
use Rattle.system_laws.specs.WorldView.{WorldView, calls_of}
use Rattle.system_laws.proofs.Asked.{asked_step, not_read}
use Rattle.system_laws.proofs.EmptiedClients.{both_empty, is_home, none_called, rest_client, rest_marked, rest_media}
use Rattle.system_laws.proofs.FailedKernel.{refused_step}
use Rattle.system_laws.proofs.Given.{Given}
use Rattle.system_laws.proofs.MarkPlaces.{not_away}
use Rattle.system_laws.proofs.OwnSeat.{client_at, leaves_at, marked_at, number_at, turn_at}
use Rattle.system_laws.proofs.Seats.{client_is}
use Rattle.system_laws.proofs.WorldMoves.{Stood}

-- ---- its life

settled_status : (life : Life) (failed : Bool) → is_settled life ≡ true → status_of life failed ≡ world.Settled
settled_status lives.Alive failed is = absurd (false≢true is)
settled_status lives.Dead failed is = absurd (false≢true is)
settled_status (lives.Settled found) failed is = refl
settled_status (lives.Buried found) failed is = absurd (false≢true is)

buried_status : (life : Life) (failed : Bool) → is_settled life ≡ true → status_of (life_buried life (Ok tt)) failed ≡ world.Buried
buried_status lives.Alive failed is = absurd (false≢true is)
buried_status lives.Dead failed is = absurd (false≢true is)
buried_status (lives.Settled found) failed is = refl
buried_status (lives.Buried found) failed is = absurd (false≢true is)

stays_settled : (life : Life) (e : BuryError) → life_buried life (Err e) ≡ life
stays_settled lives.Alive e = refl
stays_settled lives.Dead e = refl
stays_settled (lives.Settled found) e = refl
stays_settled (lives.Buried found) e = refl

-- what was buried had no record left
none_left : {A : Type 0} (rs : List A) → ((count : ℕ) → (count ≡ length rs) × (count ≢ 0) → ⊥) → rs ≡ []
none_left [] off = refl
none_left (r ∷ rs) off = absurd (off (length (r ∷ rs)) (refl, λ none. absurd (omega (arith, none))))

module _ {M : Type 0} (device : Ghosts M) (given : Given device) (v : WorldView M) (c : ℕ) (o : Outcome) (new : SystemView M) (begun : IsBegunIn device v new) (turn : CanPlay device v.system (Bury c)) (makes : MakesAt device v.system c (Bury c) o new) where
  abbrev s : SeatView M
  s = makes.seat

  abbrev x : SeatView M
  x = makes.seat_then

  abbrev w : World
  w = begun.stands.world

  abbrev z : Stood
  z = record { world = w; accepted = begun.stands.accepted; marks = begun.stands.shared_marks; cut = begun.stands.cut }

  abbrev p : Client
  p = w.clients c

  abbrev made : IsBuriedOn device v.system.kernel s o x new.kernel
  made = makes.makes

  abbrev Buried : Type 0
  Buried = IsStep device v (Bury c) o (record { system = new; calls = v.calls })

  is_c : is_client c ≡ true
  is_c = client_is c turn.0

  is_settled_now : is_settled s.life ≡ true
  is_settled_now = (turn_at device v c s is_c makes.was (Bury c) turn.1).0

  own : IsClientOf device s (calls_of v c) p
  own = client_at device v c s is_c makes.was z begun.stands.is

  mark : StandsMarked (mark_by (Some z.marks) c) s (w.kernel.accounts c) (z.accepted c) p
  mark = marked_at device v c s is_c makes.was z begun.stands.is

  number : client_of s.client.pass ≡ c
  number = number_at device v c s is_c makes.was begun.leaves

  same_away : x.away ≡ s.away
  same_away = ap (λ (y : SeatView M). y.away) made.rest

  its_status : p.status ≡ world.Settled
  its_status = own.status ∙ settled_status s.life s.client.log.failed is_settled_now

  unbegun : p.begun ≡ None
  unbegun = (begun.stands.is.coherent.stands c is_c).rests.idle (ap at_rest its_status)

  -- ---- refused

  refused : (e : BuryError) → made.answer ≡ Err e → Buries device device v.system.kernel s.client (Err e) x.client new.kernel → Buried
  refused e is buries =
      let same : x ≡ s = made.rest ∙ (λ t. record s { client = buries.refused.0 t; life = (ap (life_buried s.life) is ∙ stays_settled s.life e) t }) in
      refused_step device given v new c s s.refused (Bury c) o begun is_c makes.was buries.refused.1 (makes.seats ∙ ap (λ (y : SeatView M). slice_set v.system.seats (c - 1) y) same) refl (λ stand. stand)

  -- ---- buried

  done : made.answer ≡ Ok tt → Buries device device v.system.kernel s.client (Ok tt) x.client new.kernel → Buried
  done is buries =
      let st = begun.stands in
      let emptied : IsEmptied s.client x.client = buries.emptied in
      let unlogged : own_records device s.client ≡ [] = none_left (own_records device s.client) (λ count says. absurd (cc ((buries.not_digested count).1 says))) in
      let had = none_called (calls_of v c) s.client.begun (subst (λ (b : Option world.Begun). IsBegunAs (calls_of v c) s.client.begun b) unbegun own.begun) in
      let both = both_empty s.client.sealed (current_records device s.client.log) (sym (ap (λ (b : Option Begun). with_record (s.client.sealed ++ current_records device s.client.log) (begun_record b)) had.0) ∙ unlogged) in
      let home = is_home device s.client s.away (leaves_at device v c s is_c makes.was begun.leaves).seated both.0 in
      let away_off : p.other ≢ world.Away = λ away. not_away s.client.log.other s.client.log.clean home.0 (sym own.turn.other ∙ away) in
      let digested : log_of w c ≡ [] =
      ap (λ (rs : List Record). drop ((w.kernel.accounts c).mark - p.past) rs ++ p.current) (own.sealed ∙ both.0)
      ∙ ap (λ (rs : List Record). rs ++ p.current) (drop-nil ((w.kernel.accounts c).mark - p.past))
      ∙ own.turn.current ∙ both.1 in
      let can : CanBury w c = record { client = is_c; settled = its_status; digested = digested; back = away_off } in
      let going : v.system.kernel.area.failed ≡ false = off_failed v.system.kernel.area.failed refl in
      let stands = st.is.going going in
      let after : IsKernelOf device new.kernel (machine_of (client_buried w c) st.accepted) = subst (λ (n : ℕ). IsKernelOf device new.kernel (bury (machine_of w st.accepted) n)) number (buries.step (machine_of w st.accepted) stands.0) in
      let life : x.life ≡ life_buried s.life (Ok tt) = ap (λ (y : SeatView M). y.life) made.rest ∙ ap (life_buried s.life) is in
      asked_step device given v new c s x (idle_account (w.kernel.accounts c).mark) (record (idle_client c (w.kernel.accounts c).mark) { other = p.other; ready = p.ready; status = world.Buried }) (Bury c) o w st.accepted st.shared_marks st.cut cuts.Nothing begun st.is is_c makes.was makes.seats
      (ap (λ a. a.geometry) buries.area)
      (not_read device v.system.kernel.area.media new.kernel.area.media (ap (λ a. a.media) buries.area))
      (record {
        book = after.book;
        capacity = after.capacity;
        going = λ _. (after, ap (λ a. marks (disk device a)) buries.area ∙ stands.1);
        stopped = λ failed. absurd (false≢true (sym (ap (λ a. a.failed) buries.area ∙ going) ∙ failed));
      })
      (λ stand. stand) refl
      (buried_holds w c st.is.coherent can) (buried_tree w c st.is.coherent can)
      (rest_media device s x c (calls_of v c) p (w.kernel.accounts c) number own emptied home.1 same_away both.1 both.0 unbegun)
      (rest_client device s x c (calls_of v c) p (w.kernel.accounts c) number own emptied home.1 same_away both.1 both.0 unbegun p.other p.ready world.Buried own.turn.other own.turn.is_ready
      (sym (ap (λ (l : Life). status_of l x.client.log.failed) life ∙ buried_status s.life x.client.log.failed is_settled_now)))
      (rest_marked device s x c (calls_of v c) p (w.kernel.accounts c) number own emptied home.1 same_away both.1 both.0 unbegun (idle_account (w.kernel.accounts c).mark) (mark_by (Some st.shared_marks) c) (st.accepted c) p.other p.ready world.Buried refl mark)
    where
      off_failed : (failed : Bool) → v.system.kernel.area.failed ≡ failed → v.system.kernel.area.failed ≡ false
      off_failed false off = off
      off_failed true fails = absurd (cc ((buries.failed).1 (ap length (none_left (own_records device s.client) (λ count says. absurd (cc ((buries.not_digested count).1 says)))), fails)))

  by_answer : (answer : Result (Unit {0}) BuryError) → made.answer ≡ answer → Buries device device v.system.kernel s.client answer x.client new.kernel → Buried
  by_answer (Ok tt) is buries = done is buries
  by_answer (Err e) is buries = refused e is buries

  pub buried : Buried
  buried = by_answer made.answer refl made.buries
