-- A lease is given back, and what was known of its inode is forgotten.
use Rattle.std.proofs.Common.{◌≡◌, ℕ, zero, suc, ◌+◌, ◌-◌, ◌==◌, ◌||◌, Bool, true, false, cond, List, [], ◌∷◌, ◌++◌, drop, Option, Some, None, refl, subst, sym, ap, ◌∙◌, arith}
use Rattle.std.specs.Prelude.{slice_set}
use Rattle.std.proofs.lemmas.Bool.{false≢true}
use Rattle.std.proofs.lemmas.List.Sums.{sum_by-cons}
use Rattle.tier_device.specs.declared.media.Media.{Ghosts}
use Rattle.event_steps.specs.log_record.declared.format.Record.{Record}
use Rattle.event_steps.specs.lease_manager.RecordCounts.{touch_count}
use Rattle.event_steps.specs.world_invariant.Logs.{is_touched, is_written}
use Rattle.event_steps.specs.call_effects.Knowledge.{Knowledge}
use Rattle.event_steps.specs.lease_manager.Passes.{PassView, without_lease}
use Rattle.event_steps.specs.lease_manager.PassLeases.{is_reading, is_writing}
use Rattle.event_steps.specs.lease_manager.declared.view.LeaseMode.TheVariants.{Free}
use Rattle.event_steps.specs.libfs.ClientHoldings.{known_to}
use Rattle.event_steps.specs.libfs.View.{ClientView, begun_record, own_records}
use Rattle.event_steps.specs.client_log.View.{current_records}
use Rattle.event_steps.specs.update_log.Frames.{with_record}
use Rattle.system_laws.specs.Leaves.{HoldsRecords}
use Rattle.event_steps.specs.world_invariant.LeaseSteps.{CanGive, without, without_copies}
use Rattle.event_steps.specs.world_invariant.World.{Client, log_of}
use Rattle.event_steps.specs.Effects.{MakesAt}
use Rattle.event_steps.specs.Turns.{CanPlay}
use Rattle.event_steps.specs.View.{SeatView, SystemView}
use Rattle.event_steps.specs.declared.event.Event.TheVariants.{Give}
use Rattle.event_steps.specs.declared.outcome.Outcome.{Outcome}
use Rattle.event_steps.proofs.world_invariant_lemmas.Leases.{given_holds, given_tree}
use Rattle.system_laws.specs.News.{news}
use Rattle.system_laws.specs.Steps.{IsBegunIn, IsStep}
use Rattle.system_laws.specs.WorldView.{WorldView, calls_of}
use Rattle.system_laws.proofs.Given.{Given}
use Rattle.system_laws.proofs.LeaseEvents.{freed, said_with}
use Rattle.system_laws.proofs.OwnSeat.{turn_at}
use Rattle.system_laws.proofs.Refills.{idle_client}
use Rattle.system_laws.proofs.Seated.{own_mark, own_part, quiet_step}
use Rattle.system_laws.proofs.Seats.{client_is, same_seat}

pub untouched : (i : ℕ) (rs : List Record) → touch_count rs i ≡ 0 → is_written i rs ≡ false
untouched i [] none = refl
untouched i (r ∷ rs) none =
    elim (is_touched i r) as (λ b. cond b 1 0 + touch_count rs i ≡ 0 → (b || is_written i rs) ≡ false) [
      | true ↦ λ e. absurd (omega (arith, e))
      | false ↦ λ e. untouched i rs (omega (arith, e))
    ] (sym (sum_by-cons (λ (x : Record). cond (is_touched i x) 1 0) r rs) ∙ none)

pub dropped : (i n : ℕ) (rs more : List Record) → is_written i (rs ++ more) ≡ false → is_written i (drop n rs ++ more) ≡ false
dropped i zero rs more none = none
dropped i (suc n) [] more none = none
dropped i (suc n) (r ∷ rs) more none = dropped i n rs more (second (is_touched i r) (is_written i (rs ++ more)) none)
  where
    second : (a b : Bool) → (a || b) ≡ false → b ≡ false
    second true b e = absurd (false≢true (sym e))
    second false b e = e

-- what the first of two lists touches both do
front : (i : ℕ) (rs more : List Record) → is_written i (rs ++ more) ≡ false → is_written i rs ≡ false
front i [] more none = refl
front i (r ∷ rs) more none = elim (is_touched i r) as (λ b. (b || is_written i (rs ++ more)) ≡ false → (b || is_written i rs) ≡ false) [
  | true ↦ λ e. e
  | false ↦ λ e. front i rs more e
] none

front_of : (i : ℕ) (rs : List Record) (begun : Option Record) → is_written i (with_record rs begun) ≡ false → is_written i rs ≡ false
front_of i rs None none = none
front_of i rs (Some r) none = front i rs (r ∷ []) none

-- where no record of a client's own touches an inode, none does that is not digested
pub clean_log : {M : Type 0} (device : Ghosts M) (v : ClientView M) (sealed current : List Record) (i n : ℕ) → sealed ≡ v.sealed → current ≡ current_records device v.log → touch_count (own_records device v) i ≡ 0 → is_written i (drop n sealed ++ current) ≡ false
clean_log device v sealed current i n away here none =
    let untold = front_of i (v.sealed ++ current_records device v.log) (begun_record v.begun) (untouched i (own_records device v) none) in
    dropped i n sealed current (subst (λ (rs : List Record). is_written i (rs ++ current) ≡ false) (sym away) (subst (λ (rs : List Record). is_written i (v.sealed ++ rs) ≡ false) (sym here) untold))

module _ {M : Type 0} (device : Ghosts M) where
  -- A lease that a client may give back, of an inode that none of its records touches.
  pub given_back : Given device → (v : WorldView M) (c i : ℕ) (o : Outcome) (new : SystemView M)
      → IsBegunIn device v new → CanPlay device v.system (Give c i) → MakesAt device v.system c (Give c i) o new → IsStep device v (Give c i) o (record { system = new; calls = v.calls })
  given_back given v c i o new begun turn makes =
      let st = begun.stands in
      let w = st.world in
      let s = makes.seat in
      let x = makes.seat_then in
      let is_c = client_is c turn.0 in
      let may = (turn_at device v c s is_c makes.was (Give c i) turn.1).1 in
      let is = makes.makes.0 in
      let own = own_part device v w st.accepted st.shared_marks st.cut c s st.is is_c makes.was in
      let mark = own_mark device v w st.accepted st.shared_marks st.cut c s st.is is_c makes.was in
      let none = idle_client device v w st.accepted st.shared_marks st.cut c s st.is is_c makes.was (begun.holds c is_c) may.idle may.going in
      let p : Client = record (w.clients c) { reads = without (w.clients c).reads i; writes = without (w.clients c).writes i; knows = without_copies (w.clients c).knows i } in
      let y : SeatView M = record s { client = record s.client { pass = without_lease s.client.pass i; copies = x.client.copies } } in
      let to : x ≡ y = is.rest ∙ ap (λ (k : ClientView M). record s { client = k }) (is.given.rest ∙ ap (λ (q : PassView). record s.client { pass = q; copies = x.client.copies }) is.given.lease) in
      let knows : p.knows ≡ known_to y.client = ap (λ (k : Knowledge). without_copies k i) own.knows ∙ sym (sym (ap (λ (t : SeatView M). known_to t.client) to) ∙ is.given.knows_then) in
      let held = begun.holds c is_c in
      let counts = subst (λ (t : SeatView M). HoldsRecords device t.client) (same_seat held.0 s (sym held.1 ∙ makes.was)) held.2 in
      let clean : is_written i (log_of w c) ≡ false = clean_log device s.client (w.clients c).sealed (w.clients c).current i ((w.kernel.accounts c).mark - (w.clients c).past) own.sealed own.turn.current (sym (counts.counts i may.inode) ∙ may.digested) in
      let can : CanGive w c i = record { client = is_c; idle = none; clean = clean } in
      quiet_step device given v new c s y p (Give c i) o begun is_c makes.was makes.makes.1 (makes.seats ∙ ap (λ (t : SeatView M). slice_set v.system.seats (c - 1) t) to) (λ stand. stand)
      (ap (λ (r : Outcome). news (calls_of v) (Give c i) r) is.told)
      (given_holds w c i st.is.coherent can) (given_tree w c i st.is.coherent can) (refl, refl) (λ r low. refl)
      (record {
        knows = knows;
        turn = record { current = own.turn.current; other = own.turn.other; is_ready = own.turn.is_ready; begun = own.turn.begun };
        sealed = own.sealed;
        begun = own.begun;
        reads_are = λ j. ap (λ b. cond (j == i) false b) (own.reads_are j) ∙ sym (said_with is_reading s.client.pass i j Free may.inode (freed s.client.pass i may.held));
        writes_are = λ j. ap (λ b. cond (j == i) false b) (own.writes_are j) ∙ sym (said_with is_writing s.client.pass i j Free may.inode (freed s.client.pass i may.held));
        spare = own.spare;
        pins = own.pins;
        status = own.status;
      })
      (record { mark = mark.mark; digested = mark.digested; accepts = mark.accepts; held = mark.held })
