-- What a call comes to may be begun.
use Rattle.std.proofs.Common.{◌≡◌, ◌⊎◌, inl, inr, ℕ, ◌+◌, ◌-◌, ◌^◌, ◌<◌, ◌≤◌, Bool, true, false, cond, List, ◌++◌, length, refl, sym, ap, ◌∙◌, subst, arith, length-append}
use Rattle.std.specs.Prelude.{Option, Some, None, Result, Ok, Err, IfOk, IsSome, nat_le, ◌&&◌}
use Rattle.std.specs.Option.{ForSome}
use Rattle.std.proofs.lemmas.Bool.{false≢true, and_parts, eq-eqb, leb-true}
use Rattle.std.proofs.lemmas.List.Sums.{count_by-le-length}
use Rattle.tier_device.specs.declared.media.Media.{Ghosts}
use Rattle.posix_calls.specs.Part.{Part}
use Rattle.posix_calls.specs.declared.call.Call.{Call}
use Rattle.posix_calls.specs.declared.call.Call.TheVariants.{Pwrite}
use Rattle.posix_calls.specs.declared.call.Reply.{Reply}
use Rattle.posix_calls.specs.declared.limits.TheConstants.{MAX_FILE, MAX_TRANSFER}
use Rattle.lease_manager.specs.file_graph.Numbers.{is_inode}
use Rattle.lease_manager.specs.log_record.declared.format.Record.{Record}
use Rattle.client_log.specs.update_log.Frames.{end_behind}
use Rattle.client_log.specs.update_log.View.{records_of as records_in}
use Rattle.client_log.specs.update_log.declared.format.TheConstants.{REGION_SIZE}
use Rattle.client_log.specs.call_effects.Knowledge.{Knowledge, part_of}
use Rattle.client_view.specs.client_plan.declared.outcome.DescriptorChange.{DescriptorChange}
use Rattle.client_view.specs.client_plan.declared.outcome.Outcome.{Outcome}
use Rattle.client_view.specs.client_plan.declared.outcome.Outcome.TheVariants as outcomes
use Rattle.client_view.specs.client_plan.declared.plain_writes.PlainWrite.{PlainWrite}
use Rattle.client_view.specs.client_plan.Holdings.{Holdings}
use Rattle.client_view.specs.client_plan.PlainWrite.{IsPlainWrite, write_logged, written_by}
use Rattle.client_view.specs.client_plan.CallPlan.{outcome, OpensInRange, change_in}
use Rattle.client_view.specs.client_plan.Steps.{AreHoldingsOf, IsReady}
use Rattle.lease_manager.specs.declared.view.LeaseMode.{LeaseMode}
use Rattle.lease_manager.specs.declared.view.LeaseMode.TheVariants.{Free, Reading, Writing, Trying}
use Rattle.lease_manager.specs.Words.{HasWord}
use Rattle.lease_manager.specs.Passes.{PassView, lease_of, records_of}
use Rattle.client_log.specs.Steps.{most_of}
use Rattle.client_view.specs.AfterRecord.{is_made, with_made}
use Rattle.client_log.specs.View.{LogView}
use Rattle.libfs.specs.View.{ClientView}
use Rattle.lease_manager.specs.RecordCounts.{Counts, is_touched, touch_count}
use Rattle.lease_manager.specs.PassLeases.{is_writing, writes}
use Rattle.libfs.specs.ClientHoldings.{holdings_of, known_to, outcome_for}
use Rattle.libfs.specs.CallStart.{IsReadyToBegin, MayGoOn}
use Rattle.libfs.proofs.Kept.{known_still}

-- what a client has is of what it knows
pub has_of : {M : Type 0} (device : Ghosts M) (v : ClientView M) → AreHoldingsOf (known_to v) (holdings_of device v)
has_of device v = record { own = refl; numbers = λ i is. is }

-- what is known, or made, is known once the number of the node that is made is used
known_or_made : (k : Knowledge) (made : Option ℕ) (i : ℕ) → IsSome (k.copies i) ⊎ (made ≡ Some i) → IsSome ((with_made k made).copies i)
known_or_made k made i (inl some) = known_still k made i some
known_or_made k made i (inr is) =
    let own : is_made made i ≡ true = ap (λ (m : Option ℕ). is_made m i) is ∙ eq-eqb i i refl in
    subst (λ b. IsSome (cond b (Some None) (k.copies i))) (sym own) refl

-- so what a call comes to may be begun, if it comes to a record
pub may_go_on : {M : Type 0} (device : Ghosts M) (v : ClientView M) (call : Call) (o : Outcome) → o ≡ outcome_for device v call → ForSome (change_in o) OpensInRange
    → ((k : Knowledge) (h : Holdings) (c : Call) (change : Record) (reply : Reply) (made : Option ℕ) (descriptor : Option DescriptorChange) → AreHoldingsOf k h → outcome (part_of k) h c ≡ outcomes.Log change reply made descriptor → IsReady k h c change reply made descriptor)
    → ((k : Knowledge) (h : Holdings) (c : Call) (entry : Record) (reply : Reply) (made : Option ℕ) (change : Option DescriptorChange) → AreHoldingsOf k h → outcome (part_of k) h c ≡ outcomes.Log entry reply made change → ForSome made (λ n. is_inode n ≡ true))
    → MayGoOn device v o
may_go_on device v call (outcomes.Reply reply change) is number ready makes = number
may_go_on device v call (outcomes.Need need) is number ready makes = tt
may_go_on device v call (outcomes.Log entry reply made change) is number ready makes =
    let r = ready (known_to v) (holdings_of device v) call entry reply made change (has_of device v) (sym is) in
    record {
      spelled = r.spelled;
      makes = makes (known_to v) (holdings_of device v) call entry reply made change (has_of device v) (sym is);
      opens = number;
      enough = r.enough;
      held = r.leased;
      known = λ i touched. known_or_made (known_to v) made i (r.known i touched);
      most = r.most;
      room = r.room;
      fits = r.short;
    }

-- a write for which nothing is lacking
module _ {M : Type 0} (device : Ghosts M) (v : ClientView M) (number at : ℕ) (bytes : List ℕ) (w : PlainWrite) where
  -- it has no more bytes than one call may write
  pub plain_few : (p : Part) → IsPlainWrite p (holdings_of device v) number at (length bytes) w → length bytes ≤ MAX_TRANSFER
  plain_few p is =
      let all = and_parts (nat_le 1 (length bytes) && nat_le (length bytes) MAX_TRANSFER) (nat_le (at + length bytes) MAX_FILE) is.write in
      leb-true (length bytes) MAX_TRANSFER (and_parts (nat_le 1 (length bytes)) (nat_le (length bytes) MAX_TRANSFER) all.0).1

  -- and its record may be begun
  pub plain_ready : outcome_for device v (Pwrite number at bytes) ≡ write_logged w at bytes
      → ((k : Knowledge) (h : Holdings) (c : Call) (change : Record) (reply : Reply) (made : Option ℕ) (descriptor : Option DescriptorChange) → AreHoldingsOf k h → outcome (part_of k) h c ≡ outcomes.Log change reply made descriptor → IsReady k h c change reply made descriptor)
      → ((k : Knowledge) (h : Holdings) (c : Call) (entry : Record) (reply : Reply) (made : Option ℕ) (change : Option DescriptorChange) → AreHoldingsOf k h → outcome (part_of k) h c ≡ outcomes.Log entry reply made change → ForSome made (λ n. is_inode n ≡ true))
      → IsReadyToBegin device v (written_by w at bytes) None None
  plain_ready logged ready makes = may_go_on device v (Pwrite number at bytes) (write_logged w at bytes) (sym logged) (λ x e. absurd (cc)) ready makes

-- of an answer that is there both hold, and what follows from both
pub if_ok_from_both : {T E : Type 0} (r : Result T E) (P Q R : T → Type 0) → ((x : T) → P x → Q x → R x) → IfOk r P → IfOk r Q → IfOk r R
if_ok_from_both (Ok x) P Q R f p q = f x p q
if_ok_from_both (Err e) P Q R f p q = tt

-- ---- leases

writing_is : (m : LeaseMode) → is_writing m ≡ true → m ≡ Writing
writing_is Free e = absurd (false≢true e)
writing_is Reading e = absurd (false≢true e)
writing_is Writing e = refl
writing_is Trying e = absurd (false≢true e)

pub writes_lease : (p : PassView) (i : ℕ) → writes p i ≡ true → lease_of p i ≡ Writing
writes_lease p i e = writing_is (lease_of p i) (and_parts (is_inode i) (is_writing (lease_of p i)) e).1

-- ---- room

module _ {M : Type 0} (device : Ghosts M) (log : LogView M) (most : ℕ) (is : most_of device log ≡ Some most) where
  room_parts : (ready fits : Bool) (n : ℕ) → cond (ready && fits) (Some n) None ≡ Some most → (ready ≡ true) × (fits ≡ true) × (n ≡ most)
  room_parts true true n e = (refl, refl, cc)
  room_parts true false n e = absurd (cc)
  room_parts false fits n e = absurd (cc)

  parts : (log.ready ≡ true) × (nat_le (end_behind (records_in device log.current) + 6) REGION_SIZE ≡ true) × (REGION_SIZE - (end_behind (records_in device log.current) + 6) ≡ most)
  parts = room_parts log.ready (nat_le (end_behind (records_in device log.current) + 6) REGION_SIZE) (REGION_SIZE - (end_behind (records_in device log.current) + 6)) is

  -- where a record has room, the log is ready for it
  pub room_ready : log.ready ≡ true
  room_ready = parts.0

  -- and it doesn't fill the region
  pub room_fits : (len : ℕ) → len ≤ most → REGION_SIZE < end_behind (records_in device log.current) + 5 + len + 1 → ⊥
  room_fits len short full = let low : end_behind (records_in device log.current) + 6 ≤ REGION_SIZE = leb-true (end_behind (records_in device log.current) + 6) REGION_SIZE parts.1 in let rest = parts.2 in omega arith

-- a pass that counts just these records has room for one more
pub one_more : (p : PassView) (away current : List Record) → Counts p (away ++ current) → length away + length current + 1 < 2 ^ 64 → (i : ℕ) → HasWord i → records_of p i + 1 < 2 ^ 64
one_more p away current counts few i w =
    let all = length-append away current in
    let most : touch_count (away ++ current) i ≤ length (away ++ current) = count_by-le-length (λ (r : Record). is_touched r.effects i) (away ++ current) in
    let is = counts i w in
    omega arith
