-- A call that is started is begun, or nothing waits; and it is the same client, with the same leases.
use Rattle.std.proofs.Common.{◌≡◌, ◌⊎◌, inl, inr, ⊎_elim, ℕ, Bool, true, false, List, Option, Some, None, refl, sym, ap, ◌∙◌, subst}
use Rattle.std.specs.Prelude.{IfSome, is_some, not, ◌&&◌}
use Rattle.std.proofs.lemmas.Bool.{false≢true}
use Rattle.atomic_table.specs.Seated.{TableId}
use Rattle.tier_device.specs.declared.media.Media.{Ghosts}
use Rattle.posix_calls.specs.declared.call.Call.{Call}
use Rattle.posix_calls.specs.declared.call.Reply.{Reply}
use Rattle.posix_calls.specs.declared.call.Reply.TheVariants as replies
use Rattle.libfs.specs.update_log.declared.stage.Progress.{Progress}
use Rattle.libfs.specs.update_log.declared.stage.Progress.TheVariants.{Going, Appended}
use Rattle.libfs.specs.update_log.declared.stage.Stage.TheVariants as stages
use Rattle.posix_calls.specs.declared.errno.Errno.TheVariants.{IoError, NoMemory}
use Rattle.libfs.specs.lease_manager.Passes.{PassView, client_of}
use Rattle.libfs.specs.lease_manager.declared.view.LeaseMode.{LeaseMode}
use Rattle.libfs.specs.client_plan.declared.need.Need.{Need}
use Rattle.libfs.specs.client_plan.declared.outcome.Outcome.{Outcome}
use Rattle.libfs.specs.client_plan.declared.outcome.Outcome.TheVariants as outcomes
use Rattle.libfs.specs.CallStart.{HasStarted, IsOutOfMemory}
use Rattle.libfs.specs.CallStep.{IsGoing, HasReplied, HasFailed}
use Rattle.libfs.specs.ClientHoldings.{outcome_for}
use Rattle.libfs.specs.View.{ClientView, is_pending}
use Rattle.libfs.specs.declared.begun_record.Begun.{Begun}
use Rattle.libfs.specs.declared.now.Now.{Now}
use Rattle.libfs.specs.declared.now.Now.TheVariants as now
use Rattle.strata_threads.specs.CallDenials.{NeedsFirst}
use Rattle.strata_threads.specs.ClientCalls.{owner_of, IsEnded, IsStarted}
use Rattle.strata_threads.specs.LeaseReturn.{KeepsLeases}

-- whose pass it is, and how it stands to each inode
abbrev pub standing_of : {M : Type 0} → ClientView M → (ℕ × TableId) × List LeaseMode
standing_of v = (owner_of v, v.pass.part.modes)

pub owner_stays : {M : Type 0} (old new : ClientView M) → standing_of new ≡ standing_of old → owner_of new ≡ owner_of old
owner_stays old new is = ap (λ (s : (ℕ × TableId) × List LeaseMode). s.0) is

pub leases_stay : {M : Type 0} (old new : ClientView M) → standing_of new ≡ standing_of old → KeepsLeases old new
leases_stay old new is = ap (λ (s : (ℕ × TableId) × List LeaseMode). s.1) is

done_is_no_wait : (a : Now) (r : Reply) → a ≡ now.Done r → a ≡ now.Pending → ⊥
done_is_no_wait a r d p = absurd (cc)

need_is_no_wait : (a : Now) (n : Need) → a ≡ now.Need n → a ≡ now.Pending → ⊥
need_is_no_wait a n d p = absurd (cc)

done_is_no_need : (a : Now) (r : Reply) (n : Need) → a ≡ now.Done r → a ≡ now.Need n → ⊥
done_is_no_need a r n d p = absurd (cc)

wait_is_no_need : (a : Now) (n : Need) → a ≡ now.Pending → a ≡ now.Need n → ⊥
wait_is_no_need a n w p = absurd (cc)

-- the need that is told, if one is
abbrev need_in : Need → Now → Need
need_in other (now.Need n) = n
need_in other _ = other

same_need : (n m : Need) → now.Need n ≡ now.Need m → n ≡ m
same_need n m e = ap (need_in n) e

-- it is the same client; a call waits where it is pending, and else as before
abbrev Kept : {M : Type 0} → ClientView M → Now → ClientView M → Type 0
Kept old answer new = (standing_of new ≡ standing_of old) × (answer ≡ now.Pending → is_pending new ≡ true) × ((answer ≡ now.Pending → ⊥) → is_pending new ≡ is_pending old)

-- it is as it was but for what is no matter here
same : {M : Type 0} → (old new other : ClientView M) (answer : Now) → (answer ≡ now.Pending → ⊥) → new ≡ other → standing_of other ≡ standing_of old → is_pending other ≡ is_pending old → Kept old answer new
same old new other answer is_not is owner pending = (ap standing_of is ∙ owner, (λ p. absurd (is_not p)), (λ _. ap is_pending is ∙ pending))

waits : (begun : Option Begun) (b : Begun) (answered : Bool) → begun ≡ Some b → answered ≡ false → (is_some begun && not answered) ≡ true
waits begun b answered is is_not = (λ i. is_some (is i) && not (is_not i))

module _ {M : Type 0} (device : Ghosts M) (old new : ClientView M) (call : Call) (answer : Now) where
  not_answered : (flag : Bool) → old.answered ≡ flag → old.log.failed ≡ false → (old.answered ≡ true → (old.log.failed ≡ true) × (is_some old.begun ≡ true)) → old.answered ≡ false
  not_answered true is going held = absurd (false≢true (sym going ∙ (held is).0))
  not_answered false is going held = is

  by_outcome : (o : Outcome) → old.answered ≡ false → HasStarted device old o answer new → Kept old answer new
  by_outcome (outcomes.Reply reply change) is_not has = same old new _ answer (done_is_no_wait answer reply has.0) has.1.rest refl refl
  by_outcome (outcomes.Need need) is_not has = same old new old answer (need_is_no_wait answer need has.0) has.1 refl refl
  by_outcome (outcomes.Log entry reply made change) is_not has = let b = has.1 in (
    ap (λ (p : PassView). ((client_of p, p.table), p.part.modes)) b.noted.rest,
    (λ _. waits new.begun b.begun new.answered b.is_begun (ap (λ (v : ClientView M). v.answered) b.rest ∙ is_not)),
    (λ not_so. absurd (not_so has.0)),
  )

  by_flag : (flag : Bool) → old.log.failed ≡ flag
      → (old.answered ≡ true → (old.log.failed ≡ true) × (is_some old.begun ≡ true))
      → (old.log.failed ≡ true → (answer ≡ now.Done (replies.Failed IoError)) × (new ≡ old))
      → (old.log.failed ≡ false → HasStarted device old (outcome_for device old call) answer new ⊎ IsOutOfMemory device old call answer new)
      → Kept old answer new
  by_flag true is held fault going = let f = fault is in same old new old answer (done_is_no_wait answer (replies.Failed IoError) f.0) f.1 refl refl
  by_flag false is held fault going = ⊎_elim
      (λ (has : HasStarted device old (outcome_for device old call) answer new). by_outcome (outcome_for device old call) (not_answered old.answered refl is held) has)
      (λ (out : IsOutOfMemory device old call answer new). same old new old answer (done_is_no_wait answer (replies.Failed NoMemory) out.told) out.same refl refl)
      (going is)

  pub started_keeps :
      (old.answered ≡ true → (old.log.failed ≡ true) × (is_some old.begun ≡ true))
      → (old.log.failed ≡ true → (answer ≡ now.Done (replies.Failed IoError)) × (new ≡ old))
      → (old.log.failed ≡ false → HasStarted device old (outcome_for device old call) answer new ⊎ IsOutOfMemory device old call answer new)
      → Kept old answer new
  started_keeps = by_flag old.log.failed refl

  -- what the call comes to, where it needs something first
  by_need : (o : Outcome) → outcome_for device old call ≡ o → HasStarted device old o answer new → (need : Need) → answer ≡ now.Need need → (outcome_for device old call ≡ outcomes.Need need) × (new ≡ old)
  by_need (outcomes.Reply reply change) is has need told = absurd (done_is_no_need answer reply need has.0 told)
  by_need (outcomes.Need other) is has need told = (is ∙ ap outcomes.Need (same_need other need (sym has.0 ∙ told)), has.1)
  by_need (outcomes.Log entry reply made change) is has need told = absurd (wait_is_no_need answer need has.0 told)

  need_by_flag : (flag : Bool) → old.log.failed ≡ flag
      → (old.log.failed ≡ true → (answer ≡ now.Done (replies.Failed IoError)) × (new ≡ old))
      → (old.log.failed ≡ false → HasStarted device old (outcome_for device old call) answer new ⊎ IsOutOfMemory device old call answer new)
      → (need : Need) → answer ≡ now.Need need → NeedsFirst device new call need
  need_by_flag true is fault going need told = absurd (done_is_no_need answer (replies.Failed IoError) need (fault is).0 told)
  need_by_flag false is fault going need told = ⊎_elim
      (λ (has : HasStarted device old (outcome_for device old call) answer new). let come = by_need (outcome_for device old call) refl has need told in subst (λ (v : ClientView M). NeedsFirst device v call need) (sym come.1) (is, come.0))
      (λ (out : IsOutOfMemory device old call answer new). absurd (done_is_no_need answer (replies.Failed NoMemory) need out.told told))
      (going is)

  pub needs_first :
      (old.log.failed ≡ true → (answer ≡ now.Done (replies.Failed IoError)) × (new ≡ old))
      → (old.log.failed ≡ false → HasStarted device old (outcome_for device old call) answer new ⊎ IsOutOfMemory device old call answer new)
      → (need : Need) → answer ≡ now.Need need → NeedsFirst device new call need
  needs_first = need_by_flag old.log.failed refl

  by_log : (flag : Bool) → old.log.failed ≡ flag
      → (old.log.failed ≡ true → (answer ≡ now.Done (replies.Failed IoError)) × (new ≡ old))
      → (old.log.failed ≡ false → HasStarted device old (outcome_for device old call) answer new ⊎ IsOutOfMemory device old call answer new)
      → IsStarted device call old answer new
  by_log true is fault going = inl (is, (fault is).0, (fault is).1)
  by_log false is fault going = inr (going is)

  pub is_started :
      (old.log.failed ≡ true → (answer ≡ now.Done (replies.Failed IoError)) × (new ≡ old))
      → (old.log.failed ≡ false → HasStarted device old (outcome_for device old call) answer new ⊎ IsOutOfMemory device old call answer new)
      → IsStarted device call old answer new
  is_started = by_log old.log.failed refl

  -- no device call of a record is made that is just begun
  stage_of : (o : Outcome) → HasStarted device old o answer new → answer ≡ now.Pending → new.log.current.stage ≡ stages.Begun
  stage_of (outcomes.Reply reply change) has wait = absurd (done_is_no_wait answer reply has.0 wait)
  stage_of (outcomes.Need need) has wait = absurd (need_is_no_wait answer need has.0 wait)
  stage_of (outcomes.Log entry reply made change) has wait = has.1.stage

  stage_by_flag : (flag : Bool) → old.log.failed ≡ flag
      → (old.log.failed ≡ true → (answer ≡ now.Done (replies.Failed IoError)) × (new ≡ old))
      → (old.log.failed ≡ false → HasStarted device old (outcome_for device old call) answer new ⊎ IsOutOfMemory device old call answer new)
      → answer ≡ now.Pending → new.log.current.stage ≡ stages.Begun
  stage_by_flag true is fault going wait = absurd (done_is_no_wait answer (replies.Failed IoError) (fault is).0 wait)
  stage_by_flag false is fault going wait = ⊎_elim
      (λ (has : HasStarted device old (outcome_for device old call) answer new). stage_of (outcome_for device old call) has wait)
      (λ (out : IsOutOfMemory device old call answer new). absurd (done_is_no_wait answer (replies.Failed NoMemory) out.told wait))
      (going is)

  pub begun_stage :
      (old.log.failed ≡ true → (answer ≡ now.Done (replies.Failed IoError)) × (new ≡ old))
      → (old.log.failed ≡ false → HasStarted device old (outcome_for device old call) answer new ⊎ IsOutOfMemory device old call answer new)
      → answer ≡ now.Pending → new.log.current.stage ≡ stages.Begun
  begun_stage = stage_by_flag old.log.failed refl

-- ---- device calls of a begun record

none_is_some : {A : Type 0} (a : A) → None ≡ Some a → ⊥
none_is_some a e = absurd (cc)

both_false : (b : Bool) → (b && false) ≡ false
both_false true = refl
both_false false = refl

-- it is the same client; its call waits on where nothing is answered, with the same record begun, and else no more
abbrev Moved : {M : Type 0} → ClientView M → Option Reply → ClientView M → Type 0
Moved old answer new = (standing_of new ≡ standing_of old) × (answer ≡ None → (is_pending new ≡ true) × (new.begun ≡ old.begun)) × ((answer ≡ None → ⊥) → is_pending new ≡ false)

module _ {M : Type 0} (device : Ghosts M) (old new : ClientView M) (answer : Option Reply) where
  moved_failed : HasFailed device old answer new → Moved old answer new
  moved_failed has = (
    ap standing_of has.rest,
    (λ none. absurd (none_is_some _ (sym none ∙ has.told))),
    (λ _. ap is_pending has.rest ∙ both_false (is_some old.begun)),
  )

  moved_replied : (b : Begun) → HasReplied device old b answer new → Moved old answer new
  moved_replied b has = (
    ap standing_of has.rest,
    (λ none. absurd (none_is_some _ (sym none ∙ has.told))),
    (λ _. ap is_pending has.rest),
  )

  moved_going : is_pending old ≡ true → IsGoing device old answer new → Moved old answer new
  moved_going pending has = (ap standing_of has.rest, (λ _. (ap is_pending has.rest ∙ pending, ap (λ (v : ClientView M). v.begun) has.rest)), (λ some. absurd (some has.told)))

  by_begun : (o : Option Begun) (answered : Bool) → (is_some o && not answered) ≡ true → IfSome o (λ b. HasReplied device old b answer new) → Moved old answer new
  by_begun None answered pending has = absurd (false≢true pending)
  by_begun (Some b) answered pending has = moved_replied b has

  by_step : (p : Progress) (flag : Bool) → new.log.failed ≡ flag → is_pending old ≡ true
      → (new.log.failed ≡ false → p ≡ Going → IsGoing device old answer new)
      → (new.log.failed ≡ false → p ≡ Appended → IfSome old.begun (λ b. HasReplied device old b answer new))
      → (new.log.failed ≡ true → HasFailed device old answer new)
      → Moved old answer new
  by_step p true is pending going replied failed = moved_failed (failed is)
  by_step Going false is pending going replied failed = moved_going pending (going is refl)
  by_step Appended false is pending going replied failed = by_begun old.begun old.answered pending (replied is refl)

  replied_is_some : (o : Option Begun) (answered : Bool) → (is_some o && not answered) ≡ true → IfSome o (λ b. HasReplied device old b answer new) → answer ≡ None → ⊥
  replied_is_some None answered pending has none = false≢true pending
  replied_is_some (Some b) answered pending has none = none_is_some _ (sym none ∙ has.told)

  goes_by : (p : Progress) (flag : Bool) → new.log.failed ≡ flag → is_pending old ≡ true
      → (new.log.failed ≡ false → p ≡ Appended → IfSome old.begun (λ b. HasReplied device old b answer new))
      → (new.log.failed ≡ true → HasFailed device old answer new)
      → answer ≡ None → (p ≡ Going) × (new.log.failed ≡ false)
  goes_by p true is pending replied failed none = absurd (none_is_some _ (sym none ∙ (failed is).told))
  goes_by Going false is pending replied failed none = (refl, is)
  goes_by Appended false is pending replied failed none = absurd (replied_is_some old.begun old.answered pending (replied is refl) none)

  -- a device call that answers nothing brought the append on, and did not fail
  pub step_goes : (p : Progress) → is_pending old ≡ true
      → (new.log.failed ≡ false → p ≡ Appended → IfSome old.begun (λ b. HasReplied device old b answer new))
      → (new.log.failed ≡ true → HasFailed device old answer new)
      → answer ≡ None → (p ≡ Going) × (new.log.failed ≡ false)
  step_goes p = goes_by p new.log.failed refl

  -- one that answers, and did not fail, was the last
  pub step_is_last : (p : Progress) → (new.log.failed ≡ false → p ≡ Going → IsGoing device old answer new) → (answer ≡ None → ⊥) → new.log.failed ≡ false → p ≡ Appended
  step_is_last Going going some is = absurd (some (going is refl).told)
  step_is_last Appended going some is = refl

  pub step_moves : (p : Progress) → is_pending old ≡ true
      → (new.log.failed ≡ false → p ≡ Going → IsGoing device old answer new)
      → (new.log.failed ≡ false → p ≡ Appended → IfSome old.begun (λ b. HasReplied device old b answer new))
      → (new.log.failed ≡ true → HasFailed device old answer new)
      → Moved old answer new
  step_moves p = by_step p new.log.failed refl

-- what a device call answers, if it does, is the end of the call
module _ {M : Type 0} (device : Ghosts M) (old new : ClientView M) where
  failed_ends : (answer : Option Reply) → HasFailed device old answer new → IfSome answer (λ reply. IsEnded device old reply new)
  failed_ends None has = tt
  failed_ends (Some reply) has = inr has

  replied_ends : (answer : Option Reply) (b : Begun) → old.begun ≡ Some b → HasReplied device old b answer new → IfSome answer (λ reply. IsEnded device old reply new)
  replied_ends None b is has = tt
  replied_ends (Some reply) b is has = inl (b, is, has)

  going_ends : (answer : Option Reply) → IsGoing device old answer new → IfSome answer (λ reply. IsEnded device old reply new)
  going_ends None has = tt
  going_ends (Some reply) has = absurd (none_is_some reply (sym has.told))

  begun_ends : (answer : Option Reply) (o : Option Begun) → old.begun ≡ o → (is_some o && not old.answered) ≡ true → IfSome o (λ b. HasReplied device old b answer new) → IfSome answer (λ reply. IsEnded device old reply new)
  begun_ends answer None is pending has = absurd (false≢true pending)
  begun_ends answer (Some b) is pending has = replied_ends answer b is has

  by_call : (answer : Option Reply) (p : Progress) (flag : Bool) → new.log.failed ≡ flag → is_pending old ≡ true
      → (new.log.failed ≡ false → p ≡ Going → IsGoing device old answer new)
      → (new.log.failed ≡ false → p ≡ Appended → IfSome old.begun (λ b. HasReplied device old b answer new))
      → (new.log.failed ≡ true → HasFailed device old answer new)
      → IfSome answer (λ reply. IsEnded device old reply new)
  by_call answer p true is pending going replied failed = failed_ends answer (failed is)
  by_call answer Going false is pending going replied failed = going_ends answer (going is refl)
  by_call answer Appended false is pending going replied failed = begun_ends answer old.begun refl pending (replied is refl)

  pub step_ends : (answer : Option Reply) (p : Progress) → is_pending old ≡ true
      → (new.log.failed ≡ false → p ≡ Going → IsGoing device old answer new)
      → (new.log.failed ≡ false → p ≡ Appended → IfSome old.begun (λ b. HasReplied device old b answer new))
      → (new.log.failed ≡ true → HasFailed device old answer new)
      → IfSome answer (λ reply. IsEnded device old reply new)
  step_ends answer p = by_call answer p new.log.failed refl

  by_calls : (reply : Reply) (flag : Bool) → new.log.failed ≡ flag → is_pending old ≡ true
      → (new.log.failed ≡ false → IfSome old.begun (λ b. HasReplied device old b (Some reply) new))
      → (new.log.failed ≡ true → HasFailed device old (Some reply) new)
      → IsEnded device old reply new
  by_calls reply true is pending replied failed = failed_ends (Some reply) (failed is)
  by_calls reply false is pending replied failed = begun_ends (Some reply) old.begun refl pending (replied is)

  pub calls_end : (reply : Reply) → is_pending old ≡ true
      → (new.log.failed ≡ false → IfSome old.begun (λ b. HasReplied device old b (Some reply) new))
      → (new.log.failed ≡ true → HasFailed device old (Some reply) new)
      → IsEnded device old reply new
  calls_end reply = by_calls reply new.log.failed refl

module _ {M : Type 0} (device : Ghosts M) (old new : ClientView M) (reply : Reply) where
  ended : Moved old (Some reply) new → (standing_of new ≡ standing_of old) × (is_pending new ≡ false)
  ended moved = (moved.0, moved.2 (λ e. none_is_some reply (sym e)))

  by_end : (flag : Bool) → new.log.failed ≡ flag → is_pending old ≡ true
      → (new.log.failed ≡ false → IfSome old.begun (λ b. HasReplied device old b (Some reply) new))
      → (new.log.failed ≡ true → HasFailed device old (Some reply) new)
      → (standing_of new ≡ standing_of old) × (is_pending new ≡ false)
  by_end true is pending replied failed = ended (moved_failed device old new (Some reply) (failed is))
  by_end false is pending replied failed = ended (by_begun device old new (Some reply) old.begun old.answered pending (replied is))

  pub finish_ends : is_pending old ≡ true
      → (new.log.failed ≡ false → IfSome old.begun (λ b. HasReplied device old b (Some reply) new))
      → (new.log.failed ≡ true → HasFailed device old (Some reply) new)
      → (standing_of new ≡ standing_of old) × (is_pending new ≡ false)
  finish_ends = by_end new.log.failed refl
