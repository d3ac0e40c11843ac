-- How far the device calls of a record have come, what a device call of a wipe is, and how a call that was answered is replied.
use Rattle.std.proofs.Common.{◌≡◌, ◌≢◌, ◌⊎◌, ◌<◌, ◌≤◌, ◌+◌, inl, inr, ℕ, Bool, true, false, Option, Some, None, Result, Ok, Err, ap, arith, refl, sym, ◌∙◌, subst}
use Rattle.std.specs.Prelude.{IfSome, IsErrOf, OnOk, ◌↔◌}
use Rattle.tier_device.specs.declared.media.Media.{Ghosts}
use Rattle.posix_calls.specs.declared.call.Call.{Call}
use Rattle.posix_calls.specs.declared.call.Reply.{Reply}
use Rattle.posix_calls.specs.declared.call.Reply.TheVariants as replies
use Rattle.libfs.specs.client_log.Steps.{WipesCurrent, WipesOther, wipe_answer}
use Rattle.libfs.specs.client_log.View.{LogView}
use Rattle.libfs.specs.client_log.declared.error.LogError.{LogError}
use Rattle.libfs.specs.update_log.Stage.{calls_left, next, progress}
use Rattle.libfs.specs.update_log.View.{RegionView}
use Rattle.libfs.specs.update_log.declared.stage.Progress.TheVariants.{Going, Appended}
use Rattle.libfs.specs.update_log.declared.stage.Stage.{Stage}
use Rattle.libfs.specs.update_log.declared.stage.Stage.TheVariants as stages
use Rattle.libfs.specs.update_log.declared.stage.WipeProgress.{WipeProgress}
use Rattle.libfs.specs.Denial.{errno_of}
use Rattle.libfs.specs.View.{ClientView}
use Rattle.libfs.specs.declared.denial.Denied.{Denied}
use Rattle.libfs.specs.declared.denial.Denied.TheVariants as denied
use Rattle.strata_threads.specs.CallDenials.{HasUnmetNeed}
use Rattle.libfs.specs.declared.now.Now.TheVariants as now
use Rattle.strata_threads.specs.ClientCalls.{IsAnswered, IsFinished, IsStarted}
use Rattle.strata_threads.specs.ClientDeath.{IsReplied}
use Rattle.strata_threads.specs.RegionWipe.{WipesOn, clock_of, other_clock}
use Rattle.strata_threads.specs.WaitedTurns.{WaitedView}

-- ---- the device calls of a record

-- one that goes on leaves one fewer, and one at least
pub one_fewer : (s : Stage) → progress s ≡ Going → 1 ≤ calls_left s → (calls_left (next s) + 1 ≡ calls_left s) × (1 ≤ calls_left (next s))
one_fewer stages.Resting going some = absurd (omega (arith, some))
one_fewer stages.Foreign going some = absurd (omega (arith, some))
one_fewer stages.Begun going some = (refl, omega arith)
one_fewer stages.Written going some = (refl, omega arith)
one_fewer stages.Kept going some = (refl, omega arith)
one_fewer stages.Opened going some = absurd cc
one_fewer stages.Failed going some = absurd (omega (arith, some))
one_fewer stages.Closing going some = absurd (omega (arith, some))
one_fewer stages.Closed going some = absurd (omega (arith, some))
one_fewer stages.Naming going some = absurd (omega (arith, some))
one_fewer stages.WipeFailed going some = absurd (omega (arith, some))

-- before the last one is left
pub last_one : (s : Stage) → progress s ≡ Appended → calls_left s ≡ 1
last_one stages.Resting last = absurd cc
last_one stages.Foreign last = absurd cc
last_one stages.Begun last = absurd cc
last_one stages.Written last = absurd cc
last_one stages.Kept last = absurd cc
last_one stages.Opened last = refl
last_one stages.Failed last = absurd cc
last_one stages.Closing last = absurd cc
last_one stages.Closed last = absurd cc
last_one stages.Naming last = absurd cc
last_one stages.WipeFailed last = absurd cc

-- ---- wipes

-- what a device call of a wipe answers
abbrev Answer : Type 0
Answer = Result (Option WipeProgress) LogError

abbrev Told : Answer → Answer → Type 0
Told a b = a ≡ b

pub none_made : (o : Option WipeProgress) (p : WipeProgress) → o ≡ Some p → Told (Ok o) (Ok None) → ⊥
none_made o p is told = absurd cc

module _ {M : Type 0} (device : Ghosts M) (old new : LogView M) (o : Option WipeProgress) (p : WipeProgress) (made : o ≡ Some p) where
  by_current : WipesCurrent device old new (Ok o) → WipesOn device old p new
  by_current w = inl (subst (λ (x : Option WipeProgress). WipesCurrent device old new (Ok x)) made w)

  by_other : (r : Option (RegionView M)) → old.other ≡ r
      → ((r : RegionView M) → old.other ≡ Some r → WipesOther device r old new (Ok o))
      → ((old.clean ≡ true) ⊎ (old.other ≡ None) → Told (Ok o) (Ok None))
      → WipesOn device old p new
  by_other None is other nothing = absurd (none_made o p made (nothing (inr is)))
  by_other (Some r) is other nothing = inr (r, is, subst (λ (x : Option WipeProgress). WipesOther device r old new (Ok x)) made (other r is))

  by_clean : (clean : Bool) → old.clean ≡ clean
      → (old.clean ≡ false → (r : RegionView M) → old.other ≡ Some r → WipesOther device r old new (Ok o))
      → ((old.clean ≡ true) ⊎ (old.other ≡ None) → Told (Ok o) (Ok None))
      → WipesOn device old p new
  by_clean true is other nothing = absurd (none_made o p made (nothing (inl is)))
  by_clean false is other nothing = by_other old.other refl (other is) nothing

  by_ready : (ready : Bool) → old.ready ≡ ready
      → (old.ready ≡ false → WipesCurrent device old new (Ok o))
      → (old.ready ≡ true → old.clean ≡ false → (r : RegionView M) → old.other ≡ Some r → WipesOther device r old new (Ok o))
      → (old.ready ≡ true → (old.clean ≡ true) ⊎ (old.other ≡ None) → Told (Ok o) (Ok None))
      → WipesOn device old p new
  by_ready true is current other nothing = by_clean old.clean refl (other is) (nothing is)
  by_ready false is current other nothing = by_current (current is)

  -- a device call of a wipe was made of one region or of the other
  pub wipes_on :
      (old.ready ≡ false → WipesCurrent device old new (Ok o))
      → (old.ready ≡ true → old.clean ≡ false → (r : RegionView M) → old.other ≡ Some r → WipesOther device r old new (Ok o))
      → (old.ready ≡ true → (old.clean ≡ true) ⊎ (old.other ≡ None) → Told (Ok o) (Ok None))
      → WipesOn device old p new
  wipes_on = by_ready old.ready refl

-- and it was one
module _ {M : Type 0} (device : Ghosts M) where
  by_answer : (p : WipeProgress) (a : Result WipeProgress LogError) (P : Type 0) → Ok (Some p) ≡ wipe_answer a → OnOk a P → P
  by_answer p (Ok q) P told has = has
  by_answer p (Err e) P told has = absurd cc

  pub wipe_counts : (old new : LogView M) (p : WipeProgress) → WipesOn device old p new → clock_of device new ≡ clock_of device old + 1
  wipe_counts old new p (inl w) =
      let one = by_answer p w.answer (device.moment new.current.media ≡ device.moment old.current.media + 1) w.is_told w.call.moved.one_call in
      let same = ap (λ (v : LogView M). other_clock device v.other) w.rest in
      omega (arith, one, same)
  wipe_counts old new p (inr (r, here, w)) =
      let one = by_answer p w.answer (device.moment w.beside.media ≡ device.moment r.media + 1) w.is_told w.call.moved.one_call in
      let after = ap (λ (v : LogView M). other_clock device v.other) w.rest in
      let before = ap (λ (o : Option (RegionView M)). other_clock device o) here in
      let same = ap (λ (v : LogView M). device.moment v.current.media) w.rest in
      omega (arith, one, after, before, same)

-- ---- replies

ok_is_no_refusal : (reply : Reply) (why : Denied) (r : Result Reply Denied) → r ≡ Ok reply → IsErrOf r why → ⊥
ok_is_no_refusal reply why r is err = absurd cc

abbrev why_in : Denied → Result Reply Denied → Denied
why_in other (Ok reply) = other
why_in other (Err why) = why

same_why : (why other : Denied) (r : Result Reply Denied) → r ≡ Err why → IsErrOf r other → why ≡ other
same_why why other r is err = ap (why_in other) (sym is ∙ err)

module _ {M : Type 0} (device : Ghosts M) (call : Call) (v : ClientView M) (waited : WaitedView) where
  -- turns are left
  pub answers : (reply : Reply) → waited.count < waited.turns → IsAnswered device call reply v → IsReplied device call v waited reply
  answers reply left is = (Ok reply, refl, (λ err. absurd (ok_is_no_refusal reply denied.Turns (Ok reply) refl err), λ over. absurd (omega (arith, left, over))), is)

  pub denies : (why : Denied) → why ≢ denied.Turns → waited.count < waited.turns → HasUnmetNeed device call why v → IsReplied device call v waited (replies.Failed (errno_of why))
  denies why other left unmet = (Err why, refl, (λ err. absurd (other (same_why why denied.Turns (Err why) refl err)), λ over. absurd (omega (arith, left, over))), inr unmet)

  -- none is
  pub gives_up : waited.count ≡ waited.turns → IsReplied device call v waited (replies.Failed (errno_of denied.Turns))
  gives_up over = (Err denied.Turns, refl, (λ _. over, λ _. refl), inl refl)

pub replied_as : {M : Type 0} (device : Ghosts M) (call : Call) (v v0 : ClientView M) (w w0 : WaitedView) (r r0 : Reply) → v ≡ v0 → w ≡ w0 → r ≡ r0 → IsReplied device call v0 w0 r0 → IsReplied device call v w r
replied_as {M} device call v v0 w w0 r r0 ve we re is =
    subst (λ (x : ClientView M). IsReplied device call x w r) (sym ve)
    (subst (λ (x : WaitedView). IsReplied device call v0 x r) (sym we)
    (subst (λ (x : Reply). IsReplied device call v0 w0 x) (sym re) is))

-- a call is answered whose record was begun as it was started, and then finished
pub finished_answers : {M : Type 0} (device : Ghosts M) (call : Call) (old begun new : ClientView M) (o : Option Reply) → IsStarted device call old now.Pending begun → IfSome o (λ reply. IsFinished device begun reply new) → IfSome o (λ reply. IsAnswered device call reply new)
finished_answers device call old begun new None started finished = tt
finished_answers device call old begun new (Some reply) started finished = (old, inr (begun, started, finished))
