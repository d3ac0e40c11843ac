-- What calls of a client leave of its regions.
use Rattle.std.proofs.Common.{◌≡◌, ◌⊎◌, inl, inr, ℕ, ◌<◌, ◌+◌, length, Bool, true, false, List, Option, Some, None, refl, ap, sym, ◌∙◌, subst}
use Rattle.std.specs.Prelude.{is_some, IfSome}
use Rattle.std.proofs.lemmas.Bool.{false≢true}
use Rattle.atomic_table.specs.Seated.{TableId}
use Rattle.libfs.specs.log_record.declared.format.Record.{Record}
use Rattle.tier_device.specs.declared.media.Media.{Ghosts}
use Rattle.posix_calls.specs.declared.call.Call.{Call}
use Rattle.posix_calls.specs.declared.call.Reply.{Reply}
use Rattle.libfs.specs.update_log.declared.stage.Progress.{Progress}
use Rattle.libfs.specs.update_log.declared.stage.Progress.TheVariants.{Going, Appended}
use Rattle.libfs.specs.client_plan.declared.outcome.Outcome.{Outcome}
use Rattle.libfs.specs.client_plan.declared.outcome.Outcome.TheVariants as plans
use Rattle.libfs.specs.lease_manager.Passes.{PassView, client_of}
use Rattle.libfs.specs.client_log.View.{LogView}
use Rattle.posix_calls.specs.declared.call.Reply.TheVariants as replies
use Rattle.posix_calls.specs.declared.errno.Errno.TheVariants.{IoError}
use Rattle.libfs.specs.ClientHoldings.{outcome_for}
use Rattle.libfs.specs.declared.now.Now.TheVariants as now
use Rattle.libfs.specs.ClientEnd.{IsEmptied}
use Rattle.libfs.specs.CallStart.{HasStarted, IsOutOfMemory}
use Rattle.libfs.specs.CallStep.{HasFailed, HasReplied, IsGoing}
use Rattle.libfs.specs.View.{ClientView}
use Rattle.libfs.specs.declared.begun_record.Begun.{Begun}
use Rattle.libfs.specs.declared.now.Now.{Now}
use Rattle.event_steps.specs.Sound.{IsSeated, owner_of}
use Rattle.libfs.specs.SealedRegion.{SealedRegionView}

-- Whose pass it is, where the other region is, the generation, and the records of the region that is away stay.
pub record Keeps {M : Type 0} (old new : ClientView M) : Type 0 where
  pub owner : owner_of new ≡ owner_of old
  pub other : new.log.other ≡ old.log.other
  pub generation : new.log.generation ≡ old.log.generation
  pub sealed : new.sealed ≡ old.sealed

module _ {M : Type 0} where
  pub seated : (device : Ghosts M) (old new : ClientView M) (a : Option (SealedRegionView M)) → Keeps old new → IsSeated device old a → IsSeated device new a
  seated device old new None keeps is = ap is_some keeps.other ∙ is
  seated device old new (Some a) keeps is = record {
    client = is.client ∙ sym (ap (λ (o : ℕ × TableId). o.0) keeps.owner);
    gone = keeps.other ∙ is.gone;
    before = is.before ∙ sym keeps.generation;
    records = is.records ∙ sym keeps.sealed;
    some = subst (λ (rs : List Record). a.done < length rs) (sym keeps.sealed) is.some;
    none = is.none;
  }

  pub same_keeps : (old new : ClientView M) → new ≡ old → Keeps old new
  same_keeps old new is = record {
    owner = ap (λ (v : ClientView M). owner_of v) is;
    other = ap (λ (v : ClientView M). v.log.other) is;
    generation = ap (λ (v : ClientView M). v.log.generation) is;
    sealed = ap (λ (v : ClientView M). v.sealed) is;
  }

  pub started_keeps : (device : Ghosts M) (old : ClientView M) (o : Outcome) (answer : Now) (new : ClientView M) → HasStarted device old o answer new → Keeps old new
  started_keeps device old (plans.Reply reply change) answer new is = record {
    owner = ap (λ (v : ClientView M). owner_of v) is.1.rest;
    other = ap (λ (v : ClientView M). v.log.other) is.1.rest;
    generation = ap (λ (v : ClientView M). v.log.generation) is.1.rest;
    sealed = ap (λ (v : ClientView M). v.sealed) is.1.rest;
  }
  started_keeps device old (plans.Need need) answer new is = same_keeps old new is.1
  started_keeps device old (plans.Log entry reply made change) answer new is = record {
    owner = ap (λ (p : PassView). (client_of p, p.table)) is.1.noted.rest;
    other = ap (λ (l : LogView M). l.other) is.1.log;
    generation = ap (λ (l : LogView M). l.generation) is.1.log;
    sealed = ap (λ (v : ClientView M). v.sealed) is.1.rest;
  }

  -- the regions of a log of which only the current one may have changed, and all else of a client
  of_log : (old new : ClientView M) → new.log ≡ record old.log { current = new.log.current; failed = new.log.failed } → owner_of new ≡ owner_of old → new.sealed ≡ old.sealed → Keeps old new
  of_log old new log owner sealed = record {
    owner = owner;
    other = ap (λ (l : LogView M). l.other) log;
    generation = ap (λ (l : LogView M). l.generation) log;
    sealed = sealed;
  }

  pub stepped_keeps : (device : Ghosts M) (old : ClientView M) (answer : Option Reply) (new : ClientView M) (failed : Bool) (p : Progress) (begun : Option Begun)
      → is_some begun ≡ true
      → (failed ≡ false → p ≡ Going → IsGoing device old answer new)
      → (failed ≡ false → p ≡ Appended → IfSome begun (λ b. HasReplied device old b answer new))
      → (failed ≡ true → HasFailed device old answer new)
      → new.log ≡ record old.log { current = new.log.current; failed = new.log.failed }
      → Keeps old new
  stepped_keeps device old answer new true p begun some going replied fails log =
      let is = fails refl in of_log old new log (ap (λ (v : ClientView M). owner_of v) is.rest) (ap (λ (v : ClientView M). v.sealed) is.rest)
  stepped_keeps device old answer new false Going begun some going replied fails log =
      let is = going refl refl in of_log old new log (ap (λ (v : ClientView M). owner_of v) is.rest) (ap (λ (v : ClientView M). v.sealed) is.rest)
  stepped_keeps device old answer new false Appended None some going replied fails log = absurd (false≢true some)
  stepped_keeps device old answer new false Appended (Some b) some going replied fails log =
      let is = replied refl refl in of_log old new log (ap (λ (v : ClientView M). owner_of v) is.rest) (ap (λ (v : ClientView M). v.sealed) is.rest)

  pub start_keeps : (device : Ghosts M) (old : ClientView M) (call : Call) (answer : Now) (new : ClientView M)
      → (old.log.failed ≡ true → (answer ≡ now.Done (replies.Failed IoError)) × (new ≡ old))
      → (old.log.failed ≡ false → HasStarted device old (outcome_for device old call) answer new ⊎ IsOutOfMemory device old call answer new)
      → Keeps old new
  start_keeps device old call answer new fails starts = elim old.log.failed as (λ b. old.log.failed ≡ b → Keeps old new) [
    | true ↦ λ is. same_keeps old new (fails is).1
    | false ↦ λ is. elim (starts is) [
      | inl has ↦ started_keeps device old (outcome_for device old call) answer new has
      | inr out ↦ same_keeps old new out.same
    ]
  ] refl

  -- all leases are given, and all is forgotten
  pub emptied_keeps : (old new : ClientView M) → IsEmptied old new → Keeps old new
  emptied_keeps old new is = record {
    owner = λ t. (is.counts.place t + 1, is.counts.table t);
    other = ap (λ (v : ClientView M). v.log.other) is.rest;
    generation = ap (λ (v : ClientView M). v.log.generation) is.rest;
    sealed = ap (λ (v : ClientView M). v.sealed) is.rest;
  }

  -- a call is settled
  pub settled_keeps : (old new : ClientView M) → new.log ≡ record old.log { current = new.log.current; failed = new.log.failed } → new.pass ≡ record old.pass { records = new.pass.records } → new.sealed ≡ old.sealed → Keeps old new
  settled_keeps old new log leases sealed = of_log old new log (ap (λ (p : PassView). (client_of p, p.table)) leases) sealed
