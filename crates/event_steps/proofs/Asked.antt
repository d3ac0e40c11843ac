-- What was asked of the kernel, as a seat tells it.
use Rattle.std.proofs.Common.{◌≡◌, ◌≢◌, ◌⊎◌, inl, inr, Bool, true, false, Option, refl, ap, sym, ◌∙◌}
use Rattle.std.specs.Prelude.{Result, Ok, Err, OnOk, OnErr, IfErr, IsErrOf}
use Rattle.std.proofs.lemmas.Bool.{true≢false}
use Rattle.tier_device.specs.declared.media.Media.{Ghosts}
use Rattle.libfs.specs.kernel_fs.KernelView.{KernelView}
use Rattle.libfs.specs.View.{ClientView}
use Rattle.libfs.specs.declared.denial.Denied.{Denied}
use Rattle.libfs.specs.declared.life.Life.{Life}
use Rattle.libfs.specs.declared.denial.Denied.TheVariants as denied
use Rattle.event_steps.specs.KernelRequests.{HasAsked, IsBooked, IsStopped}
use Rattle.event_steps.specs.Effects.{Carries}
use Rattle.event_steps.specs.Outcomes.{noted_refusals, request_outcome}
use Rattle.libfs.specs.SealedRegion.{SealedRegionView}
use Rattle.event_steps.specs.declared.outcome.Outcome.{Outcome}
use Rattle.event_steps.specs.declared.outcome.Outcome.TheVariants as outcomes
use Rattle.event_steps.specs.declared.refusals.Refusals.{Refusals}
use Rattle.event_steps.proofs.Carried.{done}

asked_is_done : (answer : Result (Unit {0}) Denied) → request_outcome answer ≢ outcomes.Idle
asked_is_done (Ok x) is = absurd (cc)
asked_is_done (Err e) is = absurd (cc)

-- what holds of each refusal holds of this one
pub on_err : {P : Type 0} (answer : Result (Unit {0}) Denied) (e : Denied) → OnErr answer P → answer ≡ Err e → P
on_err (Ok x) e p is = absurd (cc)
on_err (Err why) e p is = p

pub carried : {Turn Made Same : Type 0} (answer : Result (Unit {0}) Denied) (o : Outcome) → o ≡ request_outcome answer → Turn → Made → Carries Turn Made Same o
carried answer o told turn made = done o (λ idle. asked_is_done answer (sym told ∙ idle)) turn made

module _ {M : Type 0} (device : Ghosts M) (k k' : KernelView M) (v v' : ClientView M) (away : Option (SealedRegionView M)) (life : Life) (r r' : Refusals) (answer : Result (Unit {0}) Denied) (o : Outcome) where
  pub asks : o ≡ request_outcome answer → r' ≡ noted_refusals answer r → HasAsked (record { client = v; away = away; refused = r; life = life }) answer o (record { client = v'; away = away; refused = r'; life = life })
  asks told note = record { told = told; rest = ap (λ (q : Refusals). record { client = v'; away = away; refused = q; life = life }) note }

  pub booked : o ≡ request_outcome answer → r' ≡ noted_refusals answer r → OnOk answer (k.area.failed ≡ false) → (IsErrOf answer denied.KernelFailed → k.area.failed ≡ true) → (k.area.failed ≡ true → IfErr answer IsStopped) → OnErr answer ((v' ≡ v) × (k' ≡ k)) → k'.area ≡ k.area → k'.opening ≡ k.opening
      → IsBooked k (record { client = v; away = away; refused = r; life = life }) answer o (record { client = v'; away = away; refused = r'; life = life }) k'
  booked told note going failed stopped refused area opening = record { asks = asks told note; going = going; failed = failed; stopped = stopped; refused = refused; area = area; opening = opening }

abbrev pub refused_for : Denied → Result (Unit {0}) Denied
refused_for why = Err why

-- what a kernel that has failed answers, where that alone is refused
pub only_failed : (answer : Result (Unit {0}) Denied) → IfErr answer (λ e. e ≡ denied.KernelFailed) → IfErr answer IsStopped
only_failed (Ok x) is = tt
only_failed (Err e) is = inl is

-- and where no units and no numbers are granted
pub refill_stopped : (failed : Bool) (answer : Result (Unit {0}) Denied) → IfErr answer (λ e. (e ≡ denied.Memory) ⊎ (e ≡ denied.KernelFailed) ⊎ (e ≡ denied.NoUnits) ⊎ (e ≡ denied.NoInode))
    → (IsErrOf answer denied.NoUnits → failed ≡ false) → (IsErrOf answer denied.NoInode → failed ≡ false) → failed ≡ true → IfErr answer IsStopped
refill_stopped failed (Ok x) only units inodes is = tt
refill_stopped failed (Err e) (inl memory) units inodes is = inr memory
refill_stopped failed (Err e) (inr (inl stopped)) units inodes is = inl stopped
refill_stopped failed (Err e) (inr (inr (inl none))) units inodes is = absurd (true≢false (sym is ∙ units (ap refused_for none)))
refill_stopped failed (Err e) (inr (inr (inr none))) units inodes is = absurd (true≢false (sym is ∙ inodes (ap refused_for none)))

-- ---- units that no kernel has

abbrev why_of : Result (Unit {0}) Denied → Denied
why_of (Ok x) = denied.Turns
why_of (Err e) = e

units_are_no_failure : denied.NoUnits ≡ denied.KernelFailed → ⊥
units_are_no_failure is = absurd (cc)

units_are_no_number : denied.NoUnits ≡ denied.NoInode → ⊥
units_are_no_number is = absurd (cc)

failure_is_no_number : denied.KernelFailed ≡ denied.NoInode → ⊥
failure_is_no_number is = absurd (cc)

pub none_by : (failed : Bool) (why : Denied) → (failed ≡ false → why ≡ denied.NoUnits) → refused_for why ≡ Err denied.KernelFailed → failed ≡ true
none_by true why going is = refl
none_by false why going is = absurd (units_are_no_failure (sym (going refl) ∙ ap why_of is))

pub no_number : (failed : Bool) (why : Denied) → (failed ≡ true → why ≡ denied.KernelFailed) → (failed ≡ false → why ≡ denied.NoUnits) → refused_for why ≡ Err denied.NoInode → ⊥
no_number true why fails going is = failure_is_no_number (sym (fails refl) ∙ ap why_of is)
no_number false why fails going is = units_are_no_number (sym (going refl) ∙ ap why_of is)

pub why_none : (failed : Bool) (why : Denied) → (failed ≡ true → why ≡ denied.KernelFailed) → (failed ≡ false → why ≡ denied.NoUnits) → (why ≡ denied.Memory) ⊎ (why ≡ denied.KernelFailed) ⊎ (why ≡ denied.NoUnits) ⊎ (why ≡ denied.NoInode)
why_none true why fails going = inr (inl (fails refl))
why_none false why fails going = inr (inr (inl (going refl)))
