-- Runs of the machine keep what holds of it, and digest what they accepted last.
use Rattle.std.proofs.Common.{◌≡◌, ◌⊎◌, inl, inr, ℕ, ◌+◌, ◌-◌, ◌≤◌, ◌||◌, ◌&&◌, not, List, [], ◌∷◌, length, Bool, cond, Some, refl, ap, sym, ◌∙◌, subst, arith}
use Rattle.std.proofs.lemmas.Bool.Decides.{eqb_tells}
use Rattle.posix_calls.proofs.Sums.{same_if, there_if}
use Rattle.world_invariant.specs.log_record.declared.format.Record.{Record}
use Rattle.digester.specs.update_log.RecordCounts.{next_generation}
use Rattle.world_invariant.specs.FormatWorld.{idle_account}
use Rattle.world_invariant.specs.LeaseSteps.{also, without}
use Rattle.world_invariant.specs.Machine.{Sealed, IsRunning, account_after}
use Rattle.world_invariant.specs.World.{Account, at}
use Rattle.world_invariant.proofs.Machines.{accepted_runs, digested_runs, pin_booked_runs, pin_unbooked_runs, buried_runs, reclaimed_runs}
use Rattle.kernel_fs.specs.Run.{Entry, Refill, GiveBack, Pin, Unpin, Bury, Accept, Digest, Reclaim, RunState, MayTake, StandsInMachine, LeadsBy, IsRun, generation_accepted_last, after_entry, generation_after}
use Rattle.kernel_fs.proofs.BookSteps.{same_mark}
use Rattle.kernel_fs.proofs.Machines.{grant_runs, take_back_runs}
use Rattle.kernel_fs.proofs.MarksGo.{none_in}

one_entry : (r : RunState) (e : Entry) → IsRunning r.machine → MayTake r e → StandsInMachine r.machine e → IsRunning (after_entry r e).machine
one_entry r (Refill c units numbers) runs may stands = grant_runs r.machine runs c may.0 units numbers may.1 may.2
one_entry r (GiveBack c units numbers) runs may stands = take_back_runs r.machine runs c may units numbers
one_entry r (Pin c i) runs may stands = pin_booked_runs r.machine runs c may i
one_entry r (Unpin c i) runs may stands = pin_unbooked_runs r.machine runs c may i
one_entry r (Bury c) runs may stands = buried_runs r.machine runs c may
one_entry r (Accept c g s) runs may stands = accepted_runs r.machine runs c may.0.client s may.0
one_entry r (Digest c g s first rest) runs may stands = digested_runs r.machine runs c s first rest stands may.0
one_entry r (Reclaim i) runs may stands = reclaimed_runs r.machine i runs may

pub run_holds : (first : RunState) (es : List Entry) (last : RunState) → IsRunning first.machine → LeadsBy (λ r e. MayTake r e × StandsInMachine r.machine e) first es last → IsRunning last.machine
run_holds first [] last runs leads = subst (λ (r : RunState). IsRunning r.machine) (sym leads) runs
run_holds first (e ∷ es) last runs leads = subst (λ (r : RunState). IsRunning r.machine) (sym leads.3) (one_entry leads.0 e (run_holds first es leads.0 runs leads.1) leads.2.0 leads.2.1)

pub run_is : (first : RunState) (es : List Entry) (last : RunState) → LeadsBy (λ r e. MayTake r e × StandsInMachine r.machine e) first es last → IsRun first es last
run_is first [] last leads = leads
run_is first (e ∷ es) last leads = (leads.0, run_is first es leads.0 leads.1, leads.2.0, leads.3)

-- ---- what was accepted last

-- no record of the client waits, or its mark names the generation that was accepted last
abbrev IsNamed : List Entry → RunState → ℕ → Type 0
IsNamed es r c = (r.machine.accepted c ≡ (r.machine.kernel.accounts c).mark) ⊎ (generation_accepted_last es c ≡ Some (r.generations c))

module _ (es : List Entry) (r : RunState) (named : (c : ℕ) → IsNamed es r c) where
  was_accepted : (c g : ℕ) (s : Sealed) (first rest : List Record) → MayTake r (Digest c g s first rest) → generation_accepted_last es c ≡ Some g
  was_accepted c g s first rest may = elim (named c) [
    | inl none ↦
        let few : (r.machine.kernel.accounts c).mark + length first ≤ r.machine.accepted c = may.0.accepted in
        absurd (may.0.some (none_in first (omega (arith, few, none))))
    | inr last ↦ last ∙ ap Some (sym may.1)
  ]

  -- where a client gets another account with the same mark
  booked : (c : ℕ) (a : Account) → a.mark ≡ (r.machine.kernel.accounts c).mark → (d : ℕ) → (r.machine.accepted d ≡ (at r.machine.kernel.accounts c a d).mark) ⊎ (generation_accepted_last es d ≡ Some (r.generations d))
  booked c a same d = elim (named d) [
    | inl none ↦ inl (none ∙ sym (same_mark r.machine.kernel.accounts c a same d))
    | inr last ↦ inr last
  ]

  accepted : (c g : ℕ) (s : Sealed) → MayTake r (Accept c g s) → (d : ℕ) → IsNamed (Accept c g s ∷ es) (after_entry r (Accept c g s)) d
  accepted c g s may d = elim (eqb_tells d c) [
    | inl same ↦ inr (ap (λ (b : Bool). cond b (Some g) (generation_accepted_last es d)) same.0 ∙ ap Some (may.1 ∙ ap r.generations (sym same.1)))
    | inr other ↦ elim (named d) [
      | inl none ↦ inl (ap (λ (b : Bool). cond b (s.past + length s.records) (r.machine.accepted d)) other.0 ∙ none)
      | inr last ↦ inr (ap (λ (b : Bool). cond b (Some g) (generation_accepted_last es d)) other.0 ∙ last)
    ]
  ]

  module _ (c g : ℕ) (s : Sealed) (first rest : List Record) (may : MayTake r (Digest c g s first rest)) where
    abbrev next : Account
    next = account_after (r.machine.kernel.accounts c) first

    abbrev generation : ℕ
    generation = generation_after r.machine c g first

    digested_own : IsNamed (Digest c g s first rest ∷ es) (after_entry r (Digest c g s first rest)) c
    digested_own =
        let moved : (at r.machine.kernel.accounts c next c).mark ≡ (r.machine.kernel.accounts c).mark + length first = ap (λ (a : Account). a.mark) (there_if c next (r.machine.kernel.accounts c)) in
        let to : at r.generations c generation c ≡ generation = there_if c generation (r.generations c) in
        elim (eqb_tells ((r.machine.kernel.accounts c).mark + length first) (r.machine.accepted c)) [
          | inl all ↦ inl (sym (moved ∙ all.1))
          | inr part ↦ inr (was_accepted c g s first rest may ∙ ap Some (sym (to ∙ ap (λ (b : Bool). cond b (next_generation g) g) part.0)))
        ]

    digested : (d : ℕ) → IsNamed (Digest c g s first rest ∷ es) (after_entry r (Digest c g s first rest)) d
    digested d = elim (eqb_tells d c) [
      | inl same ↦ subst (λ (k : ℕ). IsNamed (Digest c g s first rest ∷ es) (after_entry r (Digest c g s first rest)) k) (sym same.1) digested_own
      | inr other ↦ elim (named d) [
        | inl none ↦ inl (none ∙ sym (ap (λ (a : Account). a.mark) (same_if d c next (r.machine.kernel.accounts d) other.1)))
        | inr last ↦ inr (last ∙ ap Some (sym (same_if d c generation (r.generations d) other.1)))
      ]
    ]

  one_more : (e : Entry) → MayTake r e → (d : ℕ) → IsNamed (e ∷ es) (after_entry r e) d
  one_more (Refill c units numbers) may = booked c (record (r.machine.kernel.accounts c) { units = (r.machine.kernel.accounts c).units + units; numbers = λ i. (r.machine.kernel.accounts c).numbers i || numbers i }) refl
  one_more (GiveBack c units numbers) may = booked c (record (r.machine.kernel.accounts c) { units = (r.machine.kernel.accounts c).units - units; numbers = λ i. (r.machine.kernel.accounts c).numbers i && not (numbers i) }) refl
  one_more (Pin c i) may = booked c (record (r.machine.kernel.accounts c) { pins = also (r.machine.kernel.accounts c).pins i }) refl
  one_more (Unpin c i) may = booked c (record (r.machine.kernel.accounts c) { pins = without (r.machine.kernel.accounts c).pins i }) refl
  one_more (Bury c) may = booked c (idle_account (r.machine.kernel.accounts c).mark) refl
  one_more (Accept c g s) may = accepted c g s may
  one_more (Digest c g s first rest) may = digested c g s first rest may
  one_more (Reclaim i) may = named

run_named : (first : RunState) (es : List Entry) (last : RunState) → ((d : ℕ) → first.machine.accepted d ≡ (first.machine.kernel.accounts d).mark) → IsRun first es last → (d : ℕ) → IsNamed es last d
run_named first [] last none run = subst (λ (r : RunState). (d : ℕ) → IsNamed [] r d) (sym run) (λ d. inl (none d))
run_named first (e ∷ es) last none run = subst (λ (r : RunState). (d : ℕ) → IsNamed (e ∷ es) r d) (sym run.3) (one_more es run.0 (run_named first es run.0 none run.1) e run.2)

pub run_accepted : (first last : RunState) (es : List Entry) (c g : ℕ) (s : Sealed) (digested rest : List Record) → ((d : ℕ) → first.machine.accepted d ≡ (first.machine.kernel.accounts d).mark) → IsRun first (Digest c g s digested rest ∷ es) last
    → generation_accepted_last es c ≡ Some g
run_accepted first last es c g s digested rest none run = was_accepted es run.0 (run_named first es run.0 none run.1) c g s digested rest run.2
