-- What the invariant says of records, leases and numbers of different clients.
use Rattle.std.proofs.Common.{◌≡◌, ◌≢◌, inl, inr, ℕ, ◌==◌, ◌||◌, Bool, true, false, List, refl, sym, subst}
use Rattle.std.proofs.lemmas.Bool.{false≢true, eqb-true}
use Rattle.posix_calls.specs.Operations.{is_client, makes}
use Rattle.posix_calls.specs.declared.call.Call.{Call}
use Rattle.posix_calls.specs.declared.operation.Operation.{Operation}
use Rattle.posix_calls.specs.declared.operation.Operation.TheVariants.{Tell, NewDir, NewFile, OpenFile, CloseFile, Write, Resize, RemoveDir, AddName, DropName, Move, Exchange}
use Rattle.posix_calls.specs.declared.operation.Replaced.TheVariants.{Nothing, OldFile, OldDir}
use Rattle.call_effects.specs.file_graph.declared.effect.Effect.{Effect}
use Rattle.call_effects.specs.log_record.declared.format.Record.{Record}
use Rattle.call_effects.specs.Effects.{effects_by, stored_at, recounted_file}
use Rattle.call_effects.specs.Knowledge.{IsPlanned}
use Rattle.call_effects.proofs.KnownSteps.{planned_answer}
use Rattle.world_invariant.specs.Logs.{is_written, is_made, LogsAreApart, Keeps}
use Rattle.world_invariant.specs.Limits.{IsWithin, AreWithin}
use Rattle.world_invariant.specs.World.{World, change_of, has_lease, log_of, all_of, whole_graph, held_descriptors}
use Rattle.world_invariant.specs.Invariant.{IsCoherent}
use Rattle.world_invariant.proofs.Records.{either, both, in_rest, still_false, front_written}
use Rattle.world_invariant.proofs.Owners.{IsOwner, owner_of, whole_at}
use Rattle.world_invariant.proofs.Along.{along_front}
use Rattle.world_invariant.proofs.Keeping.{through}

pub apart_less : (old new : ℕ → List Record) → ((d i : ℕ) → is_client d ≡ true → is_written i (new d) ≡ true → is_written i (old d) ≡ true) → LogsAreApart old → LogsAreApart new
apart_less old new less apart c d i is_c is_d other e = still_false (is_written i (old d)) (is_written i (new d)) (less d i is_d) (apart c d i is_c is_d other (less c i is_c e))

-- an operation makes a node of its new number alone
pub made_is_new : (names new i : ℕ) (operation : Operation) → is_made i (effects_by names new operation) ≡ true → (makes operation ≡ true) × (i ≡ new)
made_is_new names new i (NewDir at) e = (refl, sym (eqb-true new i (only (new == i) e)))
  where
    only : (b : Bool) → (b || false) ≡ true → b ≡ true
    only true e = refl
    only false e = e
made_is_new names new i (NewFile at number reads writes) e = (refl, sym (eqb-true new i (only (new == i) e)))
  where
    only : (b : Bool) → (b || false) ≡ true → b ≡ true
    only true e = refl
    only false e = e
made_is_new names new i (Tell answer) e = absurd (false≢true e)
made_is_new names new i (OpenFile x true number reads writes) e = absurd (false≢true e)
made_is_new names new i (OpenFile x false number reads writes) e = absurd (false≢true e)
made_is_new names new i (CloseFile x number) e = absurd (false≢true e)
made_is_new names new i (Write x at bytes) e = absurd (false≢true e)
made_is_new names new i (Resize x len) e = absurd (false≢true e)
made_is_new names new i (RemoveDir at x) e = absurd (false≢true e)
made_is_new names new i (AddName at x) e = absurd (false≢true e)
made_is_new names new i (DropName at x) e = absurd (false≢true e)
made_is_new names new i (Move from to x is_dir Nothing) e = absurd (false≢true e)
made_is_new names new i (Move from to x is_dir (OldFile j)) e = absurd (false≢true e)
made_is_new names new i (Move from to x is_dir (OldDir j)) e = absurd (false≢true e)
made_is_new names new i (Exchange first second x j) e = absurd (false≢true e)

module _ (w : World) (h : IsCoherent w) where
  -- what a client writes no other holds
  pub written_alone : (c d i : ℕ) → is_client c ≡ true → is_client d ≡ true → d ≢ c → is_written i (all_of w c) ≡ true → has_lease (w.clients d) i ≡ false
  written_alone c d i is_c is_d other e = h.beside c d is_c is_d other i ((h.stands c is_c).logged.leased i e)

  -- and what a client holds no other writes
  pub held_alone : (c d i : ℕ) → is_client c ≡ true → is_client d ≡ true → d ≢ c → has_lease (w.clients c) i ≡ true → is_written i (all_of w d) ≡ false
  held_alone c d i is_c is_d other has = elim (either (is_written i (all_of w d))) [
    | inl there ↦ both (has_lease (w.clients c) i) has (written_alone d c i is_d is_c (λ same. other (sym same)) there)
    | inr clean ↦ clean
  ]

  pub writing_holds : (c i : ℕ) → (w.clients c).writes i ≡ true → has_lease (w.clients c) i ≡ true
  writing_holds c i e = in_rest ((w.clients c).reads i) ((w.clients c).writes i) e

  pub apart_all : LogsAreApart (all_of w)
  apart_all c d i is_c is_d other e = held_alone c d i is_c is_d other (writing_holds c i ((h.stands c is_c).logged.leased i e))

  pub apart_logs : LogsAreApart (log_of w)
  apart_logs = apart_less (all_of w) (log_of w) (λ d i is_d e. front_written i (log_of w d) (change_of (w.clients d).begun) e) apart_all

  pub owned : (c i : ℕ) → is_client c ≡ true → has_lease (w.clients c) i ≡ true → IsOwner (log_of w) c i
  owned c i is_c has = record { client = is_c; others = λ d is_d other. still_false (is_written i (all_of w d)) (is_written i (log_of w d)) (λ e. front_written i (log_of w d) (change_of (w.clients d).begun) e) (held_alone c d i is_c is_d other has); own = λ j at d is_d other. apart_logs c d j is_c is_d other at }

  -- the whole is within the limits
  pub whole_within : AreWithin (whole_graph w)
  whole_within i =
      let o = owner_of (log_of w) i apart_logs in
      let s = h.stands o.0 o.1.client in
      let keep = along_front (Keeps IsWithin) (log_of w o.0) (change_of (w.clients o.0).begun) w.kernel.shared s.logged.limits in
      subst (IsWithin i) (sym (whole_at (log_of w) w.kernel.shared o.0 i o.1)) (through IsWithin (log_of w o.0) w.kernel.shared i keep (h.booked.limits i))

  -- what a planned call makes is a number that its client was granted
  pub makes_granted : (c : ℕ) → is_client c ≡ true → (call : Call) (new : ℕ) (operation : Operation) (es : List Effect) → IsPlanned (w.clients c).knows call new operation es → (i : ℕ) → is_made i es ≡ true → (makes operation ≡ true) × (i ≡ new)
  makes_granted c is_c call new operation es plan i e =
      let is = (planned_answer (w.clients c).knows (whole_graph w) (held_descriptors w) call new operation es h.sound (h.agrees c is_c) plan).1 in
      made_is_new (stored_at (whole_graph w) (recounted_file operation)) new i operation (subst (λ es. is_made i es ≡ true) (sym is) e)

  -- a number that a client was granted no other was
  pub granted_alone : (c d i : ℕ) → is_client c ≡ true → is_client d ≡ true → d ≢ c → (w.clients c).knows.granted i ≡ true → (w.clients d).knows.granted i ≡ false
  granted_alone c d i is_c is_d other e =
      still_false ((w.kernel.accounts d).numbers i) ((w.clients d).knows.granted i) (λ has. (h.stands d is_d).numbered.granted i has) (h.booked.alone c d i is_c is_d other ((h.stands c is_c).numbered.granted i e))
