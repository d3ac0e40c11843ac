-- The generations that the marks of the media name, beside those of a run.
use Rattle.std.proofs.Common.{◌≡◌, ◌≢◌, inl, inr, ℕ, ◌+◌, ◌-◌, ◌≤◌, List, length, take, Bool, true, cond, Option, ap, sym, ◌∙◌, arith}
use Rattle.std.proofs.lemmas.Bool.Decides.{eqb_tells}
use Rattle.std.proofs.lemmas.List.{length-drop, length-take-le, get_or-set_other}
use Rattle.tier_device.specs.declared.media.Media.{Ghosts}
use Rattle.posix_calls.specs.Operations.{is_client}
use Rattle.migrator.specs.layout.declared.marks.Mark.{Mark}
use Rattle.migrator.specs.layout.declared.marks.Marks.{Marks}
use Rattle.world_invariant.specs.log_record.declared.format.Record.{Record}
use Rattle.migrator.specs.batch_journal.View.{JournalView}
use Rattle.migrator.specs.area_reader.Store.{Store, disk, marks}
use Rattle.digester.specs.DigestStep.{IsDigested}
use Rattle.digester.specs.MarkMoves.{mark_after}
use Rattle.digester.specs.update_log.RecordCounts.{next_generation}
use Rattle.digester.specs.SealedLog.{SealedView, HasUndigested, IsSealed, StandsAtMark, done_to, mark_then, undone}
use Rattle.world_invariant.specs.Machine.{Machine}
use Rattle.world_invariant.specs.World.{at}
use Rattle.world_invariant.proofs.Kernels.{each}
use Rattle.world_invariant.proofs.Owners.{is_low}
use Rattle.kernel_fs.specs.Book.{Accounts}
use Rattle.kernel_fs.specs.RegionAccept.{HasAsManyWaiting}
use Rattle.kernel_fs.specs.Run.{generation_after}
use Rattle.kernel_fs.specs.MachineState.{HasGenerations, StandFor, generation_in, generation_of}

-- the same marks name the same generations
pub still_named : (old new : Store) (generations : ℕ → ℕ) → marks new ≡ marks old → HasGenerations old generations → HasGenerations new generations
still_named old new generations same named c client = named c client ∙ ap (λ (o : Option Marks). generation_of o c) (sym same)

-- ---- the mark that a log names

-- with so many records digested, and others not
module _ (g done total : ℕ) where
  abbrev moved_mark : Bool → Mark
  moved_mark b = cond b (record { generation = next_generation g; done = 0 }) (record { generation = g; done = done })

  part_generation : done ≢ total → (mark_after g done total).generation ≡ g
  part_generation part = elim (eqb_tells done total) [
    | inl all ↦ absurd (part all.1)
    | inr other ↦ ap (λ (b : Bool). (moved_mark b).generation) other.0
  ]

  all_generation : done ≡ total → (mark_after g done total).generation ≡ next_generation g
  all_generation all = elim (eqb_tells done total) [
    | inl same ↦ ap (λ (b : Bool). (moved_mark b).generation) same.0
    | inr other ↦ absurd (other.1 all)
  ]

-- a log that stands at its client's mark is of the generation that it names
pub own_generation : (x : SealedView) → HasUndigested x → (s : Store) → StandsAtMark x s → generation_in s x.client ≡ x.generation
own_generation x some s stands =
    ap (λ (o : Option Marks). generation_of o x.client) stands.1
    ∙ ap (λ (k : Mark). k.generation) stands.2
    ∙ part_generation x.generation x.done (length x.records) (λ e. omega (arith, e, some))

-- ---- a digested chunk

module _ (x : SealedView) (sealed : IsSealed x) (some : HasUndigested x) {M : Type 0} (device : Ghosts M) (old new : JournalView M) (book : Accounts) (m : Machine) (n : ℕ)
    (is : StandFor device old book m) (accepted : HasAsManyWaiting book x)
    (done : IsDigested old.geometry (disk device old) x n (disk device new)) (stands : StandsAtMark (done_to (x.done + n) x) (disk device new)) where
  abbrev rs : List Record
  rs = take n (undone x)

  -- the mark of its client names the generation that it has in the run
  own : generation_after m x.client x.generation rs ≡ generation_in (disk device new) x.client
  own =
      let count : length rs ≡ n = length-take-le n (undone x) done.run.within in
      let long : length (undone x) ≡ length x.records - x.done = length-drop x.done x.records in
      let waits = (is.book x.client sealed.client).waiting in
      let all : m.accepted x.client ≡ (m.kernel.accounts x.client).mark + length (undone x) = waits ∙ ap (λ (k : ℕ). (m.kernel.accounts x.client).mark + k) accepted in
      let named : generation_in (disk device new) x.client ≡ (mark_after x.generation (x.done + n) (length x.records)).generation =
      ap (λ (o : Option Marks). generation_of o x.client) stands.1 ∙ ap (λ (k : Mark). k.generation) stands.2 in
      elim (eqb_tells ((m.kernel.accounts x.client).mark + length rs) (m.accepted x.client)) [
        | inl last ↦
            let end : (m.kernel.accounts x.client).mark + length rs ≡ m.accepted x.client = last.1 in
            ap (λ (b : Bool). cond b (next_generation x.generation) x.generation) last.0
            ∙ sym (named ∙ all_generation x.generation (x.done + n) (length x.records) (omega (arith, count, long, all, end, some)))
        | inr part ↦
            ap (λ (b : Bool). cond b (next_generation x.generation) x.generation) part.0
            ∙ sym (named ∙ part_generation x.generation (x.done + n) (length x.records) (λ e. part.1 (omega (arith, e, count, long, all, some))))
      ]

  -- the marks of the others stay
  others : (d : ℕ) → is_client d ≡ true → d ≢ x.client → generation_in (disk device old) d ≡ generation_in (disk device new) d
  others d is_d off =
      let low : 1 ≤ d = is_low d is_d in
      let own_low : 1 ≤ x.client = is_low x.client sealed.client in
      ap (λ (o : Option Marks). generation_of o d) done.old_marks
      ∙ sym (ap (λ (o : Option Marks). generation_of o d) done.applied.new_marks
      ∙ ap (λ (k : Mark). k.generation) (get_or-set_other done.before.clients (x.client - 1) (d - 1) (mark_then x n) (record { generation = 0; done = 0 }) (λ e. off (omega (arith, e, low, own_low)))))

  pub named_after : (generations : ℕ → ℕ) → HasGenerations (disk device old) generations → HasGenerations (disk device new) (at generations x.client (generation_after m x.client x.generation rs))
  named_after generations named =
      each generations x.client (generation_after m x.client x.generation rs) (λ d (g : ℕ). is_client d ≡ true → g ≡ generation_in (disk device new) d) (λ client. own) (λ d off is_d. named d is_d ∙ others d is_d off)
