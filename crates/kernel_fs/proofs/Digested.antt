-- A sealed region is accepted, and a chunk of it digested: graph, marks and accounts go together.
use Rattle.std.proofs.Common.{◌≡◌, ◌≢◌, inl, inr, ℕ, ◌+◌, ◌-◌, ◌≤◌, List, length, take, drop, Bool, true, cond, Option, Some, ap, sym, ◌∙◌, arith}
use Rattle.std.proofs.lemmas.Bool.Decides.{eqb_tells}
use Rattle.std.proofs.lemmas.List.{length-drop, length-take-le, get_or-set_other}
use Rattle.tier_device.specs.declared.media.Media.{Ghosts}
use Rattle.world_invariant.specs.file_graph.Graph.{Graph, is_among}
use Rattle.migrator.specs.layout.declared.marks.Mark.{Mark}
use Rattle.migrator.specs.layout.declared.marks.Marks.{Marks}
use Rattle.world_invariant.specs.log_record.declared.format.Record.{Record}
use Rattle.migrator.specs.batch_journal.View.{JournalView}
use Rattle.migrator.specs.area_reader.Store.{disk, graph, marks}
use Rattle.digester.specs.DigestStep.{IsDigested}
use Rattle.digester.specs.MarkMoves.{mark_after, marks_after}
use Rattle.digester.specs.update_log.RecordCounts.{next_generation}
use Rattle.digester.specs.SealedLog.{SealedView, HasUndigested, IsSealed, StandsAt, StandsAtMark, done_to, undone, mark_then}
use Rattle.world_invariant.specs.Logs.{after_records}
use Rattle.world_invariant.specs.Machine.{Machine, Sealed, CanAccept, accept, digest}
use Rattle.world_invariant.proofs.Owners.{is_low}
use Rattle.kernel_fs.specs.Book.{Accounts, IsBookOf, waiting_of}
use Rattle.kernel_fs.specs.Marks.{AreMarksAfter}
use Rattle.kernel_fs.proofs.MarksGo.{accepted_marks, digested_marks}
use Rattle.kernel_fs.specs.RegionAccept.{HasAsManyWaiting, IsRegionOf}
use Rattle.kernel_fs.specs.MachineState.{done_in, StandFor}
use Rattle.kernel_fs.proofs.SealedRecords.{effects_are}

pub some_is : (o : Option Marks) (v w : Marks) → o ≡ Some v → o ≡ Some w → v ≡ w
some_is o v w one two = cc

-- ---- the mark that a log names

-- with so many records digested, and others not
module _ (g done total : ℕ) where
  abbrev moved_mark : Bool → Mark
  moved_mark b = cond b (record { generation = next_generation g; done = 0 }) (record { generation = g; done = done })

  part_done : done ≢ total → (mark_after g done total).done ≡ done
  part_done part = elim (eqb_tells done total) [
    | inl all ↦ absurd (part all.1)
    | inr other ↦ ap (λ (b : Bool). (moved_mark b).done) other.0
  ]

  all_done : done ≡ total → (mark_after g done total).done ≡ 0
  all_done all = elim (eqb_tells done total) [
    | inl same ↦ ap (λ (b : Bool). (moved_mark b).done) same.0
    | inr other ↦ absurd (other.1 all)
  ]

module _ (x : SealedView) (sealed : IsSealed x) (some : HasUndigested x) where
  pub done_is : (v : Marks) → StandsAt x v → done_in v x.client ≡ x.done
  done_is v stood =
      ap (λ (k : Mark). k.done) stood ∙ part_done x.generation x.done (length x.records) (λ e. omega (arith, e, some))

  -- ---- an accepted region

  module _ {M : Type 0} (device : Ghosts M) (area : JournalView M) (book : Accounts) (m : Machine) (is : StandFor device area book m) where
    -- all that were accepted before are digested
    module _ (none : waiting_of book x.client ≡ 0) (at : StandsAtMark x (disk device area)) where
      all_digested : m.accepted x.client ≡ (m.kernel.accounts x.client).mark
      all_digested = let waits = (is.book x.client sealed.client).waiting in omega (arith, waits, none)

      -- so none of the region is
      pub none_done : x.done ≡ 0
      none_done =
          let same : at.0 ≡ is.marks.0 = some_is (marks (disk device area)) at.0 is.marks.0 at.1 is.marks.1 in
          sym (done_is at.0 at.2) ∙ ap (λ (v : Marks). done_in v x.client) same ∙ (is.marks.2 x.client sealed.client).between all_digested

      pub whole : (s : Sealed) → s.records ≡ x.records → length s.records ≡ length (undone x)
      whole s records = ap length records ∙ sym (ap (λ (k : ℕ). length (drop k x.records)) none_done)

      -- so the machine may accept it, and has it as that region
      module _ (s : Sealed) (past : m.accepted x.client ≡ s.past) (records : s.records ≡ x.records) where
        pub may_accept : CanAccept m x.client s
        may_accept =
            record {
              client = sealed.client;
              some = λ empty. (let long : length x.records ≡ 0 = ap length (sym records ∙ empty) in omega (arith, long, some));
              before = sym all_digested ∙ past;
              first = past;
            }

        pub its_region : ((i : ℕ) → s.writes i ≡ true → is_among i x.held ≡ true) → IsRegionOf x (m.kernel.accounts x.client).mark s
        its_region writes =
            let all : m.accepted x.client ≡ (m.kernel.accounts x.client).mark = all_digested in
            let long : length s.records ≡ length (undone x) = whole s records in
            let none_yet : x.done ≡ 0 = none_done in
            record {
              records = records;
              writes = writes;
              waits = record { behind = omega (arith, all, past, long); many = omega (arith, long, none_yet) };
            }

      pub accepted_kernel : (next : Accounts) (s : Sealed) → m.accepted x.client ≡ s.past → s.records ≡ x.records → IsBookOf next (accept m x.client s) → StandFor device area next (accept m x.client s)
      accepted_kernel next s past records next_is =
          let all : m.accepted x.client ≡ (m.kernel.accounts x.client).mark = all_digested in
          record {
            shared = is.shared;
            capacity = is.capacity;
            book = next_is;
            marks = (
              is.marks.0,
              is.marks.1,
              accepted_marks (done_in is.marks.0) m x.client s is.marks.2 (omega (arith, all, past))
                  (λ empty. let long : length x.records ≡ 0 = ap length (sym records ∙ empty) in omega (arith, long, some)),
            );
          }

-- ---- a digested chunk

module _ (x : SealedView) (sealed : IsSealed x) (some : HasUndigested x) {M : Type 0} (device : Ghosts M) (old new : JournalView M) (book next : Accounts) (m : Machine) (n : ℕ)
    (is : StandFor device old book m) (accepted : HasAsManyWaiting book x)
    (done : IsDigested old.geometry (disk device old) x n (disk device new)) (at : StandsAtMark (done_to (x.done + n) x) (disk device new)) (same : new.geometry ≡ old.geometry) where
  abbrev rs : List Record
  rs = take n (undone x)

  many : length rs ≡ n
  many = length-take-le n (undone x) done.run.within

  undone_long : length (undone x) ≡ length x.records - x.done
  undone_long = length-drop x.done x.records

  before_is : done.before ≡ is.marks.0
  before_is = some_is (marks (disk device old)) done.before is.marks.0 done.old_marks is.marks.1

  moved : AreMarksAfter (done_in is.marks.0) (done_in at.0) x.client (length (undone x)) rs
  moved = record {
    others = λ d is_d off.
        let low : 1 ≤ d = is_low d is_d in
        let own : 1 ≤ x.client = is_low x.client sealed.client in
        ap (λ (v : Marks). done_in v d) (some_is (marks (disk device new)) at.0 (marks_after done.before x.client (mark_then x n)) at.1 done.applied.new_marks)
        ∙ ap (λ (k : Mark). k.done) (get_or-set_other done.before.clients (x.client - 1) (d - 1) (mark_then x n) (record { generation = 0; done = 0 }) (λ e. off (omega (arith, e, low, own))))
        ∙ ap (λ (v : Marks). done_in v d) before_is;
    some = λ part.
        let long = undone_long in
        let count = many in
        ap (λ (k : Mark). k.done) at.2
        ∙ part_done x.generation (x.done + n) (length x.records) (λ e. part (omega (arith, e, long, count, some)))
        ∙ ap (λ (k : ℕ). x.done + k) (sym count)
        ∙ ap (λ (k : ℕ). k + length rs) (sym (done_is x sealed some done.before done.stood) ∙ ap (λ (v : Marks). done_in v x.client) before_is);
    all = λ all.
        let long = undone_long in
        let count = many in
        ap (λ (k : Mark). k.done) at.2
        ∙ all_done x.generation (x.done + n) (length x.records) (omega (arith, all, long, count, some));
  }

  pub digested_kernel : IsBookOf next (digest m x.client rs) → StandFor device new next (digest m x.client rs)
  digested_kernel next_is =
      let waits = (is.book x.client (sealed.client)).waiting in
      let all : m.accepted x.client ≡ (m.kernel.accounts x.client).mark + length (undone x) = waits ∙ ap (λ (k : ℕ). (m.kernel.accounts x.client).mark + k) accepted in
      let count = many in
      let within = done.run.within in
      record {
        shared =
            ap (λ (g : Graph). after_records g rs) is.shared
            ∙ sym (effects_are rs (graph old.geometry (disk device old)))
            ∙ sym done.graph_after
            ∙ ap (λ g. graph g (disk device new)) (sym same);
        capacity = is.capacity ∙ ap (λ g. g.units) (sym same);
        book = next_is;
        marks = (at.0, at.1, digested_marks (done_in is.marks.0) (done_in at.0) m x.client (length (undone x)) rs is.marks.2 (sealed.client) all (omega (arith, count, within)) moved);
      }

-- the records that were digested, as they are lent
pub lent : (x y : SealedView) (n : ℕ) (rs : List Record) (first end : ℕ) → y ≡ done_to (x.done + n) x → rs ≡ y.records → first ≡ x.done → end ≡ y.done → take (end - first) (drop first rs) ≡ take n (undone x)
lent x y n rs first end same all from to =
    let done : y.done ≡ x.done + n = ap (λ (z : SealedView). z.done) same in
    let many : end - first ≡ n = omega (arith, done, from, to) in
    ap (λ (k : ℕ). take k (drop first rs)) many ∙ ap (λ (k : ℕ). take n (drop k rs)) from ∙ ap (λ (r : List Record). take n (drop x.done r)) (all ∙ ap (λ (z : SealedView). z.records) same)
