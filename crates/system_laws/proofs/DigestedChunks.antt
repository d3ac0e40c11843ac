-- A chunk of a region that is away is digested, or may be: the world, its marks, and what a stop leaves of the shared medium.
use Rattle.std.proofs.Common.{◌≡◌, inl, inr, ℕ, ◌+◌, ◌-◌, ◌<◌, ◌≤◌, cond, Bool, true, false, List, [], ◌∷◌, ◌++◌, drop, take, length, Option, Some, refl, ap, sym, ◌∙◌, subst, arith}
use Rattle.std.proofs.lemmas.Bool.Decides.{eqb_tells}
use Rattle.std.proofs.lemmas.List.{length-drop, length-take-le, take-append-drop}
use Rattle.tier_device.specs.declared.media.Media.{Ghosts}
use Rattle.posix_calls.specs.Operations.{is_client}
use Rattle.posix_calls.specs.declared.call.Call.{Call}
use Rattle.event_steps.specs.area_reader.Store.{Store, disk, graph, marks, store_of}
use Rattle.event_steps.specs.batch_journal.Volume.{IsVolume}
use Rattle.event_steps.specs.coalescer.Records.{effects_in}
use Rattle.event_steps.specs.coalescer.Weight.{IsLongestRun}
use Rattle.event_steps.specs.kernel_fs.Book.{waiting_of}
use Rattle.event_steps.specs.kernel_fs.KernelView.{KernelView}
use Rattle.event_steps.specs.kernel_fs.RegionAccept.{HasAsManyWaiting}
use Rattle.event_steps.specs.digester.DigestStep.{IsDigested, OpensDigestedOrNot, StaysOrDigests}
use Rattle.event_steps.specs.digester.MarkMoves.{mark_after, mark_of, marks_after}
use Rattle.event_steps.specs.digester.SealedLog.{SealedView, StandsAtMark, mark_then, undone}
use Rattle.event_steps.specs.layout.declared.marks.Mark.{Mark}
use Rattle.event_steps.specs.layout.declared.marks.Marks.{Marks}
use Rattle.event_steps.specs.layout.Marks.{marks_of}
use Rattle.event_steps.specs.layout.Places.{Sizes}
use Rattle.event_steps.specs.file_graph.Graph.{Graph, after_effect, after_effects}
use Rattle.event_steps.specs.file_graph.declared.effect.Effect.{Effect}
use Rattle.event_steps.specs.log_record.declared.format.Record.{Record}
use Rattle.event_steps.specs.update_log.RecordCounts.{next_generation}
use Rattle.event_steps.specs.libfs.SealedRegion.{SealedRegionView, log_of}
use Rattle.event_steps.specs.world_invariant.KernelSteps.{CanDigest}
use Rattle.event_steps.specs.world_invariant.Logs.{after_records}
use Rattle.event_steps.specs.world_invariant.World.{Client, World}
use Rattle.event_steps.specs.Sound.{IsAwayFrom, number_of}
use Rattle.event_steps.specs.View.{SeatView}
use Rattle.event_lists.specs.Courses.{Content}
use Rattle.system_laws.specs.Relation.{Cut, IsClientOf, SpellsAfter, SpellsShared, StandsMarked, marks_digested}
use Rattle.system_laws.specs.Relation as cuts
use Rattle.recovery_laws.specs.Contents.{mark_by}
use Rattle.system_laws.proofs.AwayRegions.{with_away}
use Rattle.system_laws.proofs.ClientMoves.{StandsFor}
use Rattle.system_laws.proofs.KernelMoves.{SpellsOrAfter}
use Rattle.system_laws.proofs.StopMarks.{mark_moved}
use Rattle.system_laws.proofs.SharedStays.{StaysFrom, spells_as, stays_as_well}

-- ---- effects and records

after_both : (g : Graph) (es fs : List Effect) → after_effects g (es ++ fs) ≡ after_effects (after_effects g es) fs
after_both g [] fs = refl
after_both g (e ∷ es) fs = after_both (after_effect g e) es fs

-- what the effects of records make of a graph the records make of it
pub effects_are : (rs : List Record) (g : Graph) → after_effects g (effects_in rs) ≡ after_records g rs
effects_are [] g = refl
effects_are (r ∷ rs) g = after_both g r.effects (effects_in rs) ∙ effects_are rs (after_effects g r.effects)

-- ---- marks

same_marks : (a b : Marks) → Some a ≡ Some b → a ≡ b
same_marks a b is = cc

pub not_all : (g done total : ℕ) → done < total → mark_after g done total ≡ record { generation = g; done = done }
not_all g done total low = elim (eqb_tells done total) [
  | inl all ↦ absurd (let is = all.1 in omega (arith, is, low))
  | inr part ↦ ap (λ (t : Bool). cond t (record { generation = next_generation g; done = 0 }) (record { generation = g; done = done })) part.0
]

pub all_done : (g done total : ℕ) → done ≡ total → mark_after g done total ≡ record { generation = next_generation g; done = 0 }
all_done g done total is = elim (eqb_tells done total) [
  | inl all ↦ ap (λ (t : Bool). cond t (record { generation = next_generation g; done = 0 }) (record { generation = g; done = done })) all.0
  | inr part ↦ absurd (part.1 is)
]

-- a region that is away stands at its client's mark
pub stands_at_mark : {M : Type 0} (device : Ghosts M) (s : SeatView M) (b : SealedRegionView M) (k : KernelView M) (c : ℕ) (w : World) (accepted : ℕ → ℕ) (shared_marks : Marks) (cut : Cut) (call : Option Call) → IsAwayFrom device s.client b → number_of s ≡ c
    → StandsFor device k w accepted shared_marks cut → IsClientOf device s call (w.clients c) → StandsMarked (mark_by (Some shared_marks) c) (with_away s b) (w.kernel.accounts c) (accepted c) (w.clients c) → k.area.failed ≡ false → StandsAtMark (log_of device b) (disk device k.area)
stands_at_mark device s b k c w accepted shared_marks cut call seat number stands own marked going =
    let long : length (w.clients c).sealed ≡ length (log_of device b).records = ap (λ (rs : List Record). length rs) (own.sealed ∙ sym seat.records) in
    let low : b.done < length (w.clients c).sealed = subst (λ (rs : List Record). b.done < length rs) (sym own.sealed) seat.some in
    (shared_marks, (stands.going going).1, ap (mark_of shared_marks) (seat.client ∙ number) ∙ marked.mark ∙ sym (ap (mark_after b.generation b.done) (sym long) ∙ not_all b.generation b.done (length (w.clients c).sealed) low))

module _ {M : Type 0} (device : Ghosts M) (s : SeatView M) (b : SealedRegionView M) (k : KernelView M) (c : ℕ) (w : World) (accepted : ℕ → ℕ) (shared_marks : Marks) (cut : Cut) (call : Option Call) (is_c : is_client c ≡ true) (seat : IsAwayFrom device s.client b) (number : number_of s ≡ c)
    (stands : StandsFor device k w accepted shared_marks cut) (own : IsClientOf device s call (w.clients c)) (marked : StandsMarked (mark_by (Some shared_marks) c) (with_away s b) (w.kernel.accounts c) (accepted c) (w.clients c)) (is_accepted : b.accepted ≡ true)
    (n : ℕ) (run : IsLongestRun (undone (log_of device b)) n) where
  abbrev p : Client
  p = w.clients c

  abbrev x : SealedView
  x = log_of device b

  abbrev pub first : List Record
  first = take n (undone x)

  abbrev pub rest : List Record
  rest = drop n (undone x)

  pub whose_log : x.client ≡ c
  whose_log = seat.client ∙ number

  sealed_is : p.sealed ≡ x.records
  sealed_is = own.sealed ∙ sym seat.records

  pub low : b.done < length p.sealed
  low = subst (λ (rs : List Record). b.done < length rs) (sym own.sealed) seat.some

  -- ---- the next records

  undone_long : length (undone x) ≡ length p.sealed - b.done
  undone_long = length-drop b.done x.records ∙ ap (λ (rs : List Record). length rs - b.done) (sym sealed_is)

  some : 1 ≤ n
  some = run.some (let long = undone_long in let left = low in omega (arith, long, left))

  pub first_long : length first ≡ n
  first_long = length-take-le n (undone x) run.within

  pub few : b.done + n ≤ length p.sealed
  few = let long = undone_long in let left = low in let within = run.within in omega (arith, long, left, within)

  pub can_digest : CanDigest w c first rest
  can_digest = record {
    client = is_c;
    some = λ none. let zero_long : length first ≡ 0 = ap (λ (rs : List Record). length rs) none in let long = first_long in let one = some in omega (arith, zero_long, long, one);
    split = (let digested = marked.digested in let at : (w.kernel.accounts c).mark - p.past ≡ b.done = omega (arith, digested) in
        ap (λ (m : ℕ). drop m p.sealed) at ∙ ap (λ (rs : List Record). drop b.done rs) sealed_is ∙ sym (take-append-drop n (undone x)));
  }

  -- ---- where the log stands

  pub at_mark : k.area.failed ≡ false → StandsAtMark x (disk device k.area)
  at_mark going = stands_at_mark device s b k c w accepted shared_marks cut call seat number stands own marked going

  pub as_many : HasAsManyWaiting k.book x
  as_many =
      let account = (stands.book c is_c).waiting in
      let accepts : accepted c ≡ p.past + length p.sealed = marked.accepts ∙ ap (λ (t : Bool). p.past + cond t (length p.sealed) 0) is_accepted in
      let digested = marked.digested in
      let long = undone_long in
      let left = low in
      ap (waiting_of k.book) whose_log ∙ omega (arith, account, accepts, digested, long, left)

  -- ---- once they are digested

  abbrev pub marks_then : Marks
  marks_then = marks_digested shared_marks c (length first) p.sealed

  marks_are : (before : Marks) → before ≡ shared_marks → marks_after before x.client (mark_then x n) ≡ marks_then
  marks_are before same =
      ap (λ (m : Marks). marks_after m x.client (mark_then x n)) same
      ∙ ap (λ (d : ℕ). marks_after shared_marks d (mark_then x n)) whose_log
      ∙ ap (marks_after shared_marks c) (ap (mark_after b.generation (b.done + n)) (ap (λ (rs : List Record). length rs) (sym sealed_is)) ∙ ap (λ (m : ℕ). mark_after b.generation (b.done + m) (length p.sealed)) (sym first_long)
      ∙ ap (λ (m : Mark). mark_after m.generation (m.done + length first) (length p.sealed)) (sym marked.mark))

  -- the client's mark stands behind them
  pub mark_moves : (block : List ℕ) → marks_of block ≡ Some marks_then → mark_of marks_then c ≡ mark_after b.generation (b.done + n) (length p.sealed)
  mark_moves block spelled = mark_moved shared_marks c (length first) p.sealed block spelled is_c
      ∙ ap (λ (m : Mark). mark_after m.generation (m.done + length first) (length p.sealed)) marked.mark
      ∙ ap (λ (m : ℕ). mark_after b.generation (b.done + m) (length p.sealed)) first_long

  module _ (going : k.area.failed ≡ false) where
    abbrev g : Sizes
    g = k.area.geometry

    pub marks_new : (new : Store) → IsDigested g (disk device k.area) x n new → marks new ≡ Some marks_then
    marks_new new is = is.applied.new_marks ∙ ap Some (marks_are is.before (same_marks is.before shared_marks (sym is.old_marks ∙ (stands.going going).1)))

    pub spells_digested : (content : Content) → IsVolume g content → IsDigested g (disk device k.area) x n (store_of content) → SpellsShared g (after_records w.kernel.shared first) marks_then content
    spells_digested content volume is = record {
      volume = volume;
      opens = is.applied.opens;
      graph_is = is.graph_after ∙ effects_are first (graph g (disk device k.area)) ∙ ap (λ (h : Graph). after_records h first) (sym (stands.going going).0.shared);
      marks_are = marks_new (store_of content) is;
    }

    -- at each moment the shared medium spells the graph and the marks from before, or those behind the chunk
    pub stays_or_after : (after : KernelView M) → StaysOrDigests g (disk device k.area) x n (device.moment k.area.media) (device.moment after.area.media) (device.left k.area.media) (device.left after.area.media)
        → StaysFrom device k after (SpellsOrAfter g w shared_marks (cuts.Digest c first rest))
    stays_or_after after stays = stays_as_well device k after (OpensDigestedOrNot g (disk device k.area) x n) (SpellsOrAfter g w shared_marks (cuts.Digest c first rest)) (λ content opens. elim opens.store [
      | inl as_before ↦ inl (spells_as device k w accepted shared_marks content (stands.going going).0 (stands.going going).1 as_before.0)
      | inr digested ↦ inr (can_digest, spells_digested content opens.volume digested)
    ]) stays
