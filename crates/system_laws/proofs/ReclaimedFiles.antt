-- A file that has no name and that nobody has pinned is dropped, or there is none.
use Rattle.std.proofs.Common.{◌≡◌, ◌⊎◌, inl, inr, ℕ, zero, suc, true, false, Option, Some, None, refl, ap, sym, ◌∙◌, subst, arith}
use Rattle.std.specs.Prelude.{Result, Ok, Err, OnOk}
use Rattle.std.proofs.lemmas.Bool.{cases_Bool, false≢true}
use Rattle.tier_device.specs.declared.media.Media.{Ghosts}
use Rattle.posix_calls.specs.Operations.{is_client}
use Rattle.event_steps.specs.file_graph.Graph.{Body, Graph, Node, set_node}
use Rattle.event_steps.specs.file_graph.Graph as graphs
use Rattle.event_steps.specs.area_reader.Store.{disk, graph, marks}
use Rattle.event_steps.specs.batch_journal.Course.{Unmoved}
use Rattle.event_steps.specs.kernel_fs.Book.{Accounts, IsBookOf, is_pinned, pins_of}
use Rattle.event_steps.specs.kernel_fs.KernelAnswers.{kernel_answer}
use Rattle.event_steps.specs.kernel_fs.KernelView.{KernelView}
use Rattle.event_steps.specs.kernel_fs.MachineState.{IsKernelOf}
use Rattle.event_steps.specs.kernel_fs.Reclaim.{IsReclaimed, IsUnused, OpensReclaimedOrNot, ReclaimsOrStays}
use Rattle.event_steps.specs.kernel_fs.declared.error.KernelError.{KernelError}
use Rattle.event_steps.specs.kernel_fs.declared.error.ReclaimError.{ReclaimError}
use Rattle.event_steps.specs.kernel_fs.declared.error.ReclaimError.TheVariants as errors
use Rattle.event_steps.specs.layout.declared.marks.Marks.{Marks}
use Rattle.event_steps.specs.layout.Places.{Sizes}
use Rattle.event_steps.specs.world_invariant.KernelSteps.{CanReclaim, after_reclaim}
use Rattle.event_steps.specs.world_invariant.Logs.{IsNameless}
use Rattle.event_steps.specs.world_invariant.Machine.{Machine, reclaim}
use Rattle.event_steps.specs.world_invariant.World.{World, world_state}
use Rattle.event_steps.proofs.world_invariant_lemmas.Owners.{is_high, is_low}
use Rattle.event_steps.proofs.world_invariant_lemmas.Reclaims.{reclaimed_holds, reclaimed_tree}
use Rattle.posix_calls.proofs.Sums.{any_there}
use Rattle.event_lists.specs.Courses.{Content}
use Rattle.event_steps.specs.Effects.{MakesOver}
use Rattle.event_steps.specs.Turns.{CanPlay}
use Rattle.event_steps.specs.View.{SystemView}
use Rattle.event_steps.specs.declared.event.Event.TheVariants.{Reclaim}
use Rattle.event_steps.specs.declared.outcome.Outcome.{Outcome}
use Rattle.event_steps.specs.shared_area.Ready.{OpensAs}
use Rattle.system_laws.specs.Leaves.{KernelLeaves}
use Rattle.system_laws.specs.KeptCalls.{calls_then}
use Rattle.system_laws.specs.Relation.{Cut, IsWorldOf, SpellsShared, machine_of}
use Rattle.system_laws.specs.Relation as cuts
use Rattle.system_laws.specs.Steps.{IsBegunIn, IsStep}
use Rattle.system_laws.specs.WorldView.{WorldView}
use Rattle.system_laws.proofs.FailedKernel.{unchanged_step}
use Rattle.system_laws.proofs.Given.{Given}
use Rattle.system_laws.proofs.KernelMoves.{SpellsOrAfter, beside_stay, kernel_moves, shared_step}
use Rattle.system_laws.proofs.SharedStays.{SeenNow, StaysFrom, spells_as, stays_as_well, stays_step, stays_world, unmoved_stays}
use Rattle.system_laws.proofs.SpelledParts.{spelled_parts}
use Rattle.system_laws.proofs.StopsNow.{IsSized}

-- ---- whether a file is unused

abbrev body_in : Body → Option Node → Body
body_in b None = b
body_in b (Some n) = n.body

abbrev names_in : ℕ → Option Node → ℕ
names_in k None = k
names_in k (Some n) = n.names

nameless_node : (k : ℕ) (b : Body) → IsNameless (Some (record { names = k; body = b })) ⊎ (IsNameless (Some (record { names = k; body = b })) → ⊥)
nameless_node zero (graphs.FileBody bytes) = inl (record { bytes = bytes; is = refl })
nameless_node zero (graphs.DirBody entries) = inr (λ file. let same : graphs.DirBody entries ≡ graphs.FileBody file.bytes = ap (body_in (graphs.DirBody entries)) file.is in absurd (cc same))
nameless_node (suc k) b = inr (λ file. let same : suc k ≡ 0 = ap (names_in 0) file.is in absurd (cc same))

nameless_or_not : (o : Option Node) → IsNameless o ⊎ (IsNameless o → ⊥)
nameless_or_not None = inr (λ file. absurd (cc file.is))
nameless_or_not (Some n) = nameless_node n.names n.body

unused_or_not : (g : Graph) (book : Accounts) (i : ℕ) → IsUnused g book i ⊎ (IsUnused g book i → ⊥)
unused_or_not g book i = elim (nameless_or_not (g i)) [
  | inl file ↦ elim (cases_Bool (is_pinned book i)) [
    | inl pinned ↦ inr (λ unused. false≢true (sym unused.1 ∙ pinned))
    | inr free ↦ inl (file, free)
  ]
  | inr none ↦ inr (λ unused. none unused.0)
]

-- a client has not pinned what is in nobody's account
pinned_not : (book : Accounts) (m : Machine) → IsBookOf book m → (i : ℕ) → is_pinned book i ≡ false → (d : ℕ) → is_client d ≡ true → (m.kernel.accounts d).pins i ≡ false
unfolding is_pinned
pinned_not book m is i none d is_d = elim (cases_Bool (pins_of book d i)) [
  | inl there ↦ absurd (false≢true (sym none ∙ any_there 8 d (λ c. pins_of book c i) (is_low d is_d) (is_high d is_d) there))
  | inr free ↦ (is d is_d).pins i ∙ free
]

module _ {M : Type 0} (device : Ghosts M) where
  can_reclaim : (k : KernelView M) (m : Machine) (i : ℕ) → IsUnused (graph k.area.geometry (disk device k.area)) k.book i → IsKernelOf device k m → CanReclaim m.kernel i
  can_reclaim k m i unused is = record { file = subst (λ (g : Graph). IsNameless (g i)) (sym is.shared) unused.0; unpinned = pinned_not k.book m is.book i unused.1 }

  -- what opens as before, or without the file, spells the world or what comes after the cut
  spells_reclaimed : (k : KernelView M) (w : World) (accepted : ℕ → ℕ) (marked : Marks) (i : ℕ) (content : Content) → IsKernelOf device k (machine_of w accepted) → marks (disk device k.area) ≡ Some marked → CanReclaim w.kernel i
      → OpensReclaimedOrNot k.area.geometry (disk device k.area) i content → SpellsOrAfter k.area.geometry w marked (cuts.Reclaim i) content
  spells_reclaimed k w accepted marked i content is marked_so can opens = elim opens.store [
    | inl same ↦ inl (spells_as device k w accepted marked content is marked_so same.0)
    | inr gone ↦ inr (can, record { volume = opens.volume; opens = gone.opens; graph_is = gone.graph_after ∙ ap (λ (g : Graph). set_node g i None) (sym is.shared); marks_are = gone.same_marks ∙ marked_so })
  ]

  -- Where nothing has moved but by reads.
  abbrev HasOnlyRead : KernelView M → KernelView M → Type 0
  HasOnlyRead old new = Unmoved (device.moment old.area.media) (device.moment new.area.media) (device.seen old.area.media) (device.seen new.area.media) (device.left old.area.media) (device.left new.area.media)

  -- of an unused file: the world that the system stands for then, which has the tree that it had
  record StandsThen (v : WorldView M) (w : World) (accepted : ℕ → ℕ) (marked : Marks) (k : KernelView M) : Type 0 where
    world : World
    cut : Cut
    is : IsWorldOf device (record { system = record { kernel = k; seats = v.system.seats }; calls = v.calls }) world accepted marked cut
    same : world_state world ≡ world_state w

  refused_then : SeenNow device → (v : WorldView M) (w : World) (accepted : ℕ → ℕ) (marked : Marks) (cut : Cut) (k : KernelView M) → IsWorldOf device v w accepted marked cut → KernelLeaves device v.system.kernel → v.system.kernel.area.failed ≡ false
      → k.book ≡ v.system.kernel.book → k.area.geometry ≡ v.system.kernel.area.geometry → HasOnlyRead v.system.kernel k → StandsThen v w accepted marked k
  refused_then seen_now v w accepted marked cut k is leaves going book geometry unmoved =
      let area = v.system.kernel.area in
      let now = is.going going in
      let spells = stays_as_well device v.system.kernel k (OpensAs area.geometry (disk device area)) (SpellsShared area.geometry w.kernel.shared marked) (λ content. spells_as device v.system.kernel w accepted marked content now.0 now.1)
      (unmoved_stays device v.system.kernel k going leaves unmoved) in
      record { world = w; cut = cuts.Nothing; is = stays_world device seen_now v w accepted marked cut k is going book geometry spells; same = refl }

  stands_then : SeenNow device → (v : WorldView M) (w : World) (accepted : ℕ → ℕ) (marked : Marks) (cut : Cut) (i : ℕ) (o : Outcome) (k : KernelView M) (answer : Result (Unit {0}) ReclaimError) → IsWorldOf device v w accepted marked cut
      → KernelLeaves device v.system.kernel → v.system.kernel.area.failed ≡ false → (makes : MakesOver device v.system.kernel (Reclaim i) o k) → makes.answer ≡ kernel_answer answer → ReclaimsOrStays device v.system.kernel.area k.area answer
      → CanReclaim w.kernel i → StaysFrom device v.system.kernel k (SpellsOrAfter v.system.kernel.area.geometry w marked (cuts.Reclaim i)) → StandsThen v w accepted marked k
  stands_then seen_now v w accepted marked cut i o k (Ok x) is leaves going makes told answers can spells =
      let now = is.going going in
      let dropped : IsReclaimed v.system.kernel.area.geometry (disk device v.system.kernel.area) i (disk device k.area) = subst (λ (r : Result (Unit {0}) (KernelError ReclaimError)). OnOk r (IsReclaimed v.system.kernel.area.geometry (disk device v.system.kernel.area) i (disk device k.area))) told makes.dropped in
      let step : (m : Machine) → IsKernelOf device v.system.kernel m → IsKernelOf device k (reclaim m i) = subst (λ (r : Result (Unit {0}) (KernelError ReclaimError)). OnOk r ((m : Machine) → IsKernelOf device v.system.kernel m → IsKernelOf device k (reclaim m i))) told makes.step in
      record {
        world = after_reclaim w i;
        cut = cuts.Nothing;
        is = kernel_moves device v w accepted marked cut cuts.Nothing k (set_node w.kernel.shared i None) is (reclaimed_holds w i is.coherent can) makes.book answers.geometry
            (λ _. (step (machine_of w accepted) now.0, dropped.same_marks ∙ now.1))
            (λ failed. absurd (false≢true (sym answers.quiet.1 ∙ failed)));
        same = reclaimed_tree w i is.coherent can;
      }
  stands_then seen_now v w accepted marked cut i o k (Err errors.DeviceFault) is leaves going makes told answers can spells = record {
    world = w;
    cut = cuts.Reclaim i;
    is = kernel_moves device v w accepted marked cut (cuts.Reclaim i) k w.kernel.shared is is.coherent makes.book answers.geometry
        (λ goes. absurd (false≢true (sym goes ∙ (answers.fault refl).0)))
        (λ failed content left. subst (λ (g : Sizes). SpellsOrAfter g w marked (cuts.Reclaim i) content) (sym answers.geometry) (spells.any_moment (device.moment k.area.media) content spells.later (omega arith) left));
    same = refl;
  }
  stands_then seen_now v w accepted marked cut i o k (Err errors.InUse) is leaves going makes told answers can spells = refused_then seen_now v w accepted marked cut k is leaves going makes.book answers.geometry (answers.unmoved (λ same. absurd (cc same)))
  stands_then seen_now v w accepted marked cut i o k (Err errors.Memory) is leaves going makes told answers can spells = refused_then seen_now v w accepted marked cut k is leaves going makes.book answers.geometry (answers.unmoved (λ same. absurd (cc same)))

  pub reclaimed : Given device → IsSized device → SeenNow device → (v : WorldView M) (i : ℕ) (o : Outcome) (new : SystemView M)
      → IsBegunIn device v new → CanPlay device v.system (Reclaim i) → MakesOver device v.system.kernel (Reclaim i) o new.kernel → new.seats ≡ v.system.seats
      → IsStep device v (Reclaim i) o (record { system = new; calls = calls_then v.calls (Reclaim i) o })
  reclaimed given sized seen_now v i o new begun turn makes seats = elim (cases_Bool v.system.kernel.area.failed) [
    | inl failed ↦ unchanged_step device given v new (Reclaim i) o begun (λ t. record { kernel = (makes.answers.failed failed).1 t; seats = seats t }) refl
    | inr going ↦
        let k = v.system.kernel in
        let answered = makes.answers.going going in
        elim (unused_or_not (graph k.area.geometry (disk device k.area)) k.book i) [
          | inr none ↦ stays_step device given (spelled_parts device given sized) seen_now v new (Reclaim i) o begun going seats makes.book answered.2.geometry (unmoved_stays device k new.kernel going begun.leaves.kernel (makes.untouched none)) refl (λ moves. moves)
          | inl unused ↦
              let w = begun.stands.world in
              let marked = begun.stands.shared_marks in
              let is = begun.stands.is in
              let now = is.going going in
              let can = can_reclaim k (machine_of w begun.stands.accepted) i unused now.0 in
              let any = makes.any_moment going in
              let spells : StaysFrom device k new.kernel (SpellsOrAfter k.area.geometry w marked (cuts.Reclaim i)) = record {
                later = any.later;
                past = any.past;
                kept = any.kept;
                any_moment = λ m content low high left. spells_reclaimed k w begun.stands.accepted marked i content now.0 now.1 can (any.any_moment m content low high left);
              } in
              let stands = stands_then seen_now v w begun.stands.accepted marked begun.stands.cut i o new.kernel answered.0 is begun.leaves.kernel going makes answered.1 answered.2 can spells in
              let is_new : record { kernel = new.kernel; seats = v.system.seats } ≡ new = λ t. record { kernel = new.kernel; seats = sym seats t } in
              let then = subst (λ (n : SystemView M). IsWorldOf device (record { system = n; calls = v.calls }) stands.world begun.stands.accepted marked stands.cut) is_new stands.is in
              shared_step device (spelled_parts device given sized) v new v.calls (Reclaim i) o w begun.stands.accepted marked begun.stands.cut (cuts.Reclaim i) is begun.leaves spells answered.2.geometry (beside_stay device v.system new begun.leaves seats) (λ moves. moves)
              (record { world = stands.world; accepted = begun.stands.accepted; shared_marks = marked; cut = stands.cut; is = then })
              (given.tree_is (record { system = new; calls = v.calls }) stands.world begun.stands.accepted marked stands.cut then begun.leaves_then ∙ stands.same ∙ sym (given.tree_is v w begun.stands.accepted marked begun.stands.cut is begun.leaves))
              refl
        ]
  ]
