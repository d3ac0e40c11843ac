-- An event of no client in which the shared medium opens with the graph and the marks that it had, at each moment.
use Rattle.std.proofs.Common.{◌≡◌, inl, ℕ, ◌≤◌, false, Some, ap, sym, ◌∙◌, subst, arith}
use Rattle.tier_device.specs.declared.media.Media.{Ghosts}
use Rattle.tier_device.specs.declared.media.Tier.{Tier}
use Rattle.tier_device.specs.AfterStop.{Left}
use Rattle.posix_calls.specs.Run.{Run}
use Rattle.event_steps.specs.area_reader.Store.{disk, marks}
use Rattle.event_steps.specs.batch_journal.Course.{Unmoved}
use Rattle.event_steps.specs.layout.Places.{Sizes}
use Rattle.event_steps.specs.layout.declared.marks.Marks.{Marks}
use Rattle.event_steps.specs.kernel_fs.Book.{Accounts, IsBookOf}
use Rattle.event_steps.specs.kernel_fs.KernelView.{KernelView}
use Rattle.event_steps.specs.kernel_fs.MachineState.{IsKernelOf}
use Rattle.event_steps.specs.shared_area.Ready.{OpensAs}
use Rattle.event_steps.specs.shared_area.UnchangedMedia.{Stays}
use Rattle.event_steps.specs.world_invariant.World.{World}
use Rattle.event_steps.specs.View.{SystemView}
use Rattle.event_steps.specs.declared.event.Event.{Event}
use Rattle.event_steps.specs.declared.outcome.Outcome.{Outcome}
use Rattle.event_lists.specs.Courses.{Content, Ledger, MovesOnly, no_news}
use Rattle.system_laws.specs.Leaves.{KernelLeaves}
use Rattle.system_laws.specs.Moves.{EventMoves}
use Rattle.system_laws.specs.News.{news}
use Rattle.system_laws.specs.Clocks.{clocks_of}
use Rattle.system_laws.specs.Relation.{Cut, IsWorldOf, SpellsShared, machine_of}
use Rattle.system_laws.specs.Relation as cuts
use Rattle.system_laws.specs.Steps.{IsBegunIn, IsStep}
use Rattle.system_laws.specs.WorldTree.{world_tree}
use Rattle.system_laws.specs.WorldView.{WorldView, calls_of}
use Rattle.system_laws.proofs.Given.{Given}
use Rattle.system_laws.proofs.KernelMoves.{Spelled, SpellsOrAfter, beside_stay, kernel_moves, shared_step}

module _ {M : Type 0} (device : Ghosts M) where
  -- what a read gives is left now
  abbrev pub SeenNow : Type 0
  SeenNow = (m : M) (t : Tier) → device.left m (device.moment m) t (device.seen m t)

  -- the moments of a kernel's shared medium from one view to another, at each of which a stop leaves such contents
  abbrev pub StaysFrom : KernelView M → KernelView M → (Content → Type 0) → Type 0
  StaysFrom old new Opens = Stays Opens (device.moment old.area.media) (device.moment new.area.media) (device.left old.area.media) (device.left new.area.media)

  pub stays_as_well : (old new : KernelView M) (P Q : Content → Type 0) → ((content : Content) → P content → Q content) → StaysFrom old new P → StaysFrom old new Q
  stays_as_well old new P Q so stays = record { later = stays.later; past = stays.past; kept = stays.kept; any_moment = λ m content low high left. so content (stays.any_moment m content low high left) }

  -- Contents that open as what is read spell the world's graph and marks.
  pub spells_as : (k : KernelView M) (w : World) (accepted : ℕ → ℕ) (marked : Marks) (content : Content) → IsKernelOf device k (machine_of w accepted) → marks (disk device k.area) ≡ Some marked
      → OpensAs k.area.geometry (disk device k.area) content → SpellsShared k.area.geometry w.kernel.shared marked content
  spells_as k w accepted marked content is marked_so opens = record { volume = opens.volume; opens = opens.opens; graph_is = opens.same_graph ∙ sym is.shared; marks_are = opens.same_marks ∙ marked_so }

  -- where nothing was done but reads, what is left is what was left
  pub unmoved_stays : (old new : KernelView M) → old.area.failed ≡ false → KernelLeaves device old
      → Unmoved (device.moment old.area.media) (device.moment new.area.media) (device.seen old.area.media) (device.seen new.area.media) (device.left old.area.media) (device.left new.area.media)
      → StaysFrom old new (OpensAs old.area.geometry (disk device old.area))
  unmoved_stays old new going leaves unmoved = record {
    later = subst (λ (n : ℕ). device.moment old.area.media ≤ n) (sym unmoved.clock) (omega arith);
    past = unmoved.past;
    kept = unmoved.kept;
    any_moment = λ m content low high left.
        let before : m ≤ device.moment old.area.media = subst (λ (n : ℕ). m ≤ n) unmoved.clock high in
        let now : m ≡ device.moment old.area.media = omega (arith, low, before) in
        leaves going content (subst (λ (n : ℕ). Left (device.left old.area.media) n content) now (λ t. unmoved.past m t (content t) before (left t)));
  }

  -- The system stands for the world that it stood for, and nothing was cut.
  pub stays_world : SeenNow → (v : WorldView M) (w : World) (accepted : ℕ → ℕ) (marked : Marks) (cut : Cut) (k : KernelView M) → IsWorldOf device v w accepted marked cut → v.system.kernel.area.failed ≡ false
      → k.book ≡ v.system.kernel.book → k.area.geometry ≡ v.system.kernel.area.geometry
      → StaysFrom v.system.kernel k (SpellsShared v.system.kernel.area.geometry w.kernel.shared marked)
      → IsWorldOf device (record { system = record { kernel = k; seats = v.system.seats }; calls = v.calls }) w accepted marked cuts.Nothing
  stays_world seen_now v w accepted marked cut k is going book geometry stays =
      let now : (content : Content) → Left (device.left k.area.media) (device.moment k.area.media) content → SpellsShared k.area.geometry w.kernel.shared marked content
      = λ content left. subst (λ (g : Sizes). SpellsShared g w.kernel.shared marked content) (sym geometry) (stays.any_moment (device.moment k.area.media) content stays.later (omega arith) left) in
      let seen : SpellsShared k.area.geometry w.kernel.shared marked (device.seen k.area.media) = now (device.seen k.area.media) (seen_now k.area.media) in
      kernel_moves device v w accepted marked cut cuts.Nothing k w.kernel.shared is is.coherent book geometry
      (λ _. (
        record {
          shared = sym seen.graph_is;
          capacity = is.capacity ∙ sym (ap (λ (g : Sizes). g.units) geometry);
          book = subst (λ (b : Accounts). IsBookOf b (machine_of w accepted)) (sym book) is.book;
          marks = let had = is.going going in (had.0.marks.0, seen.marks_are ∙ sym had.1 ∙ had.0.marks.1, had.0.marks.2);
        },
        seen.marks_are,
      ))
      (λ failed content left. inl (now content left))

  -- So an event is a step that does nothing but that.
  pub stays_step : Given device → Spelled device → SeenNow → (v : WorldView M) (new : SystemView M) (e : Event) (o : Outcome) → IsBegunIn device v new
      → v.system.kernel.area.failed ≡ false → new.seats ≡ v.system.seats → new.kernel.book ≡ v.system.kernel.book → new.kernel.area.geometry ≡ v.system.kernel.area.geometry
      → StaysFrom v.system.kernel new.kernel (OpensAs v.system.kernel.area.geometry (disk device v.system.kernel.area))
      → news (calls_of v) e o ≡ no_news (calls_of v)
      → (MovesOnly 0 (clocks_of device v.system) (clocks_of device new) → EventMoves e (clocks_of device v.system) (clocks_of device new))
      → IsStep device v e o (record { system = new; calls = v.calls })
  stays_step given spelled seen_now v new e o begun going seats book geometry stays none moves =
      let w = begun.stands.world in
      let marked = begun.stands.shared_marks in
      let is = begun.stands.is in
      let now = is.going going in
      let spells = stays_as_well v.system.kernel new.kernel (OpensAs v.system.kernel.area.geometry (disk device v.system.kernel.area)) (SpellsShared v.system.kernel.area.geometry w.kernel.shared marked)
      (λ content. spells_as v.system.kernel w begun.stands.accepted marked content now.0 now.1) stays in
      let is_new : record { kernel = new.kernel; seats = v.system.seats } ≡ new = λ t. record { kernel = new.kernel; seats = sym seats t } in
      let then = subst (λ (n : SystemView M). IsWorldOf device (record { system = n; calls = v.calls }) w begun.stands.accepted marked cuts.Nothing) is_new
      (stays_world seen_now v w begun.stands.accepted marked begun.stands.cut new.kernel is going book geometry spells) in
      shared_step device spelled v new v.calls e o w begun.stands.accepted marked begun.stands.cut cuts.Nothing is begun.leaves
      (stays_as_well v.system.kernel new.kernel (SpellsShared v.system.kernel.area.geometry w.kernel.shared marked) (SpellsOrAfter v.system.kernel.area.geometry w marked cuts.Nothing) (λ content opens. inl opens) spells)
      geometry (beside_stay device v.system new begun.leaves seats) moves
      (record { world = w; accepted = begun.stands.accepted; shared_marks = marked; cut = cuts.Nothing; is = then })
      (subst (λ (l : Ledger). Run (world_tree device v) l.turns (world_tree device (record { system = new; calls = v.calls }))) (sym none)
      (given.tree_is (record { system = new; calls = v.calls }) w begun.stands.accepted marked cuts.Nothing then begun.leaves_then ∙ sym (given.tree_is v w begun.stands.accepted marked begun.stands.cut is begun.leaves)))
      (ap (λ (l : Ledger). l.calls) (sym none))
