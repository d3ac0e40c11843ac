-- A change that drops one node, and what it makes of shared media.
use Rattle.std.proofs.Common.{◌≡◌, ◌≢◌, inl, inr, ℕ, ◌+◌, ◌*◌, ◌≤◌, ◌==◌, ◌||◌, ◌&&◌, List, [], ◌∷◌, length, Bool, true, false, cond, Option, Some, None, refl, ap, sym, ◌∙◌, subst, arith, rules}
use Rattle.std.specs.List.{sum_by}
use Rattle.std.specs.Prelude.{option_map}
use Rattle.std.specs.FinMap as fin
use Rattle.std.proofs.lemmas.Bool.{false≢true, eq-eqb}
use Rattle.std.proofs.lemmas.Bool.Decides.{eqb_tells, nat_tests}
use Rattle.tier_device.specs.declared.media.Tier.{Tier}
use Rattle.tier_device.specs.AfterStop.{Left}
use Rattle.world_invariant.specs.file_graph.declared.effect.Effect.TheVariants as effect
use Rattle.world_invariant.specs.file_graph.Graph.{Graph, Node, Body, FileBody, DirBody, set_node}
use Rattle.world_invariant.specs.file_graph.Units.{charge}
use Rattle.migrator.specs.graph_change.Net.{Child}
use Rattle.migrator.specs.graph_change.Change.{Change, Changes, Coalesces, changed_graph, coalesced_changes}
use Rattle.migrator.specs.layout.declared.marks.Marks.{Marks}
use Rattle.migrator.specs.layout.Places.{Sizes, is_inode}
use Rattle.world_invariant.specs.log_record.Grammar.{IsInode}
use Rattle.migrator.specs.batch_journal.Course.{Unmoved}
use Rattle.world_invariant.specs.call_effects.NodeView.{view_of_body, view_of_node}
use Rattle.migrator.specs.record_validation.Counts.{counts_of}
use Rattle.migrator.specs.record_validation.declared.node_counts.NodeCounts.{NodeCounts}
use Rattle.migrator.specs.record_validation.declared.node_counts.NodeCounts.TheVariants as counts
use Rattle.migrator.specs.area_reader.Store.{Store, store_of, graph, marks}
use Rattle.migrator.specs.area_reader.Reads.{Loose}
use Rattle.migrator.specs.shared_area.Ready.{OpensAs}
use Rattle.migrator.specs.shared_area.ChangeApply.{IsAppliedStore}
use Rattle.migrator.specs.shared_area.GraphUpdate.{StaysOrChanges}
use Rattle.digester.specs.coalescer.Weight.{fits_chunk}
use Rattle.digester.specs.coalescer.Within.{entry_images, images_in, images_of}
use Rattle.digester.proofs.Applied.{fit_images}
use Rattle.posix_calls.proofs.Sums.{same_if, there_if}
use Rattle.digester.specs.tree_blocks.Directory.{entry_blocks, most_written}
use Rattle.migrator.specs.change_plan.Next.{HasFewEntries, nodes_for}
use Rattle.migrator.specs.change_plan.BlockDemand.{images_for, AreWritten}
use Rattle.migrator.proofs.shared_area_lemmas.Entries.{no_view}
use Rattle.migrator.proofs.shared_area_lemmas.Writes.{written_each}
use Rattle.world_invariant.specs.Logs.{IsNameless}
use Rattle.world_invariant.proofs.Reclaims.{charge_less}
use Rattle.world_invariant.proofs.Records.{either}
use Rattle.kernel_fs.specs.Reclaim.{AreNameless, IsReclaimed, StaysOrReclaims}

-- ---- a file without a name, by its numbers

nameless_body : (names size : ℕ) (b : Body) → ◌≡◌ {A = Option NodeCounts} (Some (counts_of (view_of_body names b))) (Some (counts.File 0 size)) → IsNameless (Some (record { names = names; body = b }))
nameless_body names size (FileBody bytes) is =
    let none : names ≡ 0 = cc in
    record { bytes = bytes; is = ap (λ (k : ℕ). Some (record { names = k; body = FileBody bytes })) none }
nameless_body names size (DirBody entries) is = absurd (cc)

pub nameless_by : (o : Option Node) → AreNameless (option_map counts_of (option_map view_of_node o)) → IsNameless o
nameless_by None found = absurd (cc (found.1))
nameless_by (Some n) found = nameless_body n.names found.0 n.body found.1

pub counts_nameless : (o : Option Node) → IsNameless o → AreNameless (option_map counts_of (option_map view_of_node o))
counts_nameless o is = (length is.bytes, ap (λ (n : Option Node). option_map counts_of (option_map view_of_node n)) is.is)

-- it stands at an inode
pub its_inode : (g : Sizes) (s : Store) (i : ℕ) → IsNameless (graph g s i) → IsInode i
its_inode g s i is = elim (either (is_inode i)) [
  | inl there ↦ (low i there, high i there)
  | inr none ↦ (let view = ap (option_map view_of_node) is.is in let out = no_view g s i none in absurd (cc (view, out)))
]
  where
    low : (j : ℕ) → is_inode j ≡ true → 1 ≤ j
    low j e = grind (arith, nat_tests)

    high : (j : ℕ) → is_inode j ≡ true → j ≤ 1024
    high j e = grind (arith, nat_tests)

-- ---- the change

module _ (i : ℕ) (cs : Changes) (law : Coalesces (effect.Drop i ∷ []) cs) where
  pub graph_dropped : (g : Graph) → changed_graph cs g ≡ set_node g i None
  graph_dropped g = law.meaning g ∙ (λ t j. same j t)
    where
      same : (j : ℕ) → cond (i == j || false) None (g j) ≡ cond (j == i) None (g j)
      same j = elim (eqb_tells i j) [
        | inl here ↦ ap (λ b. cond (b || false) None (g j)) here.0 ∙ sym (ap (λ b. cond b None (g j)) (eq-eqb j i (sym here.1)))
        | inr other ↦ ap (λ b. cond (b || false) None (g j)) other.0 ∙ sym (ap (λ b. cond b None (g j)) (off j other.1))
      ]
        where
          off : (k : ℕ) → i ≢ k → (k == i) ≡ false
          off k apart = elim (eqb_tells k i) [ inl there ↦ absurd (apart (sym there.1)) | inr other ↦ other.0 ]

  its_own : (j : ℕ) → fin.contains_key cs j ≡ true → j ≡ i
  its_own j has = elim (eqb_tells j i) [
    | inl same ↦ same.1
    | inr other ↦ absurd (false≢true (sym (law.inodes j ∙ ap (λ b. b || false) other.0) ∙ has))
  ]

  pub not_own : (j : ℕ) → j ≢ i → fin.contains_key cs j ≡ false
  not_own j off = elim (eqb_tells j i) [ inl same ↦ absurd (off same.1) | inr other ↦ law.inodes j ∙ ap (λ b. b || false) other.0 ]

  gone : (g : Graph) → changed_graph cs g i ≡ None
  gone g = ap (λ (h : Graph). h i) (graph_dropped g) ∙ ap (λ b. cond b None (g i)) (eq-eqb i i refl)

  pub few_entries : (g : Graph) (j : ℕ) → fin.contains_key cs j ≡ true → HasFewEntries (changed_graph cs g j)
  few_entries g j has = subst (λ k. HasFewEntries (changed_graph cs g k)) (sym (its_own j has)) (subst HasFewEntries (sym (gone g)) tt)

  pub none_written : (x : Sizes) (s : Store) (bs : List (ℕ × ℕ)) → AreWritten x s cs bs → length bs ≤ 512
  none_written x s [] are = omega arith
  none_written x s (b ∷ bs) are = absurd (false≢true (sym (no_block (b.0 == i)) ∙ law.blocks b.0 b.1 (written_each x s cs (b ∷ bs) are).0))
    where
      no_block : (t : Bool) → ((t && false) || false) ≡ false
      no_block true = refl
      no_block false = refl

  -- ---- shared media

  pub reclaimed : (x : Sizes) (s : Store) (v : Marks) (new : Store) → marks s ≡ Some v → IsAppliedStore x s cs v new → IsReclaimed x s i new
  reclaimed x s v new was applied = record {
    opens = applied.opens;
    graph_after = applied.graph_after ∙ graph_dropped (graph x s);
    same_marks = applied.new_marks ∙ sym was;
    others = λ j off. applied.others j (not_own j off);
    places = λ j off. applied.other_places j (not_own j off);
  }

-- ---- what a stop leaves

module _ (g : Sizes) (s : Store) (i : ℕ) (before : ℕ) (old : ℕ → Tier → List ℕ → Type 0) where
  -- where nothing has moved
  pub still_open : (now : ℕ) (seen seen' : Tier → List ℕ) (new : ℕ → Tier → List ℕ → Type 0) → Unmoved before now seen seen' old new
      → ((content : Tier → List ℕ) → Left old before content → OpensAs g s content) → ((content : Tier → List ℕ) → Left old before content → Loose g s (store_of content)) → StaysOrReclaims g s i before now old new
  still_open now seen seen' new still opens loose = record {
    later = (let clock = still.clock in omega (arith, clock));
    past = still.past;
    kept = still.kept;
    any_moment = λ m content lo hi l.
        let clock = still.clock in
        let same : m ≡ before = omega (arith, clock, lo, hi) in
        let at : Left old before content = subst (λ (k : ℕ). Left old k content) same (λ t. still.past m t (content t) (omega (arith, same)) (l t)) in
        record { volume = (opens content at).volume; store = inl (opens content at, loose content at) };
  }

  -- where the change follows reads
  pub then_reclaimed : (mid now : ℕ) (seen seen' : Tier → List ℕ) (between new : ℕ → Tier → List ℕ → Type 0) (cs : Changes) (v : Marks) → Unmoved before mid seen seen' old between
      → ((new_store : Store) → IsAppliedStore g s cs v new_store → IsReclaimed g s i new_store)
      → StaysOrChanges g s cs v mid now between new → StaysOrReclaims g s i before now old new
  then_reclaimed mid now seen seen' between new cs v still done changes = record {
    later = (let clock = still.clock in let later = changes.later in omega (arith, clock, later));
    past = λ k t c le l. (let clock = still.clock in still.past k t c le (changes.past k t c (omega (arith, clock, le)) l));
    kept = λ k t c le l. (let clock = still.clock in changes.kept k t c (omega (arith, clock, le)) (still.kept k t c le l));
    any_moment = λ k content lo hi l.
        let clock = still.clock in
        let at = changes.any_moment k content (omega (arith, clock, lo)) hi l in
        record { volume = at.volume; store = elim (at.store) [ inl same ↦ inl same | inr applied ↦ inr (done (store_of content) applied) ] };
  }

-- ---- it is a change that can be made

pub one_inode : (i : ℕ) → IsInode i → is_inode i ≡ true
one_inode i is = grind (arith, nat_tests)

same_images : (cs : Changes) → images_for cs ≡ images_of cs
same_images cs = ap (λ (f : ℕ × Change → ℕ). sum_by f (fin.entries cs)) (λ t e. each e t)
  where
    of_name : (o : Option Child) → entry_blocks o ≡ entry_images o
    of_name None = refl
    of_name (Some child) = refl

    each : (e : ℕ × Change) → 1 + nodes_for e.1 ≡ 4 + images_in e.1.entries
    each e =
        let names : most_written (fin.entries e.1.entries) ≡ images_in e.1.entries = ap (λ (f : List ℕ × Option Child → ℕ). sum_by f (fin.entries e.1.entries)) (λ t x. of_name x.1 t) in
        omega (arith, names)

-- it is as small as a chunk
small : (i : ℕ) → fits_chunk (effect.Drop i ∷ []) ≡ true
unfolding fits_chunk
small i = search rules

pub few_images : (i : ℕ) (cs : Changes) → cs ≡ coalesced_changes (effect.Drop i ∷ []) → images_for cs ≤ 255
few_images i cs is =
    let same = same_images cs in
    let few = subst (λ (c : Changes). images_of c ≤ 255) (sym is) (fit_images (λ j. None) (effect.Drop i ∷ []) (small i)) in
    omega (arith, same, few)

pub charge_fits : (i : ℕ) (cs : Changes) (law : Coalesces (effect.Drop i ∷ []) cs) (g : Graph) (units : ℕ) → charge g ≤ units → charge (changed_graph cs g) ≤ units
charge_fits i cs law g units fits =
    let less : charge (changed_graph cs g) ≤ charge g = charge_less i g (changed_graph cs g) (ap (λ (h : Graph). h i) (graph_dropped i cs law g) ∙ there_if i None (g i)) (λ j off. ap (λ (h : Graph). h j) (graph_dropped i cs law g) ∙ same_if j i None (g j) off) in
    omega (arith, less, fits)

-- where the file is dropped behind a look
pub reclaims_behind : (g : Sizes) (s : Store) (i before mid now : ℕ) (seen seen' : Tier → List ℕ) (old between new : ℕ → Tier → List ℕ → Type 0) → Unmoved before mid seen seen' old between → StaysOrReclaims g s i mid now between new → StaysOrReclaims g s i before now old new
reclaims_behind g s i before mid now seen seen' old between new still changes = record {
  later = (let clock = still.clock in let later = changes.later in omega (arith, clock, later));
  past = λ k t c le l. (let clock = still.clock in still.past k t c le (changes.past k t c (omega (arith, clock, le)) l));
  kept = λ k t c le l. (let clock = still.clock in changes.kept k t c (omega (arith, clock, le)) (still.kept k t c le l));
  any_moment = λ k content lo hi l. (let clock = still.clock in changes.any_moment k content (omega (arith, clock, lo)) hi l);
}
