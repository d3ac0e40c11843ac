-- What good records come to is a change that the shared area takes.
use Rattle.std.proofs.Common.{◌≡◌, ◌<◌, ◌≤◌, ◌+◌, ℕ, zero, suc, true, List, [], ◌∷◌, length, take, drop, Option, Some, None, refl, ap, sym, ◌∙◌, subst, arith}
use Rattle.std.specs.List.{AllByRecursion, sum_by}
use Rattle.std.specs.Prelude.{option_map}
use Rattle.std.specs.FinMap as fin
use Rattle.std.proofs.lemmas.List.{length-take-le}
use Rattle.update_log.specs.file_graph.Graph.{Graph, Node, Body, FileBody, DirBody}
use Rattle.update_log.specs.file_graph.Units.{charge}
use Rattle.coalescer.specs.graph_change.Bounds.{AreBounded}
use Rattle.coalescer.specs.graph_change.Change.{Change, Changes, changed_graph}
use Rattle.coalescer.specs.graph_change.Net.{Child}
use Rattle.coalescer.specs.graph_change.Swaps.{SwappedChange, told_change}
use Rattle.coalescer.specs.graph_change.Tidy.{AreTidyChanges}
use Rattle.update_log.specs.log_record.Grammar.{IsRecord}
use Rattle.update_log.specs.log_record.declared.format.Record.{Record}
use Rattle.shared_area.specs.call_effects.NodeView.{view_at, view_of_body, view_of_node}
use Rattle.shared_area.specs.layout.declared.places.TheConstants.{SPARE_BLOCKS}
use Rattle.shared_area.specs.layout.Places.{Sizes}
use Rattle.shared_area.specs.area_reader.Store.{Store}
use Rattle.shared_area.specs.change_plan.Next.{HasFewEntries, nodes_for}
use Rattle.shared_area.specs.tree_blocks.Directory.{entry_blocks, most_written}
use Rattle.shared_area.specs.change_plan.BlockDemand.{images_for, AreWritten}
use Rattle.shared_area.proofs.Writes.{written_each}
use Rattle.coalescer.proofs.Single.{run}
use Rattle.coalescer.specs.Records.{effects_in}
use Rattle.coalescer.specs.Within.{AreBlocksIn, entry_images, images_in, images_of}
use Rattle.shared_area.specs.record_validation.Good.{KeepsLimits}
use Rattle.digester.specs.Plan.{AreGood, IsNextRun, NamesLeadToInodes}
use Rattle.digester.proofs.Applied.{good_bounded, good_limits, good_charge, fit_images, fit_blocks, told_tidy}
use Rattle.digester.specs.DigestStep.{IsGoodRun}

-- the next run of records, where they are good, is such a run
pub good_run : (held : List ℕ) (capacity : ℕ) (g : Graph) (rs : List Record) (n : ℕ) (c : SwappedChange) (cs : Changes) → 0 < length rs → AllByRecursion IsRecord rs → IsNextRun rs n c → AreGood held capacity g (take n rs) → cs ≡ told_change g c → IsGoodRun held capacity g (take n rs) cs
good_run held capacity g rs n c cs some spelled is good told =
    let most = is.run.within in
    let one = is.run.some some in
    let long = length-take-le n rs most in
    record { some = omega (arith, one, long); good = good; fits = run rs n spelled is.run; change = told ∙ ap (told_change g) is.change }

-- what holds of all holds of the first ones, and of those behind them
pub all_taken : {A : Type 0} (P : A → Type 0) (n : ℕ) (xs : List A) → AllByRecursion P xs → AllByRecursion P (take n xs)
all_taken P zero xs all = tt
all_taken P (suc n) [] all = tt
all_taken P (suc n) (x ∷ xs) all = (all.0, all_taken P n xs all.1)

pub all_dropped : {A : Type 0} (P : A → Type 0) (n : ℕ) (xs : List A) → AllByRecursion P xs → AllByRecursion P (drop n xs)
all_dropped P zero xs all = all
all_dropped P (suc n) [] all = tt
all_dropped P (suc n) (x ∷ xs) all = all_dropped P n xs all.1

-- a name that changes is counted for the blocks of its directory as it weighs
same_entry : (what : Option Child) → entry_blocks what ≡ entry_images what
same_entry None = refl
same_entry (Some child) = refl

same_entries : (es : List (List ℕ × Option Child)) → most_written es ≡ sum_by (λ e. entry_images e.1) es
same_entries es = ap (λ (f : List ℕ × Option Child → ℕ). sum_by f es) (λ t e. same_entry e.1 t)

same_images : (cs : Changes) → images_for cs ≡ images_of cs
same_images cs = ap (λ (f : ℕ × Change → ℕ). sum_by f (fin.entries cs)) (λ t e. each e t)
  where
    each : (e : ℕ × Change) → 1 + nodes_for e.1 ≡ 4 + images_in e.1.entries
    each e = let its = same_entries (fin.entries e.1.entries) in omega (arith, its)

few_in : (names : ℕ) (b : Body) → KeepsLimits (Some (view_of_body names b)) → HasFewEntries (Some (record { names = names; body = b }))
few_in names (FileBody bytes) keeps = tt
few_in names (DirBody entries) keeps = keeps.1

few_entries : (o : Option Node) → KeepsLimits (option_map view_of_node o) → HasFewEntries o
few_entries None keeps = tt
few_entries (Some n) keeps = few_in n.names n.body keeps

module _ (held : List ℕ) (capacity : ℕ) (g : Graph) (rs : List Record) (cs : Changes) (is : IsGoodRun held capacity g rs cs) where
  pub bounded : NamesLeadToInodes g → AreBounded cs
  bounded leads = subst AreBounded (sym is.change) (good_bounded held capacity g rs leads is.good)

  pub tidy : AreTidyChanges cs
  tidy = subst AreTidyChanges (sym is.change) (told_tidy g (effects_in rs))

  pub images : images_for cs ≤ 255
  images =
      let same = same_images cs in
      let few = subst (λ (c : Changes). images_of c ≤ 255) (sym is.change) (fit_images g (effects_in rs) is.fits) in
      omega (arith, same, few)

  pub entries : (i : ℕ) → fin.contains_key cs i ≡ true → HasFewEntries (changed_graph cs g i)
  entries i its =
      few_entries (changed_graph cs g i) (subst (λ (c : Changes). KeepsLimits (view_at (changed_graph c g) i)) (sym is.change)
      (good_limits held capacity g rs i is.good (subst (λ (c : Changes). fin.contains_key c i ≡ true) is.change its)))

  pub units : charge (changed_graph cs g) ≤ capacity
  units = subst (λ (c : Changes). charge (changed_graph c g) ≤ capacity) (sym is.change) (good_charge held capacity g rs is.some is.good)

  pub few_written : (x : Sizes) (s : Store) (bs : List (ℕ × ℕ)) → AreWritten x s cs bs → length bs ≤ SPARE_BLOCKS
  few_written x s bs are = fit_blocks g (effects_in rs) bs is.fits (subst (λ (c : Changes). AreBlocksIn c bs) is.change (are.once, written_each x s cs bs are))
