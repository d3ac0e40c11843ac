use Rattle.std.proofs.Common.{◌≡◌, ◌≤◌, ℕ, List, length, true, false, sym, subst}
use Rattle.std.specs.FinMap as fin
use Rattle.std.specs.Prelude.{OnOk, IsErrOf}
use Rattle.record_validation.specs.file_graph.Units.{charge}
use Rattle.area_reader.specs.graph_change.Change.{changed_graph}
use Rattle.area_reader.specs.graph_change.View.{changes_of}
use Rattle.area_reader.specs.batch_journal.View.{JournalView}
use Rattle.area_reader.specs.Store.{disk, graph}
use Rattle.shared_area.specs.ChangeApply.{IsAppliedStore, MakesFewCalls}
use Rattle.change_plan.specs.Next.{HasFewEntries}
use Rattle.change_plan.specs.BlockDemand.{AreWritten}
use Rattle.area_reader.specs.declared.error.AreaError.TheVariants.{NoBlock}
use Rattle.shared_area.specs.GraphUpdate.{HasTooFewData, StaysOrChanges, AppliesOrStays}
use Rattle.shared_area.proofs.area.Shared.apply.Goals as goal

pub make_change-requires-clause-ready : goal.make_change-requires-clause-ready
make_change-requires-clause-ready g c = c.self.invariant

pub make_change-requires-clause-entries : goal.make_change-requires-clause-entries
make_change-requires-clause-entries g c =
    let m = g.M.Media in
    let cs = changes_of c.args.change.now in
    subst (λ (v : JournalView _). v.failed ≡ false → (i : ℕ) → fin.contains_key cs i ≡ true → HasFewEntries (changed_graph cs (graph v.geometry (disk m v)) i)) (sym c.self.view_is) c.requires.entries

pub make_change-requires-clause-units : goal.make_change-requires-clause-units
make_change-requires-clause-units g c =
    let m = g.M.Media in
    subst (λ (v : JournalView _). v.failed ≡ false → charge (changed_graph (changes_of c.args.change.now) (graph v.geometry (disk m v))) ≤ v.geometry.units) (sym c.self.view_is) c.requires.units

pub invariant_of-self : goal.invariant_of-self
invariant_of-self g c = c.make_change.ensures.ready

pub returns-clause-any_moment : goal.returns-clause-any_moment
returns-clause-any_moment g c =
    let m = g.M.Media in
    let new = c.make_change.new.journal in
    subst
    (λ (v : JournalView _). v.failed ≡ false → StaysOrChanges v.geometry (disk m v) (changes_of c.args.change.now) c.args.marks (m.moment v.media) (m.moment new.media) (m.left v.media) (m.left new.media)) c.self.view_is c.make_change.ensures.any_moment

pub returns-clause-applied : goal.returns-clause-applied
returns-clause-applied g c =
    let m = g.M.Media in
    subst (λ (v : JournalView _). OnOk c.make_change.result (IsAppliedStore v.geometry (disk m v) (changes_of c.args.change.now) c.args.marks (disk m c.make_change.new.journal))) c.self.view_is c.make_change.ensures.applied

pub returns-clause-no_block : goal.returns-clause-no_block
returns-clause-no_block g c =
    let m = g.M.Media in
    subst (λ (v : JournalView _). IsErrOf c.make_change.result NoBlock → (bs : List (ℕ × ℕ)) × AreWritten v.geometry (disk m v) (changes_of c.args.change.now) bs × HasTooFewData v.geometry (disk m v) (length bs)) c.self.view_is c.make_change.ensures.no_block

pub returns-clause-never : goal.returns-clause-never
returns-clause-never g c =
    let m = g.M.Media in
    subst (λ (v : JournalView _). ((bs : List (ℕ × ℕ)) → AreWritten v.geometry (disk m v) (changes_of c.args.change.now) bs → length bs ≤ 512) → IsErrOf c.make_change.result NoBlock → ⊥) c.self.view_is c.make_change.ensures.never

pub returns-clause-applies : goal.returns-clause-applies
returns-clause-applies g c =
    let m = g.M.Media in
    subst (λ (v : JournalView _). AppliesOrStays m v c.make_change.new.journal c.make_change.result) c.self.view_is c.make_change.ensures.applies

pub returns-clause-at_most : goal.returns-clause-at_most
returns-clause-at_most g c =
    let m = g.M.Media in
    let new = c.make_change.new.journal in
    subst (λ (v : JournalView _). MakesFewCalls v.geometry (disk m v) (changes_of c.args.change.now) (m.moment v.media) (m.moment new.media) (m.left v.media) (m.left new.media)) c.self.view_is c.make_change.ensures.at_most
