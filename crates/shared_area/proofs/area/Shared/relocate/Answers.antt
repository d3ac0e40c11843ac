use Rattle.std.proofs.Common.{◌≡◌, false, length, refl, subst}
use Rattle.std.specs.Prelude.{OnOk, IsErrOf}
use Rattle.area_reader.specs.batch_journal.View.{JournalView}
use Rattle.area_reader.specs.Store.{disk, graph, marks}
use Rattle.change_plan.specs.area_commit.Value.{data_pool}
use Rattle.relocation.specs.TierMove.{CanMove, IsMoved}
use Rattle.relocation.specs.RunMove.{LieInLowest, MovesInFewCalls}
use Rattle.area_reader.specs.declared.error.AreaError.TheVariants.{NoBlock}
use Rattle.shared_area.specs.TierMoves.{HasTooFew, HasEnough, StaysOpen, MovesOrStays}
use Rattle.shared_area.proofs.Counts.{data_count}
use Rattle.shared_area.proofs.Moved.{ready_moved, stays_open, moves_or_stays, ok_moved, ok_lowest, ok_graph, ok_marks, ok_enough, err_few}
use Rattle.shared_area.proofs.area.Shared.relocate.Goals as goal

pub relocate-requires : goal.relocate-requires
relocate-requires g c = λ going. let ready = c.self.invariant going in record { opens = ready.opens; rests = ready.rests; ranges = ready.ranges; free = ready.free }

pub invariant_of-self : goal.invariant_of-self
invariant_of-self g c =
    let m = g.M.Media in
    let is = c.relocate.ensures in
    ready_moved m c.self.inside.journal c.relocate.new.journal c.relocate.result c.self.inside.pools c.relocate.new.pools c.self.inside.marks c.self.inside.units c.args.inode c.args.first c.args.count c.args.to
    is.moved is.unmoved (λ fault. (is.fault fault).0) is.settled (λ failed. (is.stays_failed failed).1) is.geometry c.self.invariant

pub returns-clause-any_moment : goal.returns-clause-any_moment
returns-clause-any_moment g c =
    let m = g.M.Media in
    let old = c.self.inside.journal in
    let new = c.relocate.new.journal in
    subst
    (λ (v : JournalView _). v.failed ≡ false → StaysOpen v.geometry (disk m v) c.args.inode c.args.first c.args.count c.args.to (m.moment v.media) (m.moment new.media) (m.left v.media) (m.left new.media))
    c.self.view_is
    (λ going. stays_open old.geometry (disk m old) c.args.inode c.args.first c.args.count c.args.to (m.moment old.media) (m.moment new.media) (m.left old.media) (m.left new.media) (c.self.invariant going).opens (c.relocate.ensures.any_moment going))

pub returns-clause-moved : goal.returns-clause-moved
returns-clause-moved g c =
    let m = g.M.Media in
    let old = c.self.inside.journal in
    let left = disk m c.relocate.new.journal in
    subst (λ (v : JournalView _). OnOk c.relocate.result (IsMoved v.geometry (disk m v) left c.args.inode c.args.first c.args.count c.args.to)) c.self.view_is
    (ok_moved old.geometry (disk m old) c.args.inode c.args.first c.args.count c.args.to left c.relocate.result c.relocate.ensures.moved)

pub returns-clause-lowest : goal.returns-clause-lowest
returns-clause-lowest g c =
    let m = g.M.Media in
    let old = c.self.inside.journal in
    let left = disk m c.relocate.new.journal in
    subst (λ (v : JournalView _). OnOk c.relocate.result (LieInLowest v.geometry (disk m v) left c.args.inode c.args.first c.args.count c.args.to)) c.self.view_is
    (ok_lowest old.geometry (disk m old) c.args.inode c.args.first c.args.count c.args.to left c.relocate.result c.relocate.ensures.moved)

pub returns-clause-few : goal.returns-clause-few
returns-clause-few g c =
    let m = g.M.Media in
    let new = c.relocate.new.journal in
    subst (λ (v : JournalView _). MovesInFewCalls v.geometry (disk m v) c.args.to c.args.count (m.moment v.media) (m.moment new.media)) c.self.view_is c.relocate.ensures.few

pub returns-clause-same_graph : goal.returns-clause-same_graph
returns-clause-same_graph g c =
    let m = g.M.Media in
    let old = c.self.inside.journal in
    let left = disk m c.relocate.new.journal in
    subst (λ (v : JournalView _). OnOk c.relocate.result (graph v.geometry left ≡ graph v.geometry (disk m v))) c.self.view_is
    (ok_graph old.geometry (disk m old) c.args.inode c.args.first c.args.count c.args.to left c.relocate.result c.relocate.ensures.moved)

pub returns-clause-same_marks : goal.returns-clause-same_marks
returns-clause-same_marks g c =
    let m = g.M.Media in
    let old = c.self.inside.journal in
    let left = disk m c.relocate.new.journal in
    subst (λ (v : JournalView _). OnOk c.relocate.result (marks left ≡ marks (disk m v))) c.self.view_is
    (ok_marks old.geometry (disk m old) c.args.inode c.args.first c.args.count c.args.to left c.relocate.result c.relocate.ensures.moved)

pub returns-clause-no_block : goal.returns-clause-no_block
returns-clause-no_block g c =
    let m = g.M.Media in
    let old = c.self.inside.journal in
    let s = disk m old in
    let pools = c.self.inside.pools in
    let t = c.args.to in
    subst (λ (v : JournalView _). IsErrOf c.relocate.result NoBlock → CanMove v.geometry (disk m v) c.args.inode c.args.first c.args.count t × HasTooFew v.geometry (disk m v) t c.args.count) c.self.view_is
    (err_few old.failed old.geometry s t (length (data_pool pools t).free) c.args.count
    (λ going. let ready = c.self.invariant going in data_count old.geometry s pools ready.ranges ready.free c.free-free.ensures.ordered (length (data_pool pools t).free) t refl)
    (CanMove old.geometry s c.args.inode c.args.first c.args.count t) c.relocate.result (λ was. (c.relocate.ensures.stays_failed was).0) c.relocate.ensures.no_block)

pub returns-clause-can : goal.returns-clause-can
returns-clause-can g c =
    let m = g.M.Media in
    let old = c.self.inside.journal in
    let s = disk m old in
    let pools = c.self.inside.pools in
    let t = c.args.to in
    subst (λ (v : JournalView _). OnOk c.relocate.result (CanMove v.geometry (disk m v) c.args.inode c.args.first c.args.count t × HasEnough v.geometry (disk m v) t c.args.count)) c.self.view_is
    (ok_enough old.failed old.geometry s t (length (data_pool pools t).free) c.args.count
    (λ going. let ready = c.self.invariant going in data_count old.geometry s pools ready.ranges ready.free c.free-free.ensures.ordered (length (data_pool pools t).free) t refl)
    (CanMove old.geometry s c.args.inode c.args.first c.args.count t) c.relocate.result (λ was. (c.relocate.ensures.stays_failed was).0) c.relocate.ensures.can)

pub returns-clause-moves : goal.returns-clause-moves
returns-clause-moves g c =
    let m = g.M.Media in
    let is = c.relocate.ensures in
    subst (λ (v : JournalView _). MovesOrStays m v c.relocate.new.journal c.relocate.result) c.self.view_is
    (moves_or_stays m c.self.inside.journal c.relocate.new.journal c.relocate.result is.unmoved is.fault (λ was. ((is.stays_failed was).0, (is.stays_failed was).1)) is.quiet is.geometry is.faults is.one_fault)
