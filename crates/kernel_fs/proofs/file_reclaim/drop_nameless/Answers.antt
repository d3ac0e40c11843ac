use Rattle.std.proofs.Common.{[], ◌∷◌, inl, arith, sym, ◌∙◌, subst}
use Rattle.std.specs.Prelude.{Ok, OnOk}
use Rattle.std.proofs.lemmas.Bool.{false≢true}
use Rattle.migrator.proofs.batch_journal_lemmas.Courses.{any_ok}
use Rattle.world_invariant.specs.file_graph.declared.effect.Effect.TheVariants as effect
use Rattle.migrator.specs.graph_change.Change.{coalesced_changes}
use Rattle.digester.proofs.Composed.{few_looked}
use Rattle.migrator.specs.layout.Places.{Sizes}
use Rattle.migrator.specs.area_reader.Store.{Store, disk, graph}
use Rattle.migrator.proofs.area_reader_lemmas.Looked.{carried_back}
use Rattle.kernel_fs.specs.Reclaim.{AreNameless, IsReclaimed, StaysOrReclaims}
use Rattle.kernel_fs.specs.declared.error.ReclaimError.TheVariants as errors
use Rattle.kernel_fs.proofs.Dropping.{its_inode, nameless_by, still_open, counts_nameless, reclaims_behind}
use Rattle.kernel_fs.proofs.Reclaimed.{fault_looked, in_use_no_fault, looked_stays, stays_behind}
use Rattle.kernel_fs.proofs.file_reclaim.drop_nameless.Goals as goal

pub returns-then-not-is_nameless-clause-any_moment : goal.returns-then-not-is_nameless-clause-any_moment
returns-then-not-is_nameless-clause-any_moment g c =
    let m = g.M.Media in
    let old = c.args.area.now in
    let new = c.node_counts.new.self in
    still_open old.geometry (disk m old) c.args.inode (m.moment old.media) (m.left old.media) (m.moment new.media) (m.seen old.media) (m.seen new.media) (m.left new.media)
    c.in-Ok.ensures.looks.unmoved (c.left_now.ensures.same c.requires.going) (c.left_now.ensures.loose c.requires.going)

pub returns-in-Err-clause-any_moment : goal.returns-in-Err-clause-any_moment
returns-in-Err-clause-any_moment g c =
    let m = g.M.Media in
    let old = c.args.area.now in
    let new = c.node_counts.new.self in
    still_open old.geometry (disk m old) c.args.inode (m.moment old.media) (m.left old.media) (m.moment new.media) (m.seen old.media) (m.seen new.media) (m.left new.media)
    c.in-Err.ensures.looks.unmoved (c.left_now.ensures.same c.requires.going) (c.left_now.ensures.loose c.requires.going)

pub returns-then-not-is_nameless-clause-stays : goal.returns-then-not-is_nameless-clause-stays
returns-then-not-is_nameless-clause-stays g c = let m = g.M.Media in looked_stays m c.args.area.now c.node_counts.new.self c.in-Ok.found errors.InUse in_use_no_fault c.in-Ok.ensures.looks

pub returns-in-Err-clause-stays : goal.returns-in-Err-clause-stays
returns-in-Err-clause-stays g c = let m = g.M.Media in fault_looked m c.args.area.now c.node_counts.new.self c.in-Err.field-0 c.in-Err.ensures.only c.requires.going c.in-Err.ensures.looks

pub returns-else-not-is_nameless-clause-stays : goal.returns-else-not-is_nameless-clause-stays
returns-else-not-is_nameless-clause-stays g c = let m = g.M.Media in stays_behind m c.args.area.now c.node_counts.new.self c.drop_file.new.area c.in-Ok.found c.drop_file.result c.in-Ok.ensures.looks c.drop_file.ensures.stays

pub drop_file-requires-clause-inode : goal.drop_file-requires-clause-inode
drop_file-requires-clause-inode g c =
    let old = c.args.area.now in
    let s : Store = disk g.M.Media old in
    its_inode old.geometry s c.args.inode (nameless_by (graph old.geometry s c.args.inode) (subst AreNameless c.in-Ok.ensures.counts (c.is_nameless.ensures.0 c.if-not-is_nameless.false)))

pub returns-else-not-is_nameless-clause-was : goal.returns-else-not-is_nameless-clause-was
returns-else-not-is_nameless-clause-was g c =
    let old = c.args.area.now in
    let s : Store = disk g.M.Media old in
    any_ok c.drop_file.result (nameless_by (graph old.geometry s c.args.inode) (subst AreNameless c.in-Ok.ensures.counts (c.is_nameless.ensures.0 c.if-not-is_nameless.false)))

pub returns-else-not-is_nameless-clause-dropped : goal.returns-else-not-is_nameless-clause-dropped
returns-else-not-is_nameless-clause-dropped g c =
    let m = g.M.Media in
    carried_back m (λ (x : Sizes) (s : Store). OnOk c.drop_file.result (IsReclaimed x s c.args.inode (disk m c.drop_file.new.area))) c.args.area.now c.node_counts.new.self (Ok c.in-Ok.found) c.in-Ok.ensures.looks c.drop_file.ensures.dropped

pub returns-else-not-is_nameless-clause-any_moment : goal.returns-else-not-is_nameless-clause-any_moment
returns-else-not-is_nameless-clause-any_moment g c =
    let m = g.M.Media in
    let old = c.args.area.now in
    let mid = c.node_counts.new.self in
    let new = c.drop_file.new.area in
    reclaims_behind old.geometry (disk m old) c.args.inode (m.moment old.media) (m.moment mid.media) (m.moment new.media) (m.seen old.media) (m.seen mid.media) (m.left old.media) (m.left mid.media) (m.left new.media) c.in-Ok.ensures.looks.unmoved
    (carried_back m (λ (x : Sizes) (s : Store). StaysOrReclaims x s c.args.inode (m.moment mid.media) (m.moment new.media) (m.left mid.media) (m.left new.media)) old mid (Ok c.in-Ok.found) c.in-Ok.ensures.looks c.drop_file.ensures.any_moment)

pub returns-else-not-is_nameless-clause-in_use : goal.returns-else-not-is_nameless-clause-in_use
returns-else-not-is_nameless-clause-in_use g c = λ is nameless. c.drop_file.ensures.only is

pub returns-then-not-is_nameless-clause-in_use : goal.returns-then-not-is_nameless-clause-in_use
returns-then-not-is_nameless-clause-in_use g c = λ is nameless.
    let old = c.args.area.now in
    let s : Store = disk g.M.Media old in
    false≢true (sym c.if-not-is_nameless.true ∙ c.is_nameless.ensures.1 (subst AreNameless (sym c.in-Ok.ensures.counts) (counts_nameless (graph old.geometry s c.args.inode) nameless)))

pub returns-in-Err-clause-in_use : goal.returns-in-Err-clause-in_use
returns-in-Err-clause-in_use g c = λ is nameless. absurd (cc is)

pub returns-else-not-is_nameless-clause-memory : goal.returns-else-not-is_nameless-clause-memory
returns-else-not-is_nameless-clause-memory g c = λ is.
    let old = c.args.area.now in
    let s : Store = disk g.M.Media old in
    nameless_by (graph old.geometry s c.args.inode) (subst AreNameless c.in-Ok.ensures.counts (c.is_nameless.ensures.0 c.if-not-is_nameless.false))

pub returns-then-not-is_nameless-clause-memory : goal.returns-then-not-is_nameless-clause-memory
returns-then-not-is_nameless-clause-memory g c = λ is. absurd (cc is)

pub returns-in-Err-clause-memory : goal.returns-in-Err-clause-memory
returns-in-Err-clause-memory g c = λ is. absurd (cc is)

pub returns-else-not-is_nameless-clause-at_most : goal.returns-else-not-is_nameless-clause-at_most
returns-else-not-is_nameless-clause-at_most g c =
    let m = g.M.Media in
    few_looked m c.args.area.now c.node_counts.new.self c.drop_file.new.area c.in-Ok.found (coalesced_changes (effect.Drop c.args.inode ∷ [])) c.in-Ok.ensures.looks c.drop_file.ensures.at_most

pub returns-then-not-is_nameless-clause-at_most : goal.returns-then-not-is_nameless-clause-at_most
returns-then-not-is_nameless-clause-at_most g c = inl (let clock = c.in-Ok.ensures.looks.unmoved.clock in omega (arith, clock))

pub returns-in-Err-clause-at_most : goal.returns-in-Err-clause-at_most
returns-in-Err-clause-at_most g c = inl (let clock = c.in-Err.ensures.looks.unmoved.clock in omega (arith, clock))

pub returns-then-not-is_nameless-clause-untouched : goal.returns-then-not-is_nameless-clause-untouched
returns-then-not-is_nameless-clause-untouched g c = λ none. c.in-Ok.ensures.looks.unmoved

pub returns-in-Err-clause-untouched : goal.returns-in-Err-clause-untouched
returns-in-Err-clause-untouched g c = λ none. c.in-Err.ensures.looks.unmoved

pub returns-else-not-is_nameless-clause-untouched : goal.returns-else-not-is_nameless-clause-untouched
returns-else-not-is_nameless-clause-untouched g c = λ none.
    let old = c.args.area.now in
    let s : Store = disk g.M.Media old in
    absurd (none (nameless_by (graph old.geometry s c.args.inode) (subst AreNameless c.in-Ok.ensures.counts (c.is_nameless.ensures.0 c.if-not-is_nameless.false))))
