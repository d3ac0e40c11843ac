use Rattle.std.proofs.Common.{[], ◌∷◌, refl, sym, subst}
use Rattle.std.specs.Prelude.{Err}
use Rattle.world_invariant.specs.file_graph.declared.effect.Effect.TheVariants as effect
use Rattle.migrator.specs.graph_change.Bounds.{AreBounded}
use Rattle.migrator.specs.graph_change.Change.{Changes, Coalesces}
use Rattle.migrator.specs.graph_change.View.{changes_of}
use Rattle.migrator.specs.shared_area.ChangeApply.{MakesFewCalls}
use Rattle.migrator.specs.area_reader.Store.{Store, disk, graph}
use Rattle.migrator.proofs.shared_area_lemmas.Sound.{found_change}
use Rattle.kernel_fs.proofs.Dropping.{charge_fits, few_entries, few_images, none_written, one_inode, reclaimed, then_reclaimed}
use Rattle.kernel_fs.proofs.Reclaimed.{applied_stays, apply_stays, change_no_use}
use Rattle.kernel_fs.proofs.file_reclaim.drop_node.Goals as goal

pub apply-requires-clause-bounded : goal.apply-requires-clause-bounded
apply-requires-clause-bounded g c = subst AreBounded (sym c.requires.change) (c.changes_keep_to_the_limits.ensures.coalesced (effect.Drop c.args.inode ∷ []) (one_inode c.args.inode c.requires.inode, tt))

pub apply-requires-clause-images : goal.apply-requires-clause-images
apply-requires-clause-images g c = few_images c.args.inode (changes_of c.args.change.now) c.requires.change

pub apply-requires-clause-entries : goal.apply-requires-clause-entries
apply-requires-clause-entries g c =
    let i = c.args.inode in
    let law = subst (Coalesces (effect.Drop i ∷ [])) (sym c.requires.change) (c.changes_are_the_effects.ensures (effect.Drop i ∷ [])) in
    let old = c.args.area.now in
    λ going j its. few_entries i (changes_of c.args.change.now) law (graph old.geometry (disk g.M.Media old)) j its

pub apply-requires-clause-units : goal.apply-requires-clause-units
apply-requires-clause-units g c =
    let i = c.args.inode in
    let law = subst (Coalesces (effect.Drop i ∷ [])) (sym c.requires.change) (c.changes_are_the_effects.ensures (effect.Drop i ∷ [])) in
    let old = c.args.area.now in
    λ going. charge_fits i (changes_of c.args.change.now) law (graph old.geometry (disk g.M.Media old)) old.geometry.units (c.left_now.ensures.opens c.requires.going).units

pub reclaim_error-requires : goal.reclaim_error-requires
reclaim_error-requires g c =
    let i = c.args.inode in
    let law = subst (Coalesces (effect.Drop i ∷ [])) (sym c.requires.change) (c.changes_are_the_effects.ensures (effect.Drop i ∷ [])) in
    let old = c.args.area.now in
    found_change (Err c.in-Err.error) c.in-Err.ensures.only (c.in-Err.ensures.never (λ bs are. none_written i (changes_of c.args.change.now) law old.geometry (disk g.M.Media old) bs are))

pub returns-in-Ok-clause-dropped : goal.returns-in-Ok-clause-dropped
returns-in-Ok-clause-dropped g c =
    let i = c.args.inode in
    let law = subst (Coalesces (effect.Drop i ∷ [])) (sym c.requires.change) (c.changes_are_the_effects.ensures (effect.Drop i ∷ [])) in
    let old = c.args.area.now in
    reclaimed i (changes_of c.args.change.now) law old.geometry (disk g.M.Media old) c.marks-marks.result (disk g.M.Media c.apply.new.self)
    (c.marks-marks.ensures c.requires.going) c.in-Ok.ensures.applied

pub returns-in-Ok-clause-any_moment : goal.returns-in-Ok-clause-any_moment
returns-in-Ok-clause-any_moment g c =
    let m = g.M.Media in
    let i = c.args.inode in
    let law = subst (Coalesces (effect.Drop i ∷ [])) (sym c.requires.change) (c.changes_are_the_effects.ensures (effect.Drop i ∷ [])) in
    let old = c.args.area.now in
    let s : Store = disk m old in
    then_reclaimed old.geometry s i (m.moment old.media) (m.left old.media) (m.moment old.media) (m.moment c.apply.new.self.media) (m.seen old.media) (m.seen old.media) (m.left old.media) (m.left c.apply.new.self.media)
    (changes_of c.args.change.now) c.marks-marks.result (record { clock = refl; reads = λ t. refl; past = λ n t x le l. l; kept = λ n t x le l. l })
    (λ new applied. reclaimed i (changes_of c.args.change.now) law old.geometry s c.marks-marks.result new (c.marks-marks.ensures c.requires.going) applied)
    (c.in-Ok.ensures.any_moment c.requires.going)

pub returns-in-Err-clause-any_moment : goal.returns-in-Err-clause-any_moment
returns-in-Err-clause-any_moment g c =
    let m = g.M.Media in
    let i = c.args.inode in
    let law = subst (Coalesces (effect.Drop i ∷ [])) (sym c.requires.change) (c.changes_are_the_effects.ensures (effect.Drop i ∷ [])) in
    let old = c.args.area.now in
    let s : Store = disk m old in
    then_reclaimed old.geometry s i (m.moment old.media) (m.left old.media) (m.moment old.media) (m.moment c.apply.new.self.media) (m.seen old.media) (m.seen old.media) (m.left old.media) (m.left c.apply.new.self.media)
    (changes_of c.args.change.now) c.marks-marks.result (record { clock = refl; reads = λ t. refl; past = λ n t x le l. l; kept = λ n t x le l. l })
    (λ new applied. reclaimed i (changes_of c.args.change.now) law old.geometry s c.marks-marks.result new (c.marks-marks.ensures c.requires.going) applied)
    (c.in-Err.ensures.any_moment c.requires.going)

pub returns-in-Ok-clause-stays : goal.returns-in-Ok-clause-stays
returns-in-Ok-clause-stays g c = let m = g.M.Media in applied_stays m c.args.area.now c.apply.new.self c.in-Ok.ensures.applies

pub returns-in-Err-clause-stays : goal.returns-in-Err-clause-stays
returns-in-Err-clause-stays g c = let m = g.M.Media in apply_stays m c.args.area.now c.apply.new.self c.in-Err.error c.reclaim_error.result c.reclaim_error.ensures c.requires.going c.in-Err.ensures.applies

pub returns-in-Ok-clause-at_most : goal.returns-in-Ok-clause-at_most
returns-in-Ok-clause-at_most g c =
    let m = g.M.Media in
    let old = c.args.area.now in
    subst (λ (cs : Changes). MakesFewCalls old.geometry (disk m old) cs (m.moment old.media) (m.moment c.apply.new.self.media) (m.left old.media) (m.left c.apply.new.self.media)) c.requires.change c.in-Ok.ensures.at_most

pub returns-in-Err-clause-at_most : goal.returns-in-Err-clause-at_most
returns-in-Err-clause-at_most g c =
    let m = g.M.Media in
    let old = c.args.area.now in
    subst (λ (cs : Changes). MakesFewCalls old.geometry (disk m old) cs (m.moment old.media) (m.moment c.apply.new.self.media) (m.left old.media) (m.left c.apply.new.self.media)) c.requires.change c.in-Err.ensures.at_most

pub returns-in-Err-clause-only : goal.returns-in-Err-clause-only
returns-in-Err-clause-only g c = λ is. change_no_use c.in-Err.error c.reclaim_error.result c.reclaim_error.ensures is
