use Rattle.std.proofs.Common.{ap}
use Rattle.migrator.proofs.batch_journal_lemmas.Courses.{tiers_same}
use Rattle.migrator.specs.area_reader.Store.{store_of, disk, graph}
use Rattle.kernel_fs.specs.Inodes.{has}
use Rattle.kernel_fs.proofs.MediaSteps.{moved_nodes, opened_kernel}
use Rattle.kernel_fs.proofs.Runs.{begins}
use Rattle.kernel_fs.proofs.kernel.Kernel.open.Goals as goal

pub invariant_of-result : goal.invariant_of-result
invariant_of-result g c = λ still.
    let m = g.M.Media in
    let old = c.args.area in
    let new = c.nodes_of.new.area in
    let looks = c.in-Ok.ensures.looks in (
      moved_nodes m old new (has c.in-Ok.nodes) looks.geometry (ap (λ s. graph old.geometry (store_of s)) (tiers_same (m.seen old.media) (m.seen new.media) looks.unmoved.reads)) c.in-Ok.ensures.nodes,
      begins m new c.of-began.result c.new.result c.of-began.ensures (opened_kernel m new c.new.result c.marks-marks.result (c.marks-marks.ensures looks.going.1) c.new.ensures.opens),
    )

pub of-began-requires : goal.of-began-requires
of-began-requires g c = c.marks-marks.ensures c.in-Ok.ensures.looks.going.1

pub returns-in-Ok-clause-opens : goal.returns-in-Ok-clause-opens
returns-in-Ok-clause-opens g c =
    let m = g.M.Media in
    opened_kernel m c.nodes_of.new.area c.new.result c.marks-marks.result (c.marks-marks.ensures c.in-Ok.ensures.looks.going.1) c.new.ensures.opens

pub returns-in-Ok-clause-booked : goal.returns-in-Ok-clause-booked
returns-in-Ok-clause-booked g c =
    let area = c.nodes_of.new.area in
    λ marks. c.new.ensures.opens (graph area.geometry (disk g.M.Media area)) area.geometry.units marks
