use Rattle.std.proofs.Common.{ℕ, subst}
use Rattle.std.specs.Prelude.{IfOk}
use Rattle.shared_area.specs.area_reader.Store.{disk, graph}
use Rattle.digester.specs.Plan.{Finds}
use Rattle.digester.proofs.run_test.test_run.Goals as goal

pub returns-clause-answer : goal.returns-clause-answer
returns-clause-answer g c =
    let old = c.args.area.now in
    let s = disk g.M.Media old in
    subst (λ (n : ℕ). IfOk c.test_over.result (λ found. Finds c.args.held.now n (graph old.geometry s) c.args.records.now found)) c.capacity_of-capacity.ensures c.test_over.ensures.answer
