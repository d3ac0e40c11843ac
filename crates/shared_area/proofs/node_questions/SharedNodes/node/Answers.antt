use Rattle.std.proofs.Common.{◌≡◌, refl, Ok, Err}
use Rattle.std.proofs.lemmas.Result.{err_from_is_err_and}
use Rattle.area_reader.specs.Store.{disk, graph}
use Rattle.area_reader.proofs.Looked.{carried, looks_err, looks_answer}
use Rattle.shared_area.proofs.node_questions.SharedNodes.node.Goals as goal

pub returns-clause-stays : goal.returns-clause-stays
returns-clause-stays g c =
    let m = g.M.Media in
    let old = c.args.self.now in
    carried m (λ x s. graph x s ≡ graph old.geometry (disk m old)) old c.node.new.self (Ok c.in_ok-node.node) c.in_ok-node.ensures.looks refl

pub returns-in_err-node-clause-stays : goal.returns-in_err-node-clause-stays
returns-in_err-node-clause-stays g c =
    let m = g.M.Media in
    let old = c.args.self.now in
    carried m (λ x s. graph x s ≡ graph old.geometry (disk m old)) old c.node.new.self (Err c.in_err-node.field-0.0) c.in_err-node.ensures.looks refl

pub returns-clause-answered : goal.returns-clause-answered
returns-clause-answered g c =
    let m = g.M.Media in
    λ going. (looks_answer m c.args.self.now c.node.new.self c.in_ok-node.node tt c.in_ok-node.ensures.looks, tt)

pub returns-in_err-node-clause-refused : goal.returns-in_err-node-clause-refused
returns-in_err-node-clause-refused g c =
    let m = g.M.Media in
    let p = err_from_is_err_and c.from_residual.result c.from_residual.ensures.1 in
    rw (p.1, p.2) (λ going. (looks_err m c.args.self.now c.node.new.self c.in_err-node.field-0.0 c.in_err-node.ensures.looks, c.in_err-node.ensures.only))
