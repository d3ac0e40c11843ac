use Rattle.std.proofs.Common.{◌≡◌, ◌+◌, ◌-◌, ℕ, None, refl, sym, ap, ◌∙◌, subst, arith}
use Rattle.std.proofs.lemmas.Result.{err_from_is_err_and}
use Rattle.record_validation.specs.file_graph.Graph.{Graph}
use Rattle.record_validation.specs.call_effects.NodeView.{view_at}
use Rattle.graph_check.specs.Questions.{down_from}
use Rattle.graph_check.specs.Tables.{IsRead}
use Rattle.graph_check.proofs.AskedOn.{asked_next}
use Rattle.graph_check.proofs.node_reader.read_nodes.Goals as goal

pub loop-inode-init : goal.loop-inode-init
unfolding down_from
loop-inode-init g c = record {
  stays = refl;
  places = c.requires.places;
  read = c.requires.fresh (g.N.Nodes.graph c.args.nodes.now);
  asked = g.met.N.Nodes.none_asked c.args.nodes.now;
}

pub loop-inode-preserved : goal.loop-inode-preserved
loop-inode-preserved g c =
    let i = c.loop-inode.inode in
    let G = g.N.Nodes.graph c.args.nodes.now in
    let same = c.loop-inode.invariant.stays in
    let fact = c.in_ok-node.ensures in
    let back : i ≡ i + 1 - 1 = omega arith in
    record {
      stays = fact.stays ∙ same;
      places = c.take_answer.ensures.places;
      read = subst (λ (n : ℕ). IsRead G n c.take_answer.new.tables) back (c.take_answer.ensures.read G (ap (λ (h : Graph). view_at h i) (sym same) ∙ fact.seen) c.loop-inode.invariant.read);
      asked = subst (λ (n : ℕ). g.N.Nodes.asked c.args.nodes.now c.node.new.self (down_from n) None) back (asked_next g.N.Nodes.asked g.met.N.Nodes.more_asked c.args.nodes.now c.loop-inode.nodes c.node.new.self i None c.loop-inode.auto.inode c.loop-inode.invariant.asked fact.answered);
    }

pub returns-in_err-node-clause-refused : goal.returns-in_err-node-clause-refused
returns-in_err-node-clause-refused g c =
    let p = err_from_is_err_and c.from_residual.result c.from_residual.ensures.1 in
    rw (p.1, p.2)
    (record {
      n = c.loop-inode.inode;
      inode = (c.loop-inode.auto.inode, omega arith);
      led = asked_next g.N.Nodes.asked g.met.N.Nodes.more_asked c.args.nodes.now c.loop-inode.nodes c.node.new.self c.loop-inode.inode _ c.loop-inode.auto.inode c.loop-inode.invariant.asked c.in_err-node.ensures.refused;
    })
