use Rattle.std.proofs.Common.{ℕ, List, subst}
use Rattle.area_commit.specs.Batches.{PutsImage}
use Rattle.area_commit.proofs.ByNumber.{puts, nodes_still}
use Rattle.area_commit.proofs.nodes.NodeImages.insert.Goals as goal

pub returns-clause-put : goal.returns-clause-put
returns-clause-put c =
    subst (λ (es : List (ℕ × List ℕ)). PutsImage c.args.number c.args.image es c.insert.new.self.entries) c.self.view_is (puts c.args.number c.args.image c.self.inside.images c.insert.new.self c.in_ok-insert.ensures.updates)

pub returns-clause-nodes : goal.returns-clause-nodes
returns-clause-nodes c =
    nodes_still c.args.number c.args.image c.args.self.now c.insert.new.self.entries
    (subst (λ (es : List (ℕ × List ℕ)). PutsImage c.args.number c.args.image es c.insert.new.self.entries) c.self.view_is (puts c.args.number c.args.image c.self.inside.images c.insert.new.self c.in_ok-insert.ensures.updates))
