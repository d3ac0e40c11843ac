use Rattle.std.proofs.Common.{ap, ◌∙◌}
use Rattle.system_laws.specs.WorldTree.{world_tree}
use Rattle.system_laws.specs.WorldView.{WorldView}
use Rattle.interleavings.proofs.world.World.tier_of.Goals as goal

pub invariant_of-self : goal.invariant_of-self
invariant_of-self g c =
    let v : WorldView _ = record { system = c.self.inside.system; calls = c.self.inside.notes.calls } in
    c.looked_system_stands_for_a_world.ensures.world v c.tier_of-found.new.self c.tier_of-found.result c.self.invariant c.left_now.ensures.leaves.kernel
    c.tier_of-found.ensures.looks c.tier_of-found.ensures.book c.tier_of-found.ensures.opening c.tier_of-found.ensures.seats

pub returns-clause-tree : goal.returns-clause-tree
returns-clause-tree g c =
    let v : WorldView _ = record { system = c.self.inside.system; calls = c.self.inside.notes.calls } in
    c.looked_system_stands_for_a_world.ensures.tree v c.tier_of-found.new.self c.tier_of-found.result c.tier_of-found.ensures.looks c.tier_of-found.ensures.seats ∙ ap (world_tree g.M.Media) c.self.view_is
