use Rattle.std.proofs.Common.{◌≡◌, ap, ◌∙◌, subst}
use Rattle.std.specs.Prelude.{IfErr}
use Rattle.system_laws.specs.area_reader.Map.{WantsMemory}
use Rattle.system_laws.specs.area_reader.Store.{disk}
use Rattle.system_laws.specs.area_reader.declared.error.AreaError.TheVariants.{Memory}
use Rattle.system_laws.specs.kernel_fs.KernelAnswers.{OnRefusal}
use Rattle.system_laws.specs.WorldTree.{world_tree}
use Rattle.system_laws.specs.WorldView.{WorldView}
use Rattle.interleavings.proofs.world.World.look.Goals as goal

pub invariant_of-self : goal.invariant_of-self
invariant_of-self g c =
    let v : WorldView _ = record { system = c.self.inside.system; calls = c.self.inside.notes.calls } in
    c.looked_system_stands_for_a_world.ensures.world v c.look-found.new.self c.look-found.result c.self.invariant c.left_now.ensures.leaves.kernel
    c.look-found.ensures.looks c.look-found.ensures.book c.look-found.ensures.opening c.look-found.ensures.seats

pub returns-clause-memory : goal.returns-clause-memory
returns-clause-memory g c = subst (λ (w : WorldView _). IfErr c.look-found.result (λ e. OnRefusal e (λ r. r ≡ Memory → WantsMemory w.system.kernel.area.geometry (disk g.M.Media w.system.kernel.area) c.args.inode))) c.self.view_is c.look-found.ensures.memory

pub returns-clause-tree : goal.returns-clause-tree
returns-clause-tree g c =
    let v : WorldView _ = record { system = c.self.inside.system; calls = c.self.inside.notes.calls } in
    c.looked_system_stands_for_a_world.ensures.tree v c.look-found.new.self c.look-found.result c.look-found.ensures.looks c.look-found.ensures.seats ∙ ap (world_tree g.M.Media) c.self.view_is
