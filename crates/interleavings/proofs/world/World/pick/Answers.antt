use Rattle.std.proofs.Common.{◌≡◌, ℕ, ap, ◌∙◌, subst}
use Rattle.std.specs.Prelude.{IfErr, IfOk, IfSome}
use Rattle.system_laws.specs.area_reader.Map.{WantsMemory}
use Rattle.system_laws.specs.area_reader.Store.{disk}
use Rattle.system_laws.specs.area_reader.declared.error.AreaError.TheVariants.{Memory}
use Rattle.system_laws.specs.kernel_fs.KernelAnswers.{OnRefusal}
use Rattle.system_laws.specs.migrator.RunChoice.{IsPicked, MayBeMoved}
use Rattle.system_laws.specs.WorldTree.{world_tree}
use Rattle.system_laws.specs.WorldView.{WorldView}
use Rattle.interleavings.proofs.world.World.pick.Goals as goal

pub invariant_of-self : goal.invariant_of-self
invariant_of-self g c =
    let v : WorldView _ = record { system = c.self.inside.system; calls = c.self.inside.notes.calls } in
    c.looked_system_stands_for_a_world.ensures.world v c.pick-found.new.self c.pick-found.result c.self.invariant c.left_now.ensures.leaves.kernel
    c.pick-found.ensures.looks c.pick-found.ensures.book c.pick-found.ensures.opening c.pick-found.ensures.seats

pub returns-clause-tree : goal.returns-clause-tree
returns-clause-tree g c =
    let v : WorldView _ = record { system = c.self.inside.system; calls = c.self.inside.notes.calls } in
    c.looked_system_stands_for_a_world.ensures.tree v c.pick-found.new.self c.pick-found.result c.pick-found.ensures.looks c.pick-found.ensures.seats ∙ ap (world_tree g.M.Media) c.self.view_is

pub returns-clause-picked : goal.returns-clause-picked
returns-clause-picked g c = subst (λ (w : WorldView _). IfOk c.pick-found.result (IsPicked w.system.kernel.area.geometry (disk g.M.Media w.system.kernel.area) c.args.to)) c.self.view_is c.pick-found.ensures.picked

pub returns-clause-may_be_moved : goal.returns-clause-may_be_moved
returns-clause-may_be_moved g c = subst (λ (w : WorldView _). IfOk c.pick-found.result (λ x. IfSome x (MayBeMoved w.system.kernel.area.geometry (disk g.M.Media w.system.kernel.area) c.args.to))) c.self.view_is c.pick-found.ensures.may_be_moved

pub returns-clause-memory : goal.returns-clause-memory
returns-clause-memory g c = subst (λ (w : WorldView _). IfErr c.pick-found.result (λ e. OnRefusal e (λ r. r ≡ Memory → (i : ℕ) × WantsMemory w.system.kernel.area.geometry (disk g.M.Media w.system.kernel.area) i))) c.self.view_is c.pick-found.ensures.memory
