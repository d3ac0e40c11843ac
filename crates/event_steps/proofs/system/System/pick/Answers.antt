use Rattle.std.proofs.Common.{◌≡◌, ℕ, subst}
use Rattle.std.specs.Prelude.{IfErr, IfOk, IfSome}
use Rattle.libfs.specs.kernel_fs.KernelAnswers.{OnRefusal}
use Rattle.libfs.specs.migrator.RunChoice.{IsPicked, MayBeMoved}
use Rattle.libfs.specs.area_reader.declared.error.AreaError.TheVariants.{Memory}
use Rattle.libfs.specs.area_reader.Map.{WantsMemory}
use Rattle.libfs.specs.area_reader.Store.{disk}
use Rattle.event_steps.specs.View.{SystemView}
use Rattle.event_steps.proofs.system.System.pick.Goals as goal

pub returns-clause-picked : goal.returns-clause-picked
returns-clause-picked g c =
    subst (λ (v : SystemView _). IfOk c.pick.result (IsPicked v.kernel.area.geometry (disk g.M.Media v.kernel.area) c.args.to)) c.self.view_is c.pick.ensures.picked

pub returns-clause-may_be_moved : goal.returns-clause-may_be_moved
returns-clause-may_be_moved g c =
    subst (λ (v : SystemView _). IfOk c.pick.result (λ x. IfSome x (MayBeMoved v.kernel.area.geometry (disk g.M.Media v.kernel.area) c.args.to))) c.self.view_is c.pick.ensures.may_be_moved

pub returns-clause-memory : goal.returns-clause-memory
returns-clause-memory g c =
    subst (λ (v : SystemView _). IfErr c.pick.result (λ e. OnRefusal e (λ r. r ≡ Memory → (i : ℕ) × WantsMemory v.kernel.area.geometry (disk g.M.Media v.kernel.area) i))) c.self.view_is c.pick.ensures.memory
