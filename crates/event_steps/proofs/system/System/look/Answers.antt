use Rattle.std.proofs.Common.{◌≡◌, subst}
use Rattle.std.specs.Prelude.{IfErr, IfOk}
use Rattle.libfs.specs.call_effects.NodeView.{view_at}
use Rattle.libfs.specs.kernel_fs.KernelAnswers.{OnRefusal}
use Rattle.libfs.specs.area_reader.declared.error.AreaError.TheVariants.{Memory}
use Rattle.libfs.specs.area_reader.Map.{WantsMemory}
use Rattle.libfs.specs.kernel_fs.MachineState.{IsMarkIn}
use Rattle.libfs.specs.area_reader.Store.{graph, disk}
use Rattle.event_steps.specs.View.{SystemView}
use Rattle.event_steps.proofs.system.System.look.Goals as goal

pub returns-clause-node : goal.returns-clause-node
returns-clause-node g c =
    subst (λ (v : SystemView _). IfOk c.fetch.result (λ x. x.node ≡ view_at (graph v.kernel.area.geometry (disk g.M.Media v.kernel.area)) c.args.inode)) c.self.view_is c.fetch.ensures.node

pub returns-clause-mark : goal.returns-clause-mark
returns-clause-mark g c =
    subst (λ (v : SystemView _). IfOk c.fetch.result (λ x. IsMarkIn (disk g.M.Media v.kernel.area) 1 x.mark)) c.self.view_is c.fetch.ensures.mark

pub returns-clause-memory : goal.returns-clause-memory
returns-clause-memory g c =
    subst (λ (v : SystemView _). IfErr c.fetch.result (λ e. OnRefusal e (λ r. r ≡ Memory → WantsMemory v.kernel.area.geometry (disk g.M.Media v.kernel.area) c.args.inode))) c.self.view_is c.fetch.ensures.memory
