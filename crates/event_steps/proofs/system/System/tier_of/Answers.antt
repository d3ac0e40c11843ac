use Rattle.std.proofs.Common.{◌≡◌, subst}
use Rattle.std.specs.Prelude.{IfErr}
use Rattle.libfs.specs.kernel_fs.KernelAnswers.{OnRefusal}
use Rattle.libfs.specs.area_reader.declared.error.AreaError.TheVariants.{Memory}
use Rattle.libfs.specs.area_reader.Map.{WantsMemory}
use Rattle.libfs.specs.area_reader.Store.{disk}
use Rattle.event_steps.specs.View.{SystemView}
use Rattle.event_steps.proofs.system.System.tier_of.Goals as goal

pub returns-clause-memory : goal.returns-clause-memory
returns-clause-memory g c =
    subst (λ (v : SystemView _). IfErr c.tier_of.result (λ e. OnRefusal e (λ r. r ≡ Memory → WantsMemory v.kernel.area.geometry (disk g.M.Media v.kernel.area) c.args.inode))) c.self.view_is c.tier_of.ensures.memory
