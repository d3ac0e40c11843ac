use Rattle.std.proofs.Common.{◌≡◌, ◌-◌, ◌*◌, ℕ, length, subst}
use Rattle.std.specs.Prelude.{IfErr, IfOk, OnErr, min}
use Rattle.libfs.specs.kernel_fs.KernelAnswers.{OnRefusal}
use Rattle.libfs.specs.kernel_fs.MachineState.{IsMarkIn}
use Rattle.libfs.specs.area_reader.declared.error.AreaError.TheVariants.{Memory}
use Rattle.libfs.specs.area_reader.Map.{WantsMemory}
use Rattle.libfs.specs.area_reader.Store.{graph, disk}
use Rattle.posix_calls.specs.declared.limits.TheConstants.{UNIT_BYTES}
use Rattle.libfs.specs.shared_area.FileReads.{bytes_of_inode, IsReadFrom}
use Rattle.event_steps.specs.View.{SystemView}
use Rattle.event_steps.proofs.system.System.read_file.Goals as goal

pub returns-clause-count : goal.returns-clause-count
returns-clause-count g c =
    subst (λ (v : SystemView _). IfOk c.blocks-2.result (λ x. x.count ≡ min (length c.args.out.now) (length (bytes_of_inode (graph v.kernel.area.geometry (disk g.M.Media v.kernel.area)) c.args.inode) - UNIT_BYTES * c.args.first))) c.self.view_is c.blocks-2.ensures.count

pub returns-clause-bytes : goal.returns-clause-bytes
returns-clause-bytes g c =
    subst (λ (v : SystemView _). IfOk c.blocks-2.result (λ x. IsReadFrom (bytes_of_inode (graph v.kernel.area.geometry (disk g.M.Media v.kernel.area)) c.args.inode) (UNIT_BYTES * c.args.first) x.count c.args.out.now c.blocks-2.new.out)) c.self.view_is c.blocks-2.ensures.bytes

pub returns-clause-mark : goal.returns-clause-mark
returns-clause-mark g c =
    subst (λ (v : SystemView _). IfOk c.blocks-2.result (λ x. IsMarkIn (disk g.M.Media v.kernel.area) 1 x.mark)) c.self.view_is c.blocks-2.ensures.mark

pub returns-clause-refused : goal.returns-clause-refused
returns-clause-refused g c =
    subst (λ (v : SystemView _). OnErr c.blocks-2.result ((n : ℕ) × IsReadFrom (bytes_of_inode (graph v.kernel.area.geometry (disk g.M.Media v.kernel.area)) c.args.inode) (UNIT_BYTES * c.args.first) n c.args.out.now c.blocks-2.new.out)) c.self.view_is c.blocks-2.ensures.refused

pub returns-clause-memory : goal.returns-clause-memory
returns-clause-memory g c =
    subst (λ (v : SystemView _). IfErr c.blocks-2.result (λ e. OnRefusal e (λ r. r ≡ Memory → WantsMemory v.kernel.area.geometry (disk g.M.Media v.kernel.area) c.args.inode))) c.self.view_is c.blocks-2.ensures.memory
