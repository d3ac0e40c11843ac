use Rattle.std.proofs.Common.{◌≡◌, ◌-◌, ◌*◌, ℕ, ap, length, ◌∙◌, subst}
use Rattle.std.specs.Prelude.{IfErr, IfOk, OnErr, min}
use Rattle.system_laws.specs.area_reader.Map.{WantsMemory}
use Rattle.system_laws.specs.area_reader.Store.{disk, graph}
use Rattle.system_laws.specs.area_reader.declared.error.AreaError.TheVariants.{Memory}
use Rattle.system_laws.specs.kernel_fs.KernelAnswers.{OnRefusal}
use Rattle.system_laws.specs.kernel_fs.MachineState.{IsMarkIn}
use Rattle.posix_calls.specs.declared.limits.TheConstants.{UNIT_BYTES}
use Rattle.system_laws.specs.shared_area.FileReads.{IsReadFrom, bytes_of_inode}
use Rattle.system_laws.specs.WorldTree.{world_tree}
use Rattle.system_laws.specs.WorldView.{WorldView}
use Rattle.interleavings.proofs.world.World.read_file.Goals as goal

pub invariant_of-self : goal.invariant_of-self
invariant_of-self g c =
    let v : WorldView _ = record { system = c.self.inside.system; calls = c.self.inside.notes.calls } in
    c.looked_system_stands_for_a_world.ensures.world v c.read_file-found.new.self c.read_file-found.result c.self.invariant c.left_now.ensures.leaves.kernel
    c.read_file-found.ensures.looks c.read_file-found.ensures.book c.read_file-found.ensures.opening c.read_file-found.ensures.seats

pub returns-clause-count : goal.returns-clause-count
returns-clause-count g c = subst (λ (w : WorldView _). IfOk c.read_file-found.result (λ x. x.count ≡ min (length c.args.out.now) (length (bytes_of_inode (graph w.system.kernel.area.geometry (disk g.M.Media w.system.kernel.area)) c.args.inode) - UNIT_BYTES * c.args.first))) c.self.view_is c.read_file-found.ensures.count

pub returns-clause-bytes : goal.returns-clause-bytes
returns-clause-bytes g c = subst (λ (w : WorldView _). IfOk c.read_file-found.result (λ x. IsReadFrom (bytes_of_inode (graph w.system.kernel.area.geometry (disk g.M.Media w.system.kernel.area)) c.args.inode) (UNIT_BYTES * c.args.first) x.count c.args.out.now c.read_file-found.new.out)) c.self.view_is c.read_file-found.ensures.bytes

pub returns-clause-mark : goal.returns-clause-mark
returns-clause-mark g c = subst (λ (w : WorldView _). IfOk c.read_file-found.result (λ x. IsMarkIn (disk g.M.Media w.system.kernel.area) 1 x.mark)) c.self.view_is c.read_file-found.ensures.mark

pub returns-clause-refused : goal.returns-clause-refused
returns-clause-refused g c = subst (λ (w : WorldView _). OnErr c.read_file-found.result ((n : ℕ) × IsReadFrom (bytes_of_inode (graph w.system.kernel.area.geometry (disk g.M.Media w.system.kernel.area)) c.args.inode) (UNIT_BYTES * c.args.first) n c.args.out.now c.read_file-found.new.out)) c.self.view_is c.read_file-found.ensures.refused

pub returns-clause-memory : goal.returns-clause-memory
returns-clause-memory g c = subst (λ (w : WorldView _). IfErr c.read_file-found.result (λ e. OnRefusal e (λ r. r ≡ Memory → WantsMemory w.system.kernel.area.geometry (disk g.M.Media w.system.kernel.area) c.args.inode))) c.self.view_is c.read_file-found.ensures.memory

pub returns-clause-tree : goal.returns-clause-tree
returns-clause-tree g c =
    let v : WorldView _ = record { system = c.self.inside.system; calls = c.self.inside.notes.calls } in
    c.looked_system_stands_for_a_world.ensures.tree v c.read_file-found.new.self c.read_file-found.result c.read_file-found.ensures.looks c.read_file-found.ensures.seats ∙ ap (world_tree g.M.Media) c.self.view_is
