use Rattle.std.proofs.Common.{◌≡◌, ◌<◌, Some}
use Rattle.client_view.specs.After.{bytes_at}
use Rattle.kernel_fs.specs.area_reader.Looks.{Looks, call_answer}
use Rattle.kernel_fs.specs.area_reader.Store.{disk}
use Rattle.kernel_fs.specs.layout.declared.marks.Mark.{Mark}
use Rattle.kernel_fs.specs.MachineState.{IsMarkIn}
use Rattle.lease_manager.specs.Passes.{client_of}
use Rattle.libfs.specs.NeedService.{IsRunOf, shared_by}
use Rattle.libfs.proofs.client.Client.read_run.Given as goal

abbrev pub invariant-loop-place : goal.invariant-loop-place
invariant-loop-place g l =
    let m = g.S.Media in
    record {
      looks : Looks m l.fn.kernel.area l.kernel.area call_answer;
      book : l.kernel.book ≡ l.fn.kernel.book;
      opening : l.kernel.opening ≡ l.fn.kernel.opening;
      run : IsRunOf (bytes_at (shared_by m l.fn.kernel) l.inode) l.first l.place l.run.items;
      mark : 0 < l.place → (mark : Mark) × (l.mark ≡ Some mark) × IsMarkIn (disk m l.fn.kernel.area) (client_of l.self.pass) mark;
    }
