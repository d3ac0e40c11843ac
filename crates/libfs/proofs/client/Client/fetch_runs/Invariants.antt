use Rattle.std.proofs.Common.{◌≡◌, ◌*◌}
use Rattle.kernel_fs.specs.area_reader.Looks.{Looks, call_answer}
use Rattle.libfs.specs.NeedService.{HasFetchedBlocks, HasThem}
use Rattle.libfs.proofs.client.Client.fetch_runs.Given as goal

abbrev pub invariant-loop-run : goal.invariant-loop-run
invariant-loop-run g l =
    let m = g.S.Media in
    record {
      runs : l.done ≡ 16 * l.run;
      looks : Looks m l.fn.kernel.area l.kernel.area call_answer;
      book : l.kernel.book ≡ l.fn.kernel.book;
      opening : l.kernel.opening ≡ l.fn.kernel.opening;
      fetched : HasFetchedBlocks g.M.Media m l.fn.kernel l.fn.self l.inode l.first l.done l.self;
      there : HasThem g.M.Media m l.fn.kernel l.fn.self l.inode l.first l.done l.self;
    }
