use Rattle.libfs.specs.NeedService.{HasFetchedBlocks, HasThem}
use Rattle.libfs.proofs.client.Client.fetch_run.Given as goal

abbrev pub invariant-loop-place : goal.invariant-loop-place
invariant-loop-place g l =
    let m = g.S.Media in
    record {
      fetched : HasFetchedBlocks g.M.Media m l.fn.kernel l.fn.self l.inode l.first l.place l.self;
      there : HasThem g.M.Media m l.fn.kernel l.fn.self l.inode l.first l.place l.self;
    }
