use Rattle.std.proofs.Common.{◌≡◌, ◌+◌, refl, subst, arith}
use Rattle.libfs.specs.NeedService.{HasThem}
use Rattle.libfs.proofs.FetchedNodes.{no_more_than, none_came}
use Rattle.libfs.proofs.FetchedRuns.{has_put, put_more}
use Rattle.libfs.proofs.client.Client.fetch_run.Goals as goal

pub returns-in_err-run-clause-fetched : goal.returns-in_err-run-clause-fetched
returns-in_err-run-clause-fetched g c = none_came g.M.Media g.S.Media c.args.kernel.now c.args.self.now c.args.inode c.args.self.now c.args.first c.args.count refl

pub returns-in_err-put_laid-clause-fetched : goal.returns-in_err-put_laid-clause-fetched
returns-in_err-put_laid-clause-fetched g c =
    let place = c.loop-place.place in
    no_more_than g.M.Media g.S.Media c.args.kernel.now c.args.self.now c.args.inode c.args.first (place + 1) c.args.count c.put_laid.new.self (omega arith)
    (put_more g.M.Media g.S.Media c.args.kernel.now c.args.self.now c.loop-place.self c.put_laid.new.self c.args.inode c.args.first c.args.count place c.in_ok-run.run'.items c.index.result.now c.index.ensures c.put_laid.result c.loop-place-test.true
    c.requires.blocks c.in_ok-run.ensures.laid c.loop-place.invariant.fetched c.put_laid.ensures.put c.put_laid.ensures.same)

pub loop-place-preserved : goal.loop-place-preserved
loop-place-preserved g c =
    let place = c.loop-place.place in
    let inv = c.loop-place.invariant in
    record {
      fetched =
          put_more g.M.Media g.S.Media c.args.kernel.now c.args.self.now c.loop-place.self c.put_laid.new.self c.args.inode c.args.first c.args.count place c.in_ok-run.run'.items c.index.result.now c.index.ensures c.put_laid.result c.loop-place-test.true
          c.requires.blocks c.in_ok-run.ensures.laid inv.fetched c.put_laid.ensures.put c.put_laid.ensures.same;
      there =
          has_put g.M.Media g.S.Media c.args.kernel.now c.args.self.now c.loop-place.self c.put_laid.new.self c.args.inode c.args.first c.args.count place c.in_ok-run.run'.items c.index.result.now c.index.ensures c.put_laid.result c.loop-place-test.true
          c.requires.blocks c.in_ok-run.ensures.laid inv.fetched c.put_laid.ensures.put c.put_laid.ensures.same inv.there c.in_ok-put_laid.ensures.put;
    }

pub returns-clause-there : goal.returns-clause-there
returns-clause-there g c =
    let all : c.loop-place.place ≡ c.args.count = omega arith in
    subst (λ n. HasThem g.M.Media g.S.Media c.args.kernel.now c.args.self.now c.args.inode c.args.first n c.loop-place.self) all c.loop-place.invariant.there
