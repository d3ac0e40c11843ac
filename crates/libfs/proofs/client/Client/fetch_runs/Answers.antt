use Rattle.std.proofs.Common.{◌≡◌, ◌+◌, ◌-◌, ◌*◌, ◌≤◌, ◌/◌, ◌∙◌, subst, arith}
use Rattle.std.proofs.Math.Nat.{div-mul-le_self}
use Rattle.std.proofs.lemmas.Result.{on_ok_weaker}
use Rattle.kernel_fs.specs.area_reader.Looks.{call_answer}
use Rattle.kernel_fs.proofs.area_reader_lemmas.Looked.{looks_on, store_same}
use Rattle.libfs.specs.NeedService.{HasFetchedBlocks, HasThem}
use Rattle.libfs.proofs.FetchedNodes.{has_more, more_came, no_more_than}
use Rattle.libfs.proofs.client.Client.fetch_runs.Goals as goal

pub returns-in_err-fetch_run-clause-fetched : goal.returns-in_err-fetch_run-clause-fetched
returns-in_err-fetch_run-clause-fetched g c =
    let m = g.S.Media in
    let device = g.M.Media in
    let k = c.args.kernel.now in
    let inv = c.loop-run.invariant in
    let then' = c.loop-run.kernel in
    let done = c.loop-run.done in
    let some : c.args.count / 16 * 16 ≤ c.args.count = div-mul-le_self c.args.count 16 in
    no_more_than device m k c.args.self.now c.args.inode c.args.first (done + 16) c.args.count c.fetch_run.new.self (omega (arith, inv.runs, c.loop-run-test.true, some))
    (more_came device m k c.args.self.now c.args.inode c.args.first done 16 then' c.loop-run.self c.fetch_run.new.self inv.fetched c.fetch_run.ensures.fetched (store_same m k.area then'.area call_answer inv.looks) inv.looks.geometry)

pub loop-run-preserved : goal.loop-run-preserved
loop-run-preserved g c =
    let m = g.S.Media in
    let device = g.M.Media in
    let k = c.args.kernel.now in
    let old = c.args.self.now in
    let inv = c.loop-run.invariant in
    let mid = c.loop-run.self in
    let then' = c.loop-run.kernel in
    let done = c.loop-run.done in
    let some : c.args.count / 16 * 16 ≤ c.args.count = div-mul-le_self c.args.count 16 in
    let stores = store_same m k.area then'.area call_answer inv.looks in
    record {
      runs = omega (arith, inv.runs);
      looks = looks_on m k.area then'.area c.fetch_run.new.kernel.area tt call_answer inv.looks (c.in_ok-fetch_run.ensures.looks.looks inv.looks.going.1);
      book = c.fetch_run.ensures.looks.book ∙ inv.book;
      opening = c.fetch_run.ensures.looks.opening ∙ inv.opening;
      fetched = more_came device m k old c.args.inode c.args.first done 16 then' mid c.fetch_run.new.self inv.fetched c.fetch_run.ensures.fetched stores inv.looks.geometry;
      there = has_more device m k old c.args.inode c.args.first done 16 then' mid c.fetch_run.new.self inv.fetched c.fetch_run.ensures.fetched stores inv.looks.geometry (omega (arith, inv.runs, c.loop-run-test.true, some, c.requires.blocks)) inv.there c.in_ok-fetch_run.ensures.there;
    }

pub returns-clause-fetched : goal.returns-clause-fetched
returns-clause-fetched g c =
    let m = g.S.Media in
    let device = g.M.Media in
    let k = c.args.kernel.now in
    let old = c.args.self.now in
    let inv = c.loop-run.invariant in
    let then' = c.loop-run.kernel in
    let done = c.loop-run.done in
    let some : c.args.count / 16 * 16 ≤ c.args.count = div-mul-le_self c.args.count 16 in
    let all : done + (c.args.count - done) ≡ c.args.count = omega (arith, inv.runs, some) in
    subst (λ n. HasFetchedBlocks device m k old c.args.inode c.args.first n c.fetch_run-2.new.self) all
    (more_came device m k old c.args.inode c.args.first done (c.args.count - done) then' c.loop-run.self c.fetch_run-2.new.self inv.fetched c.fetch_run-2.ensures.fetched (store_same m k.area then'.area call_answer inv.looks) inv.looks.geometry)

pub returns-clause-there : goal.returns-clause-there
returns-clause-there g c =
    let m = g.S.Media in
    let device = g.M.Media in
    let k = c.args.kernel.now in
    let old = c.args.self.now in
    let inv = c.loop-run.invariant in
    let then' = c.loop-run.kernel in
    let done = c.loop-run.done in
    let some : c.args.count / 16 * 16 ≤ c.args.count = div-mul-le_self c.args.count 16 in
    let all : done + (c.args.count - done) ≡ c.args.count = omega (arith, inv.runs, some) in
    let stores = store_same m k.area then'.area call_answer inv.looks in
    on_ok_weaker c.fetch_run-2.result
    (λ (has : HasThem device m then' c.loop-run.self c.args.inode (c.args.first + done) (c.args.count - done) c.fetch_run-2.new.self). subst (λ n. HasThem device m k old c.args.inode c.args.first n c.fetch_run-2.new.self) all
    (has_more device m k old c.args.inode c.args.first done (c.args.count - done) then' c.loop-run.self c.fetch_run-2.new.self inv.fetched c.fetch_run-2.ensures.fetched stores inv.looks.geometry (omega (arith, inv.runs, some, c.requires.blocks)) inv.there has))
    c.fetch_run-2.ensures.there
