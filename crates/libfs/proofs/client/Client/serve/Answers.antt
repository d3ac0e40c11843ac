use Rattle.std.proofs.Common.{ℕ, sym, subst}
use Rattle.std.specs.Prelude.{OnOk}
use Rattle.std.proofs.lemmas.Result.{on_ok_weaker}
use Rattle.client_view.specs.client_plan.declared.need.Need.{Need}
use Rattle.libfs.specs.NeedService.{HasFetchedBlocks, HasServed, HasThem}
use Rattle.libfs.proofs.client.Client.serve.Goals as goal

pub returns-in-Blocks-clause-served : goal.returns-in-Blocks-clause-served
returns-in-Blocks-clause-served g c =
    let device = g.M.Media in
    let shared = g.S.Media in
    let k = c.args.kernel.now in
    let old = c.args.self.now in
    let new = c.fetch_blocks.new.self in
    let b = c.in-Blocks in
    subst (λ (need : Need). OnOk c.fetch_blocks.result (HasServed device shared k old need new c.fetch_blocks.new.kernel)) (sym b.is)
    (subst (λ (first : ℕ). OnOk c.fetch_blocks.result (HasFetchedBlocks device shared k old b.inode first b.count new × HasThem device shared k old b.inode first b.count new)) c.block_number.ensures
    (on_ok_weaker c.fetch_blocks.result (λ has. (c.fetch_blocks.ensures.fetched, has)) c.fetch_blocks.ensures.there))
