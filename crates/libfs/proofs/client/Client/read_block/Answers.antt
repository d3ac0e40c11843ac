use Rattle.std.proofs.Common.{◌*◌, List, ℕ, Some, length, take, ap, ◌∙◌, arith}
use Rattle.client_view.specs.After.{bytes_at}
use Rattle.libfs.specs.NeedService.{shared_by}
use Rattle.libfs.proofs.FetchedRuns.{lent_back}
use Rattle.libfs.proofs.Lengths.{read_is_block}
use Rattle.libfs.proofs.client.Client.read_block.Goals as goal

pub returns-in-Ok-blocks-clause-block : goal.returns-in-Ok-blocks-clause-block
returns-in-Ok-blocks-clause-block g c =
    let found = c.in-Ok-blocks.found in
    let old = c.deref_mut.result.now in
    let whole = ap (λ (xs : List ℕ). length xs) c.deref_mut.ensures.value ∙ c.in-Ok.ensures in
    let long = c.blocks-2.auto.out ∙ whole in
    c.of.ensures
    ∙ ap (λ (xs : List ℕ). Some (take found.count xs)) (lent_back c.in-Ok.buffer.len c.blocks-2.new.out c.in-Ok.buffer.items (omega (arith, c.in-Ok.buffer.ok.0, c.in-Ok.ensures, long)))
    ∙ ap (λ (xs : List ℕ). Some xs) (read_is_block (bytes_at (shared_by g.S.Media c.args.kernel.now) c.args.inode) old c.blocks-2.new.out (4096 * c.args.block) found.count whole c.in-Ok-blocks.ensures.count c.in-Ok-blocks.ensures.bytes)
