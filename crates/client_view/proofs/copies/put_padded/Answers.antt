use Rattle.std.proofs.Common.{List, ℕ, ap, sym, ◌∙◌}
use Rattle.std.proofs.lemmas.Result.{on_ok_weaker}
use Rattle.block_cache.specs.declared.bytes.TheConstants.{BLOCK_SIZE}
use Rattle.block_cache.specs.CacheList.{put_block}
use Rattle.client_view.proofs.Put.{whole_is_padded}
use Rattle.client_view.proofs.copies.put_padded.Goals as goal

pub returns-then-bytes-eq-BLOCK_SIZE-clause-put : goal.returns-then-bytes-eq-BLOCK_SIZE-clause-put
returns-then-bytes-eq-BLOCK_SIZE-clause-put c = on_ok_weaker c.put.result (λ e. e ∙ ap (λ (xs : List ℕ). put_block c.args.inode c.args.block xs c.args.blocks.now) (sym (whole_is_padded BLOCK_SIZE c.args.bytes.now c.if-bytes-eq-BLOCK_SIZE.true))) c.put.ensures.put
