use Rattle.std.proofs.Common.{◌∙◌, ap, sym, ℕ, List, ◌/◌}
use Rattle.std.specs.Prelude.{Some, None}
use Rattle.posix_calls.specs.Own.{own_of}
use Rattle.posix_calls.specs.Tree.{Own}
use Rattle.posix_calls.specs.declared.limits.TheConstants.{UNIT_BYTES}
use Rattle.block_cache.specs.CacheList.{Block, used_run}
use Rattle.client_view.specs.KnowledgeTables.{knows}
use Rattle.libfs.specs.BlockUse.{blocks_read}
use Rattle.libfs.proofs.Used.{read_uses}
use Rattle.libfs.proofs.call_start.use_read.Goals as goal

pub returns-in-Some-clause-used : goal.returns-in-Some-clause-used
returns-in-Some-clause-used c =
    let old = c.args.copies.now in
    let own = own_of old.own in
    let number = c.in-Pread.descriptor in
    let opened = ap (λ (o : Own). o number) (sym c.own.ensures) ∙ sym c.get.ensures ∙ c.in-Some.is in
    c.use_range.ensures
    ∙ ap (λ (n : ℕ). record old { blocks = used_run c.in-Some.open.inode (c.in-Pread.at / UNIT_BYTES) (blocks_read c.in-Pread.at n) old.blocks }) c.len.ensures
    ∙ ap (λ (bs : List Block). record old { blocks = bs }) (sym (read_uses c.args.call.now c.args.reply.now own old.blocks number c.in-Pread.at c.in-Pread.count c.in-Read.bytes (Some c.in-Some.open) c.in-Pread.is c.in-Read.is opened))

pub returns-in-Some-clause-known : goal.returns-in-Some-clause-known
returns-in-Some-clause-known c = ap knows c.use_range.ensures ∙ c.used_blocks_are_known_as_before.ensures c.args.copies.now c.in-Some.open.inode (c.in-Pread.at / UNIT_BYTES) (blocks_read c.in-Pread.at c.len.result)

pub returns-in_default-get-clause-used : goal.returns-in_default-get-clause-used
returns-in_default-get-clause-used c =
    let old = c.args.copies.now in
    let number = c.in-Pread.descriptor in
    let none = ap (λ (o : Own). o number) (sym c.own.ensures) ∙ sym c.get.ensures ∙ c.in_default-get.is in
    ap (λ (bs : List Block). record old { blocks = bs }) (sym (read_uses c.args.call.now c.args.reply.now (own_of old.own) old.blocks number c.in-Pread.at c.in-Pread.count c.in-Read.bytes None c.in-Pread.is c.in-Read.is none))
