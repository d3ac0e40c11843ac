use Rattle.std.proofs.Common.{◌≡◌, ℕ, ◌%◌, List, ◌++◌, Some, true, rules, ap, sym, ◌∙◌}
use Rattle.posix_calls.specs.Content.{range}
use Rattle.posix_calls.specs.declared.limits.TheConstants.{UNIT_BYTES}
use Rattle.client_view.specs.KnowledgeTables.{file_block}
use Rattle.client_view.proofs.Joined.{read_is}
use Rattle.client_view.proofs.file_reads.read_file.Goals as goal

pub returns-clause-bytes : goal.returns-clause-bytes
returns-clause-bytes c =
    let kept : c.are_kept.result ≡ true = search rules in
    ap Some c.from_vec.ensures
    ∙ read_is (file_block c.args.file.size c.args.blocks.now c.args.file.inode) c.args.at c.args.count c.blocks_touched-touched.result c.join.new.bytes.items c.blocks_touched-touched.ensures (sym c.are_kept.ensures ∙ kept) (λ joined all. c.in_ok-join.ensures joined all ∙ ap (λ (xs : List ℕ). xs ++ range (c.args.at % UNIT_BYTES) c.args.count joined) c.in_ok-bytes.ensures.items)
