use Rattle.std.proofs.Common.{◌≡◌, ◌+◌, ◌≤◌, arith}
use Rattle.std.specs.FinMap as fin
use Rattle.posix_calls.specs.Content.{Entries}
use Rattle.graph_change.specs.file_graph.NameOrder.{pairs}
use Rattle.graph_change.specs.Net.{Child, with_entries}
use Rattle.tree_blocks.specs.Inode.{entry_at, named_entries}
use Rattle.tree_blocks.specs.Directory.{numbered_blocks, coming_count}
use Rattle.tree_blocks.proofs.Directories.{len_named}
use Rattle.tree_blocks.proofs.NameChanges.{len_bound}
use Rattle.tree_blocks.proofs.name_changes.are_too_many.Goals as goal

pub returns-then-count-coming_count : goal.returns-then-count-coming_count
returns-then-count-coming_count c =
    let m : Entries Child = named_entries (entry_at (numbered_blocks c.args.blocks.now)) c.args.count in
    let bound : fin.len (with_entries (pairs c.args.changes.now) m) ≤ fin.len m + coming_count (pairs c.args.changes.now) = len_bound (pairs c.args.changes.now) m in
    let long : fin.len m ≡ c.args.count = len_named (entry_at (numbered_blocks c.args.blocks.now)) c.args.count c.requires.held.1.directory.distinct in
    (λ t. absurd (cc), λ over. absurd (omega (arith, over, bound, long, c.coming_count.ensures.count, c.if-count-coming_count.true)))
