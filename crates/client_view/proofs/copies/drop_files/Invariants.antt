use Rattle.std.proofs.Common.{◌≡◌}
use Rattle.client_view.specs.KnowledgeChanges.{without_files}
use Rattle.client_view.proofs.copies.drop_files.Given as goal

abbrev pub invariant-loop-inode : goal.invariant-loop-inode
invariant-loop-inode l = l.blocks ≡ without_files l.inode l.fn.blocks
