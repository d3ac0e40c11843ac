use Rattle.std.proofs.Common.{[], None}
use Rattle.std.proofs.lemmas.List.Elements.{All-from_recursion, All-get_or}
use Rattle.std.specs.FinMap as fin
use Rattle.graph_change.specs.Bounds.{LeadsToInode}
use Rattle.tree_blocks.proofs.rewrite_laws.bounded_entries_lead_to_inodes.Goals as goal

pub returns : goal.returns
returns c n bounded i lt =
    All-get_or LeadsToInode (fin.entries n.entries) i ([], None) lt (All-from_recursion LeadsToInode (fin.entries n.entries) bounded.entries)
