-- What the nodes of a plain tree are.
use Rattle.std.specs.Prelude.{Option, Some, None}
use Rattle.plain_tree.specs.declared.node.PlainBody.{PlainBody}
use Rattle.plain_tree.specs.declared.node.PlainBody.TheVariants as plain
use Rattle.posix_calls.specs.Tree.{Node, File, Dir}

-- a body without where it lies in memory
abbrev pub node_of : PlainBody → Option Node
node_of plain.Nothing = None
node_of (plain.File bytes) = Some (File bytes)
node_of (plain.Directory entries) = Some (Dir entries)
