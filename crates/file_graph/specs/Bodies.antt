-- What the bodies of a plain graph are.
use Rattle.file_graph.specs.declared.node.PlainBody.{PlainBody}
use Rattle.file_graph.specs.declared.node.PlainBody.TheVariants as plain
use Rattle.file_graph.specs.Graph.{Body, FileBody, DirBody}

-- a body without where it lies in memory
abbrev pub body_of : PlainBody → Body
body_of (plain.File bytes) = FileBody bytes
body_of (plain.Directory entries) = DirBody entries
