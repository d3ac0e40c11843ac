-- What is closed where a node is open once less.
use Rattle.std.proofs.Common.{◌≡◌, ◌<◌, ◌≤◌, None, refl}
use Rattle.std.proofs.lemmas.Bool.{le-ltb, lt-ltb}
use Rattle.mount_nodes.specs.declared.node.Node.{Node}
use Rattle.mount_nodes.specs.Files.{last_descriptor}

pub kept_open : (node : Node) → 1 < node.opens → last_descriptor node ≡ None
kept_open node more = rw (lt-ltb 1 node.opens more) refl

pub closed_last : (node : Node) → node.opens ≤ 1 → last_descriptor node ≡ node.descriptor
closed_last node last = rw (le-ltb 1 node.opens last) refl
