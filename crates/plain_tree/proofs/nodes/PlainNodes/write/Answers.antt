use Rattle.std.proofs.Common.{List, Option, Some, refl, subst, sym}
use Rattle.posix_calls.specs.Content.{with_bytes}
use Rattle.posix_calls.specs.Tree.{Node, File, bytes_of}
use Rattle.posix_calls.specs.WellFormed.{IsBare}
use Rattle.plain_tree.specs.Plain.{stored_tree}
use Rattle.plain_tree.proofs.Tallies.{counted_if}
use Rattle.plain_tree.proofs.nodes.PlainNodes.write.Goals as goal

pub invariant_of-self : goal.invariant_of-self
invariant_of-self c =
    counted_if c.write.result c.self.inside.counts.items c.self.inside.nodes.items c.write.new.nodes.items c.args.inode (Some (File (with_bytes c.args.at c.args.bytes.now (bytes_of (stored_tree c.self.inside.nodes.items c.args.inode))))) c.self.invariant
    (subst (λ (nodes : List (Option Node)). IsBare (stored_tree nodes c.args.inode)) (sym c.self.view_is) c.requires) refl c.write.ensures.ok c.write.ensures.err
