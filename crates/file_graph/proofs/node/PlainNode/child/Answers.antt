use Rattle.std.proofs.Common.{◌≡◌, ap, sym, ◌∙◌}
use Rattle.std.specs.Ordering.{nat_cmp}
use Rattle.std.specs.Cmp.Lexicographic.{slice_cmp}
use Rattle.std.specs.FinMap as fin
use Rattle.file_graph.specs.Bodies.{body_of}
use Rattle.file_graph.specs.Graph.{Body, Node, body_entries}
use Rattle.file_graph.specs.declared.node.PlainBody.TheVariants as plain
use Rattle.file_graph.proofs.node.PlainNode.child.Goals as goal

pub returns-in-File : goal.returns-in-File
returns-in-File c =
    let file : c.self.inside.body ≡ plain.File c.in-File.field-0 = cc c.in-File.is in
    sym (fin.get-empty (slice_cmp nat_cmp) c.args.name.now)
    ∙ ap (λ (b : Body). fin.get (body_entries b) c.args.name.now) (ap body_of (sym file) ∙ ap (λ (n : Node). n.body) c.self.view_is)
