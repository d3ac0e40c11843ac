use Rattle.std.proofs.Common.{◌∙◌, ℕ, List, None, cond, ap}
use Rattle.std.specs.Prelude.{nat_eq}
use Rattle.std.specs.List.{list_any}
use Rattle.std.specs.FinMap as fin
use Rattle.graph_change.specs.View.{patches_of}
use Rattle.graph_change.proofs.Making.{dropped}
use Rattle.graph_change.proofs.made_blocks.make_blocks.Goals as goal

pub returns-clause-refused : goal.returns-clause-refused
returns-clause-refused c =
    let now = patches_of c.make_each.new.blocks in
    dropped c.make_each.new.made.items (patches_of c.args.blocks.now) now (patches_of c.drop_blocks.new.blocks) c.make_each.ensures.made
    (λ b. c.drop_blocks.ensures b ∙ ap (λ (ns : List ℕ). cond (list_any (nat_eq b) ns) None (fin.get now b)) c.deref.ensures.value)
