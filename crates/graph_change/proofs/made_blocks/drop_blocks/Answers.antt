use Rattle.std.proofs.Common.{◌∙◌, ℕ, List, None, cond, get_or, take, ap, sym}
use Rattle.std.specs.Prelude.{nat_eq}
use Rattle.std.specs.List.{list_any}
use Rattle.std.specs.FinMap as fin
use Rattle.std.proofs.lemmas.List.{take_more}
use Rattle.graph_change.specs.View.{patches_of}
use Rattle.graph_change.proofs.Making.{dropped_more}
use Rattle.graph_change.proofs.made_blocks.drop_blocks.Goals as goal

pub numbers-preserved : goal.numbers-preserved
numbers-preserved c b =
    let ns : List ℕ = c.args.numbers.now in
    let at : ℕ = c.numbers.at in
    let old = patches_of c.args.blocks.now in
    dropped_more (take at ns) (get_or ns at 0) old c.numbers.blocks c.remove.new.self c.remove.ensures.updates c.numbers.invariant b
    ∙ sym (ap (λ (l : List ℕ). cond (list_any (nat_eq b) l) None (fin.get old b)) (take_more ns at 0 c.numbers-test.true))
