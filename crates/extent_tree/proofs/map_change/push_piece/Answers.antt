use Rattle.std.proofs.Common.{◌+◌, ◌++◌, arith, sym, subst}
use Rattle.extent_tree.specs.Normal.{Joins}
use Rattle.extent_tree.specs.Changes.{piece}
use Rattle.extent_tree.proofs.Joined.{joins-none, joins-wider}
use Rattle.extent_tree.proofs.map_change.push_piece.Goals as goal

pub returns-in-None : goal.returns-in-None
returns-in-None c =
    let end = c.args.first + c.args.count in
    let es = c.args.extents.now.items in
    subst (λ o. Joins end (es ++ piece c.args.first c.args.count o) es) (sym c.in-None.is)
    (joins-wider c.args.first end _ es (joins-none c.args.first es c.requires.rising c.requires.apart c.requires.fit) (omega arith))
