use Rattle.std.proofs.Common.{◌++◌, ◌+◌, subst, append_assoc}
use Rattle.extent_tree.specs.Normal.{Joins}
use Rattle.extent_tree.specs.Parts.{part}
use Rattle.extent_tree.specs.Changes.{piece}
use Rattle.extent_tree.proofs.Joined.{joins-more}
use Rattle.extent_tree.proofs.map_change.change.Goals as goal

pub returns : goal.returns
returns c =
    let first = c.args.first in
    let end = c.args.first + c.args.count in
    let front = part 0 first c.args.extents.now in
    let middle = piece first c.args.count c.args.place in
    let back = part end 4294967295 c.args.extents.now in
    let l1 = c.push_part.new.extents.items in
    let l2 = c.push_piece.new.extents.items in
    let l3 = c.push_part-2.new.extents.items in
    let one = subst (λ l. Joins first (l ++ front) l1) c.new-list.ensures.items c.in_ok-push_part.ensures in
    let two = joins-more first end front l1 middle l2 one c.in_ok-push_piece.ensures in
    let three = joins-more end 4294967295 (front ++ middle) l2 back l3 two c.in_ok-push_part-2.ensures in
    subst (λ l. Joins 4294967295 l l3) (append_assoc front middle back) three
