use Rattle.std.proofs.Common.{◌∙◌, inl, sym}
use Rattle.inode_plan.specs.graph_change.View.{change_of}
use Rattle.inode_plan.specs.extent_tree.Map.{lies_at}
use Rattle.inode_plan.specs.area_reader.Store.{disk}
use Rattle.inode_plan.specs.area_commit.InodeChange.{places_from}
use Rattle.inode_plan.proofs.After.{numbers_over}
use Rattle.change_plan.proofs.PlansFile.{long}
use Rattle.change_plan.proofs.block_count.count_written.Goals as goal

pub returns-clause-wanted : goal.returns-clause-wanted
returns-clause-wanted g c =
    let old = c.args.journal.now in
    let change = change_of c.args.change.now in
    let numbers = c.in_ok-numbers.numbers in
    let are = numbers_over (lies_at c.in_ok-map.map) change numbers.items c.in_ok-numbers.ensures.numbers (places_from old.geometry (disk g.M.Media old) c.args.inode change.base) c.in_ok-map.ensures.same in
    inl (c.requires.is_file, numbers.items, are, sym (c.len.ensures ∙ long numbers))
