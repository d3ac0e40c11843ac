use Rattle.std.proofs.Common.{sym}
use Rattle.area_commit.specs.layout.declared.places.TheConstants.{FILE_BLOCKS}
use Rattle.area_commit.specs.extent_tree.Map.{lies_at}
use Rattle.area_commit.proofs.Holes.{unmapped, mapped_at}
use Rattle.inode_plan.proofs.Keyed.{none_past}
use Rattle.inode_plan.proofs.numbers.is_mapped.Goals as goal

pub returns-then-number : goal.returns-then-number
returns-then-number c = sym (unmapped (lies_at c.args.map.now) c.args.number (λ t. none_past c.args.map.now t FILE_BLOCKS c.args.number c.requires c.if-number.true))

pub returns-in-Some : goal.returns-in-Some
returns-in-Some c = sym (mapped_at (lies_at c.args.map.now) c.args.number c.in-Some.field-0.tier c.in-Some.field-0.block c.in-Some.ensures.found)

pub returns-in-None : goal.returns-in-None
returns-in-None c = sym (unmapped (lies_at c.args.map.now) c.args.number c.in-None.ensures.none)
