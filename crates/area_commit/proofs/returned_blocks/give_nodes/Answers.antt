use Rattle.std.proofs.Common.{refl, subst, ◌∙◌, arith}
use Rattle.std.proofs.lemmas.List.{take_all}
use Rattle.block_alloc.specs.declared.runs.Run.{Run}
use Rattle.block_alloc.specs.Runs.{blocks_of}
use Rattle.area_commit.specs.Release.{WereAdded}
use Rattle.area_commit.proofs.Given.{used_here, used_next, added_none, added_next}
use Rattle.area_commit.proofs.returned_blocks.give_nodes.Goals as goal

abbrev none : Run
none = record { first = 0; count = 0 }

pub give_nodes-requires : goal.give_nodes-requires
give_nodes-requires c = record {
  used = used_here (c.runs.pools.nodes) c.args.runs.now c.runs.place none c.runs-test.true c.runs.invariant.used;
  room = omega (arith, c.runs.invariant.room, c.runs-test.true);
}

pub runs-init : goal.runs-init
runs-init c = record {
  added = added_none (c.args.pools.now.nodes);
  used = c.requires.used;
  room = omega (arith, c.requires.room);
  left = omega arith;
  others = λ t. refl;
}

pub runs-preserved : goal.runs-preserved
runs-preserved c =
    let runs = c.args.runs.now in
    let i = c.runs.place in
    let o = c.args.pools.now.nodes in
    let p = c.runs.pools.nodes in
    let q = c.give_nodes.new.self.nodes in
    let given = c.give_nodes.ensures.given in
    record {
      added = added_next o p q runs i none c.runs-test.true c.runs.invariant.added given;
      used = used_next p q runs i none c.runs-test.true given c.runs.invariant.used;
      room = omega (arith, given.room, c.runs.invariant.room);
      left = omega (arith, given.room, c.runs.invariant.left);
      others = λ t. c.give_nodes.ensures.others t ∙ c.runs.invariant.others t;
    }

pub returns-clause-given : goal.returns-clause-given
returns-clause-given c = subst (λ runs. WereAdded (c.args.pools.now.nodes) (c.runs.pools.nodes) (blocks_of runs)) (take_all c.runs.place c.args.runs.now (omega (arith, c.runs-test.false))) c.runs.invariant.added
