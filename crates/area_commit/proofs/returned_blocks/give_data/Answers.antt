use Rattle.std.proofs.Common.{refl, subst, ◌∙◌, arith}
use Rattle.std.proofs.lemmas.List.{take_all}
use Rattle.block_alloc.specs.declared.runs.Run.{Run}
use Rattle.block_alloc.specs.Runs.{blocks_of}
use Rattle.area_commit.specs.Value.{data_pool}
use Rattle.area_commit.specs.Release.{WereAdded}
use Rattle.area_commit.proofs.Given.{used_here, used_next, added_none, added_next}
use Rattle.area_commit.proofs.returned_blocks.give_data.Goals as goal

abbrev none : Run
none = record { first = 0; count = 0 }

pub give-requires : goal.give-requires
give-requires c = record {
  used = used_here (data_pool c.runs.pools c.args.tier) c.args.runs.now c.runs.place none c.runs-test.true c.runs.invariant.used;
  room = omega (arith, c.runs.invariant.room, c.runs-test.true);
}

pub runs-init : goal.runs-init
runs-init c = record {
  added = added_none (data_pool c.args.pools.now c.args.tier);
  used = c.requires.used;
  room = omega (arith, c.requires.room);
  left = omega arith;
  others = λ t other. refl;
  nodes = refl;
}

pub runs-preserved : goal.runs-preserved
runs-preserved c =
    let runs = c.args.runs.now in
    let i = c.runs.place in
    let o = data_pool c.args.pools.now c.args.tier in
    let p = data_pool c.runs.pools c.args.tier in
    let q = data_pool c.give.new.self c.args.tier in
    let given = c.give.ensures.given in
    record {
      added = added_next o p q runs i none c.runs-test.true c.runs.invariant.added given;
      used = used_next p q runs i none c.runs-test.true given c.runs.invariant.used;
      room = omega (arith, given.room, c.runs.invariant.room);
      left = omega (arith, given.room, c.runs.invariant.left);
      others = λ t other. c.give.ensures.others t other ∙ c.runs.invariant.others t other;
      nodes = c.give.ensures.nodes ∙ c.runs.invariant.nodes;
    }

pub returns-clause-given : goal.returns-clause-given
returns-clause-given c = subst (λ runs. WereAdded (data_pool c.args.pools.now c.args.tier) (data_pool c.runs.pools c.args.tier) (blocks_of runs)) (take_all c.runs.place c.args.runs.now (omega (arith, c.runs-test.false))) c.runs.invariant.added
