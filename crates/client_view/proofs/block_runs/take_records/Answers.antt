use Rattle.std.proofs.Common.{arith}
use Rattle.client_view.proofs.Reached.{as_many, reach_at}
use Rattle.client_view.proofs.block_runs.take_records.Goals as goal

pub bounds-reaches-place : goal.bounds-reaches-place
bounds-reaches-place c = omega (arith, as_many c.args.reaches.now c.args.records.now c.requires.reaches, c.loop-place-test.true)

pub take_record-whole-requires-clause-reach : goal.take_record-whole-requires-clause-reach
take_record-whole-requires-clause-reach c = reach_at c.args.reaches.now c.args.records.now c.loop-place.place _ c.index-records-place.result c.requires.reaches c.loop-place-test.true c.index-records-place.is
