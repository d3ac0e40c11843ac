use Rattle.std.proofs.Common.{arith, Some}
use Rattle.std.proofs.lemmas.Grind.{common_steps}
use Rattle.script.specs.Script.{all_runs}
use Rattle.script.proofs.RunLaws.{cut_behind-with_first, cut_behind-end, cut_behind-whole, cut_behind-never}
use Rattle.script.proofs.data_text.DataText.to_bytes.Goals as goal

pub loop-rest-preserved : goal.loop-rest-preserved
loop-rest-preserved c = record {
  room = grind (arith, common_steps);
  whole = grind (arith, common_steps, cut_behind-with_first c.loop-rest.bytes.items);
}

pub returns-in_default-first_run : goal.returns-in_default-first_run
returns-in_default-first_run c = grind (arith, common_steps, cut_behind-never (all_runs (Some c.args.self.now.text.now)) c.loop-rest.bytes.items)

pub returns : goal.returns
returns c = grind (arith, common_steps, cut_behind-end c.loop-rest.bytes.items, cut_behind-whole (all_runs (Some c.args.self.now.text.now)))
