use Rattle.std.proofs.Common.{inl, inr, refl}
use Rattle.workload_cli.proofs.KeptMedia.{running_answered}
use Rattle.workload_cli.proofs.script_world.ScriptWorld.answer_running.Goals as goal

pub returns-then-has_stopped : goal.returns-then-has_stopped
returns-then-has_stopped g c =
    running_answered _ _ c.args.self.now c.in-Some.world _ _ _ c.if-self.false c.in-Some.is
    (record {
      then_world = c.answer_line-answer.new.system;
      is = refl;
      found = c.answer_line-answer.result;
      answered = c.answer_line-answer.ensures;
      came = inr (refl, record { may = c.has_stopped.ensures c.if-has_stopped.true; stopped = refl; fills = refl });
      armed = refl;
      stoppable = refl;
    })

pub returns : goal.returns
returns g c =
    running_answered _ _ c.args.self.now c.in-Some.world _ _ _ c.if-self.false c.in-Some.is
    (record {
      then_world = c.answer_line-answer.new.system;
      is = refl;
      found = c.answer_line-answer.result;
      answered = c.answer_line-answer.ensures;
      came = inl (record { is = refl; running = c.if-self.false; fills = refl });
      armed = refl;
      stoppable = refl;
    })
