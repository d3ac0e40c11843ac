use Rattle.workload_cli.specs.Script.{IsAnsweredTo}
use Rattle.workload_cli.proofs.run.answer_all.Given as goal

-- the lines so far were answered in their order
abbrev pub invariant-loop : goal.invariant-loop
invariant-loop g l = IsAnsweredTo g.S.Session.answers g.S.Session.takes l.fn.lines.left l.fn.session l.lines.left l.session
