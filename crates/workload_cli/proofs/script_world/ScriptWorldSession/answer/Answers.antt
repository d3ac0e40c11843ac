use Rattle.std.proofs.Common.{ap}
use Rattle.script.specs.LineValues.{system_line_seen}
use Rattle.script.specs.declared.system_line.SystemLine.{SystemLine}
use Rattle.workload_cli.proofs.KeptMedia.{asks_running, session_answered}
use Rattle.workload_cli.proofs.script_world.ScriptWorldSession.answer.Goals as goal

pub returns-in-Call : goal.returns-in-Call
returns-in-Call g c = session_answered _ _ g.M.Media g.M.Resting.holds c.args.self.now (system_line_seen c.args.line) c.answer_running.result c.answer_running.new.self (ap (λ (l : SystemLine). asks_running (system_line_seen l)) c.in-Call.is) c.answer_running.ensures

pub returns-in-Step : goal.returns-in-Step
returns-in-Step g c = session_answered _ _ g.M.Media g.M.Resting.holds c.args.self.now (system_line_seen c.args.line) c.answer_running-in-Step.result c.answer_running-in-Step.new.self (ap (λ (l : SystemLine). asks_running (system_line_seen l)) c.in-Step.is) c.answer_running-in-Step.ensures

pub returns-in-Digest : goal.returns-in-Digest
returns-in-Digest g c = session_answered _ _ g.M.Media g.M.Resting.holds c.args.self.now (system_line_seen c.args.line) c.answer_running-in-Digest.result c.answer_running-in-Digest.new.self (ap (λ (l : SystemLine). asks_running (system_line_seen l)) c.in-Digest.is) c.answer_running-in-Digest.ensures

pub returns-in-Wipe : goal.returns-in-Wipe
returns-in-Wipe g c = session_answered _ _ g.M.Media g.M.Resting.holds c.args.self.now (system_line_seen c.args.line) c.answer_running-in-Wipe.result c.answer_running-in-Wipe.new.self (ap (λ (l : SystemLine). asks_running (system_line_seen l)) c.in-Wipe.is) c.answer_running-in-Wipe.ensures

pub returns-in-Die : goal.returns-in-Die
returns-in-Die g c = session_answered _ _ g.M.Media g.M.Resting.holds c.args.self.now (system_line_seen c.args.line) c.answer_running-in-Die.result c.answer_running-in-Die.new.self (ap (λ (l : SystemLine). asks_running (system_line_seen l)) c.in-Die.is) c.answer_running-in-Die.ensures

pub returns-in-Bury : goal.returns-in-Bury
returns-in-Bury g c = session_answered _ _ g.M.Media g.M.Resting.holds c.args.self.now (system_line_seen c.args.line) c.answer_running-in-Bury.result c.answer_running-in-Bury.new.self (ap (λ (l : SystemLine). asks_running (system_line_seen l)) c.in-Bury.is) c.answer_running-in-Bury.ensures

pub returns-in-Migrate : goal.returns-in-Migrate
returns-in-Migrate g c = session_answered _ _ g.M.Media g.M.Resting.holds c.args.self.now (system_line_seen c.args.line) c.answer_running-in-Migrate.result c.answer_running-in-Migrate.new.self (ap (λ (l : SystemLine). asks_running (system_line_seen l)) c.in-Migrate.is) c.answer_running-in-Migrate.ensures

pub returns-in-Where : goal.returns-in-Where
returns-in-Where g c = session_answered _ _ g.M.Media g.M.Resting.holds c.args.self.now (system_line_seen c.args.line) c.answer_running-in-Where.result c.answer_running-in-Where.new.self (ap (λ (l : SystemLine). asks_running (system_line_seen l)) c.in-Where.is) c.answer_running-in-Where.ensures

pub returns-in-Book : goal.returns-in-Book
returns-in-Book g c = session_answered _ _ g.M.Media g.M.Resting.holds c.args.self.now (system_line_seen c.args.line) c.answer_running-in-Book.result c.answer_running-in-Book.new.self (ap (λ (l : SystemLine). asks_running (system_line_seen l)) c.in-Book.is) c.answer_running-in-Book.ensures
