use Rattle.std.proofs.Common.{◌∙◌, inl, zero, refl, ap, subst, sym}
use Rattle.std.specs.Prelude.{Ok, Err, List}
use Rattle.script.specs.LineValues.{system_line_seen}
use Rattle.script.specs.SystemLines.{system_line}
use Rattle.script.specs.declared.script.reader.ScriptError.{ScriptError}
use Rattle.script.specs.declared.script.reader.ScriptError.TheVariants as stops
use Rattle.workload_cli.specs.Script.{EndsAt, IsNotTaken, IsUnreadable}
use Rattle.workload_cli.proofs.Lines.{ends_err, one_more, unread_ends}
use Rattle.workload_cli.proofs.run.answer_all.Goals as goal

pub loop-init : goal.loop-init
loop-init g c = (zero, (refl, refl))

pub returns-in_err-read_next : goal.returns-in_err-read_next
returns-in_err-read_next g c =
    let behind = c.loop.lines.left in
    let takes = g.S.Session.takes c.loop.session in
    (behind, c.loop.invariant, ends_err takes c.from_residual.result c.in_err-read_next.field-0.0 behind c.from_residual.ensures.1 (unread_ends takes c.in_err-read_next.field-0.0 behind (λ n is. c.read_next.ensures.too_long n (c.in_err-read_next.was ∙ ap Err is))))

pub returns-then-not-branch : goal.returns-then-not-branch
returns-then-not-branch g c = let behind = c.loop.lines.left in (behind, c.loop.invariant, c.read_next.ensures.end (c.in_ok-read_next.was ∙ ap Ok c.if-not-branch.true))

pub returns-in_err-print_answer-in-Some : goal.returns-in_err-print_answer-in-Some
returns-in_err-print_answer-in-Some g c =
    let answers = g.S.Session.answers in
    let behind = c.read_next.new.self.left in
    let r = c.from_residual-in_err-print_answer-in-Some in (
      behind,
      (one_more answers g.S.Session.takes c.args.lines.now.left c.args.session.now c.loop.lines.left c.loop.session behind c.answer.new.self c.read_next.new.self.line (system_line_seen c.in-Some.line) c.answer.result c.loop.invariant
          (c.read_next.ensures.line (c.in_ok-read_next.was ∙ ap Ok c.if-not-branch.false)) (ap system_line (sym c.line-text.ensures) ∙ c.in-Some.ensures.some.0) c.in-Some.ensures.some.1 c.answer.ensures),
      ends_err (g.S.Session.takes c.answer.new.self) r.result (stops.Run c.in_err-print_answer-in-Some.field-0.0) behind r.ensures.1 tt,
    )

pub returns-in-None : goal.returns-in-None
returns-in-None g c =
    let behind = c.loop.lines.left in
    let takes = g.S.Session.takes c.loop.session in
    let not_taken : IsNotTaken takes (system_line c.read_next.new.self.line) = subst (λ (l : List _). IsNotTaken takes (system_line l)) c.line-text.ensures c.in-None.ensures.none in
    let none : IsUnreadable takes behind = inl (c.read_next.new.self.line, c.read_next.new.self.left, c.read_next.ensures.line (c.in_ok-read_next.was ∙ ap Ok c.if-not-branch.false), not_taken) in
    (behind, c.loop.invariant, subst (λ (e : ScriptError). EndsAt takes (Err e) behind) (sym c.unreadable_line.ensures) none)

pub loop-preserved : goal.loop-preserved
loop-preserved g c =
    let answers = g.S.Session.answers in
    let behind = c.read_next.new.self.left in
    one_more answers g.S.Session.takes c.args.lines.now.left c.args.session.now c.loop.lines.left c.loop.session behind c.answer.new.self c.read_next.new.self.line (system_line_seen c.in-Some.line) c.answer.result c.loop.invariant
    (c.read_next.ensures.line (c.in_ok-read_next.was ∙ ap Ok c.if-not-branch.false)) (ap system_line (sym c.line-text.ensures) ∙ c.in-Some.ensures.some.0) c.in-Some.ensures.some.1 c.answer.ensures

pub returns : goal.returns
returns g c = (c.loop.lines.left, c.loop.invariant, tt)
