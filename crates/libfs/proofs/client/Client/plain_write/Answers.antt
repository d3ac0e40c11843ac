use Rattle.std.proofs.Common.{◌≡◌, ◌≤◌, ℕ, length, subst, None}
use Rattle.posix_calls.specs.declared.call.Call.TheVariants.{Pwrite}
use Rattle.posix_calls.specs.declared.limits.TheConstants.{MAX_TRANSFER}
use Rattle.client_log.specs.call_effects.Knowledge.{part_of}
use Rattle.client_view.specs.client_plan.PlainWrite.{IsPlainWrite, write_logged, written_by}
use Rattle.client_view.specs.client_plan.declared.plain_writes.PlainWrite.{PlainWrite}
use Rattle.client_view.specs.KnowledgeTables.{knows}
use Rattle.libfs.specs.View.{ClientView}
use Rattle.libfs.specs.ClientHoldings.{holdings_of, known_to, outcome_for}
use Rattle.libfs.specs.CallStart.{IsReadyToBegin}
use Rattle.client_log.proofs.update_log_lemmas.Options.{if_some_weaker}
use Rattle.libfs.proofs.Ready.{plain_few, plain_ready}
use Rattle.libfs.proofs.client.Client.plain_write.Goals as goal

pub returns-clause-logged : goal.returns-clause-logged
returns-clause-logged g c =
    let device = g.M.Media in
    let v = c.args.self.now in
    let bytes = c.args.bytes.now in
    if_some_weaker c.plain_write.result (IsPlainWrite (part_of (knows c.self.inside.copies)) (holdings_of device v) c.args.number c.args.at c.len.result) (λ (w : PlainWrite). outcome_for device v (Pwrite c.args.number c.args.at bytes) ≡ write_logged w c.args.at bytes)
    (λ w plain.
    c.plain_write_is_logged.ensures (part_of (known_to v)) (holdings_of device v) c.args.number c.args.at bytes w
    (subst (λ (u : ClientView _). IsPlainWrite (part_of (knows u.copies)) (holdings_of device v) c.args.number c.args.at (length bytes) w) c.self.view_is
    (subst (λ (n : ℕ). IsPlainWrite (part_of (knows c.self.inside.copies)) (holdings_of device v) c.args.number c.args.at n w) c.len.ensures plain)))
    c.plain_write.ensures.plain

pub returns-clause-ready : goal.returns-clause-ready
returns-clause-ready g c =
    let device = g.M.Media in
    let v = c.args.self.now in
    let bytes = c.args.bytes.now in
    if_some_weaker c.plain_write.result (λ (w : PlainWrite). outcome_for device v (Pwrite c.args.number c.args.at bytes) ≡ write_logged w c.args.at bytes) (λ (w : PlainWrite). IsReadyToBegin device v (written_by w c.args.at bytes) None None)
    (λ w logged. plain_ready device v c.args.number c.args.at bytes w logged c.logged_call_is_a_step.ensures.ready c.logged_call_can_be_prepared.ensures.made)
    (returns-clause-logged g c)

pub returns-clause-few : goal.returns-clause-few
returns-clause-few g c =
    let device = g.M.Media in
    let v = c.args.self.now in
    let bytes = c.args.bytes.now in
    if_some_weaker c.plain_write.result (IsPlainWrite (part_of (knows c.self.inside.copies)) (holdings_of device v) c.args.number c.args.at c.len.result) (λ (w : PlainWrite). length bytes ≤ MAX_TRANSFER)
    (λ w plain.
    plain_few device v c.args.number c.args.at bytes w (part_of (knows c.self.inside.copies))
    (subst (λ (n : ℕ). IsPlainWrite (part_of (knows c.self.inside.copies)) (holdings_of device v) c.args.number c.args.at n w) c.len.ensures plain))
    c.plain_write.ensures.plain
