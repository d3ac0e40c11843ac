use Rattle.std.proofs.Common.{◌≡◌, ◌-◌, suc, arith, ap, sym, ◌∙◌}
use Rattle.posix_calls.specs.Tree.{any_up_to, refers_to, is_open}
use Rattle.plain_tree.specs.Plain.{held_of}
use Rattle.posix_calls.specs.declared.limits.TheConstants.{MAX_CLIENTS, MAX_DESCRIPTORS}
use Rattle.posix_calls.proofs.Sums.{any_none, any_more, any_there}
use Rattle.plain_tree.proofs.nodes.is_open.Goals as goal

pub loop-client-init : goal.loop-client-init
loop-client-init c = any_none _

pub returns-then-is_open_by : goal.returns-then-is_open_by
unfolding is_open
returns-then-is_open_by c = sym (any_there MAX_CLIENTS (suc c.loop-client.client) _ (omega arith) (omega (arith, c.loop-client-test.true)) (sym c.is_open_by.ensures ∙ c.if-is_open_by.true))

pub loop-client-preserved : goal.loop-client-preserved
loop-client-preserved c = any_more c.loop-client.client _ (sym c.is_open_by.ensures ∙ c.if-is_open_by.false) c.loop-client.invariant

pub returns : goal.returns
unfolding is_open
returns c =
    let all : c.loop-client.client ≡ MAX_CLIENTS = omega (arith, c.loop-client.auto.client-end, c.loop-client-test.false) in
    sym (ap (λ m. any_up_to m (λ c'. any_up_to MAX_DESCRIPTORS (λ n. refers_to c.args.inode (held_of c.args.rows.now c' (n - 1))))) (sym all) ∙ c.loop-client.invariant)
