use Rattle.std.proofs.Common.{◌≡◌, true, refl, Ok, Err, inl, inr, ap, sym, subst, ◌∙◌, arith}
use Rattle.posix_calls.specs.Query.{run, view_of}
use Rattle.posix_calls.specs.Part.{whole_part}
use Rattle.posix_calls.specs.Memory.{takes_memory}
use Rattle.posix_calls.specs.Decide.{decide}
use Rattle.posix_calls.specs.Tree.{Own}
use Rattle.posix_calls.specs.Own.{own_of}
use Rattle.posix_calls.specs.Operations.{Step}
use Rattle.posix_calls.specs.declared.operation.DecideError.TheVariants.{Refused}
use Rattle.plain_tree.specs.Plain.{Stored, stored_tree, held_of, stored_state, state_in, IsConsistent}
use Rattle.posix_calls.proofs.Steps.{failed_step}
use Rattle.plain_tree.proofs.Answering.{nothing_is_missing, known_of}
use Rattle.plain_tree.proofs.Doable.{doable}
use Rattle.plain_tree.proofs.Asking.{row_of, among, answer_is, came_of, step_of, refused_of, sound_after}
use Rattle.plain_tree.proofs.plain.PlainTree.ask.Goals as goal

pub carry_out-requires-clause-doable : goal.carry_out-requires-clause-doable
carry_out-requires-clause-doable c =
    let s = state_in c.self.inside.nodes c.self.inside.rows.items in
    let row = row_of c.self.inside.rows.items c.args.client c.index.result.now (omega arith) (omega (arith, c.self.invariant.0, c.if-client-gt-MAX_CLIENTS.false)) c.index.ensures in
    let v = view_of (stored_tree c.args.self.now.nodes) in
    let comes : run v (decide (own_of c.index.result.now) c.args.call.now) ≡ Ok c.in-Ok.operation = known_of v (decide (own_of c.index.result.now) c.args.call.now) (Ok c.in-Ok.operation) (c.decide.ensures.answer.gives c.in-Ok.operation c.in-Ok.is) in
    doable s c.self.invariant.1 c.args.client c.args.call.now c.in-Ok.operation c.in-Ok.ensures.range
    (subst (λ (own : Own). run (view_of s.tree) (decide own c.args.call.now) ≡ Ok c.in-Ok.operation) (sym row)
    (subst (λ (x : Stored). run (view_of (stored_tree x.nodes)) (decide (own_of c.index.result.now) c.args.call.now) ≡ Ok c.in-Ok.operation) (sym c.self.view_is) comes))

pub unreachable-requires : goal.unreachable-requires
unreachable-requires c =
    nothing_is_missing (view_of (stored_tree c.args.self.now.nodes)) (decide (own_of c.index.result.now) c.args.call.now) c.in-Err-Missing.field-0-0
    (c.decide.ensures.answer.missing c.in-Err-Missing.field-0-0 (c.in-Err-Missing.is ∙ ap Err c.in-Err-Missing.field-0-is))

pub returns-in-Ok-clause-exact : goal.returns-in-Ok-clause-exact
returns-in-Ok-clause-exact c =
    came_of (record { nodes = c.self.inside.nodes; rows = c.self.inside.rows.items }) c.args.self.now c.args.client c.args.call.now c.in-Ok.operation c.carry_out.result (state_in c.carry_out.new.nodes c.carry_out.new.rows.items) c.index.result.now
    c.self.view_is (omega arith) (omega arith) c.self.invariant.0 c.index.ensures c.self.invariant.1 (c.decide.ensures.answer.gives c.in-Ok.operation c.in-Ok.is) c.carry_out.ensures.done

pub invariant_of-self : goal.invariant_of-self
invariant_of-self c =
    let old = stored_state c.args.self.now in
    let after = state_in c.carry_out.new.nodes c.carry_out.new.rows.items in (
      c.carry_out.ensures.kept ∙ c.self.invariant.0,
      sound_after old after c.args.client c.args.call.now c.carry_out.result (subst (λ (s : Stored). IsConsistent (stored_state s)) c.self.view_is c.self.invariant.1)
          (step_of old after c.args.client c.args.call.now c.carry_out.result
          (came_of (record { nodes = c.self.inside.nodes; rows = c.self.inside.rows.items }) c.args.self.now c.args.client c.args.call.now c.in-Ok.operation c.carry_out.result after c.index.result.now c.self.view_is (omega arith) (omega arith) c.self.invariant.0 c.index.ensures c.self.invariant.1 (c.decide.ensures.answer.gives c.in-Ok.operation c.in-Ok.is) c.carry_out.ensures.done)),
    )

pub returns-in-Ok-clause-step : goal.returns-in-Ok-clause-step
returns-in-Ok-clause-step c = step_of (stored_state c.args.self.now) _ c.args.client c.args.call.now c.carry_out.result (returns-in-Ok-clause-exact c)

pub returns-in-Ok-clause-refused : goal.returns-in-Ok-clause-refused
returns-in-Ok-clause-refused c = λ e is.
    failed_step (stored_state c.args.self.now) c.args.client c.args.call.now e (state_in c.carry_out.new.nodes c.carry_out.new.rows.items)
    (subst (λ r. Step (stored_state c.args.self.now) c.args.client c.args.call.now r (state_in c.carry_out.new.nodes c.carry_out.new.rows.items)) is (returns-in-Ok-clause-step c))

pub returns-in-Err-Refused-clause-exact : goal.returns-in-Err-Refused-clause-exact
returns-in-Err-Refused-clause-exact c =
    let row = ap (λ (s : Stored). held_of s.rows c.args.client) (sym c.self.view_is) ∙ row_of c.self.inside.rows.items c.args.client c.index.result.now (omega arith) (omega (arith, c.self.invariant.0, c.if-client-gt-MAX_CLIENTS.false)) c.index.ensures in
    let why : c.decide.result ≡ Err (Refused c.in-Err-Refused.errno) = c.in-Err-Refused.is ∙ ap Err c.in-Err-Refused.field-0-is in
    inl (refused_of c.args.self.now c.args.client c.args.call.now c.in-Err-Refused.errno
    (answer_is c.args.self.now c.args.client c.args.call.now c.index.result.now (Err c.in-Err-Refused.errno) (among c.args.client (omega arith) (omega (arith, c.if-client-gt-MAX_CLIENTS.false))) row (c.decide.ensures.answer.refuses c.in-Err-Refused.errno why)))

pub returns-in-Err-Refused-clause-step : goal.returns-in-Err-Refused-clause-step
returns-in-Err-Refused-clause-step c = step_of (stored_state c.args.self.now) _ c.args.client c.args.call.now _ (returns-in-Err-Refused-clause-exact c)

pub returns-in-Err-Memory-clause-exact : goal.returns-in-Err-Memory-clause-exact
returns-in-Err-Memory-clause-exact c =
    let row = ap (λ (s : Stored). held_of s.rows c.args.client) (sym c.self.view_is) ∙ row_of c.self.inside.rows.items c.args.client c.index.result.now (omega arith) (omega (arith, c.self.invariant.0, c.if-client-gt-MAX_CLIENTS.false)) c.index.ensures in
    let takes = c.decide.ensures.memory (c.in-Err-Memory.is ∙ ap Err c.in-Err-Memory.field-0-is) in
    inr (inl (refl, among c.args.client (omega arith) (omega (arith, c.if-client-gt-MAX_CLIENTS.false)), subst (λ (own : Own). takes_memory (whole_part (view_of (stored_tree c.args.self.now.nodes))) own c.args.call.now ≡ true) (sym row) takes), refl)
