use Rattle.std.proofs.Common.{rules, ◌-◌, length, get_or, cond, Some, ap, refl, ◌∙◌}
use Rattle.std.proofs.lemmas.Result.{on_ok_weaker}
use Rattle.graph_change.specs.Bytes.{in_run}
use Rattle.graph_change.specs.Change.{blank}
use Rattle.graph_change.specs.View.{patch_of}
use Rattle.graph_change.proofs.Making.{on_err_both}
use Rattle.graph_change.proofs.Maps.{put_lent, stood_or_new, stood_same}
use Rattle.graph_change.proofs.Marks.{empty}
use Rattle.graph_change.proofs.node_change.put_in_one.Goals as goal

pub returns-clause-put : goal.returns-clause-put
returns-clause-put c =
    let place = c.args.place in
    let part = c.args.part in
    let was = stood_or_new patch_of c.args.blocks.now c.args.block _ c.or_insert-changed.result.now c.new.result blank c.in_ok-blocks.ensures.value c.or_insert-changed.ensures.value (λ t p. c.new.ensures p t) in
    on_ok_weaker c.put.result
    (λ put.
    put_lent patch_of c.args.blocks.now _ _ c.args.block c.put.new.self _
    (c.in_ok-blocks.ensures.update.0 c.put.new.self).0
    (λ t p. (put p ∙ ap (λ patch. cond (in_run place (length part) p) (Some (get_or part (p - place) 0)) (patch p)) was) t)
    (search rules))
    c.put.ensures.put

pub returns-clause-refused : goal.returns-clause-refused
returns-clause-refused c =
    on_err_both c.put.result c.put.ensures.refused c.put.ensures.memory (λ same some.
    put_lent patch_of c.args.blocks.now _ _ c.args.block c.put.new.self (patch_of c.put.new.self)
    (c.in_ok-blocks.ensures.update.0 c.put.new.self).0
    refl
    (search rules)
    ∙ stood_same patch_of c.args.blocks.now c.args.block _ c.or_insert-changed.result.now c.new.result c.put.new.self c.in_ok-blocks.ensures.value c.or_insert-changed.ensures.value same
    (λ is. empty _ (ap (λ x. patch_of x some.0) is ∙ c.new.ensures some.0) some.1))
