use Rattle.std.proofs.Common.{◌≡◌, ◌+◌, arith, ap, ◌∙◌, length, [], ◌∷◌, ◌++◌, Option, None, length-append}
use Rattle.posix_calls.specs.Tree.{Node}
use Rattle.plain_tree.specs.Plain.{stored_tree}
use Rattle.plain_tree.proofs.Slots.{tree_pushed}
use Rattle.plain_tree.proofs.nodes.make_room.Goals as goal

pub loop-preserved : goal.loop-preserved
loop-preserved c =
    let grown : c.push.new.self.items ≡ c.loop.nodes.items ++ None ∷ [] = c.in_ok-push.ensures.items ∙ ap (λ (x : Option Node). c.loop.nodes.items ++ x ∷ []) c.nothing.ensures in
    let longer : length c.push.new.self.items ≡ length c.loop.nodes.items + 1 = ap length grown ∙ length-append c.loop.nodes.items (None ∷ []) in
    (ap stored_tree grown ∙ tree_pushed c.loop.nodes.items ∙ c.loop.invariant.0, omega (arith, longer, c.loop.invariant.1), omega (arith, longer, c.loop.invariant.2))
