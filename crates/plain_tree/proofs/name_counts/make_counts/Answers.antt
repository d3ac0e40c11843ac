use Rattle.std.proofs.Common.{◌≡◌, ◌+◌, ◌∷◌, [], length, length-append, arith, ap, ◌∙◌}
use Rattle.plain_tree.specs.Plain.{count_at}
use Rattle.plain_tree.proofs.Tallies.{counts_pushed}
use Rattle.plain_tree.proofs.name_counts.make_counts.Goals as goal

pub loop-preserved : goal.loop-preserved
loop-preserved c =
    let longer : length c.push.new.self.items ≡ length c.loop.counts.items + 1 = ap length c.in_ok-push.ensures.items ∙ length-append c.loop.counts.items (0 ∷ []) in
    (ap count_at c.in_ok-push.ensures.items ∙ counts_pushed c.loop.counts.items ∙ c.loop.invariant.0, omega (arith, longer, c.loop.invariant.1))
