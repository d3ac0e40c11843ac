use Rattle.std.proofs.Common.{◌≡◌, List, Option, length, ap, ◌∙◌, arith}
use Rattle.std.specs.Vec.{with_items}
use Rattle.std.proofs.lemmas.List.{with_items_is}
use Rattle.client_plan.specs.call_effects.KnownCopies.{known_after_effect}
use Rattle.client_plan.specs.call_effects.NodeView.{NodeView}
use Rattle.client_view.specs.KnowledgeTables.{copy_at}
use Rattle.client_view.proofs.Alone.{acted_is_known}
use Rattle.client_view.proofs.copies.ClientCopies.act_in_place.Goals as goal

pub returns-clause-known : goal.returns-clause-known
returns-clause-known c =
    let new = c.do_effect.new.slots in
    let long : length new ≡ c.self.inside.copies.len = omega (arith, c.do_effect.auto.slots, c.deref_mut.ensures.len) in
    let done =
    ap copy_at (with_items_is c.self.inside.copies new long)
    ∙ c.do_effect.ensures
    ∙ ap (λ (cs : List (Option (Option NodeView))). known_after_effect c.args.effect.now (copy_at cs)) c.deref_mut.ensures.value in
    rw (c.drop_subjects.ensures, ← c.self.view_is)
    (acted_is_known (record { client = c.self.inside.client; own = c.self.inside.own; copies = c.self.inside.copies.items; blocks = c.self.inside.blocks; numbers = c.self.inside.numbers.items }) c.args.effect.now (with_items c.self.inside.copies new).items done)
