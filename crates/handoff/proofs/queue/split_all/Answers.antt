use Rattle.std.proofs.Common.{rules, ℕ, ◌++◌, ◌∷◌, List, [], sym, ap, ◌∙◌}
use Rattle.handoff.specs.Ends.{EndView}
use Rattle.handoff.proofs.Steps.{cuts_one, ends_next}
use Rattle.handoff.proofs.queue.split_all.Goals as goal

pub split-requires : goal.split-requires
split-requires g c = record { more = (cuts_one _ c.loop-place.place _ (search rules) c.loop-place.invariant.1).0 }

pub loop-place-preserved : goal.loop-place-preserved
loop-place-preserved g c =
    let i = c.loop-place.invariant in
    let k : ℕ = c.loop-place.place in
    let cut = cuts_one _ k _ (search rules) i.1 in
    let e = c.in_ok-others.ensures in
    let V : Type 0 = EndView g.row.T.Denot in
    let first = e.first ∙ (λ t. record { queue = i.0 t; hands = cut.1 t }) in (
      ap (λ (v : V). v.queue) e.rest ∙ i.0,
      ap (λ (v : V). v.hands) e.rest ∙ cut.2,
      ◌∙◌ {A = List V} c.in_ok-push.ensures.items (◌∙◌ {A = List V} (λ t. i.2 t ++ first t ∷ []) (sym (ends_next c.args.end.queue k))),
      search rules,
    )
