use Rattle.std.proofs.Common.{sym, subst}
use Rattle.std.specs.Ordering.{nat_cmp}
use Rattle.std.specs.BTreeMap.{get}
use Rattle.call_effects.specs.file_graph.Graph.{after_effects}
use Rattle.call_effects.specs.KnownCopies.{SwapsAreKnown}
use Rattle.record_validation.specs.KnownNodes.{ViewsAgree}
use Rattle.record_validation.proofs.Row.{all_come, record_swaps}
use Rattle.record_validation.proofs.record_validation.RecordCheck.next.Goals as goal

pub returns-in_ok-take_effects-clause-stands : goal.returns-in_ok-take_effects-clause-stands
returns-in_ok-take_effects-clause-stands c = λ g over.
    let swaps = subst (SwapsAreKnown (get nat_cmp c.args.self.now.known)) (sym c.as_slice.ensures) (record_swaps c.args.self.now.known c.args.next.now.effects (sym c.in-Good.ensures.unknown)) in
    (subst (λ xs. ViewsAgree c.take_effects.new.known (after_effects g xs)) c.as_slice.ensures (c.in_ok-take_effects.ensures.agrees g swaps over.0), (c.in-Good.ensures.answer g over.0 over.1).1)

pub returns-in_ok-take_effects-clause-first : goal.returns-in_ok-take_effects-clause-first
returns-in_ok-take_effects-clause-first c = λ g h come.
    let swaps = subst (SwapsAreKnown (get nat_cmp c.args.self.now.known)) (sym c.as_slice.ensures) (record_swaps c.args.self.now.known c.args.next.now.effects (sym c.in-Good.ensures.unknown)) in
    all_come c.args.self.now.known c.take_effects.new.known c.as_slice.result.now c.args.next.now.effects g h c.in-Good.charge c.as_slice.ensures c.in_ok-take_effects.ensures.known
    (c.in_ok-take_effects.ensures.agrees h swaps come.0.0)
    (c.in-Good.ensures.answer h come.0.0 come.0.1).1
    (sym c.in-Good.ensures.unknown)
    come.1
