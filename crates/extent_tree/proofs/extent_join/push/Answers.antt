use Rattle.std.proofs.Common.{◌∷◌, [], arith, sym, subst, ◌+◌, ◌++◌, vec_len}
use Rattle.std.proofs.lemmas.Bool.{both_ways}
use Rattle.extent_tree.specs.Normal.{IsRising, Meet, Joins}
use Rattle.extent_tree.proofs.Rising.{rising-wider}
use Rattle.extent_tree.proofs.Joined.{fits-longer, joins-pushed, joins-lengthened}
use Rattle.extent_tree.proofs.extent_join.push.Goals as goal

pub goes_on-requires-clause-rising : goal.goes_on-requires-clause-rising
goes_on-requires-clause-rising c = subst (IsRising 0 4294967295) (sym c.deref.ensures.value) (rising-wider 0 c.args.next.logical 0 4294967295 c.args.extents.now.items c.requires.rising (omega arith) (omega (arith, c.requires.blocks)))

pub lengthen-requires-clause-fits : goal.lengthen-requires-clause-fits
lengthen-requires-clause-fits c d =
    fits-longer (vec_len c.args.extents.now) c.args.extents.now.items c.args.next d (omega arith) (subst (λ l. Meet l (c.args.next ∷ [])) c.deref.ensures.value (c.goes_on.ensures.0 c.if-goes_on.true)) c.requires.blocks

pub returns-then-goes_on : goal.returns-then-goes_on
returns-then-goes_on c =
    joins-lengthened c.args.extents.now.items c.lengthen.new.extents.items c.args.next c.requires.some c.requires.places c.requires.rising c.requires.apart c.requires.fit (subst (λ l. Meet l (c.args.next ∷ [])) c.deref.ensures.value (c.goes_on.ensures.0 c.if-goes_on.true)) c.lengthen.ensures

pub returns : goal.returns
returns c =
    let apart = λ (meet : Meet c.args.extents.now.items (c.args.next ∷ [])). both_ways c.goes_on.result c.if-goes_on.false (c.goes_on.ensures.1 (subst (λ l. Meet l (c.args.next ∷ [])) (sym c.deref.ensures.value) meet)) in
    subst (Joins (c.args.next.logical + c.args.next.length) (c.args.extents.now.items ++ c.args.next ∷ [])) (sym c.in_ok-push.ensures.items)
    (joins-pushed c.args.extents.now.items c.args.next c.requires.some c.requires.places c.requires.rising c.requires.apart c.requires.fit apart)
