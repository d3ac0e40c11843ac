use Rattle.std.proofs.Common.{◌≡◌, Bool, true, false, Some, None, refl, ap, sym, ◌∙◌, ◌==◌, ◌||◌}
use Rattle.std.proofs.lemmas.Bool.{eq-eqb, ne_eqb}
use Rattle.client_plan.specs.file_graph.Graph.{is_among, subjects}
use Rattle.client_plan.specs.file_graph.Subject.{one_or_two}
use Rattle.record_validation.proofs.Steps.{on_one, on_two}
use Rattle.client_view.proofs.blocks.is_on.Goals as goal

by_first : (x y : Bool) → x ≡ true → x ≡ (x || y)
by_first true y on = refl
by_first false y on = absurd (cc)

by_second : (x y : Bool) → x ≡ false → y ≡ (x || y)
by_second true y off = absurd (cc)
by_second false y off = refl

pub returns-in-None : goal.returns-in-None
returns-in-None c =
    let i = c.args.inode in
    let first = c.subjects-first.result.0 in
    let one : subjects c.args.effect.now ≡ one_or_two first None = c.subjects-first.ensures.is ∙ ap (one_or_two first) c.in-None.is in
    sym (ap (is_among i) one ∙ on_one i first)

pub returns-then-first-inode : goal.returns-then-first-inode
returns-then-first-inode c =
    let i = c.args.inode in
    let first = c.subjects-first.result.0 in
    let two : subjects c.args.effect.now ≡ one_or_two first (Some c.in-Some.other) = c.subjects-first.ensures.is ∙ ap (one_or_two first) c.in-Some.is in
    by_first (first == i) (c.in-Some.other == i) (eq-eqb first i c.if-first-inode.true) ∙ sym (ap (is_among i) two ∙ on_two i first c.in-Some.other)

pub returns-else-first-inode : goal.returns-else-first-inode
returns-else-first-inode c =
    let i = c.args.inode in
    let first = c.subjects-first.result.0 in
    let two : subjects c.args.effect.now ≡ one_or_two first (Some c.in-Some.other) = c.subjects-first.ensures.is ∙ ap (one_or_two first) c.in-Some.is in
    by_second (first == i) (c.in-Some.other == i) (ne_eqb first i c.if-first-inode.false) ∙ sym (ap (is_among i) two ∙ on_two i first c.in-Some.other)
