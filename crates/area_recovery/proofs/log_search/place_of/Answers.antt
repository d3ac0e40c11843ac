use Rattle.std.proofs.Common.{rules, ◌≡◌, ◌+◌, ◌||◌, ℕ, Bool, true, false, length, take, refl, ap, sym, ◌∙◌, subst, arith}
use Rattle.std.proofs.lemmas.List.{take_all}
use Rattle.log_survey.specs.Owners.{listed}
use Rattle.graph_check.specs.file_graph.Graph.{is_among}
use Rattle.area_recovery.proofs.TouchedRecords.{listed_more}
use Rattle.area_recovery.proofs.log_search.place_of.Goals as goal

both_off : (a b : Bool) → a ≡ false → b ≡ false → (a || (b || false)) ≡ false
both_off false false e f = refl
both_off true b e f = absurd cc
both_off a true e f = absurd cc

last_on : (a b : Bool) → b ≡ true → (a || (b || false)) ≡ true
last_on true true e = refl
last_on false true e = refl
last_on a false e = absurd cc

pub loop-place-init : goal.loop-place-init
loop-place-init c = refl

pub loop-place-preserved : goal.loop-place-preserved
loop-place-preserved c =
    let r = c.index-part-place.result in
    listed_more c.args.inode c.args.part.now c.loop-place.place r c.loop-place-test.true (search rules)
    ∙ both_off (is_among c.args.inode (listed (take c.loop-place.place c.args.part.now))) (is_among c.args.inode r) c.loop-place.invariant (sym c.touches_inode.ensures ∙ c.if-touches_inode.false)

pub returns-then-touches_inode-clause-none_before : goal.returns-then-touches_inode-clause-none_before
returns-then-touches_inode-clause-none_before c = c.loop-place.invariant

pub returns-then-touches_inode-clause-there : goal.returns-then-touches_inode-clause-there
returns-then-touches_inode-clause-there c = λ some.
    let r = c.index-part-place.result in
    listed_more c.args.inode c.args.part.now c.loop-place.place r c.loop-place-test.true (search rules)
    ∙ last_on (is_among c.args.inode (listed (take c.loop-place.place c.args.part.now))) (is_among c.args.inode r) (sym c.touches_inode.ensures ∙ c.if-touches_inode.true)

pub returns-clause-none_before : goal.returns-clause-none_before
returns-clause-none_before c =
    let all : c.loop-place.place ≡ length c.args.part.now = omega (arith, c.loop-place-test.false, c.loop-place.auto.place-end) in
    subst (λ (n : ℕ). is_among c.args.inode (listed (take n c.args.part.now)) ≡ false) all c.loop-place.invariant

pub returns-clause-there : goal.returns-clause-there
returns-clause-there c = λ some. ap (λ ls. is_among c.args.inode (listed ls)) (take_all (length c.args.part.now + 1) c.args.part.now (omega arith)) ∙ some
