use Rattle.std.proofs.Common.{◌≡◌, ◌≤◌, ℕ, get_or, arith, inl, inr, subst}
use Rattle.std.proofs.lemmas.Bool.{cases_lt}
use Rattle.inode_plan.proofs.Moves.{later_is_greater}
use Rattle.inode_plan.proofs.numbers.count_below.Goals as goal

pub returns-then-number-numbers-clause-behind : goal.returns-then-number-numbers-clause-behind
returns-then-number-numbers-clause-behind c k ge lt =
    let numbers = c.args.numbers.now in
    let here = c.if-number-numbers.true in
    elim (cases_lt c.each.index k) [
      | inl later ↦ (let more = later_is_greater 0 c.requires.0 c.each.index k numbers c.requires.1 later lt in omega (arith, more, here))
      | inr le ↦ (let same : c.each.index ≡ k = omega (arith, ge, le) in subst (λ (j : ℕ). c.args.number ≤ get_or numbers j 0) same here)
    ]
