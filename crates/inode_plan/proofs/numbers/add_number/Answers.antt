use Rattle.std.proofs.Common.{◌≡◌, ◌≢◌, ◌<◌, ◌≤◌, ◌∙◌, ℕ, List, length, get_or, arith, sym, subst}
use Rattle.std.specs.Global.{Vec}
use Rattle.std.proofs.lemmas.List.{get_or_default}
use Rattle.inode_plan.specs.BlockWrites.{HasOneMore}
use Rattle.inode_plan.proofs.Rising.{one_more, all_greater}
use Rattle.inode_plan.proofs.numbers.add_number.Goals.{else-at-len-via-then-at-len+else-index-number, else-at-len-via-else-at-len}
use Rattle.inode_plan.proofs.numbers.add_number.Goals as goal

-- the two counts of a vector's elements
long : (v : Vec ℕ) → length v.items ≡ v.len
long v = sym v.ok.0

past : (at n len count : ℕ) → at < n → len ≤ at → len ≡ count → n ≡ count → ⊥
past at n len count lt ge same is = omega (arith, lt, ge, same, is)

pub returns : goal.returns
returns c =
    let n : ℕ = c.args.number in
    let ks = c.args.numbers.now.items in
    let at : ℕ = c.count_below-at.result in
    let is : c.deref.result.now ≡ ks = c.deref.ensures.value in
    let other : at < length ks → get_or ks at 0 ≢ n = elim c.else-at-len.branch [
      | else-at-len-via-then-at-len+else-index-number w ↦ λ lt same. w.if-index-number.false (w.index.ensures ∙ get_or_default ks at w.index.result.now 0 lt ∙ same)
      | else-at-len-via-else-at-len w ↦ λ lt. absurd (past at (length ks) c.len.result c.args.numbers.now.len lt w.if-at-len.false c.len.ensures (long c.args.numbers.now))
    ] in
    let behind : (k : ℕ) → at ≤ k → k < length ks → n ≤ get_or ks k 0 = subst (λ (xs : List ℕ). (k : ℕ) → at ≤ k → k < length xs → n ≤ get_or xs k 0) is c.count_below-at.ensures.behind in
    subst (HasOneMore n ks) (sym c.in_ok-insert.ensures.items)
    (one_more n ks at (subst (λ (xs : List ℕ). at ≤ length xs) is c.count_below-at.ensures.within) (subst (λ (xs : List ℕ). (k : ℕ) → k < at → get_or xs k 0 < n) is c.count_below-at.ensures.before) (all_greater n ks at c.requires other behind) c.requires)
