use Rattle.std.proofs.Common.{◌∙◌, ℕ, List, ap, arith}
use Rattle.layout.proofs.Fields.{some_is}
use Rattle.layout.proofs.DirChanges.{head_now, listed_now}
use Rattle.layout.proofs.dir_changes.count_in.Goals as goal

pub unreachable-requires : goal.unreachable-requires
unreachable-requires c =
    let h = head_now c.args.block.now c.requires in
    let none = c.in-None.ensures in
    let some = h.1 in
    absurd cc

pub returns-clause-count : goal.returns-clause-count
returns-clause-count c =
    let h = head_now c.args.block.now c.requires in
    ap (λ (x : (ℕ × ℕ) × List ℕ). x.0.1) (some_is _ _ (c.in-Some.ensures ∙ h.1))

pub returns-clause-few : goal.returns-clause-few
returns-clause-few c =
    let l = listed_now c.args.block.now c.requires in
    let count = returns-clause-count c in
    omega (arith, count, l.few)

pub returns-clause-long : goal.returns-clause-long
returns-clause-long c = (listed_now c.args.block.now c.requires).long
