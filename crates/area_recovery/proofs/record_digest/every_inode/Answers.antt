use Rattle.std.proofs.Common.{◌≡◌, ◌+◌, ◌++◌, ◌∷◌, [], ℕ, List, ap, sym, ◌∙◌, subst, arith}
use Rattle.std.specs.List.Sorted.{IsStrictlyIncreasing}
use Rattle.recovery_laws.specs.Inodes.{HasEveryInode}
use Rattle.area_recovery.proofs.EveryInode.{all_there, next_number, no_numbers, numbers_to, they_rise}
use Rattle.area_recovery.proofs.record_digest.every_inode.Goals as goal

pub loop-below-init : goal.loop-below-init
loop-below-init c = c.new-held.ensures.items ∙ sym no_numbers

pub loop-below-preserved : goal.loop-below-preserved
loop-below-preserved c =
    c.in_ok-push.ensures.items
    ∙ ap (λ (held : List ℕ). held ++ (c.loop-below.below + 1) ∷ []) c.loop-below.invariant
    ∙ sym (next_number c.loop-below.below)

pub returns-clause-every : goal.returns-clause-every
returns-clause-every c =
    let all : c.loop-below.below ≡ 1024 = omega (arith, c.loop-below-test.false, c.loop-below.auto.below-end) in
    subst HasEveryInode (sym (c.loop-below.invariant ∙ ap numbers_to all)) all_there

pub returns-clause-rising : goal.returns-clause-rising
returns-clause-rising c = subst IsStrictlyIncreasing (sym c.loop-below.invariant) (they_rise c.loop-below.below)
