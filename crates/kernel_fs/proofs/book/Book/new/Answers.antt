use Rattle.std.proofs.Common.{[], ◌∷◌, ◌-◌, ◌≤◌, refl, arith}
use Rattle.posix_calls.specs.Tree.{sum_up_to}
use Rattle.world_invariant.specs.FormatWorld.{idle_account}
use Rattle.world_invariant.proofs.Owners.{is_low, is_high}
use Rattle.kernel_fs.specs.Book.{out_of}
use Rattle.kernel_fs.specs.Account.{IsAccountOf}
use Rattle.kernel_fs.proofs.Accounts.{AreAll, each_of}
use Rattle.kernel_fs.proofs.book.Book.new.Goals as goal

pub invariant_of-result : goal.invariant_of-result
unfolding out_of sum_up_to
invariant_of-result c = (refl, omega (arith, c.new.ensures.units, c.new-2.ensures.units, c.new-3.ensures.units, c.new-4.ensures.units, c.new-5.ensures.units, c.new-6.ensures.units, c.new-7.ensures.units, c.new-8.ensures.units))

pub returns-clause-out : goal.returns-clause-out
unfolding out_of sum_up_to
returns-clause-out c = omega (arith, c.new.ensures.units, c.new-2.ensures.units, c.new-3.ensures.units, c.new-4.ensures.units, c.new-5.ensures.units, c.new-6.ensures.units, c.new-7.ensures.units, c.new-8.ensures.units)

pub returns-clause-opens : goal.returns-clause-opens
returns-clause-opens c = λ g capacity marks d is_d.
    let low : 1 ≤ d = is_low d is_d in
    let high : d ≤ 8 = is_high d is_d in
    let all : AreAll (λ a. IsAccountOf a (idle_account (marks d)) (marks d)) (c.new.result ∷ c.new-2.result ∷ c.new-3.result ∷ c.new-4.result ∷ c.new-5.result ∷ c.new-6.result ∷ c.new-7.result ∷ c.new-8.result ∷ []) =
    (c.new.ensures.is (marks d), (c.new-2.ensures.is (marks d), (c.new-3.ensures.is (marks d), (c.new-4.ensures.is (marks d), (c.new-5.ensures.is (marks d), (c.new-6.ensures.is (marks d), (c.new-7.ensures.is (marks d), (c.new-8.ensures.is (marks d), tt)))))))) in
    each_of (λ a. IsAccountOf a (idle_account (marks d)) (marks d)) (c.new.result ∷ c.new-2.result ∷ c.new-3.result ∷ c.new-4.result ∷ c.new-5.result ∷ c.new-6.result ∷ c.new-7.result ∷ c.new-8.result ∷ []) all (d - 1) (omega (arith, low, high))
