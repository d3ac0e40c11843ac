use Rattle.std.proofs.Common.{◌≡◌, ◌<◌, ◌≤◌, refl, subst}
use Rattle.kernel_fs.specs.Inodes.{has}
use Rattle.kernel_fs.specs.Free.{AreLowest, count_of, is_absent}
use Rattle.kernel_fs.specs.Book.{is_free}
use Rattle.kernel_fs.proofs.Choosing.{enough}
use Rattle.kernel_fs.proofs.book.Book.lowest_free.Goals as goal

pub returns-in-Some-clause-lowest : goal.returns-in-Some-clause-lowest
returns-in-Some-clause-lowest c =
    let same : is_absent (has c.used_numbers.result) ≡ is_free c.args.self.now (has c.args.nodes.now) = λ t i. c.used_numbers.ensures i t in
    subst (λ f. AreLowest f (has c.in-Some.chosen) c.args.count) same c.in-Some.ensures.lowest

pub returns-in-Some-clause-enough : goal.returns-in-Some-clause-enough
returns-in-Some-clause-enough c =
    let same : is_absent (has c.used_numbers.result) ≡ is_free c.args.self.now (has c.args.nodes.now) = λ t i. c.used_numbers.ensures i t in
    subst (λ f. c.args.count ≤ count_of f) same (enough (is_absent (has c.used_numbers.result)) (has c.in-Some.chosen) c.args.count c.in-Some.ensures.lowest)

pub returns-in-None-clause-none : goal.returns-in-None-clause-none
returns-in-None-clause-none c =
    let same : is_absent (has c.used_numbers.result) ≡ is_free c.args.self.now (has c.args.nodes.now) = λ t i. c.used_numbers.ensures i t in
    λ e. subst (λ f. count_of f < c.args.count) same (c.in-None.ensures.none refl)
