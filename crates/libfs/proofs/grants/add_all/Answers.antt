use Rattle.std.proofs.Common.{◌≡◌, ℕ, ◌+◌, List, arith, ap, refl, ◌∙◌}
use Rattle.std.specs.Prelude.{◌||◌}
use Rattle.lease_manager.specs.file_graph.Graph.{is_among}
use Rattle.kernel_fs.specs.Free.{count_of}
use Rattle.kernel_fs.specs.Inodes.{has}
use Rattle.libfs.proofs.Granted.{all_of_them, next_one, one_fewer}
use Rattle.libfs.proofs.grants.add_all.Goals as goal

pub numbers-init : goal.numbers-init
numbers-init c = record { count = omega (arith, c.requires.count); room = omega arith; all = λ i. refl }

pub numbers-preserved : goal.numbers-preserved
numbers-preserved c =
    let next = c.remove.new.self in
    let found = c.in-Some.ensures.first in
    let fewer : count_of (has c.numbers.left) ≡ count_of (has next) + 1 = one_fewer (has c.numbers.left) (has next) c.in-Some.number found.0 found.1 c.remove.ensures in
    record {
      count = omega (arith, fewer, c.numbers.invariant.count);
      room = omega arith;
      all = λ i. ap (λ (xs : List ℕ). is_among i xs || has next i) c.push_reserved.ensures.items
          ∙ next_one c.numbers.left next c.numbers.numbers.items c.in-Some.number i _ found.1 (c.remove.ensures i) (c.numbers.invariant.all i);
    }

pub returns : goal.returns
returns c = λ i.
    let none : count_of (has c.numbers.left) ≡ 0 = omega (arith, c.numbers.invariant.count, c.numbers-test.false) in
    all_of_them c.numbers.left c.numbers.numbers.items i _ none (c.numbers.invariant.all i)
