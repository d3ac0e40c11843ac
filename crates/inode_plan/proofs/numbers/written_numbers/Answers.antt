use Rattle.std.proofs.Common.{◌≡◌, ℕ, Vec, Global, true, sym, subst}
use Rattle.area_commit.specs.graph_change.View.{change_of}
use Rattle.area_commit.specs.extent_tree.Map.{lies_at}
use Rattle.area_commit.specs.InodeChange.{writes_over}
use Rattle.inode_plan.specs.BlockWrites.{AreNumbers}
use Rattle.inode_plan.proofs.Keyed.{with_err, put_written, with_cut, without_cut}
use Rattle.inode_plan.proofs.numbers.written_numbers.Goals.{in-Some+in_ok-add_number, in_default}
use Rattle.inode_plan.proofs.numbers.written_numbers.Goals as goal

pub returns-clause-numbers : goal.returns-clause-numbers
returns-clause-numbers c =
    let change = c.args.change.now in
    let map = c.args.map.now in
    let keys = c.in_ok-written.written.items in
    elim c.match-cut_in.branch [
      | in-Some+in_ok-add_number w ↦
          subst (λ (v : Vec ℕ Global). AreNumbers (lies_at map) (change_of change) v.items) (sym w.written-is)
          (with_cut change (lies_at map) keys c.in_ok-written.ensures.keys _ w.in-Some.number w.in-Some.ensures.some w.in-Some.ensures.others w.in_ok-add_number.ensures)
      | in_default w ↦
          subst (λ (v : Vec ℕ Global). AreNumbers (lies_at map) (change_of change) v.items) (sym w.written-is)
          (without_cut change (lies_at map) keys c.in_ok-written.ensures.keys w.in_default.ensures.none)
    ]

pub returns-in_err-written-clause-memory : goal.returns-in_err-written-clause-memory
returns-in_err-written-clause-memory c =
    let change = c.args.change.now in
    let map = c.args.map.now in
    with_err ((k : ℕ) × (writes_over (lies_at map) (change_of change) k ≡ true)) c.from_residual.result (let put = c.in_err-written.ensures.memory in (put.0, put_written change (lies_at map) put.0 put.1))

pub returns-in_err-add_number-clause-memory : goal.returns-in_err-add_number-clause-memory
returns-in_err-add_number-clause-memory c =
    let change = c.args.change.now in
    let map = c.args.map.now in
    with_err ((k : ℕ) × (writes_over (lies_at map) (change_of change) k ≡ true)) c.from_residual-in_err-add_number.result (c.in-Some.number, c.in-Some.ensures.some)
