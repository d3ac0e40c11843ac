use Rattle.std.proofs.Common.{◌≡◌, ℕ, ◌≤◌, arith, subst}
use Rattle.system_laws.specs.kernel_fs.KernelView.{KernelView}
use Rattle.system_laws.specs.event_steps.Sound.{number_of}
use Rattle.system_laws.specs.event_steps.Stops.{SeatLeaves}
use Rattle.system_laws.specs.event_steps.View.{HasSeat}
use Rattle.system_laws.specs.Leaves.{HoldsRecords, KernelLeaves}
use Rattle.interleavings.proofs.EachClient.{each_below, with_next}
use Rattle.interleavings.proofs.stops.left_now.Goals as goal

pub clients-preserved : goal.clients-preserved
clients-preserved g c = record {
  leaves = with_next (λ (d : ℕ). HasSeat c.args.system.now d (SeatLeaves g.M.Media)) c.clients.number c.clients.invariant.leaves c.client_left_now.ensures.leaves;
  whose = with_next (λ (d : ℕ). HasSeat c.args.system.now d (λ s. number_of s ≡ d)) c.clients.number c.clients.invariant.whose c.client_left_now.ensures.whose;
  holds = with_next (λ (d : ℕ). HasSeat c.args.system.now d (λ s. HoldsRecords g.M.Media s.client)) c.clients.number c.clients.invariant.holds c.client_left_now.ensures.holds;
}

pub returns-clause-leaves : goal.returns-clause-leaves
returns-clause-leaves g c = record {
  kernel = subst (λ (k : KernelView _). KernelLeaves g.M.Media k) c.kernel.ensures c.left_now.ensures.same;
  clients = each_below (λ (d : ℕ). HasSeat c.args.system.now d (SeatLeaves g.M.Media)) c.clients.number nine c.clients.invariant.leaves;
  whose = each_below (λ (d : ℕ). HasSeat c.args.system.now d (λ s. number_of s ≡ d)) c.clients.number nine c.clients.invariant.whose;
}
  where
    nine : 9 ≤ c.clients.number
    nine = grind arith

pub returns-clause-holds : goal.returns-clause-holds
returns-clause-holds g c = each_below (λ (d : ℕ). HasSeat c.args.system.now d (λ s. HoldsRecords g.M.Media s.client)) c.clients.number nine c.clients.invariant.holds
  where
    nine : 9 ≤ c.clients.number
    nine = grind arith
