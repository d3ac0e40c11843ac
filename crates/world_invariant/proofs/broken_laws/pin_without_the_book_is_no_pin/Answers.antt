use Rattle.world_invariant.proofs.AloneBooks.{pin_alone}
use Rattle.world_invariant.proofs.BrokenPins.{unpinned_can, unpinned_seen}
use Rattle.world_invariant.proofs.broken_laws.pin_without_the_book_is_no_pin.Goals as goal

pub returns-clause-alone : goal.returns-clause-alone
returns-clause-alone c = pin_alone

pub returns-clause-can : goal.returns-clause-can
returns-clause-can c = unpinned_can

pub returns-clause-seen : goal.returns-clause-seen
returns-clause-seen c = unpinned_seen
