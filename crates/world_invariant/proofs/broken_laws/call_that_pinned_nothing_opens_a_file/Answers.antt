use Rattle.world_invariant.proofs.AloneCalls.{unpinned_alone}
use Rattle.world_invariant.proofs.BrokenPins.{open_begun, open_fetch, open_unlinks, open_seals, open_digests, open_reclaims, open_lost}
use Rattle.world_invariant.proofs.broken_laws.call_that_pinned_nothing_opens_a_file.Goals as goal

pub returns-clause-alone : goal.returns-clause-alone
returns-clause-alone c = unpinned_alone

pub returns-clause-begun : goal.returns-clause-begun
returns-clause-begun c = open_begun

pub returns-clause-fetches : goal.returns-clause-fetches
returns-clause-fetches c = open_fetch

pub returns-clause-unlinks : goal.returns-clause-unlinks
returns-clause-unlinks c = open_unlinks

pub returns-clause-seals : goal.returns-clause-seals
returns-clause-seals c = open_seals

pub returns-clause-digests : goal.returns-clause-digests
returns-clause-digests c = open_digests

pub returns-clause-can : goal.returns-clause-can
returns-clause-can c = open_reclaims

pub returns-clause-lost : goal.returns-clause-lost
returns-clause-lost c = open_lost
