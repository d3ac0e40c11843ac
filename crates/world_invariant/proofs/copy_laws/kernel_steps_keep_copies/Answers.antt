use Rattle.world_invariant.proofs.OwnCopies.{kept_elsewhere, kept_beside, kept_digested, kept_in_account, kept_reclaimed}
use Rattle.world_invariant.proofs.copy_laws.kernel_steps_keep_copies.Goals as goal

pub returns-clause-elsewhere : goal.returns-clause-elsewhere
returns-clause-elsewhere r = kept_elsewhere

pub returns-clause-digest_beside : goal.returns-clause-digest_beside
returns-clause-digest_beside r = kept_beside

pub returns-clause-digest_own : goal.returns-clause-digest_own
returns-clause-digest_own r = kept_digested

pub returns-clause-reclaim : goal.returns-clause-reclaim
returns-clause-reclaim r = kept_reclaimed

pub returns-clause-account : goal.returns-clause-account
returns-clause-account r = kept_in_account
