-- What the calls on a lease make of a client.
use Rattle.std.specs.Prelude.{◌≡◌, ◌≢◌, ℕ, false}
use Rattle.client_view.specs.client_plan.declared.need.Mode.{Mode}
use Rattle.client_view.specs.client_plan.declared.need.Mode.TheVariants.{Read, Write}
use Rattle.lease_manager.specs.declared.view.LeaseMode.{LeaseMode}
use Rattle.lease_manager.specs.declared.view.LeaseMode.TheVariants.{Free, Reading, Writing}
use Rattle.lease_manager.specs.Words.{HasWord}
use Rattle.lease_manager.specs.Marks.{ShowsOther, ShowsWriter}
use Rattle.lease_manager.specs.Passes.{PassView, lease_of, records_of, without_lease, refused_at, tried_at}
use Rattle.client_view.specs.KnowledgeChanges.{without_inode}
use Rattle.block_cache.specs.CacheList.{without_file}
use Rattle.libfs.specs.View.{ClientView, is_pending}
use Rattle.libfs.specs.ClientHoldings.{known_to}

-- the lease that is taken
abbrev pub mode_of : Mode → LeaseMode
mode_of Read = Reading
mode_of Write = Writing

-- the pass whose lease was refused at that number of the inode's word
abbrev pub refused_pass : PassView → ℕ → Mode → ℕ → PassView
refused_pass p i Read found = tried_at p i found
refused_pass p i Write found = refused_at p i found

-- what that number shows of another client than the one at place k: to a reader a write mark, to a writer any mark
abbrev pub ShowsBar : Mode → ℕ → ℕ → Type 0
ShowsBar Read k n = ShowsWriter k n
ShowsBar Write k n = ShowsOther k n

-- The inode is held, no record that is not digested touches it, no call waits for its answer, and no device has failed.
pub record CanBeGiven {M : Type 0} (v : ClientView M) (i : ℕ) : Type 0 where
  pub inode : HasWord i
  pub held : lease_of v.pass i ≢ Free
  pub digested : records_of v.pass i ≡ 0
  pub idle : is_pending v ≡ false
  pub going : v.log.failed ≡ false

-- The lease is gone, and what was known of the inode with it; the blocks of other files stay in their order.
pub record HasGiven {M : Type 0} (old : ClientView M) (i : ℕ) (new : ClientView M) : Type 0 where
  pub lease : new.pass ≡ without_lease old.pass i
  pub knows_then : known_to new ≡ without_inode (known_to old) i
  pub numbers : new.copies.numbers ≡ old.copies.numbers
  pub order : new.copies.blocks ≡ without_file i old.copies.blocks
  pub rest : new ≡ record old { pass = new.pass; copies = new.copies }
