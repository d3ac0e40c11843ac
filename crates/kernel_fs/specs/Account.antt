-- One client's account, beside that of the kernel's machine.
use Rattle.std.specs.Prelude.{◌≡◌, ℕ, ◌+◌}
use Rattle.world_invariant.specs.World.{Account}
use Rattle.kernel_fs.specs.Inodes.{has}
use Rattle.kernel_fs.specs.declared.account.ClientAccount.{ClientAccount}

-- It is the account of the machine, which has accepted so many records of that client. Of the mark, which counts all records of the client that were ever
-- digested, it has how far that lies behind what was accepted.
pub record IsAccountOf (a : ClientAccount) (of : Account) (accepted : ℕ) : Type 0 where
  pub units : of.units ≡ a.units
  pub numbers : (i : ℕ) → of.numbers i ≡ has a.numbers i
  pub pins : (i : ℕ) → of.pins i ≡ has a.pins i
  pub waiting : accepted ≡ of.mark + a.waiting
