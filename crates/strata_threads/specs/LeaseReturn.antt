-- Which leases a client has, and what is left of it as it gives leases back.
use Rattle.std.specs.Prelude.{◌≡◌, ◌⊎◌, ◌++◌, ◌∷◌, ℕ, List, []}
use Rattle.libfs.specs.lease_manager.Passes.{client_of, lease_of}
use Rattle.libfs.specs.lease_manager.Words.{HasWord, lease_place}
use Rattle.libfs.specs.lease_manager.declared.view.Event.{Event}
use Rattle.libfs.specs.lease_manager.declared.view.Event.TheVariants.{Gave}
use Rattle.libfs.specs.lease_manager.declared.view.LeaseMode.TheVariants.{Free, Writing}
use Rattle.libfs.specs.client_plan.declared.need.Mode.{Mode}
use Rattle.libfs.specs.LeaseCalls.{CanBeGiven, mode_of}
use Rattle.libfs.specs.View.{ClientView}

-- Some leases that could be given are gone, none has come, and of the rest only what it knew of their inodes has changed.
pub record TakesNoLease {M : Type 0} (old new : ClientView M) : Type 0 where
  pub leases : (i : ℕ) → HasWord i → (lease_of new.pass i ≡ lease_of old.pass i) ⊎ ((lease_of new.pass i ≡ Free) × CanBeGiven old i)
  pub records : new.pass.records ≡ old.pass.records
  pub table : new.pass.table ≡ old.pass.table
  pub client : client_of new.pass ≡ client_of old.pass
  pub numbers : new.copies.numbers ≡ old.copies.numbers
  pub rest : new ≡ record old { pass = new.pass; copies = new.copies }

-- the steps on the words in which leases of those inodes are given, the last one first
abbrev pub gifts : List ℕ → List Event
gifts [] = []
gifts (i ∷ is) = Gave (lease_place i) ∷ gifts is

-- It took no lease, and has made no other steps than to give: so it asked nobody, and heard nothing.
pub record HasOnlyGiven {M : Type 0} (old new : ClientView M) : Type 0 where
  pub none : TakesNoLease old new
  pub inodes : List ℕ
  pub steps : new.pass.part.events ≡ gifts inodes ++ old.pass.part.events

-- no lease has changed
abbrev pub KeepsLeases : {M : Type 0} → ClientView M → ClientView M → Type 0
KeepsLeases old new = new.pass.part.modes ≡ old.pass.part.modes

-- no lease is left that can be given
abbrev pub HasNoneToGive : {M : Type 0} → ClientView M → Type 0
HasNoneToGive v = (i : ℕ) → HasWord i → CanBeGiven v i → ⊥

-- It has a lease of the inode, for that or for more.
abbrev pub IsLeased : {M : Type 0} → Mode → ClientView M → ℕ → Type 0
IsLeased mode v i = (lease_of v.pass i ≡ mode_of mode) ⊎ (lease_of v.pass i ≡ Writing)
