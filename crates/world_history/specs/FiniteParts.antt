-- Which configurations an opening can list, and when two are the same for all clients.
use Rattle.std.specs.Prelude.{◌≡◌, ℕ, ◌<◌, List, Bool, true, false, Option, None}
use Rattle.posix_calls.specs.Operations.{is_client}
use Rattle.world_invariant.specs.World.{Account, Client}
use Rattle.world_history.specs.Configuration.{Configuration}
use Rattle.world_history.specs.Opening.{found_block}

-- ---- the same for all clients

pub record HasSameParts (s t : Configuration) : Type 0 where
  pub shared : t.kernel.machine.kernel.shared ≡ s.kernel.machine.kernel.shared
  pub capacity : t.kernel.machine.kernel.capacity ≡ s.kernel.machine.kernel.capacity
  pub accounts : (c : ℕ) → is_client c ≡ true → t.kernel.machine.kernel.accounts c ≡ s.kernel.machine.kernel.accounts c
  pub accepted : (c : ℕ) → is_client c ≡ true → t.kernel.machine.accepted c ≡ s.kernel.machine.accepted c
  pub failed : t.kernel.failed_digest ≡ s.kernel.failed_digest
  pub clients : (c : ℕ) → is_client c ≡ true → t.clients c ≡ s.clients c

-- one client holds what another one holds
pub record HoldsAs (p q : Client) : Type 0 where
  pub reads : p.reads ≡ q.reads
  pub writes : p.writes ≡ q.writes

-- ---- what lists can tell

-- nothing stands past some number
pub record IsFinite {A : Type 0} (f : ℕ → Option A) : Type 0 where
  pub last : ℕ
  pub none : (i : ℕ) → last < i → f i ≡ None

-- no number past some one is in it
pub record IsFiniteSet (f : ℕ → Bool) : Type 0 where
  pub last : ℕ
  pub none : (i : ℕ) → last < i → f i ≡ false

pub record CanListClient (c : ℕ) (p : Client) : Type 0 where
  pub number : p.knows.client ≡ c
  pub own : IsFinite p.knows.own
  pub copies : IsFinite p.knows.copies
  pub blocks : List (ℕ × List (ℕ × List ℕ))
  pub blocks_are : (i b : ℕ) → found_block blocks i b ≡ p.knows.blocks i b
  pub granted : IsFiniteSet p.knows.granted
  pub pins : IsFiniteSet p.pins

pub record CanListAccount (a : Account) : Type 0 where
  pub numbers : IsFiniteSet a.numbers
  pub pins : IsFiniteSet a.pins

pub record CanBeListed (s : Configuration) : Type 0 where
  pub nodes : IsFinite s.kernel.machine.kernel.shared
  pub accounts : (c : ℕ) → is_client c ≡ true → CanListAccount (s.kernel.machine.kernel.accounts c)
  pub clients : (c : ℕ) → is_client c ≡ true → CanListClient c (s.clients c)
