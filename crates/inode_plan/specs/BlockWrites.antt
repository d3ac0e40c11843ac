-- Which blocks of a file are written for a change.
use Rattle.std.specs.Prelude.{◌≡◌, ◌↔◌, ◌⊎◌, ℕ, List, Bool, true, Option, IsSome}
use Rattle.std.specs.List.{Contains}
use Rattle.std.specs.Ordering.{nat_cmp}
use Rattle.std.specs.BTreeMap.{BTreeMap, get}
use Rattle.block_alloc.specs.Runs.{Rising}
use Rattle.tier_device.specs.declared.media.Tier.{Tier}
use Rattle.area_commit.specs.graph_change.Change.{Change}
use Rattle.area_commit.specs.InodeChange.{writes_over}

-- The numbers rise.
abbrev pub Rise : List ℕ → Type 0
Rise numbers = (end : ℕ) × Rising 0 end numbers

-- These are exactly the numbers of the blocks that a change writes of a file whose blocks lay so before; they rise.
pub record AreNumbers (lay : Tier → ℕ → Option ℕ) (c : Change) (written : List ℕ) : Type 0 where
  pub rising : Rise written
  pub each : (k : ℕ) → Contains written k ↔ (writes_over lay c k ≡ true)

-- These are the numbers at which something is kept, and no others; they rise.
pub record AreKeys (blocks : BTreeMap ℕ (List ℕ × List Bool)) (numbers : List ℕ) : Type 0 where
  pub rising : Rise numbers
  pub each : (k : ℕ) → Contains numbers k ↔ IsSome (get nat_cmp blocks k)

-- The numbers rise, and are the old ones with this one, which may have been among them.
pub record HasOneMore (number : ℕ) (old new : List ℕ) : Type 0 where
  pub rising : Rise new
  pub each : (k : ℕ) → Contains new k ↔ (Contains old k ⊎ (k ≡ number))
