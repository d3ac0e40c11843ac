-- What others ask of a client: what it hears, row by row of 64 inodes, and what it answers.
use Rattle.std.specs.Prelude.{◌≡◌, ◌≢◌, ◌⊎◌, ◌+◌, ◌-◌, ◌*◌, ◌/◌, ◌≤◌, ◌<◌, ℕ, zero, suc, List, slice_index, slice_set, bit_or}
use Rattle.std.specs.Int.{bit_at}
use Rattle.libfs.specs.lease_manager.Passes.{client_of, lease_of, with_event}
use Rattle.libfs.specs.lease_manager.Words.{HasWord, asked_word}
use Rattle.libfs.specs.lease_manager.declared.view.Event.TheVariants.{Heard, Looked}
use Rattle.libfs.specs.lease_manager.declared.view.LeaseMode.TheVariants.{Free}
use Rattle.libfs.specs.LeaseCalls.{CanBeGiven}
use Rattle.libfs.specs.View.{ClientView}
use Rattle.strata_threads.specs.LeaseReturn.{HasOnlyGiven}

-- the row of an inode
abbrev pub row_of : ℕ → ℕ
row_of i = (i - 1) / 64

-- the inode of a bit of a row that is set
abbrev pub IsAskedOf : ℕ → ℕ → ℕ → Type 0
IsAskedOf row bits i = (bit : ℕ) × (bit < 64) × (i ≡ 64 * row + bit + 1) × (bit_at bits bit ≡ 1)

module _ {M : Type 0} where
  -- it holds no inode of that row or of one behind it
  abbrev pub HoldsWithin : ℕ → ClientView M → Type 0
  HoldsWithin rows v = (i : ℕ) → HasWord i → rows ≤ row_of i → lease_of v.pass i ≡ Free

  -- no fewer rows have all that it holds
  abbrev pub NeedsRows : ℕ → ClientView M → Type 0
  NeedsRows rows v = (fewer : ℕ) → HoldsWithin fewer v → rows ≤ fewer

  -- ---- what it hears

  -- the client once it looked at a row, which showed that, and once it emptied the row, and heard that
  abbrev pub looked_at : ClientView M → ℕ → ℕ → ClientView M
  looked_at v row shown = record v { pass = with_event v.pass (Looked (asked_word (client_of v.pass) row) shown) }

  abbrev pub heard_of : ClientView M → ℕ → ℕ → ClientView M
  heard_of v row bits = record v { pass = with_event v.pass (Heard (asked_word (client_of v.pass) row) bits) }

  -- It looked at a row, and emptied it exactly where something was asked for.
  abbrev pub HasHeardRow : ClientView M → ℕ → ℕ → ClientView M → Type 0
  HasHeardRow old row bits new = ((new ≡ looked_at old row 0) × (bits ≡ 0)) ⊎ ((shown : ℕ) × (shown ≢ 0) × (new ≡ heard_of (looked_at old row shown) row bits))

  -- It heard so many rows, one after the other, and what it heard is asked beside what was asked before.
  abbrev pub HasHeardRows : ℕ → ClientView M → List ℕ → ClientView M → List ℕ → Type 0
  HasHeardRows zero old asked new after = (new ≡ old) × (after ≡ asked)
  HasHeardRows (suc n) old asked new after = (v : ClientView M) × (before : List ℕ) × (bits : ℕ) × HasHeardRows n old asked v before × HasHeardRow v n bits new × (after ≡ slice_set before n (bit_or (slice_index before n) bits))

  -- ---- what it answers

  -- The inode of a bit of a row is not held, or it is asked for still, and can't be given.
  abbrev pub IsGivenOrAsked : ClientView M → ℕ → ℕ → ℕ → Type 0
  IsGivenOrAsked v row left bit = (lease_of v.pass (64 * row + bit + 1) ≡ Free) ⊎ ((bit_at left bit ≡ 1) × (CanBeGiven v (64 * row + bit + 1) → ⊥))

  -- so is each of these bits of a row
  abbrev pub AreGivenOrAsked : ClientView M → ℕ → ℕ → ℕ → Type 0
  AreGivenOrAsked v row bits left = (bit : ℕ) → bit < 64 → bit_at bits bit ≡ 1 → IsGivenOrAsked v row left bit

  -- The bit is one of those that were asked for, and its inode is held.
  abbrev pub IsHeldAndAsked : ClientView M → ℕ → ℕ → ℕ → Type 0
  IsHeldAndAsked v row bits bit = (bit_at bits bit ≡ 1) × (lease_of v.pass (64 * row + bit + 1) ≢ Free)

  -- so is each bit that is left of a row
  abbrev pub AreHeldAndAsked : ClientView M → ℕ → ℕ → ℕ → Type 0
  AreHeldAndAsked v row bits left = (bit : ℕ) → bit < 64 → bit_at left bit ≡ 1 → IsHeldAndAsked v row bits bit

  -- No lease has changed but of inodes of a row whose bits are set.
  abbrev pub HasGivenAsked : ℕ → ℕ → ClientView M → ClientView M → Type 0
  HasGivenAsked row bits old new = (i : ℕ) → HasWord i → (lease_of new.pass i ≡ lease_of old.pass i) ⊎ IsAskedOf row bits i

  -- so of the first rows
  abbrev pub HasGivenAskedRows : ℕ → List ℕ → ClientView M → ClientView M → Type 0
  HasGivenAskedRows rows asked old new = (i : ℕ) → HasWord i → (lease_of new.pass i ≡ lease_of old.pass i) ⊎ ((row : ℕ) × (row < rows) × IsAskedOf row (slice_index asked row) i)

-- It heard the first rows, has only given since, and of what it was asked there, then or before, each inode is given, or it is held and asked still since it can't be given. No other lease has changed, and what is asked of other rows stays.
pub record HasAnsweredRows {M : Type 0} (rows : ℕ) (old : ClientView M) (asked : List ℕ) (new : ClientView M) (left : List ℕ) : Type 0 where
  pub heard : ClientView M
  pub known : List ℕ
  pub hears : HasHeardRows rows old asked heard known
  pub answered : (row : ℕ) → row < rows → AreGivenOrAsked new row (slice_index known row) (slice_index left row)
  pub only : (row : ℕ) → row < rows → AreHeldAndAsked new row (slice_index known row) (slice_index left row)
  pub given : HasOnlyGiven heard new
  pub unasked : HasGivenAskedRows rows known heard new
  pub later : (row : ℕ) → rows ≤ row → slice_index left row ≡ slice_index asked row

-- something is left of the first rows
abbrev pub IsSomeLeft : ℕ → List ℕ → Type 0
IsSomeLeft rows asked = (row : ℕ) × (row < rows) × (slice_index asked row ≢ 0)
