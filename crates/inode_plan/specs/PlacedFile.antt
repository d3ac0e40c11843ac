-- Where the blocks of a file lie once some are written elsewhere.
use Rattle.std.specs.Prelude.{◌≡◌, ◌≢◌, ◌<◌, ◌≤◌, ◌+◌, ◌^◌, ℕ, List, Some, None, length, get_or}
use Rattle.tier_device.specs.declared.media.Tier.{Tier}
use Rattle.tier_device.specs.declared.media.Tier.TheVariants.{Fast}
use Rattle.area_commit.specs.extent_tree.Map.{TierRuns, lies_at}
use Rattle.area_commit.specs.extent_tree.declared.map.Place.{Place}

-- the number at a place of a list
abbrev pub nth_number : List ℕ → ℕ → ℕ
nth_number numbers n = get_or numbers n 0

-- one place of a list
abbrev pub nth_place : List Place → ℕ → Place
nth_place places n = get_or places n (record { tier = Fast; block = 0 })

-- The first so many of these blocks lie at these places, one each, and nowhere else; all others lie where they did.
pub record NumbersArePlaced (numbers : List ℕ) (places : List Place) (count : ℕ) (old new : TierRuns) : Type 0 where
  pub there : (n : ℕ) → n < count → lies_at new (nth_place places n).tier (nth_number numbers n) ≡ Some (nth_place places n).block
  pub once : (n : ℕ) (t : Tier) → n < count → t ≢ (nth_place places n).tier → lies_at new t (nth_number numbers n) ≡ None
  pub others : (k : ℕ) (t : Tier) → ((n : ℕ) → n < count → nth_number numbers n ≢ k) → lies_at new t k ≡ lies_at old t k

-- Each place is small enough for a map.
abbrev pub PlacesFit : List Place → Type 0
PlacesFit places = (n : ℕ) → n < length places → (nth_place places n).block + 1 < 2 ^ 32

-- Numbers and places are small enough for a map.
pub record CanBePlaced (numbers : List ℕ) (places : List Place) : Type 0 where
  pub enough : length numbers ≤ length places
  pub numbers_fit : (n : ℕ) → n < length numbers → nth_number numbers n + 1 < 2 ^ 32
  pub places_fit : (n : ℕ) → n < length numbers → (nth_place places n).block + 1 < 2 ^ 32

-- A number and its place lie so many behind those of another, in one tier.
pub record LiesBehind (numbers : List ℕ) (places : List Place) (first n : ℕ) : Type 0 where
  pub number : nth_number numbers (first + n) ≡ nth_number numbers first + n
  pub tier : (nth_place places (first + n)).tier ≡ (nth_place places first).tier
  pub block : (nth_place places (first + n)).block ≡ (nth_place places first).block + n

-- So many numbers from one on follow one another, and so do their places.
abbrev pub GoOn : List ℕ → List Place → ℕ → ℕ → Type 0
GoOn numbers places first count = (n : ℕ) → n < count → LiesBehind numbers places first n
