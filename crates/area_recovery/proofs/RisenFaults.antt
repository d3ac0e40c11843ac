-- The counts of failed calls of the parts.
use Rattle.std.proofs.Common.{◌≡◌, inl, inr, ℕ, suc, ◌^◌, ◌<◌, ◌≤◌, List, [], ◌∷◌, length, arith}
use Rattle.std.specs.Prelude.{slice_index_or}
use Rattle.tier_device.specs.declared.media.Media.{Ghosts}
use Rattle.tier_device.specs.Media.{Rose}
use Rattle.event_lists.specs.Courses.{PARTS}
use Rattle.area_recovery.specs.Parts.{part_medium}
use Rattle.area_recovery.specs.PartMedia.{SomeRose}
use Rattle.area_recovery.specs.Regions.{HaveRisen, REGIONS, SomeZip}

-- the items of two lists that are related
pub some_place : {X Y : Type 0} (R : X → Y → Type 0) (xs : List X) (ys : List Y) (d : X) (e : Y) → SomeZip R xs ys → (k : ℕ) × (k < length xs) × R (slice_index_or xs k d) (slice_index_or ys k e)
some_place R [] ys d e some = absurd some
some_place R (x ∷ xs) [] d e some = absurd some
some_place R (x ∷ xs) (y ∷ ys) d e (inl here) = (0, omega arith, here)
some_place R (x ∷ xs) (y ∷ ys) d e (inr later) = let at = some_place R xs ys d e later in let low = at.1 in (suc at.0, omega (arith, low), at.2)

pub rose_earlier : (a b c : ℕ) → a ≤ b → Rose b c → Rose a c
rose_earlier a b c low (inl rose) = inl (omega (arith, low, rose))
rose_earlier a b c low (inr most) = inr most

pub rose_later : (a b c : ℕ) → Rose a b → b ≤ c → c < 2 ^ 64 → Rose a c
rose_later a b c (inl rose) low few = inl (omega (arith, low, rose))
rose_later a b c (inr most) low few = inr (omega (arith, low, most, few))

module _ {M : Type 0} (device : Ghosts M) where
  -- the law of media: the count has a greatest value
  abbrev pub CountsFew : Type 0
  CountsFew = (m : M) → device.faults m < 2 ^ 64

  -- a region's count rose, so a part's did
  pub regions_rose : (shared : M) (regions : List M) (other : M) (others : List M) → length regions ≡ REGIONS → HaveRisen device regions others → SomeRose device (part_medium (record { shared = shared; regions = regions })) (part_medium (record { shared = other; regions = others }))
  regions_rose shared regions other others all risen =
      let at = some_place (λ m n. Rose (device.faults m) (device.faults n)) regions others shared other risen in
      let low = at.1 in
      record { part = suc at.0; low = omega (arith, low, all); rose = at.2 }

  pub shared_rose : (old new : ℕ → M) → Rose (device.faults (old 0)) (device.faults (new 0)) → SomeRose device old new
  shared_rose old new rose = record { part = 0; low = omega arith; rose = rose }

  pub some_earlier : (old mid new : ℕ → M) → ((p : ℕ) → p < PARTS → device.faults (old p) ≤ device.faults (mid p)) → SomeRose device mid new → SomeRose device old new
  some_earlier old mid new low rose = record { part = rose.part; low = rose.low; rose = rose_earlier (device.faults (old rose.part)) (device.faults (mid rose.part)) (device.faults (new rose.part)) (low rose.part rose.low) rose.rose }

  pub some_later : CountsFew → (old mid new : ℕ → M) → ((p : ℕ) → p < PARTS → device.faults (mid p) ≤ device.faults (new p)) → SomeRose device old mid → SomeRose device old new
  some_later few old mid new low rose = record { part = rose.part; low = rose.low; rose = rose_later (device.faults (old rose.part)) (device.faults (mid rose.part)) (device.faults (new rose.part)) rose.rose (low rose.part rose.low) (few (new rose.part)) }
