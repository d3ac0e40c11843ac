-- What is known of the bytes of a file, or of a range of it: for each place the byte that this process last read or wrote there, as far as
-- calls have told it. A read tells the bytes that it gives, a write those that it is given.
use Rattle.std.specs.Prelude.{ℕ, ◌+◌, List, [], ◌∷◌, ◌++◌, length, take, drop, map, replicate, Option, Some, None, Bool, true, false, ◌&&◌, nat_eq, if◌then◌else◌}
use Rattle.host_media.specs.declared.sizes.Sizes.{Sizes}
use Rattle.host_media.specs.Sizes.{byte_count}

abbrev pub Told : Type 0
Told = List (Option ℕ)

-- all of these bytes are known
abbrev pub known : List ℕ → Told
known bytes = map Some bytes

-- none of so many is
abbrev pub unknown : ℕ → Told
unknown n = replicate n None

-- other places told anew, from one on
abbrev pub with_told : Told → ℕ → Told → Told
with_told old at new = take at old ++ new ++ drop (at + length new) old

-- the places of a range
abbrev pub part_told : Told → ℕ → ℕ → Told
part_told all at n = take n (drop at all)

-- just these bytes are known
abbrev pub told_is : Told → List ℕ → Bool
told_is [] [] = true
told_is [] (y ∷ bytes) = false
told_is (x ∷ told) [] = false
told_is (None ∷ told) (y ∷ bytes) = false
told_is (Some x ∷ told) (y ∷ bytes) = nat_eq x y && told_is told bytes

-- what calls have noted of a range: what is known of its bytes, how many writes the system was given, and how many of these gave other bytes than were known
-- there
pub record Noted : Type 0 where
  pub told : Told
  pub writes : ℕ
  pub changes : ℕ

-- one change more, where other bytes are written than were known there
abbrev pub changes_after : Told → List ℕ → ℕ → ℕ
changes_after before bytes n = if told_is before bytes then n else n + 1

-- nothing is known of a file that has as many bytes as these tiers
abbrev pub untold : Sizes → Noted
untold sizes = record { told = unknown (byte_count sizes); writes = 0; changes = 0 }
