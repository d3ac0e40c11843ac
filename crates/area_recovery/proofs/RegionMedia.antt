-- The media of regions among all parts.
use Rattle.std.proofs.Common.{◌≡◌, ℕ, zero, suc, ◌≤◌, List, [], ◌∷◌, ◌++◌, length, refl, ap, ◌∙◌, subst, arith}
use Rattle.std.specs.Prelude.{drop, slice_get, slice_index_or, take, Option, Some, None}
use Rattle.std.specs.List.{AllZip}
use Rattle.log_survey.specs.update_log.View.{RegionView}
use Rattle.recovery_laws.specs.batch_journal.View.{JournalView}
use Rattle.area_recovery.specs.Parts.{part_medium}
use Rattle.area_recovery.specs.PartMedia.{media_beneath}
use Rattle.area_recovery.specs.Regions.{media_of}

-- ---- lists

pub some_is : {X : Type 0} {a b : X} → Some a ≡ Some b → a ≡ b
some_is e = cc e

-- two lists that are related have related items at each place
pub zip_at : {X Y : Type 0} (R : X → Y → Type 0) (xs : List X) (ys : List Y) (k : ℕ) (x : X) → AllZip R xs ys → slice_get xs k ≡ Some x → (y : Y) × (slice_get ys k ≡ Some y) × R x y
zip_at R [] ys k x all h = absurd (cc h)
zip_at R (a ∷ xs) [] k x all h = absurd all
zip_at R (a ∷ xs) (b ∷ ys) zero x all h = (b, refl, subst (λ (z : _). R z b) (some_is h) all.0)
zip_at R (a ∷ xs) (b ∷ ys) (suc k) x all h = zip_at R xs ys k x all.1 h

pub zip_length : {X Y : Type 0} (R : X → Y → Type 0) (xs : List X) (ys : List Y) → AllZip R xs ys → length ys ≡ length xs
zip_length R [] [] all = refl
zip_length R [] (y ∷ ys) all = absurd all
zip_length R (x ∷ xs) [] all = absurd all
zip_length R (x ∷ xs) (y ∷ ys) all = ap suc (zip_length R xs ys all.1)

-- ---- media of regions

module _ {M : Type 0} where
  -- the medium at a place among those of regions
  pub medium_at : (vs : List (RegionView M)) (k : ℕ) (v : RegionView M) (d : M) → slice_get vs k ≡ Some v → slice_index_or (media_of vs) k d ≡ v.media
  medium_at [] k v d h = absurd (cc h)
  medium_at (w ∷ vs) zero v d h = ap (λ (o : Option (RegionView M)). medium_in d o) h
    where
      medium_in : M → Option (RegionView M) → M
      medium_in x None = x
      medium_in x (Some r) = r.media
  medium_at (w ∷ vs) (suc k) v d h = medium_at vs k v d h

  -- so it is that of the part
  pub part_at : (area : JournalView M) (vs : List (RegionView M)) (k : ℕ) (v : RegionView M) → slice_get vs k ≡ Some v → part_medium (media_beneath area vs) (suc k) ≡ v.media
  part_at area vs k v h = medium_at vs k v area.media h

-- ---- vectors that were lent as slices

-- a vector has what its slice has, which is as long
pub slice_back : {X : Type 0} (n : ℕ) (new old : List X) → n ≡ length old → length new ≡ length old → take n (new ++ drop (length new) old) ≡ new
slice_back n new old is same =
    ap (λ (k : ℕ). take n (new ++ drop k old)) same
    ∙ ap (λ (xs : List _). take n (new ++ xs)) (drop_all (length old) old (omega arith))
    ∙ ap (take n) (append_none new)
    ∙ take_all n new (let e = is in let f = same in omega (arith, e, f))
  where
    append_none : {Y : Type 0} (xs : List Y) → xs ++ [] ≡ xs
    append_none [] = refl
    append_none (x ∷ xs) = ap (λ ys. x ∷ ys) (append_none xs)

    drop_all : {Y : Type 0} (k : ℕ) (xs : List Y) → length xs ≤ k → drop k xs ≡ []
    drop_all zero [] low = refl
    drop_all (suc k) [] low = refl
    drop_all zero (x ∷ xs) low = absurd (omega (arith, low))
    drop_all (suc k) (x ∷ xs) low = drop_all k xs (omega (arith, low))

    take_all : {Y : Type 0} (k : ℕ) (xs : List Y) → length xs ≤ k → take k xs ≡ xs
    take_all zero [] low = refl
    take_all (suc k) [] low = refl
    take_all zero (x ∷ xs) low = absurd (omega (arith, low))
    take_all (suc k) (x ∷ xs) low = ap (λ ys. x ∷ ys) (take_all k xs (omega (arith, low)))
