-- What holds of each part, by what holds of the shared medium and of the media of the regions.
use Rattle.std.proofs.Common.{◌≡◌, ◌⊎◌, inl, inr, ℕ, zero, suc, ◌<◌, ◌≤◌, List, [], ◌∷◌, ◌++◌, All, length, refl, ap, sym, ◌∙◌, subst, arith, append-nil, take, drop}
use Rattle.std.specs.List.{AllZip}
use Rattle.std.specs.Prelude.{slice_get, Some}
use Rattle.std.proofs.lemmas.List.{drop_all, take_all}
use Rattle.std.proofs.lemmas.Option.{slice_get-get_or}
use Rattle.tier_device.specs.declared.media.Media.{Ghosts}
use Rattle.tier_device.specs.Media.{Rose}
use Rattle.event_lists.specs.Courses.{PARTS}
use Rattle.area_recovery.specs.FreshContents.{AreLater, IsLater}
use Rattle.area_recovery.specs.Parts.{PartsView, part_medium}
use Rattle.area_recovery.specs.PartMedia.{SomeRose}
use Rattle.area_recovery.specs.Regions.{HaveRisen}
use Rattle.area_recovery.proofs.FreshTiers.{later_on, same_later}
use Rattle.area_recovery.proofs.RisenFaults.{regions_rose, shared_rose, some_earlier}

pub zip_long : {X Y : Type 0} (R : X → Y → Type 0) (xs : List X) (ys : List Y) → AllZip R xs ys → length xs ≡ length ys
zip_long R [] [] h = refl
zip_long R [] (y ∷ ys) h = absurd h
zip_long R (x ∷ xs) [] h = absurd h
zip_long R (x ∷ xs) (y ∷ ys) h = ap suc (zip_long R xs ys h.1)

pub zip_at : {X Y : Type 0} (R : X → Y → Type 0) (xs : List X) (ys : List Y) → AllZip R xs ys → (k : ℕ) (x : X) (y : Y) → slice_get xs k ≡ Some x → slice_get ys k ≡ Some y → R x y
zip_at R [] ys h k x y at_x at_y = absurd (cc)
zip_at R (x' ∷ xs) [] h k x y at_x at_y = absurd h
zip_at R (x' ∷ xs) (y' ∷ ys) h zero x y at_x at_y =
    let same_x : x' ≡ x = cc in
    let same_y : y' ≡ y = cc in
    subst (R x) same_y (subst (λ z. R z y') same_x h.0)
zip_at R (x' ∷ xs) (y' ∷ ys) h (suc k) x y at_x at_y = zip_at R xs ys h.1 k x y at_x at_y

module _ {M : Type 0} where
  -- of each part what is so of the shared medium and of the regions'
  pub each_part : (R : ℕ → M → M → Type 0) (v w : PartsView M) → length v.regions ≡ 16 → length w.regions ≡ 16 → R 0 v.shared w.shared
      → ((k : ℕ) (m n : M) → slice_get v.regions k ≡ Some m → slice_get w.regions k ≡ Some n → R (suc k) m n) → (p : ℕ) → p < PARTS → R p (part_medium v p) (part_medium w p)
  each_part R v w long long' shared each zero lt = shared
  each_part R v w long long' shared each (suc k) lt =
      let few : k < 16 = omega (arith, lt) in
      each k (part_medium v (suc k)) (part_medium w (suc k)) (slice_get-get_or v.regions k v.shared (omega (arith, few, long))) (slice_get-get_or w.regions k w.shared (omega (arith, few, long')))

-- what is so of each medium is so of each part
module _ {M : Type 0} (P : M → Type 0) (v : PartsView M) (sixteen : length v.regions ≡ 16) where
  pub every_part : All P (v.shared ∷ v.regions) → (p : ℕ) → p < PARTS → P (part_medium v p)
  every_part all zero low = all 0 v.shared (omega arith)
  every_part all (suc k) low = all (suc k) v.shared (omega (arith, low, sixteen))

module _ {M : Type 0} (device : Ghosts M) where
  -- the media of the regions are the same
  pub shared_later : (old new : M) (media : List M) → length media ≡ 16 → IsLater device old new → AreLater device (part_medium (record { shared = old; regions = media })) (part_medium (record { shared = new; regions = media }))
  shared_later old new media long later = each_part (λ p. IsLater device) (record { shared = old; regions = media }) (record { shared = new; regions = media }) long long later
      (λ k m n at_m at_n. let same : m ≡ n = (let e : Some m ≡ Some n = sym at_m ∙ at_n in cc) in subst (IsLater device m) same (same_later device m))

  pub all_later_on : (a b c : ℕ → M) → AreLater device a b → AreLater device b c → AreLater device a c
  all_later_on a b c first next p lt = later_on device (a p) (b p) (c p) (first p lt) (next p lt)

  -- a device of some part failed, and it may have been earlier
  pub region_rose : (old new : PartsView M) → length old.regions ≡ 16 → HaveRisen device old.regions new.regions → SomeRose device (part_medium old) (part_medium new)
  region_rose old new long risen = regions_rose device old.shared old.regions new.shared new.regions long risen

  pub earlier_rises : (old mid new : ℕ → M) → AreLater device old mid → SomeRose device mid new → SomeRose device old new
  earlier_rises old mid new later rose = some_earlier device old mid new (λ p low. (later p low).faults) rose

-- what a slice of a whole vector leaves in it
pub slice_back : {X : Type 0} (n : ℕ) (xs ys : List X) → length xs ≡ length ys → length ys ≤ n → take n (xs ++ drop (length xs) ys) ≡ xs
slice_back n xs ys same le =
    let none : drop (length xs) ys ≡ [] = drop_all (length xs) ys (omega (arith, same)) in
    ap (λ rest. take n (xs ++ rest)) none ∙ ap (take n) (append-nil xs) ∙ take_all n xs (omega (arith, same, le))

-- parts that are written, those of the regions through a slice of their vector
module _ {M : Type 0} (device : Ghosts M) (parts : PartsView M) (shared shared' : M) (media slice now : List M) (n : ℕ) (is_shared : shared ≡ parts.shared) (is_media : media ≡ parts.regions) (long : length media ≡ 16)
    (is_slice : slice ≡ media) (same : length now ≡ length slice) (whole : length media ≤ n) where
  abbrev pub before : PartsView M
  before = record { shared = shared; regions = media }

  abbrev pub after : PartsView M
  after = record { shared = shared'; regions = take n (now ++ drop (length now) media) }

  same_long : length now ≡ length media
  same_long = same ∙ ap length is_slice

  pub slice_left : take n (now ++ drop (length now) media) ≡ now
  slice_left = slice_back n now media same_long whole

  parts_are : before ≡ parts
  parts_are = λ i. record { shared = is_shared i; regions = is_media i }

  left_is : record { shared = shared'; regions = now } ≡ after
  left_is = ap (λ xs. record { shared = shared'; regions = xs }) (sym slice_left)

  pub written_later : IsLater device shared shared' → ((k : ℕ) (v w : M) → slice_get slice k ≡ Some v → slice_get now k ≡ Some w → IsLater device v w) → AreLater device (part_medium parts) (part_medium after)
  written_later later each =
      subst (λ v. AreLater device (part_medium v) (part_medium after)) parts_are
      (subst (λ v. AreLater device (part_medium before) (part_medium v)) left_is
      (each_part (λ p. IsLater device) before (record { shared = shared'; regions = now }) long (same_long ∙ long) later (λ k v w at_v at_w. each k v w (ap (λ xs. slice_get xs k) is_slice ∙ at_v) at_w)))

  pub written_rose : Rose (device.faults shared) (device.faults shared') ⊎ HaveRisen device slice now → SomeRose device (part_medium parts) (part_medium after)
  written_rose rose =
      subst (λ v. SomeRose device (part_medium v) (part_medium after)) parts_are
      (subst (λ v. SomeRose device (part_medium before) (part_medium v)) left_is
      (elim rose [
        | inl risen ↦ shared_rose device (part_medium before) (part_medium (record { shared = shared'; regions = now })) risen
        | inr risen ↦ region_rose device before (record { shared = shared'; regions = now }) long (subst (λ xs. HaveRisen device xs now) is_slice risen)
      ]))
