-- Parts over others, medium by medium, are read as those are.
use Rattle.std.proofs.Common.{◌≡◌, ◌∙◌, ℕ, zero, suc, List, [], ◌∷◌, ◌++◌, drop, map, refl, sym, subst}
use Rattle.std.specs.Prelude.{Result, Ok, Err, IfOk, get_or, slice_index_or}
use Rattle.tier_device.specs.AfterStop.{AtRest}
use Rattle.tier_device.specs.declared.media.Media.{Ghosts}
use Rattle.tier_device.specs.declared.media.Tier.{Tier}
use Rattle.world_files.specs.Images.{AreRead}
use Rattle.world_files.specs.host_media.Images.{content_bytes, content_sizes, media_bytes, medium_sizes}
use Rattle.world_files.specs.area_recovery.Parts.{PartsView, part_medium}

module _ {S T : Type 0} (upper : Ghosts S) (lower : Ghosts T) (f : S → T) (seen : (x : S) → upper.seen x ≡ lower.seen (f x))
    (rests : (x : S) (t : Tier) → AtRest (lower.seen (f x)) (lower.left (f x) (lower.moment (f x))) t → AtRest (upper.seen x) (upper.left x (upper.moment x)) t) where
  sizes_same : (xs : List S) → map (medium_sizes upper.seen) xs ≡ map (medium_sizes lower.seen) (map f xs)
  sizes_same [] = refl
  sizes_same (x ∷ xs) = λ i. content_sizes (seen x i) ∷ sizes_same xs i

  bytes_same : (xs : List S) → media_bytes upper.seen xs ≡ media_bytes lower.seen (map f xs)
  bytes_same [] = refl
  bytes_same (x ∷ xs) = λ i. content_bytes (seen x i) ++ bytes_same xs i

  abbrev beneath_parts : PartsView S → PartsView T
  beneath_parts v = record { shared = f v.shared; regions = map f v.regions }

  place_of : (xs : List S) (k : ℕ) (d : S) → slice_index_or (map f xs) k (f d) ≡ f (slice_index_or xs k d)
  place_of [] k d = refl
  place_of (x ∷ xs) zero d = refl
  place_of (x ∷ xs) (suc k) d = place_of xs k d

  part_beneath : (v : PartsView S) (p : ℕ) → part_medium (beneath_parts v) p ≡ f (part_medium v p)
  part_beneath v zero = refl
  part_beneath v (suc k) = place_of v.regions k v.shared

  over_read : (image : List ℕ) (v : PartsView S) → AreRead lower image (beneath_parts v) → AreRead upper image v
  over_read image v r = record {
    geometry = r.geometry;
    found = r.found;
    long = r.long;
    sizes = sizes_same (v.shared ∷ v.regions) ∙ r.sizes;
    bytes = bytes_same (v.shared ∷ v.regions) ∙ r.bytes;
    rest = λ p t low. rests (part_medium v p) t (subst (λ x. AtRest (lower.seen x) (lower.left x (lower.moment x)) t) (part_beneath v p) (r.rest p t low));
  }

  pub counted_read : {X E : Type 0} (parts : X → PartsView S) (image : List ℕ) (w : PartsView T) → AreRead lower image w → (r : Result X E) → IfOk r (λ x. map f ((parts x).shared ∷ (parts x).regions) ≡ w.shared ∷ w.regions)
      → IfOk r (λ x. AreRead upper image (parts x))
  counted_read parts image w read (Ok x) is =
      let same : w ≡ beneath_parts (parts x) = λ i. record { shared = get_or (sym is i) 0 w.shared; regions = drop 1 (sym is i) } in
      over_read image (parts x) (subst (λ (v : PartsView T). AreRead lower image v) same read)
  counted_read parts image w read (Err e) is = tt
