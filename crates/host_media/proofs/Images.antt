-- Rows of bytes of media.
use Rattle.std.proofs.Common.{◌≡◌, ◌∙◌, ◌+◌, ◌<◌, ℕ, List, [], ◌∷◌, ◌++◌, length, take, get_or, suc, sym, refl, ap, arith}
use Rattle.std.proofs.Math.Seq.{take-suc}
use Rattle.std.proofs.lemmas.List.{append_assoc, append-nil}
use Rattle.tier_device.specs.declared.media.Tier.{Tier}
use Rattle.host_media.specs.Images.{content_bytes, media_bytes}

module _ {M : Type 0} (seen : M → Tier → List ℕ) where
  -- one medium more
  pub bytes_push : (media : List M) (m : M) → media_bytes seen (media ++ m ∷ []) ≡ media_bytes seen media ++ content_bytes (seen m)
  bytes_push [] m = append-nil (content_bytes (seen m))
  bytes_push (x ∷ xs) m = ap (λ bs. content_bytes (seen x) ++ bs) (bytes_push xs m) ∙ sym (append_assoc (content_bytes (seen x)) (media_bytes seen xs) (content_bytes (seen m)))

  -- and then the next one
  pub bytes_next : (media : List M) (k : ℕ) (d : M) → k < length media → media_bytes seen (take (k + 1) media) ≡ media_bytes seen (take k media) ++ content_bytes (seen (get_or media k d))
  bytes_next media k d within =
      let one_more : k + 1 ≡ suc k = omega arith in
      ap (λ n. media_bytes seen (take n media)) one_more ∙ ap (media_bytes seen) (take-suc media k d within) ∙ bytes_push (take k media) (get_or media k d)

-- a list of no length is empty
pub none_left : {X : Type 0} (xs : List X) → length xs ≡ 0 → xs ≡ []
none_left [] is = refl
none_left (x ∷ xs) is = absurd (omega (arith, is))
