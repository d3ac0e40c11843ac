-- The parts of the empty world, from what holds of its area and of its regions.
use Rattle.std.proofs.Common.{◌≡◌, ℕ, ◌%◌, ◌<◌, ◌≤◌, List, length, sym, ◌∙◌}
use Rattle.std.specs.List.{AllZip}
use Rattle.recovery_laws.specs.Fresh.{fresh_region, fresh_tiers}
use Rattle.recovery_laws.specs.batch_journal.View.{JournalView}
use Rattle.recovery_laws.specs.layout.Places.{Sizes}
use Rattle.log_survey.specs.update_log.View.{RegionView}
use Rattle.tier_device.specs.declared.media.Media.{Ghosts}
use Rattle.tier_device.specs.declared.media.Tier.{Tier}
use Rattle.event_lists.specs.Courses.{PARTS}
use Rattle.area_recovery.specs.FreshContents.{AreFreshRegions, AreLater, HoldsContent, IsLater, fresh_contents}
use Rattle.area_recovery.specs.Parts.{part_medium}
use Rattle.area_recovery.specs.PartMedia.{AreUntouched, media_beneath}
use Rattle.area_recovery.specs.Recovers.{region_content}
use Rattle.area_recovery.specs.Regions.{IsGivenBack, IsReopened, media_of}
use Rattle.area_recovery.proofs.FreshMedia.{holds_untouched, later_untouched}
use Rattle.area_recovery.proofs.OpenedLists.{all_by_map}
use Rattle.area_recovery.proofs.PartRows.{all_later_on, each_part, zip_at, zip_long}

module _ {M : Type 0} (device : Ghosts M) (seen_now : (m : M) (t : Tier) → device.left m (device.moment m) t (device.seen m t))
    (sized : (m : M) (k : ℕ) (t : Tier) (c : List ℕ) → k ≤ device.moment m → device.left m k t c → length c ≡ length (device.seen m t)) where
  -- media that are given back, beside a shared one that is later
  pub given_later : (shared shared' : M) (media media' : List M) → length media ≡ 16 → IsLater device shared shared' → AllZip (IsGivenBack device) media media'
      → AreLater device (part_medium (record { shared = shared; regions = media })) (part_medium (record { shared = shared'; regions = media' }))
  given_later shared shared' media media' long later back =
      each_part (λ p. IsLater device) (record { shared = shared; regions = media }) (record { shared = shared'; regions = media' }) long (sym (zip_long (IsGivenBack device) media media' back) ∙ long) later
      (λ k m n at_m at_n. later_untouched device seen_now sized m n (zip_at (IsGivenBack device) media media' back k m n at_m at_n).untouched)

  module _ (area : JournalView M) (media : List M) (regions : List (RegionView M)) (long : length media ≡ 16) (opened : AllZip (IsReopened device) media regions) where
    pub beneath : AllZip (IsGivenBack device) media (media_of regions)
    beneath = all_by_map (IsGivenBack device) (IsReopened device) (λ v. v.media) (λ m v h. h.back) media regions opened

    pub all_beneath : length (media_of regions) ≡ 16
    all_beneath = sym (zip_long (IsGivenBack device) media (media_of regions) beneath) ∙ long

    pub beneath_later : (shared : M) → IsLater device shared area.media → AreLater device (part_medium (record { shared = shared; regions = media })) (part_medium (media_beneath area regions))
    beneath_later shared later = given_later shared area.media media (media_of regions) long later beneath

    module _ (g : Sizes) (shared_holds : HoldsContent device (fresh_tiers g) area.media) (holds : AreFreshRegions device media) where
      beneath_holds : (p : ℕ) → p < PARTS → HoldsContent device (fresh_contents g p) (part_medium (media_beneath area regions) p)
      beneath_holds = each_part (λ p m n. HoldsContent device (fresh_contents g p) n) (record { shared = area.media; regions = media }) (media_beneath area regions) long all_beneath shared_holds
          (λ k m n at_m at_n. holds_untouched device seen_now sized (region_content (fresh_region (k % 2))) m n (zip_at (IsGivenBack device) media (media_of regions) beneath k m n at_m at_n).untouched (holds k m at_m))

      pub parts_hold : (parts : ℕ → M) → AreUntouched device (part_medium (media_beneath area regions)) parts → (p : ℕ) → p < PARTS → HoldsContent device (fresh_contents g p) (parts p)
      parts_hold parts same p lt = holds_untouched device seen_now sized (fresh_contents g p) (part_medium (media_beneath area regions) p) (parts p) (same p lt) (beneath_holds p lt)

    pub parts_later : (shared : M) (parts : ℕ → M) → IsLater device shared area.media → AreUntouched device (part_medium (media_beneath area regions)) parts
        → AreLater device (part_medium (record { shared = shared; regions = media })) parts
    parts_later shared parts later same =
        all_later_on device (part_medium (record { shared = shared; regions = media })) (part_medium (media_beneath area regions)) parts (beneath_later shared later)
        (λ p lt. later_untouched device seen_now sized (part_medium (media_beneath area regions) p) (parts p) (same p lt))
