-- Which medium a part is.
use Rattle.std.proofs.Common.{◌≡◌, ◌≢◌, inl, inr, ℕ, suc, ◌+◌, ◌-◌, ◌*◌, ◌/◌, ◌%◌, ◌<◌, cond, Bool, true, Option, Some, refl, ap, sym, ◌∙◌, subst, arith}
use Rattle.std.proofs.lemmas.Bool.Decides.{eqb_tells}
use Rattle.tier_device.specs.declared.media.Media.{Ghosts}
use Rattle.tier_device.specs.AfterStop.{Left}
use Rattle.posix_calls.specs.Operations.{is_client}
use Rattle.event_steps.specs.View.{SeatView, SystemView, seat_of}
use Rattle.event_steps.proofs.world_invariant_lemmas.Owners.{is_low, is_high}
use Rattle.event_lists.specs.Courses.{Content, LeftBetween, PARTS, WorldContent, part_of}
use Rattle.system_laws.specs.Parts.{medium_of, region_beside, region_medium, region_of}
use Rattle.system_laws.specs.Clocks.{clocks_of, left_of}

-- ---- a client's region, by the remainder

module _ {M : Type 0} (s : SeatView M) where
  -- the one that it writes
  pub current_region : region_of s (s.client.log.generation % 2) ≡ s.client.log.current
  current_region = elim (eqb_tells (s.client.log.generation % 2) (s.client.log.generation % 2)) [
    | inl same ↦ ap (λ (b : Bool). cond b s.client.log.current (region_beside s.client.log.current s.client.log.other s.away)) same.0
    | inr other ↦ absurd (other.1 refl)
  ]

  -- and the other one
  pub other_region : (r : ℕ) → r ≢ s.client.log.generation % 2 → region_of s r ≡ region_beside s.client.log.current s.client.log.other s.away
  other_region r off = elim (eqb_tells (s.client.log.generation % 2) r) [
    | inl same ↦ absurd (off (sym same.1))
    | inr other ↦ ap (λ (b : Bool). cond b s.client.log.current (region_beside s.client.log.current s.client.log.other s.away)) other.0
  ]

-- ---- the parts

pub part_is : (c r : ℕ) → is_client c ≡ true → r < 2 → part_of c r < PARTS
part_is c r is_c low = let most = is_high c is_c in let least = is_low c is_c in omega (arith, most, least, low)

module _ {M : Type 0} (w : SystemView M) where
  pub region_part : (c r : ℕ) (s : SeatView M) → is_client c ≡ true → r < 2 → seat_of w c ≡ Some s → medium_of w (part_of c r) ≡ (region_of s r).media
  region_part c r s is_c low there =
      let least = is_low c is_c in
      let at : part_of c r ≡ suc (2 * (c - 1) + r) = omega (arith, least) in
      let client : (2 * (c - 1) + r) / 2 + 1 ≡ c = omega (arith, least, low) in
      let remainder : (2 * (c - 1) + r) % 2 ≡ r = omega (arith, low) in
      ap (medium_of w) at
      ∙ ap (λ (k : ℕ). region_medium w.kernel.area.media (seat_of w k) ((2 * (c - 1) + r) % 2)) client
      ∙ ap (region_medium w.kernel.area.media (seat_of w c)) remainder
      ∙ ap (λ (o : Option (SeatView M)). region_medium w.kernel.area.media o r) there

module _ {M : Type 0} (device : Ghosts M) (w : SystemView M) where
  -- of a part this may be left now
  abbrev pub IsLeftNow : ℕ → Content → Type 0
  IsLeftNow p content = Left (device.left (medium_of w p)) (device.moment (medium_of w p)) content

  pub region_left : (c r : ℕ) (s : SeatView M) (content : Content) → is_client c ≡ true → r < 2 → seat_of w c ≡ Some s → IsLeftNow (part_of c r) content → Left (device.left (region_of s r).media) (device.moment (region_of s r).media) content
  region_left c r s content is_c low there left = subst (λ (m : M). Left (device.left m) (device.moment m) content) (region_part w c r s is_c low there) left

  -- what is left between a moment and the same one is left at that
  pub each_left : (c : WorldContent) → LeftBetween (left_of device w) (clocks_of device w) (clocks_of device w) c → (p : ℕ) → p < PARTS → IsLeftNow p (c p)
  each_left c left p low =
      let at = left p low in
      let from = at.1 in
      let to = at.2 in
      subst (λ (m : ℕ). Left (device.left (medium_of w p)) m (c p)) (omega (arith, from, to)) at.3
