-- Media that keep their past can be parts of a course.
use Rattle.std.proofs.Common.{◌≡◌, ◌≢◌, ℕ, zero, suc, ◌≤◌, ◌<◌, refl, List, []}
use Rattle.std.specs.Prelude.{◌↔◌, None}
use Rattle.tier_device.specs.declared.media.Tier.{Tier}
use Rattle.tier_device.specs.Media.{Keeps}
use Rattle.posix_calls.specs.EmptyTree.{empty_state}
use Rattle.posix_calls.specs.Run.{settled}
use Rattle.event_lists.specs.Outcome.{IsOutcome}
use Rattle.event_lists.specs.Courses.{PARTS, Content, MovesOnly}
use Rattle.event_lists.specs.FencedMedia.{clock_of, left_of}

module _ {M : Type 0} (moment : M → ℕ) (left : M → ℕ → Tier → List ℕ → Type 0) where
  pub shared_moves : (a b r : M) → Keeps (moment a) (moment b) (left a) (left b) → MovesOnly 0 (clock_of moment a r) (clock_of moment b r)
  shared_moves a b r keeps = record { later = keeps.later; others = others }
    where
      others : (p : ℕ) → p < PARTS → p ≢ 0 → clock_of moment b r p ≡ clock_of moment a r p
      others zero part not = absurd (not refl)
      others (suc zero) part not = refl
      others (suc (suc p)) part not = refl

  pub region_moves : (s a b : M) → Keeps (moment a) (moment b) (left a) (left b) → MovesOnly 1 (clock_of moment s a) (clock_of moment s b)
  region_moves s a b keeps = record { later = keeps.later; others = others }
    where
      others : (p : ℕ) → p < PARTS → p ≢ 1 → clock_of moment s b p ≡ clock_of moment s a p
      others zero part not = refl
      others (suc zero) part not = absurd (not refl)
      others (suc (suc p)) part not = refl

  pub shared_past : (a b r : M) → Keeps (moment a) (moment b) (left a) (left b)
      → (p m : ℕ) (c : Content) → p < PARTS → m ≤ clock_of moment a r p → left_of left b r p m c ↔ left_of left a r p m c
  shared_past a b r keeps zero m c part le = (λ held t. keeps.nothing_else m t (c t) le (held t), λ held t. keeps.keeps m t (c t) le (held t))
  shared_past a b r keeps (suc zero) m c part le = (λ h. h, λ h. h)
  shared_past a b r keeps (suc (suc p)) m c part le = (λ h. h, λ h. h)

  pub region_past : (s a b : M) → Keeps (moment a) (moment b) (left a) (left b)
      → (p m : ℕ) (c : Content) → p < PARTS → m ≤ clock_of moment s a p → left_of left s b p m c ↔ left_of left s a p m c
  region_past s a b keeps zero m c part le = (λ h. h, λ h. h)
  region_past s a b keeps (suc zero) m c part le = (λ held t. keeps.nothing_else m t (c t) le (held t), λ held t. keeps.keeps m t (c t) le (held t))
  region_past s a b keeps (suc (suc p)) m c part le = (λ h. h, λ h. h)

-- with no call, the empty tree is left
pub empty_tree_is_left : IsOutcome empty_state [] (λ c. None) (settled empty_state)
empty_tree_is_left = record { more = []; last = empty_state; some_of = tt; run = refl; settled = refl }
