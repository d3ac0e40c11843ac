-- An inode whose slot is free.
use Rattle.std.proofs.Common.{◌≡◌, ℕ, [], refl, sym, ap, subst, ◌∙◌, Some, None}
use Rattle.std.specs.Prelude.{is_some, IsSome}
use Rattle.std.proofs.lemmas.Bool.{false≢true}
use Rattle.tier_device.specs.declared.media.Tier.{Tier}
use Rattle.area_reader.specs.layout.declared.slot.Slot.TheVariants as slots
use Rattle.area_reader.specs.layout.Places.{Sizes}
use Rattle.area_reader.specs.extent_tree.Normal.{IsNormal}
use Rattle.area_reader.specs.extent_tree.Places.{place_of}
use Rattle.area_reader.specs.extent_tree.Map.{TierRuns, runs_in, lies_at}
use Rattle.area_commit.specs.InodeRewrite.{IsFit}

module _ (m : TierRuns) (none : (t : Tier) → runs_in m t ≡ []) where
  nowhere : (t : Tier) (k : ℕ) → lies_at m t k ≡ None
  nowhere t k = ap (λ es. place_of es k) (none t)

  not_there : (t : Tier) (k : ℕ) → IsSome (lies_at m t k) → ⊥
  not_there t k some = false≢true (sym (ap is_some (nowhere t k)) ∙ some)

  not_at : (t : Tier) (k p : ℕ) → lies_at m t k ≡ Some p → ⊥
  not_at t k p at = not_there t k (ap is_some at)

  pub free_fits : (g : Sizes) → IsFit g slots.Free m
  free_fits g = record {
    limits = refl;
    normal = λ t. subst IsNormal (sym (none t)) (record { rising = tt; apart = tt; places = tt });
    below = λ t k some. absurd (not_there t k some);
    within = λ t k p at. absurd (not_at t k p at);
    apart = λ t j k p at to. absurd (not_at t j p at);
    once = λ t u k here there. absurd (not_there t k here);
  }
