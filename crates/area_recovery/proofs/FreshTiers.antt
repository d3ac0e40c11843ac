-- Media that hold fresh tiers.
use Rattle.std.proofs.Common.{◌≡◌, ◌≢◌, ℕ, ◌*◌, ◌≤◌, List, [], ◌∷◌, length, refl, sym, ◌∙◌, arith}
use Rattle.std.specs.Prelude.{Result, Ok, Err, OnOk}
use Rattle.recovery_laws.proofs.Zeros.{padded_long}
use Rattle.recovery_laws.specs.Fresh.{fresh_tiers}
use Rattle.recovery_laws.specs.layout.Places.{Sizes, tier_blocks}
use Rattle.recovery_laws.proofs.AreaBytes.{fast_long}
use Rattle.log_survey.specs.update_log.View.{HasSize}
use Rattle.tier_device.specs.declared.media.Media.{Ghosts}
use Rattle.tier_device.specs.declared.media.Tier.{Tier}
use Rattle.tier_device.specs.declared.media.Tier.TheVariants.{Fast, Block, Slow}
use Rattle.area_recovery.specs.declared.error.RecoveryError.{RecoveryError}
use Rattle.area_recovery.specs.FreshContents.{HoldsContent, IsLater, TierHolds}
use Rattle.area_recovery.specs.Recovers.{region_content}

pub tier_long : (g : Sizes) (t : Tier) → length (fresh_tiers g t) ≡ 4096 * tier_blocks g t
tier_long g Fast = fast_long g
tier_long g Block = padded_long (4096 * tier_blocks g Block) [] (omega arith)
tier_long g Slow = padded_long (4096 * tier_blocks g Slow) [] (omega arith)

nothing : (xs : List ℕ) → length xs ≡ 0 → xs ≡ []
nothing [] e = refl
nothing (x ∷ xs) e = absurd (omega (arith, e))

module _ {M : Type 0} (device : Ghosts M) where
  -- of each tier what is so of the three
  pub holds_all : (content : Tier → List ℕ) (m : M) → TierHolds device Fast (content Fast) m → TierHolds device Block (content Block) m → TierHolds device Slow (content Slow) m → HoldsContent device content m
  holds_all content m fast block slow Fast = fast
  holds_all content m fast block slow Block = block
  holds_all content m fast block slow Slow = slow

  -- the third tier is written behind the others
  pub holds_with : (content : Tier → List ℕ) (old new : M) (r : Result (Unit {0}) RecoveryError) → TierHolds device Fast (content Fast) old → TierHolds device Block (content Block) old
      → OnOk r ((t : Tier) (kept : List ℕ) → t ≢ Slow → TierHolds device t kept old → TierHolds device t kept new) → OnOk r (TierHolds device Slow (content Slow) new) → OnOk r (HoldsContent device content new)
  holds_with content old new (Ok x) fast block others slow = holds_all content new (others Fast (content Fast) (λ e. grind arith) fast) (others Block (content Block) (λ e. grind arith) block) slow
  holds_with content old new (Err e) fast block others slow = tt

  -- nothing is changed
  pub same_later : (m : M) → IsLater device m m
  same_later m = record {
    past = record { later = omega arith; nothing_else = λ k t c le h. h; keeps = λ k t c le h. h };
    lengths = λ t. refl;
    faults = omega arith;
  }

  pub later_on : (a b c : M) → IsLater device a b → IsLater device b c → IsLater device a c
  later_on a b c first next = record {
    past = record {
      later = omega (arith, first.past.later, next.past.later);
      nothing_else = λ k t x le h. first.past.nothing_else k t x le (next.past.nothing_else k t x (omega (arith, le, first.past.later)) h);
      keeps = λ k t x le h. next.past.keeps k t x (omega (arith, le, first.past.later)) (first.past.keeps k t x le h);
    };
    lengths = λ t. next.lengths t ∙ first.lengths t;
    faults = omega (arith, first.faults, next.faults);
  }

  module _ (sized : (m : M) (k : ℕ) (t : Tier) (c : List ℕ) → k ≤ device.moment m → device.left m k t c → length c ≡ length (device.seen m t)) where
    -- a tier without bytes has nothing pending
    empty_holds : (m : M) (t : Tier) → length (device.seen m t) ≡ 0 → TierHolds device t [] m
    empty_holds m t none = record {
      seen = nothing (device.seen m t) none;
      rests = λ c left. nothing c (sized m (device.moment m) t c (omega arith) left ∙ none) ∙ sym (nothing (device.seen m t) none);
    }

    -- a region whose fast tier is written
    pub region_holds : (bytes : List ℕ) (old new : M) → HasSize (device.seen old) → IsLater device old new → TierHolds device Fast bytes new → HoldsContent device (region_content bytes) new
    region_holds bytes old new size later fast =
        holds_all (region_content bytes) new fast (empty_holds new Block (later.lengths Block ∙ size.block)) (empty_holds new Slow (later.lengths Slow ∙ size.slow))
