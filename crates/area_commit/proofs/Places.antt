-- Logical blocks, by where they lie.
use Rattle.std.proofs.Common.{◌≡◌, ◌≢◌, ◌≤◌, ◌<◌, ℕ, List, [], refl, ap, ◌∙◌, arith, Option, Some, None}
use Rattle.std.specs.Prelude.{is_some}
use Rattle.tier_device.specs.declared.media.Tier.{Tier}
use Rattle.tier_device.specs.declared.media.Tier.TheVariants.{Fast, Block, Slow}
use Rattle.area_reader.specs.layout.Places.{Sizes}
use Rattle.area_reader.specs.batch_journal.Blocks.{Blocks}
use Rattle.area_reader.specs.extent_tree.Map.{TierRuns, lies_at, LieOnce}
use Rattle.area_reader.specs.Store.{Store, place, at_or, logical_block}
use Rattle.area_commit.specs.InodeRewrite.{logical_by}

-- a block in the first of three tiers where it lies
abbrev found : Store → (Tier → Option ℕ) → List ℕ
found s o = at_or (s Fast) (o Fast) (at_or (s Block) (o Block) (at_or (s Slow) (o Slow) []))

found_none : (s : Store) (o : Tier → Option ℕ) → ((t : Tier) → o t ≡ None) → found s o ≡ []
found_none s o none = λ p. at_or (s Fast) (none Fast p) (at_or (s Block) (none Block p) (at_or (s Slow) (none Slow p) []))

pub by_nowhere : (s : Store) (m : TierRuns) (k : ℕ) → ((t : Tier) → lies_at m t k ≡ None) → logical_by s m k ≡ []
by_nowhere s m k none = found_none s (λ t. lies_at m t k) none

pub read_nowhere : (g : Sizes) (s : Store) (i k : ℕ) → ((t : Tier) → place g s i t k ≡ None) → logical_block g s i k ≡ []
unfolding logical_block
read_nowhere g s i k none = found_none s (λ t. place g s i t k) none

-- what is not below a number is nowhere, where all that is anywhere is below it
pub none_past : (o : Option ℕ) (n k : ℕ) → ((p : ℕ) → o ≡ Some p → k < n) → n ≤ k → o ≡ None
none_past None n k below past = refl
none_past (Some p) n k below past = absurd (let lt = below p refl in omega (arith, lt, past))

-- ---- in the tier where it lies

fast_block : Fast ≢ Block
fast_block e = cc

fast_slow : Fast ≢ Slow
fast_slow e = cc

block_slow : Block ≢ Slow
block_slow e = cc

module _ (s : Store) (m : TierRuns) (k p : ℕ) (once : LieOnce m) where
  elsewhere : (t u : Tier) → u ≢ t → lies_at m t k ≡ Some p → lies_at m u k ≡ None
  elsewhere t u other at = either (lies_at m u k) refl
    where
      either : (o : Option ℕ) → lies_at m u k ≡ o → lies_at m u k ≡ None
      either None is = is
      either (Some q) is = absurd (other (once u t k (ap is_some is) (ap is_some at)))

  pub by_there : (t : Tier) → lies_at m t k ≡ Some p → logical_by s m k ≡ s t p
  by_there Fast at = ap (λ o. at_or (s Fast) o (at_or (s Block) (lies_at m Block k) (at_or (s Slow) (lies_at m Slow k) []))) at
  by_there Block at = λ q. at_or (s Fast) (elsewhere Block Fast fast_block at q) (at_or (s Block) (at q) (at_or (s Slow) (lies_at m Slow k) []))
  by_there Slow at = λ q. at_or (s Fast) (elsewhere Slow Fast fast_slow at q) (at_or (s Block) (elsewhere Slow Block block_slow at q) (at_or (s Slow) (at q) []))

-- ---- where it was

stays_in : (new old : Blocks) (o q : Option ℕ) (x y : List ℕ) → o ≡ q → ((p : ℕ) → q ≡ Some p → new p ≡ old p) → x ≡ y → at_or new o x ≡ at_or old q y
stays_in new old o q x y is same others = ap (λ r. at_or new r x) is ∙ at_place q same
  where
    at_place : (r : Option ℕ) → ((p : ℕ) → r ≡ Some p → new p ≡ old p) → at_or new r x ≡ at_or old r y
    at_place None same = others
    at_place (Some p) same = same p refl

pub by_same : (g : Sizes) (old new : Store) (i : ℕ) (m : TierRuns) (k : ℕ) → ((t : Tier) → lies_at m t k ≡ place g old i t k) → ((t : Tier) (p : ℕ) → place g old i t k ≡ Some p → new t p ≡ old t p) → logical_by new m k ≡ logical_block g old i k
unfolding logical_block
by_same g old new i m k there same =
    stays_in (new Fast) (old Fast) _ (place g old i Fast k) _ _ (there Fast) (same Fast)
    (stays_in (new Block) (old Block) _ (place g old i Block k) _ _ (there Block) (same Block) (stays_in (new Slow) (old Slow) _ (place g old i Slow k) [] [] (there Slow) (same Slow) refl))
