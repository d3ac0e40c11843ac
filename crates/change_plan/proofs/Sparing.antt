-- Blocks of runs, one after the other, and the ones of them that were taken last.
use Rattle.std.proofs.Common.{◌<◌, ◌≡◌, ◌≤◌, ◌+◌, ◌-◌, ◌∙◌, ℕ, zero, suc, List, [], ◌∷◌, ◌++◌, length, ap, sym, arith}
use Rattle.std.specs.Prelude.{◌^◌}
use Rattle.std.specs.List.{range_with_len}
use Rattle.std.proofs.lemmas.List.{append_assoc, length-map}
use Rattle.tier_device.specs.declared.media.Tier.{Tier}
use Rattle.tier_device.specs.declared.media.Tier.TheVariants.{Fast, Block, Slow}
use Rattle.block_alloc.specs.declared.runs.Run.{Run}
use Rattle.inode_plan.specs.layout.Places.{Sizes, IsAllowed, tier_blocks}
use Rattle.block_alloc.specs.Runs.{AreNormalRuns}
use Rattle.inode_plan.specs.extent_tree.declared.map.Place.{Place}
use Rattle.inode_plan.specs.area_commit.Value.{PoolsView, data_pool, HasRanges}
use Rattle.inode_plan.specs.area_commit.declared.allocation.Allocation.{Allocation}
use Rattle.inode_plan.specs.area_commit.Allocations.{runs_of, tier_places, taken_data, WereTaken}
use Rattle.inode_plan.specs.PlannedFile.{pair_of, pairs_of}
use Rattle.inode_plan.specs.RunPlaces.{EndsFit}

range_more : (a n : ℕ) → range_with_len a (n + 1) ≡ range_with_len a n ++ (a + n) ∷ []
range_more a zero = let e : a ≡ a + 0 = omega arith in ap (λ (x : ℕ). x ∷ []) e
range_more a (suc n) =
    let more : suc n + 1 ≡ suc (n + 1) = omega arith in
    let last : a + 1 + n ≡ a + suc n = omega arith in
    ap (range_with_len a) more ∙ ap (λ (xs : List ℕ). a ∷ xs) (range_more (a + 1) n) ∙ ap (λ (x : ℕ). a ∷ (range_with_len (a + 1) n ++ x ∷ [])) last

pub block_more : (first block : ℕ) (start out new : List ℕ) → first ≤ block → new ≡ out ++ block ∷ [] → out ≡ start ++ range_with_len first (block - first) → new ≡ start ++ range_with_len first (block + 1 - first)
block_more first block start out new le is was =
    let count : block + 1 - first ≡ (block - first) + 1 = omega (arith, le) in
    let last : first + (block - first) ≡ block = omega (arith, le) in
    let old = range_with_len first (block - first) in
    let grown : range_with_len first (block + 1 - first) ≡ old ++ block ∷ [] = ap (range_with_len first) count ∙ range_more first (block - first) ∙ ap (λ (k : ℕ). old ++ k ∷ []) last in
    is ∙ ap (λ (xs : List ℕ). xs ++ block ∷ []) was ∙ append_assoc start old (block ∷ []) ∙ ap (λ (xs : List ℕ). start ++ xs) (sym grown)

-- ---- what was taken

pub normal_ends : (low end : ℕ) (runs : List Run) → AreNormalRuns low end runs → end < 4294967296 → EndsFit runs
normal_ends low end [] is lt = tt
normal_ends low end (r ∷ rs) is lt = (let high = is.2 in omega (arith, high, lt), normal_ends (r.first + r.count + 1) end rs is.3 lt)

pub same_data : (old new : Allocation) → ((t : Tier) → runs_of new t ≡ runs_of old t) → taken_data new ≡ taken_data old
same_data old new same =
    ap (λ (rs : List Run). tier_places rs new.block.items new.slow.items) (same Fast)
    ∙ (ap (λ (rs : List Run). tier_places old.fast.items rs new.slow.items) (same Block) ∙ ap (λ (rs : List Run). tier_places old.fast.items old.block.items rs) (same Slow))

-- each block of a tier has a number of 32 bits
tier_end : (g : Sizes) (t : Tier) → IsAllowed g → tier_blocks g t < 2 ^ 32
tier_end g Fast allowed = omega (arith, allowed.few_units, allowed.fast)
tier_end g Block allowed = omega (arith, allowed.block)
tier_end g Slow allowed = omega (arith, allowed.slow)

pub taken_ends : (g : Sizes) (before left : PoolsView) (taken : Allocation) → IsAllowed g → HasRanges g before → WereTaken before left taken → (t : Tier) → EndsFit (runs_of taken t)
taken_ends g before left taken allowed ranges took t =
    normal_ends (data_pool before t).first (data_pool before t).end (runs_of taken t) (took.per_tier t).apart (let last = ranges.end t in let fits = tier_end g t allowed in omega (arith, last, fits))

-- as many places as blocks
pub count_places : (places : List Place) (taken : Allocation) → pairs_of places ≡ taken_data taken → length places ≡ length (taken_data taken)
count_places places taken is = sym (length-map places pair_of) ∙ ap length is
