-- Data that stands in data blocks.
use Rattle.std.proofs.Common.{◌≡◌, ◌≤◌, ◌<◌, ℕ, zero, suc, ◌+◌, ◌*◌, List, [], ◌∷◌, ◌++◌, Bool, true, false, length, take, drop, get_or, sym, ap, ◌∙◌, refl, arith}
use Rattle.std.specs.List.{flat_map, AllByRecursion}
use Rattle.std.specs.Prelude.{◌||◌, nat_lt}
use Rattle.std.proofs.lemmas.Bool.{le-leb}
use Rattle.std.proofs.lemmas.List.{take-append-drop, take_at, drop_at, drop-drop, length-take-le, length-drop}
use Rattle.std.proofs.lemmas.List.Concat.{flat_map-append}
use Rattle.tier_device.specs.declared.media.Tier.{Tier}
use Rattle.tier_device.specs.declared.media.Tier.TheVariants.{Fast, Block, Slow}
use Rattle.area_reader.specs.layout.Places.{Sizes, data_first, tier_blocks, node_end}
use Rattle.block_alloc.specs.declared.runs.Run.{Run}
use Rattle.block_alloc.specs.Runs.{blocks_of, AreNormalRuns, Rising}
use Rattle.block_alloc.proofs.Blocks.{normal-rising}
use Rattle.area_reader.specs.batch_journal.Images.{slice}
use Rattle.area_reader.specs.batch_journal.Blocks.{block_of, home, is_home}
use Rattle.area_reader.specs.Store.{Store, store_of}
use Rattle.area_commit.specs.Value.{on_tier}
use Rattle.area_commit.specs.Allocations.{tier_places}
use Rattle.area_commit.specs.DataWrite.{block_at, HoldParts, HoldData}
use Rattle.area_commit.proofs.Held.{same_blocks}

-- ---- a part of joined blocks

all_at : {A : Type 0} (P : A → Type 0) (xs : List A) → AllByRecursion P xs → (n : ℕ) (d : A) → n < length xs → P (get_or xs n d)
all_at P [] all n d below = absurd (omega (arith, below))
all_at P (x ∷ xs) all zero d below = all.0
all_at P (x ∷ xs) all (suc n) d below = all_at P xs all.1 n d (omega (arith, below))

-- each of some blocks of 4,096 bytes is a part of all, joined
part_of_all : {A : Type 0} (f : A → List ℕ) (xs : List A) → AllByRecursion (λ x. length (f x) ≡ 4096) xs → (n : ℕ) (d : A) → n < length xs → slice (4096 * n) 4096 (flat_map f xs) ≡ f (get_or xs n d)
part_of_all f [] all n d below = absurd (omega (arith, below))
part_of_all f (x ∷ xs) all zero d below =
    let none : 4096 * zero ≡ 0 = omega arith in
    ap (λ m. take 4096 (drop m (f x ++ flat_map f xs))) none ∙ take_at (f x) (flat_map f xs) 4096 all.0
part_of_all f (x ∷ xs) all (suc n) d below =
    let next : 4096 * suc n ≡ 4096 + 4096 * n = omega arith in
    ap (λ m. take 4096 (drop m (f x ++ flat_map f xs))) next
    ∙ ap (take 4096) (sym (drop-drop (4096 * n) 4096 (f x ++ flat_map f xs)))
    ∙ ap (λ ys. take 4096 (drop (4096 * n) ys)) (drop_at (f x) (flat_map f xs) 4096 all.0)
    ∙ part_of_all f xs all.1 n d (omega (arith, below))

-- ---- blocks of a tier

on-blocks : (s : Store) (t : Tier) (ks : List ℕ) → flat_map (block_at s) (on_tier t ks) ≡ flat_map (s t) ks
on-blocks s t [] = refl
on-blocks s t (k ∷ ks) = ap (λ x. s t k ++ x) (on-blocks s t ks)

on-all : (P : Tier × ℕ → Type 0) (t : Tier) (ks : List ℕ) → AllByRecursion (λ k. P (t, k)) ks → AllByRecursion P (on_tier t ks)
on-all P t [] all = tt
on-all P t (k ∷ ks) all = (all.0, on-all P t ks all.1)

all-append : {A : Type 0} (P : A → Type 0) (xs ys : List A) → AllByRecursion P xs → AllByRecursion P ys → AllByRecursion P (xs ++ ys)
all-append P [] ys one two = two
all-append P (x ∷ xs) ys one two = (one.0, all-append P xs ys one.1 two)

rising-each : (P : ℕ → Type 0) (low end : ℕ) (ks : List ℕ) → ((k : ℕ) → low ≤ k → k < end → P k) → Rising low end ks → AllByRecursion P ks
rising-each P low end [] each is = tt
rising-each P low end (k ∷ ks) each is = (each k is.0 is.1, rising-each P (k + 1) end ks (λ j late below. each j (omega (arith, late, is.0)) below) is.2)

block-length : (c : List ℕ) (k size : ℕ) → k < size → length c ≡ 4096 * size → length (block_of c k) ≡ 4096
block-length c k size below long =
    let room : 4096 ≤ length (drop (4096 * k) c) = omega (arith, below, long, length-drop (4096 * k) c) in
    length-take-le 4096 (drop (4096 * k) c) room

-- ---- the store that is seen

module _ (g : Sizes) (seen : Tier → List ℕ) (sizes : (t : Tier) → length (seen t) ≡ 4096 * tier_blocks g t) (in_place : (k : ℕ) → is_home k ≡ true → home (seen Fast) k ≡ block_of (seen Fast) k) where
  or_right : (b : Bool) → (b || true) ≡ true
  or_right true = refl
  or_right false = refl

  is_home_data : (k : ℕ) → node_end g ≤ k → is_home k ≡ true
  is_home_data k low = let behind : 292 ≤ k = omega (arith, low) in ap (λ b. nat_lt k 34 || b) (le-leb 292 k behind) ∙ or_right (nat_lt k 34)

  raw : (t : Tier) (k : ℕ) → data_first g t ≤ k → store_of seen t k ≡ block_of (seen t) k
  raw Fast k low = in_place k (is_home_data k low)
  raw Block k low = refl
  raw Slow k low = refl

  long : (t : Tier) (k : ℕ) → data_first g t ≤ k → k < tier_blocks g t → length (store_of seen t k) ≡ 4096
  long t k low high = ap length (raw t k low) ∙ block-length (seen t) k (tier_blocks g t) high (sizes t)

  runs_long : (t : Tier) (runs : List Run) → AreNormalRuns (data_first g t) (tier_blocks g t) runs → AllByRecursion (λ p. length (block_at (store_of seen) p) ≡ 4096) (on_tier t (blocks_of runs))
  runs_long t runs normal = on-all (λ p. length (block_at (store_of seen) p) ≡ 4096) t (blocks_of runs) (rising-each (λ k. length (store_of seen t k) ≡ 4096) (data_first g t) (tier_blocks g t) (blocks_of runs) (long t) (normal-rising (data_first g t) (tier_blocks g t) runs normal))

  runs_raw : (t : Tier) (runs : List Run) → AreNormalRuns (data_first g t) (tier_blocks g t) runs → flat_map (block_at (store_of seen)) (on_tier t (blocks_of runs)) ≡ flat_map (block_of (seen t)) (blocks_of runs)
  runs_raw t runs normal =
      on-blocks (store_of seen) t (blocks_of runs)
      ∙ same_blocks (store_of seen t) (block_of (seen t)) (λ k. data_first g t ≤ k) (raw t) (blocks_of runs) (rising-each (λ k. data_first g t ≤ k) (data_first g t) (tier_blocks g t) (blocks_of runs) (λ k low high. low) (normal-rising (data_first g t) (tier_blocks g t) runs normal))

  module _ (fast block slow : List Run) (in_fast : AreNormalRuns (data_first g Fast) (tier_blocks g Fast) fast) (in_block : AreNormalRuns (data_first g Block) (tier_blocks g Block) block) (in_slow : AreNormalRuns (data_first g Slow) (tier_blocks g Slow) slow) (bytes : List ℕ) (parts : HoldParts seen fast block slow bytes) where
    joined : flat_map (block_at (store_of seen)) (tier_places fast block slow) ≡ bytes
    joined =
        let f = on_tier Fast (blocks_of fast) in
        let b = on_tier Block (blocks_of block) in
        let s = on_tier Slow (blocks_of slow) in
        let one : ℕ = 4096 * length (blocks_of fast) in
        let two : ℕ = 4096 * length (blocks_of block) in
        flat_map-append (block_at (store_of seen)) f (b ++ s)
        ∙ ap (λ x. x ++ flat_map (block_at (store_of seen)) (b ++ s)) (runs_raw Fast fast in_fast ∙ parts.fast_part)
        ∙ ap (λ x. take one bytes ++ x) (flat_map-append (block_at (store_of seen)) b s)
        ∙ ap (λ x. take one bytes ++ (x ++ flat_map (block_at (store_of seen)) s)) (runs_raw Block block in_block ∙ parts.block_part)
        ∙ ap (λ x. take one bytes ++ (take two (drop one bytes) ++ x)) (runs_raw Slow slow in_slow ∙ parts.slow_part)
        ∙ ap (λ x. take one bytes ++ x) (take-append-drop two (drop one bytes))
        ∙ take-append-drop one bytes

    all_long : AllByRecursion (λ p. length (block_at (store_of seen) p) ≡ 4096) (tier_places fast block slow)
    all_long = all-append _ (on_tier Fast (blocks_of fast)) _ (runs_long Fast fast in_fast) (all-append _ (on_tier Block (blocks_of block)) _ (runs_long Block block in_block) (runs_long Slow slow in_slow))

    pub hold_data : HoldData (store_of seen) (tier_places fast block slow) bytes
    hold_data n below = sym (part_of_all (block_at (store_of seen)) (tier_places fast block slow) all_long n (Fast, 0) below) ∙ ap (slice (4096 * n) 4096) joined
