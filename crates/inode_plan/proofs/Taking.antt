-- Blocks of runs, one after the other, as places.
use Rattle.std.proofs.Common.{◌≡◌, ◌≤◌, ◌<◌, ◌+◌, ◌-◌, ◌∙◌, ℕ, zero, suc, List, [], ◌∷◌, ◌++◌, length, take, get_or, ap, sym, arith}
use Rattle.std.specs.List.{flat_map, range_with_len}
use Rattle.std.proofs.lemmas.List.{append_assoc, map-append, take_more}
use Rattle.std.proofs.lemmas.List.Concat.{flat_map-append}
use Rattle.tier_device.specs.declared.media.Tier.{Tier}
use Rattle.area_commit.specs.Value.{on_tier}
use Rattle.block_alloc.specs.declared.runs.Run.{Run}
use Rattle.block_alloc.specs.Runs.{run_blocks, blocks_of}
use Rattle.block_alloc.proofs.Blocks.{blocks-push}
use Rattle.area_commit.specs.extent_tree.declared.map.Place.{Place}
use Rattle.inode_plan.specs.PlannedFile.{pair_of, pairs_of}

range_more : (a n : ℕ) → range_with_len a (n + 1) ≡ range_with_len a n ++ (a + n) ∷ []
range_more a zero = let e : a ≡ a + 0 = omega arith in ap (λ (x : ℕ). x ∷ []) e
range_more a (suc n) =
    let more : suc n + 1 ≡ suc (n + 1) = omega arith in
    let last : a + 1 + n ≡ a + suc n = omega arith in
    ap (range_with_len a) more ∙ ap (λ (xs : List ℕ). a ∷ xs) (range_more (a + 1) n) ∙ ap (λ (x : ℕ). a ∷ (range_with_len (a + 1) n ++ x ∷ [])) last

pub place_more : (tier : Tier) (first block : ℕ) (start out new : List Place) → first ≤ block → new ≡ out ++ record { tier = tier; block = block } ∷ [] → pairs_of out ≡ pairs_of start ++ on_tier tier (range_with_len first (block - first)) → pairs_of new ≡ pairs_of start ++ on_tier tier (range_with_len first (block + 1 - first))
place_more tier first block start out new le is was =
    let count : block + 1 - first ≡ (block - first) + 1 = omega (arith, le) in
    let last : first + (block - first) ≡ block = omega (arith, le) in
    let old = range_with_len first (block - first) in
    let grown : range_with_len first (block + 1 - first) ≡ old ++ block ∷ [] = ap (range_with_len first) count ∙ range_more first (block - first) ∙ ap (λ (k : ℕ). old ++ k ∷ []) last in
    ap pairs_of is ∙ map-append pair_of out (record { tier = tier; block = block } ∷ []) ∙ ap (λ (xs : List (Tier × ℕ)). xs ++ (tier, block) ∷ []) was
    ∙ append_assoc (pairs_of start) (on_tier tier old) ((tier, block) ∷ [])
    ∙ ap (λ (xs : List (Tier × ℕ)). pairs_of start ++ xs) (sym (ap (on_tier tier) grown ∙ map-append (λ (k : ℕ). (tier, k)) old (block ∷ [])))

-- one run more
pub run_more : (tier : Tier) (runs : List Run) (i : ℕ) (d : Run) (start out new : List (Tier × ℕ)) → i < length runs → new ≡ out ++ on_tier tier (run_blocks (get_or runs i d)) → out ≡ start ++ on_tier tier (blocks_of (take i runs)) → new ≡ start ++ on_tier tier (blocks_of (take (i + 1) runs))
run_more tier runs i d start out new below is was =
    let front = blocks_of (take i runs) in
    let last = run_blocks (get_or runs i d) in
    let more : blocks_of (take (i + 1) runs) ≡ front ++ last = ap blocks_of (take_more runs i d below) ∙ blocks-push (take i runs) (get_or runs i d) in
    is ∙ ap (λ (xs : List (Tier × ℕ)). xs ++ on_tier tier last) was ∙ append_assoc start (on_tier tier front) (on_tier tier last)
    ∙ ap (λ (xs : List (Tier × ℕ)). start ++ xs) (sym (ap (on_tier tier) more ∙ map-append (λ (k : ℕ). (tier, k)) front last))

-- what one number more adds
pub adds_more : (f : ℕ → List ℕ) (xs : List ℕ) (i d : ℕ) (start out new : List ℕ) → i < length xs → new ≡ out ++ flat_map f (get_or xs i d ∷ []) → out ≡ start ++ flat_map f (take i xs) → new ≡ start ++ flat_map f (take (i + 1) xs)
adds_more f xs i d start out new below is was =
    let one = flat_map f (get_or xs i d ∷ []) in
    let front = flat_map f (take i xs) in
    is ∙ ap (λ (ys : List ℕ). ys ++ one) was ∙ append_assoc start front one
    ∙ ap (λ (ys : List ℕ). start ++ ys) (sym (ap (flat_map f) (take_more xs i d below) ∙ flat_map-append f (take i xs) (get_or xs i d ∷ [])))
