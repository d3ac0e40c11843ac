-- What blocks hold that were written.
use Rattle.std.proofs.Common.{◌≡◌, ◌≤◌, ◌<◌, inl, inr, ◌⊎◌, ℕ, zero, suc, ◌+◌, ◌-◌, ◌*◌, List, [], ◌∷◌, ◌++◌, length, take, drop, get_or, sym, ap, ◌∙◌, refl, arith, subst}
use Rattle.std.specs.List.{flat_map, range_with_len, AllByRecursion, Contains}
use Rattle.std.proofs.lemmas.Bool.{cases_lt}
use Rattle.std.proofs.lemmas.List.{drop-drop, take_more, drop_more, append-nil}
use Rattle.std.proofs.lemmas.List.Concat.{flat_map-append}
use Rattle.std.proofs.lemmas.List.Elements.{Contains-append_left, Contains-append_right}
use Rattle.std.proofs.Math.Seq.{take-add}
use Rattle.tier_device.specs.Media.{overwritten}
use Rattle.tier_device.specs.RecordLaws.{torn_overwritten}
use Rattle.area_reader.specs.batch_journal.Images.{slice}
use Rattle.area_reader.specs.batch_journal.Blocks.{Blocks, block_of}
use Rattle.area_reader.proofs.batch_journal_lemmas.Bytes.{slice_apart, slice_written}
use Rattle.block_alloc.specs.declared.runs.Run.{Run}
use Rattle.block_alloc.specs.Runs.{run_blocks, blocks_of, Rising, AreNormalRuns}
use Rattle.block_alloc.proofs.Blocks.{blocks-push, split_blocks, normal-rising, length-blocks-more, length-blocks-le}
use Rattle.area_commit.proofs.Fronts.{normal_each}
use Rattle.area_commit.proofs.Members.{cons_here, cons_there}

-- ---- blocks that stand one after the other

pub blocks_join : (c : List ℕ) (a n : ℕ) → flat_map (block_of c) (range_with_len a n) ≡ slice (4096 * a) (4096 * n) c
blocks_join c a zero = let none : 0 ≡ 4096 * zero = omega arith in ap (λ m. slice (4096 * a) m c) none
blocks_join c a (suc n) =
    let size : 4096 + 4096 * n ≡ 4096 * suc n = omega arith in
    let next : 4096 * (a + 1) ≡ 4096 * a + 4096 = omega arith in
    let rest = drop (4096 * a) c in
    ap (λ x. block_of c a ++ x) (blocks_join c (a + 1) n ∙ ap (λ p. take (4096 * n) (drop p c)) next ∙ ap (take (4096 * n)) (sym (drop-drop 4096 (4096 * a) c)))
    ∙ sym (take-add 4096 (4096 * n) rest) ∙ ap (λ m. take m rest) size

pub same_blocks : (f h : Blocks) (P : ℕ → Type 0) → ((k : ℕ) → P k → f k ≡ h k) → (ks : List ℕ) → AllByRecursion P ks → flat_map f ks ≡ flat_map h ks
same_blocks f h P same [] all = refl
same_blocks f h P same (k ∷ ks) all = ap (λ x. x ++ flat_map f ks) (same k all.0) ∙ ap (λ x. h k ++ x) (same_blocks f h P same ks all.1)

-- ---- a write to a run

pub put_holds : (c bytes : List ℕ) (first count : ℕ) → length bytes ≡ 4096 * count → 4096 * first ≤ length c → flat_map (block_of (overwritten c (4096 * first) bytes)) (range_with_len first count) ≡ bytes
put_holds c bytes first count size place = blocks_join (overwritten c (4096 * first) bytes) first count ∙ slice_written c (4096 * first) bytes (4096 * count) (sym size) place

pub put_keeps : (c bytes : List ℕ) (first count : ℕ) → length bytes ≡ 4096 * count → 4096 * first + length bytes ≤ length c → (k : ℕ) → (k < first) ⊎ (first + count ≤ k) → block_of (overwritten c (4096 * first) bytes) k ≡ block_of c k
put_keeps c bytes first count size place k (inl before) = slice_apart (4096 * first) (length bytes) c (overwritten c (4096 * first) bytes) (torn_overwritten c (4096 * first) bytes place) (4096 * k) 4096 (inl (omega (arith, before)))
put_keeps c bytes first count size place k (inr behind) = slice_apart (4096 * first) (length bytes) c (overwritten c (4096 * first) bytes) (torn_overwritten c (4096 * first) bytes place) (4096 * k) 4096 (inr (omega (arith, behind, size)))

-- ---- the blocks of runs

pub in_range : (a n k : ℕ) → a ≤ k → k < a + n → Contains (range_with_len a n) k
in_range a zero k low high = absurd (omega (arith, low, high))
in_range a (suc n) k low high = elim (cases_lt a k) [
  | inl later ↦ cons_there a (range_with_len (a + 1) n) k (in_range (a + 1) n k (omega (arith, later)) (omega (arith, high)))
  | inr here ↦ cons_here a (range_with_len (a + 1) n) k (omega (arith, low, here))
]

pub in_runs : (runs : List Run) (i : ℕ) (d : Run) (k : ℕ) → i < length runs → Contains (run_blocks (get_or runs i d)) k → Contains (blocks_of runs) k
in_runs [] i d k below at = absurd (omega (arith, below))
in_runs (r ∷ rs) zero d k below at = Contains-append_left (run_blocks r) (blocks_of rs) k at
in_runs (r ∷ rs) (suc i) d k below at = Contains-append_right (run_blocks r) (blocks_of rs) k (in_runs rs i d k (omega (arith, below)) at)

before_more : (low end a n : ℕ) (xs zs : List ℕ) → Rising low end (xs ++ (range_with_len a (suc n) ++ zs)) → (low ≤ a) × AllByRecursion (λ k. k < a) xs
before_more low end a n [] zs is = (is.0, tt)
before_more low end a n (x ∷ xs) zs is = let rest = before_more (x + 1) end a n xs zs is.2 in (omega (arith, is.0, rest.0), (omega (arith, rest.0), rest.1))

-- blocks that come before a run in a rising list are lower
pub lower : (low end : ℕ) (run : Run) (xs zs : List ℕ) → 0 < run.count → Rising low end (xs ++ (run_blocks run ++ zs)) → AllByRecursion (λ k. k < run.first) xs
lower low end run xs zs some is =
    let n = run.count - 1 in
    let same : run.count ≡ suc n = omega (arith, some) in
    (before_more low end run.first n xs zs (subst (λ c. Rising low end (xs ++ (range_with_len run.first c ++ zs))) same is)).1

-- ---- one more run

module _ (low end : ℕ) (runs : List Run) (i : ℕ) (d : Run) (below : i < length runs) (normal : AreNormalRuns low end runs) where
  abbrev this : Run
  this = get_or runs i d

  pub this_within : (low ≤ this.first) × (0 < this.count) × (this.first + this.count ≤ end)
  this_within = normal_each low end i runs d normal below

  pub this_more : length (blocks_of (take (i + 1) runs)) ≡ length (blocks_of (take i runs)) + this.count
  this_more = length-blocks-more runs i d below

  pub this_fits : length (blocks_of (take i runs)) + this.count ≤ length (blocks_of runs)
  this_fits = omega (arith, this_more, length-blocks-le runs (i + 1))

  all_blocks : blocks_of runs ≡ blocks_of (take i runs) ++ (run_blocks this ++ blocks_of (drop (i + 1) runs))
  all_blocks = split_blocks runs i ∙ ap (λ rs. blocks_of (take i runs) ++ blocks_of rs) (drop_more runs i d below)

  before_this : AllByRecursion (λ k. k < this.first) (blocks_of (take i runs))
  before_this = lower low end this (blocks_of (take i runs)) (blocks_of (drop (i + 1) runs)) this_within.1 (subst (Rising low end) all_blocks (normal-rising low end runs normal))

  pub holds_more : (f h : Blocks) (bytes : List ℕ) (at n : ℕ) → flat_map f (blocks_of (take i runs)) ≡ take at bytes → ((k : ℕ) → k < this.first → h k ≡ f k) → flat_map h (run_blocks this) ≡ take n (drop at bytes) → flat_map h (blocks_of (take (i + 1) runs)) ≡ take (at + n) bytes
  holds_more f h bytes at n before same here =
      ap (flat_map h) (ap blocks_of (take_more runs i d below) ∙ blocks-push (take i runs) this)
      ∙ flat_map-append h (blocks_of (take i runs)) (run_blocks this)
      ∙ ap (λ x. x ++ flat_map h (run_blocks this)) (same_blocks h f (λ k. k < this.first) same (blocks_of (take i runs)) before_this ∙ before)
      ∙ ap (λ x. take at bytes ++ x) here
      ∙ sym (take-add at n bytes)

-- what holds of all blocks of runs holds of those of one
pub one_run : (P : ℕ → Type 0) (runs : List Run) (i : ℕ) (d : Run) → i < length runs → ((k : ℕ) → Contains (blocks_of runs) k → P k) → (k : ℕ) → Contains (blocks_of (get_or runs i d ∷ [])) k → P k
one_run P runs i d below all k at = all k (in_runs runs i d k below (subst (λ xs. Contains xs k) (append-nil (run_blocks (get_or runs i d))) at))
