-- One block of a file after the other that is put to its place.
use Rattle.std.proofs.Common.{◌≡◌, ◌≢◌, ◌<◌, ◌≤◌, ◌+◌, ◌-◌, ◌∙◌, ◌⊎◌, refl, ℕ, zero, suc, List, [], ◌∷◌, length, get_or, true, false, Some, None, arith, inl, inr, sym, ap, subst}
use Rattle.std.specs.Prelude.{nat_le, nat_lt}
use Rattle.std.proofs.lemmas.Bool.{cases_lt, and_parts, and_from, leb-true, ltb-true, le-leb, lt-ltb, cond-true, cond-false, false_from_ne_true}
use Rattle.tier_device.specs.declared.media.Tier.{Tier}
use Rattle.tier_device.specs.declared.media.Tier.TheVariants.{Fast, Block, Slow}
use Rattle.block_alloc.specs.Runs.{Rising}
use Rattle.area_commit.specs.extent_tree.Places.{in_run, place_of}
use Rattle.area_commit.specs.extent_tree.Map.{TierRuns, runs_in, lies_at, ArePut}
use Rattle.area_commit.specs.extent_tree.declared.map.Place.{Place}
use Rattle.inode_plan.specs.PlacedFile.{nth_number, nth_place, GoOn, LiesBehind, NumbersArePlaced}

-- a later number is greater
low_at : (low end n : ℕ) (ks : List ℕ) → Rising low end ks → n < length ks → low ≤ get_or ks n 0
low_at low end n [] r lt = absurd (omega (arith, lt))
low_at low end zero (k ∷ ks) r lt = r.0
low_at low end (suc n) (k ∷ ks) r lt = let rest = low_at (k + 1) end n ks r.2 (omega (arith, lt)) in let here = r.0 in omega (arith, rest, here)

pub later_is_greater : (low end m n : ℕ) (ks : List ℕ) → Rising low end ks → m < n → n < length ks → get_or ks m 0 < get_or ks n 0
later_is_greater low end m n [] r lt last = absurd (omega (arith, last))
later_is_greater low end zero zero (k ∷ ks) r lt last = absurd (omega (arith, lt))
later_is_greater low end zero (suc n) (k ∷ ks) r lt last = let rest = low_at (k + 1) end n ks r.2 (omega (arith, last)) in omega (arith, rest)
later_is_greater low end (suc m) zero (k ∷ ks) r lt last = absurd (omega (arith, lt))
later_is_greater low end (suc m) (suc n) (k ∷ ks) r lt last = later_is_greater (k + 1) end m n ks r.2 (omega (arith, lt)) (omega (arith, last))

-- ---- blocks that are put

pub same_or_other : (t u : Tier) → (t ≡ u) ⊎ (t ≢ u)
same_or_other Fast Fast = inl refl
same_or_other Fast Block = inr (λ e. cc)
same_or_other Fast Slow = inr (λ e. cc)
same_or_other Block Fast = inr (λ e. cc)
same_or_other Block Block = inl refl
same_or_other Block Slow = inr (λ e. cc)
same_or_other Slow Fast = inr (λ e. cc)
same_or_other Slow Block = inr (λ e. cc)
same_or_other Slow Slow = inl refl

run_in : (first count n : ℕ) → n < count → in_run first count (first + n) ≡ true
run_in first count n lt = and_from (nat_le first (first + n)) (nat_lt (first + n) (first + count)) (le-leb first (first + n) (omega arith)) (lt-ltb (first + n) (first + count) (omega (arith, lt)))

others_out : (first count k : ℕ) → ((n : ℕ) → n < count → first + n ≢ k) → in_run first count k ≡ false
others_out first count k other = false_from_ne_true (in_run first count k) (λ is.
    let p = and_parts (nat_le first k) (nat_lt k (first + count)) is in
    let low = leb-true first k p.0 in
    let high = ltb-true k (first + count) p.1 in
    other (k - first) (omega (arith, low, high)) (omega (arith, low)))

module _ (first count place : ℕ) (tier : Tier) (old new : TierRuns) (put : ArePut first count tier place old new) where
  pub lies_there : (n : ℕ) → n < count → lies_at new tier (first + n) ≡ Some (place + n)
  lies_there n lt =
      let same : place + (first + n - first) ≡ place + n = omega arith in
      put.there (first + n) ∙ cond-true (in_run first count (first + n)) (Some (place + (first + n - first))) (place_of (runs_in old tier) (first + n)) (run_in first count n lt) ∙ ap (λ p. Some p) same

  pub lies_once : (n : ℕ) (t : Tier) → n < count → t ≢ tier → lies_at new t (first + n) ≡ None
  lies_once n t lt other = put.others t other (first + n) ∙ cond-true (in_run first count (first + n)) None (place_of (runs_in old t) (first + n)) (run_in first count n lt)

  pub others_lie : (t : Tier) (k : ℕ) → ((n : ℕ) → n < count → first + n ≢ k) → lies_at new t k ≡ lies_at old t k
  others_lie t k other = elim (same_or_other t tier) [
    | inl is ↦ subst (λ u. lies_at new u k ≡ lies_at old u k) (sym is) (put.there k ∙ cond-false (in_run first count k) (Some (place + (k - first))) (place_of (runs_in old tier) k) (others_out first count k other))
    | inr not ↦ put.others t not k ∙ cond-false (in_run first count k) None (place_of (runs_in old t) k) (others_out first count k other)
  ]

-- so many more blocks at their places
pub placed_more : (numbers : List ℕ) (places : List Place) (done count : ℕ) (old mid new : TierRuns) → ((m n : ℕ) → m < done → n < count → nth_number numbers m ≢ nth_number numbers (done + n)) → GoOn numbers places done count
    → NumbersArePlaced numbers places done old mid → ArePut (nth_number numbers done) count (nth_place places done).tier (nth_place places done).block mid new → NumbersArePlaced numbers places (done + count) old new
placed_more numbers places done count old mid new differ go so_far put =
    let first = nth_number numbers done in
    let p = nth_place places done in
    record {
      there = λ m lt. elim (cases_lt m done) [
        | inl before ↦ others_lie first count p.block p.tier mid new put (nth_place places m).tier (nth_number numbers m) (before_them m before) ∙ so_far.there m before
        | inr ge ↦ subst (λ j. lies_at new (nth_place places j).tier (nth_number numbers j) ≡ Some (nth_place places j).block) (omega (arith, ge)) (there_now (m - done) (omega (arith, lt, ge)))
      ];
      once = λ m t lt other. elim (cases_lt m done) [
        | inl before ↦ others_lie first count p.block p.tier mid new put t (nth_number numbers m) (before_them m before) ∙ so_far.once m t before other
        | inr ge ↦ (let is : done + (m - done) ≡ m = omega (arith, ge) in
            subst (λ j. lies_at new t (nth_number numbers j) ≡ None) is (once_now (m - done) t (omega (arith, lt, ge)) (subst (λ j. t ≢ (nth_place places j).tier) (sym is) other)))
      ];
      others = λ k t none. others_lie first count p.block p.tier mid new put t k (λ n lt e. none (done + n) (omega (arith, lt)) ((go n lt).number ∙ e)) ∙ so_far.others k t (λ m lt. none m (omega (arith, lt)));
    }
  where
    before_them : (m : ℕ) → m < done → (n : ℕ) → n < count → nth_number numbers done + n ≢ nth_number numbers m
    before_them m before n lt e = differ m n before lt (sym e ∙ sym (go n lt).number)

    there_now : (n : ℕ) → n < count → lies_at new (nth_place places (done + n)).tier (nth_number numbers (done + n)) ≡ Some (nth_place places (done + n)).block
    there_now n lt =
        let b = go n lt in
        ap (λ t. lies_at new t (nth_number numbers (done + n))) b.tier ∙ ap (λ k. lies_at new (nth_place places done).tier k) b.number
        ∙ lies_there (nth_number numbers done) count (nth_place places done).block (nth_place places done).tier mid new put n lt ∙ ap (λ k. Some k) (sym b.block)

    once_now : (n : ℕ) (t : Tier) → n < count → t ≢ (nth_place places (done + n)).tier → lies_at new t (nth_number numbers (done + n)) ≡ None
    once_now n t lt other =
        let b = go n lt in
        ap (λ k. lies_at new t k) b.number
        ∙ lies_once (nth_number numbers done) count (nth_place places done).block (nth_place places done).tier mid new put n t lt (subst (λ u. t ≢ u) b.tier other)

-- one more of those that follow one another
pub one_more : (numbers : List ℕ) (places : List Place) (first count : ℕ) → GoOn numbers places first count → LiesBehind numbers places first count → GoOn numbers places first (count + 1)
one_more numbers places first count go next n lt = elim (cases_lt n count) [
  | inl before ↦ go n before
  | inr ge ↦ subst (LiesBehind numbers places first) (omega (arith, lt, ge)) next
]

pub first_one : (numbers : List ℕ) (places : List Place) (first : ℕ) → GoOn numbers places first 1
first_one numbers places first n lt =
    let none : 0 ≡ n = omega (arith, lt) in
    subst (LiesBehind numbers places first) none (record {
      number = let same : first + 0 ≡ first = omega arith in let more : nth_number numbers first ≡ nth_number numbers first + 0 = omega arith in ap (nth_number numbers) same ∙ more;
      tier = let same : first + 0 ≡ first = omega arith in ap (λ k. (nth_place places k).tier) same;
      block = let same : first + 0 ≡ first = omega arith in let more : (nth_place places first).block ≡ (nth_place places first).block + 0 = omega arith in ap (λ k. (nth_place places k).block) same ∙ more;
    })

pub placed_none : (numbers : List ℕ) (places : List Place) (old : TierRuns) → NumbersArePlaced numbers places 0 old old
placed_none numbers places old = record {
  there = λ n lt. absurd (omega (arith, lt));
  once = λ n t lt other. absurd (omega (arith, lt));
  others = λ k t none p. lies_at old t k;
}
