-- Runs that stand before the free blocks of a pool.
use Rattle.std.proofs.Common.{◌≡◌, ◌≤◌, ◌<◌, inr, ℕ, zero, suc, ◌+◌, ◌-◌, List, [], ◌∷◌, ◌++◌, length, take, drop, get_or, sym, ap, ◌∙◌, arith, subst, append_assoc}
use Rattle.std.specs.Prelude.{Result, Ok, Err, IsOk, OnOk}
use Rattle.std.specs.List.{range_with_len}
use Rattle.std.proofs.lemmas.List.{take_more}
use Rattle.std.proofs.lemmas.Bool.{true≢false}
use Rattle.block_alloc.specs.declared.runs.Run.{Run}
use Rattle.block_alloc.specs.Runs.{run_blocks, blocks_of, AreNormalRuns, Rising, Apart, PutIn}
use Rattle.block_alloc.specs.Value.{FreeBlocks, IsUsed, InOrder, SamePool}
use Rattle.block_alloc.proofs.Blocks.{rising-weaker, blocks-push}
use Rattle.area_commit.specs.Allocations.{WasTaken, CanGive, WasGiven, SameBlocks}

-- ---- rising lists

pub rising-right : (low end : ℕ) (xs ys : List ℕ) → Rising low end (xs ++ ys) → Rising low end ys
rising-right low end [] ys is = is
rising-right low end (x ∷ xs) ys is = rising-weaker low (x + 1) end ys (omega (arith, is.0)) (rising-right (x + 1) end xs ys is.2)

rising_behind : (low end a n : ℕ) (ys : List ℕ) → Rising low end (range_with_len a (suc n) ++ ys) → Rising (a + suc n) end ys
rising_behind low end a zero ys is = let same : a + 1 ≡ a + suc zero = omega arith in subst (λ b. Rising b end ys) same is.2
rising_behind low end a (suc n) ys is = let same : a + 1 + suc n ≡ a + suc (suc n) = omega arith in subst (λ b. Rising b end ys) same (rising_behind (a + 1) end (a + 1) n ys is.2)

pub behind : (low end : ℕ) (run : Run) (ys : List ℕ) → 0 < run.count → Rising low end (run_blocks run ++ ys) → Rising (run.first + run.count) end ys
behind low end run ys some is =
    let n = run.count - 1 in
    let same : run.count ≡ suc n = omega (arith, some) in
    let run_is : Rising low end (range_with_len run.first (suc n) ++ ys) = subst (λ c. Rising low end (range_with_len run.first c ++ ys)) same is in
    subst (λ c. Rising (run.first + c) end ys) (sym same) (rising_behind low end run.first n ys run_is)

apart_behind : (run : Run) (end low : ℕ) (ys : List ℕ) → run.first + run.count ≤ low → Rising low end ys → Apart run ys
apart_behind run end low [] after is = tt
apart_behind run end low (y ∷ ys) after is = (inr (omega (arith, after, is.0)), apart_behind run end (y + 1) ys (omega (arith, after, is.0)) is.2)

first_behind : (low end a n : ℕ) (xs zs : List ℕ) → Rising low end (xs ++ (range_with_len a (suc n) ++ zs)) → low ≤ a
first_behind low end a n xs zs is = (rising-right low end xs (range_with_len a (suc n) ++ zs) is).0

-- blocks that come before all others are put in front
put_front : (low end : ℕ) (run : Run) (old new : List ℕ) → 0 < run.count → Rising (run.first + run.count) end old → Rising low end new → PutIn old (run_blocks run) new → new ≡ run_blocks run ++ old
put_front low end run old new some above rising (zero, is) = is
put_front low end run [] new some above rising (suc n, is) = is
put_front low end run (x ∷ xs) new some above rising (suc n, is) =
    let c = run.count - 1 in
    let same : run.count ≡ suc c = omega (arith, some) in
    let joined : (x ∷ take n xs) ++ run_blocks run ++ drop n xs ≡ x ∷ (take n xs ++ (run_blocks run ++ drop n xs)) = append_assoc (x ∷ take n xs) (run_blocks run) (drop n xs) in
    let place : Rising low end (x ∷ (take n xs ++ (range_with_len run.first (suc c) ++ drop n xs))) = subst (λ m. Rising low end (x ∷ (take n xs ++ (range_with_len run.first m ++ drop n xs)))) same (subst (Rising low end) (is ∙ joined) rising) in
    let late : x + 1 ≤ run.first = first_behind (x + 1) end run.first c (take n xs) (drop n xs) place.2 in
    let early : run.first + run.count ≤ x = above.0 in
    absurd (omega (arith, late, early))

-- ---- runs in normal form

pub normal_each : (low end i : ℕ) (runs : List Run) (d : Run) → AreNormalRuns low end runs → i < length runs → (low ≤ (get_or runs i d).first) × (0 < (get_or runs i d).count) × ((get_or runs i d).first + (get_or runs i d).count ≤ end)
normal_each low end i [] d is below = absurd (omega (arith, below))
normal_each low end zero (r ∷ rs) d is below = (is.0, is.1, is.2)
normal_each low end (suc i) (r ∷ rs) d is below =
    let rest = normal_each (r.first + r.count + 1) end i rs d is.3 (omega (arith, below)) in
    (omega (arith, is.0, rest.0), rest.1, rest.2)

-- ---- a run that is given back

-- the last of n runs stands before the blocks that are free already
pub record Ready (p q : FreeBlocks) (runs : List Run) (n : ℕ) : Type 0 where
  pub free : blocks_of (take n runs) ++ q.free ≡ blocks_of runs ++ p.free
  pub room : p.room + n ≤ q.room + length runs
  pub pool : SamePool p q

module _ (p q : FreeBlocks) (runs : List Run) (n : ℕ) (below : n < length runs) (can : CanGive p runs) (ready : Ready p q runs (n + 1)) (d : Run) where
  abbrev run : Run
  run = get_or runs n d

  each : (p.first ≤ run.first) × (0 < run.count) × (run.first + run.count ≤ p.end)
  each = normal_each p.first p.end n runs d can.apart below

  split : blocks_of (take (n + 1) runs) ≡ blocks_of (take n runs) ++ run_blocks run
  split = ap blocks_of (take_more runs n d below) ∙ blocks-push (take n runs) run

  whole : blocks_of (take n runs) ++ (run_blocks run ++ q.free) ≡ blocks_of runs ++ p.free
  whole = sym (append_assoc (blocks_of (take n runs)) (run_blocks run) q.free) ∙ ap (λ b. b ++ q.free) (sym split) ∙ ready.free

  above : Rising (run.first + run.count) p.end q.free
  above = behind p.first p.end run q.free each.1 (rising-right p.first p.end (blocks_of (take n runs)) (run_blocks run ++ q.free) (subst (Rising p.first p.end) (sym whole) can.before))

  pub fits : IsUsed q run
  fits = record {
    some = each.1;
    after = omega (arith, each.0, ready.pool.first);
    before = omega (arith, each.2, ready.pool.end);
    apart = apart_behind run p.end (run.first + run.count) q.free (omega arith) above;
  }

  pub goes_on : (r : FreeBlocks) → PutIn q.free (run_blocks run) r.free → InOrder r → SamePool q r → q.room ≤ r.room + 1 → Ready p r runs n
  goes_on r put order same room = record {
    free = ap (λ b. blocks_of (take n runs) ++ b) (put_front p.first p.end run q.free r.free each.1 above (subst (λ e. Rising p.first e r.free) (same.end ∙ ready.pool.end) (subst (λ f. Rising f r.end r.free) (same.first ∙ ready.pool.first) order)) put) ∙ whole;
    room = omega (arith, room, ready.room);
    pool = record { first = same.first ∙ ready.pool.first; end = same.end ∙ ready.pool.end };
  }

-- ---- what holds of a call that succeeds

pub on_ok : {T E : Type 0} (r : Result T E) (P : Type 0) → IsOk r → OnOk r P → P
on_ok (Ok x) P is p = p
on_ok (Err e) P is p = absurd (true≢false (sym is))

-- what is taken and given back is as it was
pub back : (p q r s : FreeBlocks) (runs : List Run) → SameBlocks p q → WasTaken q r runs → WasGiven r s runs → SameBlocks p s
back p q r s runs same taken given = record {
  free = given.free ∙ (taken.front ∙ same.free);
  pool = record { first = given.pool.first ∙ (taken.pool.first ∙ same.pool.first); end = given.pool.end ∙ (taken.pool.end ∙ same.pool.end) };
}
