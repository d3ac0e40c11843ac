-- The pools, while a change is made over what was taken of them.
use Rattle.std.proofs.Common.{◌≡◌, ◌≢◌, ◌≤◌, ◌<◌, ◌+◌, ◌⊎◌, ◌∙◌, inl, inr, ℕ, List, [], ◌∷◌, ◌++◌, length, refl, sym, ap, subst, arith}
use Rattle.std.proofs.lemmas.Bool.{cases_lt}
use Rattle.std.specs.Prelude.{◌↔◌, Ok, Err, IsErrOf, take, drop}
use Rattle.std.specs.List.{Contains}
use Rattle.std.proofs.lemmas.List.{length-append, length-map}
use Rattle.std.proofs.lemmas.List.FromFn.{length-range_with_len}
use Rattle.tier_device.specs.declared.media.Tier.{Tier}
use Rattle.tier_device.specs.declared.media.Tier.TheVariants.{Fast, Block, Slow}
use Rattle.area_reader.specs.layout.Places.{Sizes, IsAllowed, node_end, data_first, tier_blocks}
use Rattle.block_alloc.specs.declared.runs.Run.{Run}
use Rattle.block_alloc.specs.Runs.{run_blocks, blocks_of, AreNormalRuns, Rising}
use Rattle.block_alloc.specs.Value.{FreeBlocks, InOrder}
use Rattle.block_alloc.specs.declared.error.AllocatorError.{AllocatorError}
use Rattle.block_alloc.specs.declared.error.AllocatorError.TheVariants as refusal
use Rattle.block_alloc.proofs.Blocks.{length-rising}
use Rattle.area_reader.specs.declared.error.AreaError.{AreaError}
use Rattle.area_reader.specs.declared.error.AreaError.TheVariants as errors
use Rattle.area_reader.specs.Refusals.{IsChangeRefusal, area_error}
use Rattle.area_reader.specs.Store.{Store, store_of}
use Rattle.area_reader.specs.Reads.{Free}
use Rattle.change_plan.specs.area_commit.Value.{PoolsView, data_pool, on_tier, free_data, AreInOrder, HasRanges}
use Rattle.change_plan.specs.area_commit.declared.allocation.Allocation.{Allocation}
use Rattle.change_plan.specs.area_commit.Allocations.{runs_of, WasTaken, CanGive, WereTaken, CanRelease, SameBlocks, SameFree, KeepsRoom}
use Rattle.change_plan.specs.area_commit.StableState.{IsSettled}
use Rattle.change_plan.specs.PlanAddition.{HasTaken}
use Rattle.shared_area.proofs.Ending.{memory_fault, memory_block, block_fault, err_same}

-- ---- the same free blocks

same_in : (a b : PoolsView) → SameFree a b → (t : Tier) → SameBlocks (data_pool a t) (data_pool b t)
same_in a b same Fast = same.fast
same_in a b same Block = same.block
same_in a b same Slow = same.slow

room_in : (a b : PoolsView) → KeepsRoom a b → (t : Tier) → (data_pool a t).room ≤ (data_pool b t).room
room_in a b kept Fast = kept.fast
room_in a b kept Block = kept.block
room_in a b kept Slow = kept.slow

pub same_self : (a : PoolsView) → SameFree a a
same_self a = record {
  nodes = record { free = refl; pool = record { first = refl; end = refl } };
  fast = record { free = refl; pool = record { first = refl; end = refl } };
  block = record { free = refl; pool = record { first = refl; end = refl } };
  slow = record { free = refl; pool = record { first = refl; end = refl } };
}

pub settled_same : (g : Sizes) (seen : Tier → List ℕ) (left : Tier → List ℕ → Type 0) (a b : PoolsView) → SameFree a b → IsSettled g seen left a → IsSettled g seen left b
settled_same g seen left a b same settled = record {
  opens = settled.opens;
  rests = settled.rests;
  ranges = record {
    nodes_first = same.nodes.pool.first ∙ settled.ranges.nodes_first;
    nodes_end = same.nodes.pool.end ∙ settled.ranges.nodes_end;
    first = λ t. (same_in a b same t).pool.first ∙ settled.ranges.first t;
    end = λ t. (same_in a b same t).pool.end ∙ settled.ranges.end t;
  };
  free = record {
    nodes = λ k. subst (λ (xs : List ℕ). Contains xs k ↔ (Free g (store_of seen) Fast k × (k < node_end g))) (sym same.nodes.free) (settled.free.nodes k);
    per_tier = λ t k. subst (λ (xs : List ℕ). Contains xs k ↔ (Free g (store_of seen) t k × (data_first g t ≤ k))) (sym (same_in a b same t).free) (settled.free.per_tier t k);
  };
}

-- ---- more room

was_still : (old p q : FreeBlocks) (runs : List Run) → SameBlocks p q → p.room ≤ q.room → WasTaken old p runs → WasTaken old q runs
was_still old p q runs same more took = record {
  apart = took.apart;
  front = ap (λ (xs : List ℕ). blocks_of runs ++ xs) same.free ∙ took.front;
  room = λ some. (let r = took.room some in omega (arith, r, more));
  kept = (let k = took.kept in omega (arith, k, more));
  pool = record { first = same.pool.first ∙ took.pool.first; end = same.pool.end ∙ took.pool.end };
}

can_still : (p q : FreeBlocks) (runs : List Run) → SameBlocks p q → p.room ≤ q.room → CanGive p runs → CanGive q runs
can_still p q runs same more can = record {
  apart = subst (λ (n : ℕ). AreNormalRuns n q.end runs) (sym same.pool.first) (subst (λ (n : ℕ). AreNormalRuns p.first n runs) (sym same.pool.end) can.apart);
  before = subst (λ (xs : List ℕ). Rising q.first q.end (blocks_of runs ++ xs)) (sym same.free) (
      subst (λ (n : ℕ). Rising n q.end (blocks_of runs ++ p.free)) (sym same.pool.first) (subst (λ (n : ℕ). Rising p.first n (blocks_of runs ++ p.free)) (sym same.pool.end) can.before)
      );
  room = (let r = can.room in omega (arith, r, more));
}

pub were_still : (before a b : PoolsView) (taken : Allocation) → SameFree a b → KeepsRoom a b → WereTaken before a taken → WereTaken before b taken
were_still before a b taken same kept took = record {
  nodes = was_still before.nodes a.nodes b.nodes taken.nodes.items same.nodes kept.nodes took.nodes;
  per_tier = λ t. was_still (data_pool before t) (data_pool a t) (data_pool b t) (runs_of taken t) (same_in a b same t) (room_in a b kept t) (took.per_tier t);
}

pub undo_still : (a b : PoolsView) (taken : Allocation) → SameFree a b → KeepsRoom a b → CanRelease a taken → CanRelease b taken
undo_still a b taken same kept can = record {
  nodes = can_still a.nodes b.nodes taken.nodes.items same.nodes kept.nodes can.nodes;
  per_tier = λ t. can_still (data_pool a t) (data_pool b t) (runs_of taken t) (same_in a b same t) (room_in a b kept t) (can.per_tier t);
}

pub has_still : (g : Sizes) (s : Store) (a b : PoolsView) (taken : Allocation) → SameFree a b → KeepsRoom a b → HasTaken g s a taken → HasTaken g s b taken
has_still g s a b taken same kept has = record {
  before = has.before;
  order = has.order;
  ranges = has.ranges;
  free = has.free;
  took = were_still has.before a b taken same kept has.took;
  undo = undo_still a b taken same kept has.undo;
}

-- ---- numbers

-- no run where there is no block
pub no_runs_of : (low end : ℕ) (rs : List Run) → AreNormalRuns low end rs → blocks_of rs ≡ [] → rs ≡ []
no_runs_of low end [] normal none = refl
no_runs_of low end (r ∷ rs) normal none = (let long = ap length none in absurd (omega (arith, long, length-append (run_blocks r) (blocks_of rs), length-range_with_len r.first r.count, normal.1)))

-- the free data blocks have numbers of 32 bits, and so has their count
tier_free : (g : Sizes) (p : PoolsView) (t : Tier) → IsAllowed g → HasRanges g p → InOrder (data_pool p t) → length (data_pool p t).free ≤ 65536
tier_free g p t allowed ranges order = most t (length-rising (data_pool p t).first (data_pool p t).end (data_pool p t).free (low t) order) (ranges.first t) (ranges.end t)
  where
    low : (t : Tier) → (data_pool p t).first ≤ (data_pool p t).end
    low Fast = (let a = ranges.first Fast in let b = ranges.end Fast in omega (arith, a, b))
    low Block = (let a = ranges.first Block in let b = ranges.end Block in omega (arith, a, b))
    low Slow = (let a = ranges.first Slow in let b = ranges.end Slow in omega (arith, a, b))

    most : (t : Tier) → length (data_pool p t).free + (data_pool p t).first ≤ (data_pool p t).end → (data_pool p t).first ≡ data_first g t → (data_pool p t).end ≡ tier_blocks g t → length (data_pool p t).free ≤ 65536
    most Fast all a b = omega (arith, all, a, b, allowed.fast)
    most Block all a b = omega (arith, all, a, b, allowed.block)
    most Slow all a b = omega (arith, all, a, b, allowed.slow)

pub few_free : (g : Sizes) (p : PoolsView) → IsAllowed g → HasRanges g p → AreInOrder p → length (free_data p) < 4294967295
few_free g p allowed ranges order =
    let fast = tier_free g p Fast allowed ranges order.fast in
    let block = tier_free g p Block allowed ranges order.block in
    let slow = tier_free g p Slow allowed ranges order.slow in
    let a = length-append (on_tier Fast p.fast.free) (on_tier Block p.block.free ++ on_tier Slow p.slow.free) in
    let b = length-append (on_tier Block p.block.free) (on_tier Slow p.slow.free) in
    let x = length-map {B = Tier × ℕ} p.fast.free (λ (k : ℕ). (Fast, k)) in
    let y = length-map {B = Tier × ℕ} p.block.free (λ (k : ℕ). (Block, k)) in
    let z = length-map {B = Tier × ℕ} p.slow.free (λ (k : ℕ). (Slow, k)) in
    omega (arith, fast, block, slow, a, b, x, y, z)

-- ---- what was taken

pub take_none : {A : Type 0} (xs : List A) → take 0 xs ≡ []
take_none [] = refl
take_none (x ∷ xs) = refl

pub drop_none : {A : Type 0} (xs : List A) → drop 0 xs ≡ xs
drop_none [] = refl
drop_none (x ∷ xs) = refl

-- where blocks were taken, as many are free
pub enough_free : (taken : Allocation) (nodes count free : ℕ) → (IsErrOf {T = Allocation} {E = AllocatorError} (Ok taken) refusal.NoBlock ↔ ((nodes < 0) ⊎ (free < count))) → count ≤ free
enough_free taken nodes count free few = elim (cases_lt free count) [ inl less ↦ absurd (none (few.1 (inr less))) | inr there ↦ there ]
  where
    none : IsErrOf {T = Allocation} {E = AllocatorError} (Ok taken) refusal.NoBlock → ⊥
    none is = cc

-- a refusal of the pools is one of a change
pub told_pools : (e : AllocatorError) (r : AreaError) → r ≡ area_error e → IsChangeRefusal r × (r ≢ errors.DeviceFault)
told_pools refusal.NoBlock r is = (subst IsChangeRefusal (sym is) tt, λ f. block_fault (sym is ∙ f))
told_pools refusal.Memory r is = (subst IsChangeRefusal (sym is) tt, λ f. memory_fault (sym is ∙ f))

pub told_block : {R : Type 0} (e : AllocatorError) (r : AreaError) → r ≡ area_error e → IsErrOf {T = R} {E = AreaError} (Err r) errors.NoBlock → e ≡ refusal.NoBlock
told_block refusal.NoBlock r is few = refl
told_block refusal.Memory r is few = absurd (memory_block (sym is ∙ err_same r errors.NoBlock few))

-- and fewer are, where they were not
pub too_few_free : (e : AllocatorError) (nodes count free : ℕ) → e ≡ refusal.NoBlock → (IsErrOf {T = Allocation} {E = AllocatorError} (Err e) refusal.NoBlock ↔ ((nodes < 0) ⊎ (free < count))) → free < count
too_few_free e nodes count free is few = elim (few.0 (ap Err is)) [ inl none ↦ absurd (omega (arith, none)) | inr less ↦ less ]
