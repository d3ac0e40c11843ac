-- The pools, as a run is moved.
use Rattle.std.proofs.Common.{◌≡◌, ◌≢◌, ◌≤◌, ◌<◌, ◌⊎◌, inl, inr, ◌∙◌, ℕ, List, length, Option, Some, refl, sym, ap, subst, arith}
use Rattle.std.specs.Prelude.{Ok, Err, IfSome, IsErrOf, ◌↔◌, ◌==◌, if◌then◌else◌}
use Rattle.std.specs.List.{Contains}
use Rattle.std.proofs.lemmas.Bool.{cases_lt, cases_Bool}
use Rattle.tier_device.specs.declared.media.Tier.{Tier}
use Rattle.tier_device.specs.declared.media.Tier.TheVariants.{Fast, Block, Slow}
use Rattle.inode_plan.specs.layout.Places.{Sizes, node_end, data_first}
use Rattle.block_alloc.specs.Value.{FreeBlocks}
use Rattle.block_alloc.specs.declared.error.AllocatorError.{AllocatorError}
use Rattle.block_alloc.specs.declared.error.AllocatorError.TheVariants as refusal
use Rattle.inode_plan.specs.area_reader.Store.{Store, store_of}
use Rattle.inode_plan.specs.area_reader.Reads.{Free}
use Rattle.inode_plan.specs.area_commit.Value.{PoolsView, data_pool}
use Rattle.inode_plan.specs.area_commit.declared.allocation.Allocation.{Allocation}
use Rattle.inode_plan.specs.area_commit.Allocations.{SameBlocks, SameFree, KeepsRoom, WereTaken, CanRelease, WasReleased}
use Rattle.inode_plan.specs.area_reader.Refusals.{IsChangeRefusal, area_error}
use Rattle.relocation.specs.MovableFile.{IsMovableRun}
use Rattle.relocation.specs.declared.run_search.MovableRun.{MovableRun}
use Rattle.inode_plan.specs.area_reader.declared.error.AreaError.{AreaError}
use Rattle.inode_plan.specs.area_reader.declared.error.AreaError.TheVariants as errors
use Rattle.inode_plan.specs.area_commit.declared.plan.FreedBlocks.{FreedBlocks}
use Rattle.inode_plan.specs.area_commit.declared.plan.Rewrite.{Rewrite}
use Rattle.inode_plan.specs.area_commit.Plan.{lost_in}
use Rattle.inode_plan.specs.area_commit.Room.{AreReadyFor}
use Rattle.inode_plan.proofs.area_commit_lemmas.Returned.{same_free}
use Rattle.relocation.specs.MovedFile.{spare_count, HasRoomFor, AreReadyToMove}
use Rattle.relocation.specs.RunMove.{IsSettled}
use Rattle.relocation.proofs.Ending.{err_same, memory_fault, memory_block, block_fault}

-- ---- the same free blocks

pub same_data : (a b : PoolsView) → SameFree a b → (t : Tier) → SameBlocks (data_pool a t) (data_pool b t)
same_data a b same Fast = same.fast
same_data a b same Block = same.block
same_data a b same Slow = same.slow

pub settled_same : (g : Sizes) (seen : Tier → List ℕ) (left : Tier → List ℕ → Type 0) (a b : PoolsView) → SameFree a b → IsSettled g seen left a → IsSettled g seen left b
settled_same g seen left a b same settled = record {
  opens = settled.opens;
  rests = settled.rests;
  ranges = record {
    nodes_first = same.nodes.pool.first ∙ settled.ranges.nodes_first;
    nodes_end = same.nodes.pool.end ∙ settled.ranges.nodes_end;
    first = λ t. (same_data a b same t).pool.first ∙ settled.ranges.first t;
    end = λ t. (same_data a b same t).pool.end ∙ settled.ranges.end t;
  };
  free = record {
    nodes = λ k. subst (λ (xs : List ℕ). Contains xs k ↔ (Free g (store_of seen) Fast k × (k < node_end g))) (sym same.nodes.free) (settled.free.nodes k);
    per_tier = λ t k. subst (λ (xs : List ℕ). Contains xs k ↔ (Free g (store_of seen) t k × (data_first g t ≤ k))) (sym (same_data a b same t).free) (settled.free.per_tier t k);
  };
}

same_on : (a b c : FreeBlocks) → SameBlocks a b → SameBlocks b c → SameBlocks a c
same_on a b c one two = record { free = two.free ∙ one.free; pool = record { first = two.pool.first ∙ one.pool.first; end = two.pool.end ∙ one.pool.end } }

pub same_then : (a b c : PoolsView) → SameFree a b → SameFree b c → SameFree a c
same_then a b c one two = record {
  nodes = same_on a.nodes b.nodes c.nodes one.nodes two.nodes;
  fast = same_on a.fast b.fast c.fast one.fast two.fast;
  block = same_on a.block b.block c.block one.block two.block;
  slow = same_on a.slow b.slow c.slow one.slow two.slow;
}

pub same_self : (a : PoolsView) → SameFree a a
same_self a = record {
  nodes = record { free = refl; pool = record { first = refl; end = refl } };
  fast = record { free = refl; pool = record { first = refl; end = refl } };
  block = record { free = refl; pool = record { first = refl; end = refl } };
  slow = record { free = refl; pool = record { first = refl; end = refl } };
}

pub same_count : (a b : PoolsView) → SameFree a b → (t : Tier) → length (data_pool b t).free ≡ length (data_pool a t).free
same_count a b same t = ap length (same_data a b same t).free

-- ---- room

room_kept : (a b : PoolsView) → KeepsRoom a b → (t : Tier) → (data_pool a t).room ≤ (data_pool b t).room
room_kept a b kept Fast = kept.fast
room_kept a b kept Block = kept.block
room_kept a b kept Slow = kept.slow

pub room_still : (a b : PoolsView) (lost : FreedBlocks) → KeepsRoom a b → HasRoomFor a lost → HasRoomFor b lost
room_still a b lost kept room = record {
  nodes = (let nodes = room.nodes in let more = kept.nodes in omega (arith, nodes, more));
  per_tier = λ t. (let some = room.per_tier t in let more = room_kept a b kept t in omega (arith, some, more));
}

-- ---- a plan over them

pub ready_for : (g : Sizes) (s : Store) (left : PoolsView) (taken : Allocation) (lost : FreedBlocks) (plan : Rewrite) → AreReadyToMove g s left taken lost → plan.taken ≡ taken → ((t : Tier) → lost_in plan.lost t ≡ lost_in lost t) → length plan.lost.nodes.items ≤ 3 → AreReadyFor g s left plan
ready_for g s left taken lost plan ready taken_is lost_is few = record {
  before = ready.before;
  order = ready.order;
  ranges = ready.ranges;
  free = ready.free;
  took = subst (λ (v : Allocation). WereTaken ready.before left v) (sym taken_is) ready.took;
  undo = subst (λ (v : Allocation). CanRelease left v) (sym taken_is) ready.undo;
  nodes_room = (let room = ready.room.nodes in omega (arith, few, room));
  room = λ t. (let room = ready.room.per_tier t in let long = ap length (lost_is t) in omega (arith, room, long));
}

-- given back, they are settled again
pub settled_undone : (g : Sizes) (seen : Tier → List ℕ) (may_leave : Tier → List ℕ → Type 0) (before left after : PoolsView) (taken : Allocation) → WereTaken before left taken → WasReleased left after taken → IsSettled g seen may_leave before → IsSettled g seen may_leave after
settled_undone g seen may_leave before left after taken took undone settled = settled_same g seen may_leave before after (same_free before left after taken took undone) settled

-- ---- too few

-- Where blocks were taken, as many are free.
pub enough : (taken : Allocation) (n nodes count free : ℕ) → (IsErrOf {T = Allocation} {E = AllocatorError} (Ok taken) refusal.NoBlock ↔ ((nodes < n) ⊎ (free < count))) → count ≤ free
enough taken n nodes count free few = elim (cases_lt free count) [ inl less ↦ absurd (none (few.1 (inr less))) | inr there ↦ there ]
  where
    none : IsErrOf {T = Allocation} {E = AllocatorError} (Ok taken) refusal.NoBlock → ⊥
    none is = cc

spare_few : (root : ℕ) → spare_count root ≤ 1
spare_few root = elim (cases_Bool (root == 0)) [
  | inl zero_root ↦ (let one : spare_count root ≡ 1 = ap (λ b. if b then 1 else 0) zero_root in omega (arith, one))
  | inr other ↦ (let none : spare_count root ≡ 0 = ap (λ b. if b then 1 else 0) other in omega (arith, none))
]

-- Where none were, it is for the data blocks: the node pool has some.
pub too_few : (e : AllocatorError) (r : AreaError) (root nodes count free : ℕ) → r ≡ area_error e → (IsErrOf {T = Allocation} {E = AllocatorError} (Err e) refusal.NoBlock ↔ ((nodes < spare_count root) ⊎ (free < count))) → 2048 ≤ nodes → IsErrOf {T = Unit {0}} {E = AreaError} (Err r) errors.NoBlock → free < count
too_few refusal.NoBlock r root nodes count free is few some refused = elim (few.0 refl) [ inl none ↦ (let one = spare_few root in absurd (omega (arith, none, some, one))) | inr less ↦ less ]
too_few refusal.Memory r root nodes count free is few some refused = absurd (memory_block (sym is ∙ err_same r errors.NoBlock refused))

pub not_fault : (e : AllocatorError) (r : AreaError) → r ≡ area_error e → (r ≢ errors.DeviceFault) × IsChangeRefusal r
not_fault refusal.NoBlock r is = (λ f. block_fault (sym is ∙ f), subst IsChangeRefusal (sym is) tt)
not_fault refusal.Memory r is = (λ f. memory_fault (sym is ∙ f), subst IsChangeRefusal (sym is) tt)

-- ---- the run

pub own_run : (g : Sizes) (s : Store) (i first count : ℕ) (to : Tier) (f : MovableRun) → IsMovableRun g s i first count to f → IsMovableRun g s i f.run.first f.run.count to f
own_run g s i first count to f is = subst (λ (n : ℕ). IsMovableRun g s i f.run.first n to f) (sym is.count_is) (subst (λ (n : ℕ). IsMovableRun g s i n count to f) (sym is.first_is) is)

pub found_run : (g : Sizes) (s : Store) (i first count : ℕ) (to : Tier) (o : Option MovableRun) (f : MovableRun) → o ≡ Some f → IfSome o (IsMovableRun g s i first count to) → IsMovableRun g s i first count to f
found_run g s i first count to o f is found = subst (λ (x : Option MovableRun). IfSome x (IsMovableRun g s i first count to)) is found
