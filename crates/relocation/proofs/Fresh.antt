-- Blocks that are taken for a run.
use Rattle.std.proofs.Common.{◌≡◌, ◌≢◌, ◌≤◌, ◌<◌, ◌⊎◌, inl, inr, ◌+◌, ◌∙◌, ℕ, zero, suc, List, [], ◌∷◌, ◌++◌, length, take, refl, ap, subst, arith}
use Rattle.std.specs.Prelude.{Result, Ok, Err, IfOk, IsErrOf, ◌==◌, ◌↔◌, ◌^◌, if◌then◌else◌}
use Rattle.std.specs.List.{range_with_len}
use Rattle.std.proofs.lemmas.Bool.{cases_Bool, cases_lt, eqb-true, eqb-false}
use Rattle.std.proofs.lemmas.List.{length-take-le, length-append}
use Rattle.std.proofs.lemmas.List.FromFn.{length-range_with_len}
use Rattle.tier_device.specs.declared.media.Tier.{Tier}
use Rattle.inode_plan.specs.layout.Places.{Sizes}
use Rattle.block_alloc.specs.declared.runs.Run.{Run}
use Rattle.block_alloc.specs.declared.error.AllocatorError.{AllocatorError}
use Rattle.block_alloc.specs.declared.error.AllocatorError.TheVariants.{NoBlock}
use Rattle.block_alloc.specs.Runs.{run_blocks, blocks_of, AreNormalRuns}
use Rattle.inode_plan.specs.area_reader.Store.{Store, root_of}
use Rattle.inode_plan.specs.area_commit.Value.{PoolsView, data_pool, AreInOrder, HasRanges, AreFree}
use Rattle.inode_plan.specs.area_commit.declared.allocation.Allocation.{Allocation}
use Rattle.inode_plan.specs.area_commit.Allocations.{runs_of, WereTaken}
use Rattle.relocation.specs.declared.run_search.MovableRun.{MovableRun}
use Rattle.inode_plan.specs.RunPlaces.{EndsFit}
use Rattle.inode_plan.specs.area_commit.Plan.{WereFree}
use Rattle.relocation.specs.MovedFile.{first_of, spare_count, IsSpareFor, IsTakenFor}

-- ---- runs

-- runs in normal form have a first block each
pub no_blocks : (low end : ℕ) (rs : List Run) → AreNormalRuns low end rs → blocks_of rs ≡ [] → rs ≡ []
no_blocks low end [] normal none = refl
no_blocks low end (r ∷ rs) normal none = (let long = ap length none in absurd (omega (arith, long, length-append (run_blocks r) (blocks_of rs), length-range_with_len r.first r.count, normal.1)))

first_is : (r : Run) (rest : List ℕ) (b : ℕ) → 0 < r.count → run_blocks r ++ rest ≡ b ∷ [] → b ≡ r.first
first_is r rest b some is = by r.count refl
  where
    by : (n : ℕ) → r.count ≡ n → b ≡ r.first
    by zero none = absurd (omega (arith, some, none))
    by (suc n) same =
        let front : range_with_len r.first (suc n) ++ rest ≡ b ∷ [] = subst (λ c. range_with_len r.first c ++ rest ≡ b ∷ []) same is in
        cc

one_block : (low end : ℕ) (rs : List Run) (b : ℕ) → AreNormalRuns low end rs → blocks_of rs ≡ b ∷ [] → blocks_of rs ≡ first_of rs ∷ []
one_block low end [] b normal is = (let long = ap length is in absurd (omega (arith, long)))
one_block low end (r ∷ rs) b normal is = is ∙ ap (λ k. k ∷ []) (first_is r (blocks_of rs) b normal.1 is)

one_taken : (low end : ℕ) (rs : List Run) (free : List ℕ) → AreNormalRuns low end rs → 1 ≤ length free → blocks_of rs ≡ take 1 free → blocks_of rs ≡ first_of rs ∷ []
one_taken low end rs [] normal some is = absurd (omega (arith, some))
one_taken low end rs (k ∷ ks) normal some is = one_block low end rs k normal is

-- runs that end by a number of 32 bits
pub ends_below : (low end : ℕ) (rs : List Run) → end < 2 ^ 32 → AreNormalRuns low end rs → EndsFit rs
ends_below low end [] fits normal = tt
ends_below low end (r ∷ rs) fits normal = (omega (arith, fits, normal.2), ends_below (r.first + r.count + 1) end rs fits normal.3)

-- ---- what is taken

-- What is known of blocks that were taken.
abbrev pub TakenWereFree : Type 0
TakenWereFree = (g : Sizes) (s : Store) (before left : PoolsView) (taken : Allocation) → HasRanges g before → AreFree g s before → WereTaken before left taken → WereFree g s taken

not_refused : (taken : Allocation) (e : AllocatorError) → IsErrOf {T = Allocation} {E = AllocatorError} (Ok taken) e → ⊥
not_refused taken e is = cc

module _ (before left : PoolsView) (f : MovableRun) (to : Tier) where
  spare : (taken : Allocation) → spare_count (root_of f.slot to) ≤ length before.nodes.free → blocks_of taken.nodes.items ≡ take (spare_count (root_of f.slot to)) before.nodes.free → WereTaken before left taken → IsSpareFor (root_of f.slot to) taken.nodes.items
  spare taken enough is were = elim (cases_Bool (root_of f.slot to == 0)) [
    | inl zero_root ↦
        let one : spare_count (root_of f.slot to) ≡ 1 = ap (λ b. if b then 1 else 0) zero_root in
        inr (
          eqb-true (root_of f.slot to) 0 zero_root,
          one_taken before.nodes.first before.nodes.end taken.nodes.items before.nodes.free were.nodes.apart (omega (arith, one, enough)) (is ∙ ap (λ n. take n before.nodes.free) one),
        )
    | inr other ↦
        let none : spare_count (root_of f.slot to) ≡ 0 = ap (λ b. if b then 1 else 0) other in
        inl (
          eqb-false (root_of f.slot to) 0 other,
          no_blocks before.nodes.first before.nodes.end taken.nodes.items were.nodes.apart (is ∙ ap (λ n. take n before.nodes.free) none),
        )
  ]

  module _ (taken : Allocation) (few : IsErrOf {T = Allocation} {E = AllocatorError} (Ok taken) NoBlock ↔ ((length before.nodes.free < spare_count (root_of f.slot to)) ⊎ (length (data_pool before to).free < f.run.count))) where
    enough : f.run.count ≤ length (data_pool before to).free
    enough = elim (cases_lt (length (data_pool before to).free) f.run.count) [
      | inl less ↦ absurd (not_refused taken NoBlock (few.1 (inr less)))
      | inr there ↦ there
    ]

    enough_nodes : spare_count (root_of f.slot to) ≤ length before.nodes.free
    enough_nodes = elim (cases_lt (length before.nodes.free) (spare_count (root_of f.slot to))) [
      | inl less ↦ absurd (not_refused taken NoBlock (few.1 (inl less)))
      | inr there ↦ there
    ]

  pub taken_for : TakenWereFree → (r : Result Allocation AllocatorError) → IfOk r (λ taken. blocks_of taken.nodes.items ≡ take (spare_count (root_of f.slot to)) before.nodes.free)
      → IfOk r (λ taken. blocks_of (runs_of taken to) ≡ take f.run.count (data_pool before to).free) → IfOk r (λ taken. (t : Tier) → t ≢ to → blocks_of (runs_of taken t) ≡ []) → IfOk r (WereTaken before left)
      → (IsErrOf r NoBlock ↔ ((length before.nodes.free < spare_count (root_of f.slot to)) ⊎ (length (data_pool before to).free < f.run.count)))
      → AreInOrder before → IfOk r (λ taken. (g : Sizes) (s : Store) → HasRanges g before → AreFree g s before → IsTakenFor g s f to taken)
  taken_for law (Err e) nodes data' others were few order = tt
  taken_for law (Ok taken) nodes data' others were few order = λ g s ranges free.
      let many = ap length data' ∙ length-take-le f.run.count (data_pool before to).free (enough taken few) in
      let was_free = law g s before left taken ranges free were in
      record {
        free = was_free;
        many = many;
        others = others;
        lowest = record { pools = before; order = order; ranges = ranges; free = free; apart = was_free.apart to; many = many; lowest = data' };
        spare = spare taken (enough_nodes taken few) nodes were;
      }
