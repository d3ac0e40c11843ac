-- The blocks that list the runs of a changed file.
use Rattle.std.proofs.Common.{◌≡◌, ◌≢◌, ◌≤◌, ◌<◌, ◌⊎◌, ◌∙◌, ℕ, List, length, get_or, true, Option, Some, None, arith, inl, inr, sym, ap, subst, refl}
use Rattle.std.specs.Prelude.{◌==◌, nat_le, nat_lt, IfSome}
use Rattle.std.specs.List.{Contains}
use Rattle.std.proofs.lemmas.Bool.{cases_Bool, cases_lt, and_parts, cond-true, cond-false, eqb-false, leb-true}
use Rattle.std.proofs.lemmas.List.Elements.{Contains-get_or}
use Rattle.tier_device.specs.declared.media.Tier.{Tier}
use Rattle.tier_device.specs.declared.media.Tier.TheVariants as tiers
use Rattle.area_commit.specs.layout.declared.extents.TheConstants.{MAX_EXTENTS}
use Rattle.area_commit.specs.layout.declared.places.TheConstants.{FILE_BLOCKS}
use Rattle.area_commit.specs.layout.Extents.{ExtentList, extents_spelling}
use Rattle.area_commit.specs.layout.Places.{Sizes, is_node, node_end}
use Rattle.area_commit.specs.layout.declared.slot.Slot.{Slot}
use Rattle.area_commit.specs.layout.declared.extents.Extent.{Extent}
use Rattle.area_commit.specs.batch_journal.Blocks.{Blocks}
use Rattle.area_commit.specs.extent_tree.Map.{TierRuns, runs_in}
use Rattle.area_commit.specs.area_reader.Store.{root_of}
use Rattle.area_commit.specs.area_reader.Map.{in_tier}
use Rattle.area_commit.specs.area_reader.declared.tiers.InodeExtents.{InodeExtents}
use Rattle.area_commit.specs.InodeRewrite.{IsListed, list_of}
use Rattle.inode_plan.specs.Lists.{root_for, IsListOf, AreListsOf}
use Rattle.inode_plan.specs.Roots.{missing_roots, wanted_before, roots_wanted, HasRootsOf, SparesFit, ListsStand}

node_some : (g : Sizes) (k : ℕ) → is_node g k ≡ true → k ≢ 0
node_some g k is zero = (let low = leb-true 292 k (and_parts (nat_le 292 k) (nat_lt k (node_end g)) is).0 in omega (arith, low, zero))

-- ---- one tier

listed_one : (fast : Blocks) (i root old spare : ℕ) (runs : List Extent) (m : TierRuns) (t : Tier) (o : Option ExtentList) → runs ≡ runs_in m t → IsListOf i m t o → root ≡ root_for old o spare → (missing_roots old o ≡ 1 → spare ≢ 0) → IfSome o (λ v. fast root ≡ extents_spelling v) → IsListed fast i root runs
listed_one fast i root old spare runs m t None same none is node image = inl (is, same ∙ none)
listed_one fast i root old spare runs m t (Some v) same list is node image = inr (
  λ zero. elim (cases_Bool (old == 0)) [
    | inl lacks ↦ node (cond-true (old == 0) 1 0 lacks) (sym (is ∙ cond-true (old == 0) spare old lacks) ∙ zero)
    | inr some ↦ eqb-false old 0 some (sym (is ∙ cond-false (old == 0) spare old some) ∙ zero)
  ],
  image ∙ ap extents_spelling list.1 ∙ ap (λ (rs : List Extent). extents_spelling (list_of i rs)) (sym same),
)

-- the runs of a file's blocks are few enough for one block
pub few_lists : (i : ℕ) (m : TierRuns) (t : Tier) (o : Option ExtentList) → IsListOf i m t o → length (runs_in m t) ≤ FILE_BLOCKS → IfSome o (λ v. length v.extents ≤ MAX_EXTENTS)
few_lists i m t None is few = tt
few_lists i m t (Some v) is few = omega (arith, few, ap (λ (w : ExtentList). length w.extents) is.1)

-- a tier's spare block is one of them
pub inside : (slot : Slot) (x : InodeExtents) (t : Tier) (count : ℕ) → count ≡ roots_wanted slot x → missing_roots (root_of slot t) (in_tier x t) ≡ 1 → wanted_before slot x t < count
inside slot x tiers.Fast count many lacks = omega (arith, many, lacks)
inside slot x tiers.Block count many lacks = omega (arith, many, lacks)
inside slot x tiers.Slow count many lacks = omega (arith, many, lacks)

pub all_listed : (g : Sizes) (fast : Blocks) (i : ℕ) (m : TierRuns) (x : InodeExtents) (spare : List ℕ) (old new : Slot) → AreListsOf i m x → HasRootsOf x spare old new → SparesFit g old spare → length spare ≡ roots_wanted old x → ListsStand fast new x → (t : Tier) → IsListed fast i (root_of new t) (runs_in m t)
all_listed g fast i m x spare old new lists roots fit many images t =
    listed_one fast i (root_of new t) (root_of old t) (get_or spare (wanted_before old x t) 0) (runs_in m t) m t (in_tier x t) refl (lists t) (roots t)
    (λ lacks. node_some g (get_or spare (wanted_before old x t) 0) (fit.node (wanted_before old x t) (inside old x t (length spare) many lacks))) (images t)

-- ---- which blocks they are

root_cases : (root old spare : ℕ) (o : Option ExtentList) → root ≡ root_for old o spare → root ≢ 0 → (root ≡ old) ⊎ ((missing_roots old o ≡ 1) × (root ≡ spare))
root_cases root old spare None is some = absurd (some is)
root_cases root old spare (Some v) is some = elim (cases_Bool (old == 0)) [
  | inl lacks ↦ inr (cond-true (old == 0) 1 0 lacks, is ∙ cond-true (old == 0) spare old lacks)
  | inr has ↦ inl (is ∙ cond-false (old == 0) spare old has)
]

pub root_uses : (x : InodeExtents) (spare : List ℕ) (old new : Slot) (t : Tier) → HasRootsOf x spare old new → length spare ≡ roots_wanted old x → root_of new t ≢ 0 → (root_of new t ≡ root_of old t) ⊎ Contains spare (root_of new t)
root_uses x spare old new t roots many some = elim (root_cases (root_of new t) (root_of old t) (get_or spare (wanted_before old x t) 0) (in_tier x t) (roots t) some) [
  | inl kept ↦ inl kept
  | inr taken ↦ inr (subst (Contains spare) (sym taken.1) (Contains-get_or spare (wanted_before old x t) 0 (inside old x t (length spare) many taken.0)))
]

-- ---- each spare block is used

-- a tier lacks a root, or not
lacks_cases : (old : ℕ) (o : Option ExtentList) → (missing_roots old o ≡ 0) ⊎ ((missing_roots old o ≡ 1) × ((spare : ℕ) → root_for old o spare ≡ spare))
lacks_cases old None = inl refl
lacks_cases old (Some v) = elim (cases_Bool (old == 0)) [
  | inl zero ↦ inr (cond-true (old == 0) 1 0 zero, λ spare. cond-true (old == 0) spare old zero)
  | inr some ↦ inl (cond-false (old == 0) 1 0 some)
]

-- the tier that gets the spare block of a number
record Gets (old : Slot) (x : InodeExtents) (n : ℕ) : Type 0 where
  pub tier : Tier
  pub number : wanted_before old x tier ≡ n
  pub is : (spare : ℕ) → root_for (root_of old tier) (in_tier x tier) spare ≡ spare

gets : (old : Slot) (x : InodeExtents) (n : ℕ) → n < roots_wanted old x → Gets old x n
gets old x n lt = by (lacks_cases (root_of old tiers.Fast) x.fast) (lacks_cases (root_of old tiers.Block) x.block) (lacks_cases (root_of old tiers.Slow) x.slow) where
  by : ((missing_roots (root_of old tiers.Fast) x.fast ≡ 0) ⊎ ((missing_roots (root_of old tiers.Fast) x.fast ≡ 1) × ((spare : ℕ) → root_for (root_of old tiers.Fast) x.fast spare ≡ spare)))
      → ((missing_roots (root_of old tiers.Block) x.block ≡ 0) ⊎ ((missing_roots (root_of old tiers.Block) x.block ≡ 1) × ((spare : ℕ) → root_for (root_of old tiers.Block) x.block spare ≡ spare)))
      → ((missing_roots (root_of old tiers.Slow) x.slow ≡ 0) ⊎ ((missing_roots (root_of old tiers.Slow) x.slow ≡ 1) × ((spare : ℕ) → root_for (root_of old tiers.Slow) x.slow spare ≡ spare)))
      → Gets old x n
  by (inr f) b s = elim (cases_lt 0 n) [
    | inr none ↦ record { tier = tiers.Fast; number = omega (arith, none); is = f.1 }
    | inl some ↦ after_fast f.0 some b s
  ]
    where
      after_fast : missing_roots (root_of old tiers.Fast) x.fast ≡ 1 → 0 < n
          → ((missing_roots (root_of old tiers.Block) x.block ≡ 0) ⊎ ((missing_roots (root_of old tiers.Block) x.block ≡ 1) × ((spare : ℕ) → root_for (root_of old tiers.Block) x.block spare ≡ spare)))
          → ((missing_roots (root_of old tiers.Slow) x.slow ≡ 0) ⊎ ((missing_roots (root_of old tiers.Slow) x.slow ≡ 1) × ((spare : ℕ) → root_for (root_of old tiers.Slow) x.slow spare ≡ spare)))
          → Gets old x n
      after_fast one some (inr k) s = elim (cases_lt 1 n) [
        | inr few ↦ record { tier = tiers.Block; number = omega (arith, one, some, few); is = k.1 }
        | inl more ↦ elim s [
          | inr l ↦ record { tier = tiers.Slow; number = omega (arith, one, k.0, l.0, lt, more); is = l.1 }
          | inl no_slow ↦ absurd (omega (arith, one, k.0, no_slow, lt, more))
        ]
      ]
      after_fast one some (inl no_block) s = elim s [
        | inr l ↦ record { tier = tiers.Slow; number = omega (arith, one, no_block, l.0, lt, some); is = l.1 }
        | inl no_slow ↦ absurd (omega (arith, one, no_block, no_slow, lt, some))
      ]
  by (inl no_fast) (inr k) s = elim (cases_lt 0 n) [
    | inr none ↦ record { tier = tiers.Block; number = omega (arith, no_fast, none); is = k.1 }
    | inl some ↦ elim s [
      | inr l ↦ record { tier = tiers.Slow; number = omega (arith, no_fast, k.0, l.0, lt, some); is = l.1 }
      | inl no_slow ↦ absurd (omega (arith, no_fast, k.0, no_slow, lt, some))
    ]
  ]
  by (inl no_fast) (inl no_block) (inr l) = record { tier = tiers.Slow; number = omega (arith, no_fast, no_block, l.0, lt); is = l.1 }
  by (inl no_fast) (inl no_block) (inl no_slow) = absurd (omega (arith, no_fast, no_block, no_slow, lt))

pub all_used : (x : InodeExtents) (spare : List ℕ) (old new : Slot) (n : ℕ) → HasRootsOf x spare old new → length spare ≡ roots_wanted old x → n < length spare → (t : Tier) × (root_of new t ≡ get_or spare n 0)
all_used x spare old new n roots many lt =
    let r = gets old x n (omega (arith, many, lt)) in
    (r.tier, roots r.tier ∙ r.is (get_or spare (wanted_before old x r.tier) 0) ∙ ap (λ (k : ℕ). get_or spare k 0) r.number)
