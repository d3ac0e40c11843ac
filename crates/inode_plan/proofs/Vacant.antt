-- The blocks that listed extents by an old slot, and which of them the new one names.
use Rattle.std.proofs.Common.{◌≡◌, ◌≢◌, ◌↔◌, ◌∙◌, ℕ, List, [], ◌∷◌, ◌++◌, true, false, Option, Some, None, get_or, inl, inr, sym, ap, subst, refl}
use Rattle.std.specs.Prelude.{◌==◌, ◌||◌, ◌&&◌, ◌^◌, not, nat_le, nat_lt, if◌then◌else◌}
use Rattle.std.specs.List.{Contains}
use Rattle.std.proofs.lemmas.Bool.{true≢false, cases_Bool, and_parts, or_parts, or_from, eqb-true, eqb-false, cond-false}
use Rattle.std.proofs.lemmas.List.Elements.{Contains-append_left, Contains-append_right, Contains-append_cases}
use Rattle.posix_calls.specs.declared.limits.TheConstants.{MAX_NAMES, MAX_FILE}
use Rattle.tier_device.specs.declared.media.Tier.{Tier}
use Rattle.tier_device.specs.declared.media.Tier.TheVariants as tiers
use Rattle.area_commit.specs.layout.declared.slot.Slot.{Slot}
use Rattle.area_commit.specs.layout.declared.slot.Slot.TheVariants as slots
use Rattle.area_commit.specs.layout.Extents.{ExtentList}
use Rattle.area_commit.specs.layout.Places.{Sizes}
use Rattle.area_commit.specs.layout.Slot.{fits_slot, is_root_block, roots_apart}
use Rattle.area_commit.specs.area_reader.Store.{root_of}
use Rattle.area_commit.specs.area_reader.Map.{in_tier}
use Rattle.area_commit.specs.area_reader.declared.tiers.InodeExtents.{InodeExtents}
use Rattle.inode_plan.specs.Lists.{root_for, root_left, roots_left}
use Rattle.area_commit.proofs.Given.{cons_cases, cons_here, nothing}
use Rattle.area_commit.proofs.GivenUp.{Once}
use Rattle.inode_plan.proofs.ListRoots.{apart_parts}
use Rattle.inode_plan.specs.Roots.{wanted_before, HasRootsOf}

-- ---- roots of one slot

file_differ : (names size touch fast block slow : ℕ) → roots_apart fast block ≡ true → roots_apart fast slow ≡ true → roots_apart block slow ≡ true → (t u : Tier) → root_of (slots.File names size touch fast block slow) t ≢ 0
    → root_of (slots.File names size touch fast block slow) t ≡ root_of (slots.File names size touch fast block slow) u → t ≡ u
file_differ names size touch fast block slow fb fs bs tiers.Fast tiers.Fast some same = refl
file_differ names size touch fast block slow fb fs bs tiers.Fast tiers.Block some same = absurd (apart_parts fast block fb some same)
file_differ names size touch fast block slow fb fs bs tiers.Fast tiers.Slow some same = absurd (apart_parts fast slow fs some same)
file_differ names size touch fast block slow fb fs bs tiers.Block tiers.Fast some same = absurd (apart_parts fast block fb (λ none. some (same ∙ none)) (sym same))
file_differ names size touch fast block slow fb fs bs tiers.Block tiers.Block some same = refl
file_differ names size touch fast block slow fb fs bs tiers.Block tiers.Slow some same = absurd (apart_parts block slow bs some same)
file_differ names size touch fast block slow fb fs bs tiers.Slow tiers.Fast some same = absurd (apart_parts fast slow fs (λ none. some (same ∙ none)) (sym same))
file_differ names size touch fast block slow fb fs bs tiers.Slow tiers.Block some same = absurd (apart_parts block slow bs (λ none. some (same ∙ none)) (sym same))
file_differ names size touch fast block slow fb fs bs tiers.Slow tiers.Slow some same = refl

pub roots_differ : (g : Sizes) (x : Slot) (t u : Tier) → fits_slot g x ≡ true → root_of x t ≢ 0 → root_of x t ≡ root_of x u → t ≡ u
roots_differ g slots.Free t u fits some same = absurd (some refl)
roots_differ g (slots.Directory names entries touch root) tiers.Fast tiers.Fast fits some same = refl
roots_differ g (slots.Directory names entries touch root) tiers.Fast tiers.Block fits some same = absurd (some same)
roots_differ g (slots.Directory names entries touch root) tiers.Fast tiers.Slow fits some same = absurd (some same)
roots_differ g (slots.Directory names entries touch root) tiers.Block u fits some same = absurd (some refl)
roots_differ g (slots.Directory names entries touch root) tiers.Slow u fits some same = absurd (some refl)
roots_differ g (slots.File names size touch fast block slow) t u fits some same =
    let inner = and_parts (nat_lt touch (2 ^ 64)) (nat_le names MAX_NAMES && nat_le size MAX_FILE && is_root_block g fast && is_root_block g block && is_root_block g slow && roots_apart fast block && roots_apart fast slow && roots_apart block slow) fits in
    let bs = and_parts (nat_le names MAX_NAMES && nat_le size MAX_FILE && is_root_block g fast && is_root_block g block && is_root_block g slow && roots_apart fast block && roots_apart fast slow) (roots_apart block slow) inner.1 in
    let fs = and_parts (nat_le names MAX_NAMES && nat_le size MAX_FILE && is_root_block g fast && is_root_block g block && is_root_block g slow && roots_apart fast block) (roots_apart fast slow) bs.0 in
    let fb = and_parts (nat_le names MAX_NAMES && nat_le size MAX_FILE && is_root_block g fast && is_root_block g block && is_root_block g slow) (roots_apart fast block) fs.0 in
    file_differ names size touch fast block slow fb.1 fs.1 bs.1 t u some same

-- ---- one tier

one_block : (k b : ℕ) → Contains (b ∷ []) k → k ≡ b
one_block k b at = elim (cons_cases b [] k at) [ inl here ↦ sym here | inr later ↦ absurd (nothing k later) ]

root_left_at : (a b k : ℕ) → Contains (root_left a b) k → (a ≢ 0) × (b ≡ 0) × (a ≡ k)
root_left_at a b k at = elim (cases_Bool ((a == 0) || not (b == 0))) [
  | inl none ↦ absurd (nothing k (subst (λ t. Contains (if t then [] else a ∷ []) k) none at))
  | inr some ↦
      let parts = or_parts (a == 0) (not (b == 0)) some in
      (eqb-false a 0 parts.0, zero_is b parts.1, sym (one_block k a (subst (λ t. Contains (if t then [] else a ∷ []) k) some at)))
]
  where
    zero_is : (b : ℕ) → not (b == 0) ≡ false → b ≡ 0
    zero_is b is = elim (cases_Bool (b == 0)) [ inl here ↦ eqb-true b 0 here | inr other ↦ absurd (true≢false (sym (ap not other) ∙ is)) ]

root_left_here : (a b : ℕ) → a ≢ 0 → b ≡ 0 → Contains (root_left a b) a
root_left_here a b some z =
    let test : ((a == 0) || not (b == 0)) ≡ false = or_from (a == 0) (not (b == 0)) (differs a some) (ap (λ n. not (n == 0)) z) in
    subst (λ t. Contains (if t then [] else a ∷ []) a) (sym test) (cons_here a [] a refl)
  where
    differs : (a : ℕ) → a ≢ 0 → (a == 0) ≡ false
    differs a some = elim (cases_Bool (a == 0)) [ inl here ↦ absurd (some (eqb-true a 0 here)) | inr other ↦ other ]

root_left_once : (a b : ℕ) → Once (root_left a b)
root_left_once a b = elim (cases_Bool ((a == 0) || not (b == 0))) [
  | inl none ↦ subst (λ t. Once (if t then [] else a ∷ [])) (sym none) tt
  | inr some ↦ subst (λ t. Once (if t then [] else a ∷ [])) (sym some) ((λ at. nothing a at), tt)
]

-- ---- the three

abbrev pub IsLeft : Slot → Slot → ℕ → Type 0
IsLeft old new k = (t : Tier) × (root_of old t ≢ 0) × (root_of new t ≡ 0) × (root_of old t ≡ k)

pub left_at : (old new : Slot) (k : ℕ) → Contains (roots_left old new) k → IsLeft old new k
left_at old new k at = elim (Contains-append_cases (root_left (root_of old tiers.Fast) (root_of new tiers.Fast) ++ root_left (root_of old tiers.Block) (root_of new tiers.Block)) (root_left (root_of old tiers.Slow) (root_of new tiers.Slow)) k at) [
  | inl first ↦ elim (Contains-append_cases (root_left (root_of old tiers.Fast) (root_of new tiers.Fast)) (root_left (root_of old tiers.Block) (root_of new tiers.Block)) k first) [
    | inl fast ↦ (let r = root_left_at (root_of old tiers.Fast) (root_of new tiers.Fast) k fast in (tiers.Fast, r.0, r.1, r.2))
    | inr block ↦ (let r = root_left_at (root_of old tiers.Block) (root_of new tiers.Block) k block in (tiers.Block, r.0, r.1, r.2))
  ]
  | inr slow ↦ (let r = root_left_at (root_of old tiers.Slow) (root_of new tiers.Slow) k slow in (tiers.Slow, r.0, r.1, r.2))
]

pub left_here : (old new : Slot) (t : Tier) → root_of old t ≢ 0 → root_of new t ≡ 0 → Contains (roots_left old new) (root_of old t)
left_here old new tiers.Fast some none =
    Contains-append_left (root_left (root_of old tiers.Fast) (root_of new tiers.Fast) ++ root_left (root_of old tiers.Block) (root_of new tiers.Block)) (root_left (root_of old tiers.Slow) (root_of new tiers.Slow)) (root_of old tiers.Fast)
    (Contains-append_left (root_left (root_of old tiers.Fast) (root_of new tiers.Fast)) (root_left (root_of old tiers.Block) (root_of new tiers.Block)) (root_of old tiers.Fast) (root_left_here (root_of old tiers.Fast) (root_of new tiers.Fast) some none))
left_here old new tiers.Block some none =
    Contains-append_left (root_left (root_of old tiers.Fast) (root_of new tiers.Fast) ++ root_left (root_of old tiers.Block) (root_of new tiers.Block)) (root_left (root_of old tiers.Slow) (root_of new tiers.Slow)) (root_of old tiers.Block)
    (Contains-append_right (root_left (root_of old tiers.Fast) (root_of new tiers.Fast)) (root_left (root_of old tiers.Block) (root_of new tiers.Block)) (root_of old tiers.Block) (root_left_here (root_of old tiers.Block) (root_of new tiers.Block) some none))
left_here old new tiers.Slow some none = Contains-append_right (root_left (root_of old tiers.Fast) (root_of new tiers.Fast) ++ root_left (root_of old tiers.Block) (root_of new tiers.Block)) (root_left (root_of old tiers.Slow) (root_of new tiers.Slow)) (root_of old tiers.Slow) (root_left_here (root_of old tiers.Slow) (root_of new tiers.Slow) some none)

-- a root that is not kept goes
goes : (old new spare k : ℕ) (o : Option ExtentList) → new ≡ root_for old o spare → old ≢ 0 → old ≡ k → new ≢ k → new ≡ 0
goes old new spare k None is some same other = is
goes old new spare k (Some v) is some same other = elim (cases_Bool (old == 0)) [
  | inl zero ↦ absurd (some (eqb-true old 0 zero))
  | inr has ↦ absurd (other (is ∙ cond-false (old == 0) spare old has ∙ same))
]

pub roots_lost : (x : InodeExtents) (spare : List ℕ) (old new : Slot) (k : ℕ) → HasRootsOf x spare old new → Contains (roots_left old new) k ↔ ((t : Tier) × (root_of old t ≢ 0) × (root_of old t ≡ k) × (root_of new t ≢ k))
roots_lost x spare old new k roots = (
  λ at. (let r = left_at old new k at in (r.0, r.1, r.3, λ same. r.1 (r.3 ∙ sym same ∙ r.2))),
  λ some. subst (Contains (roots_left old new)) some.2 (left_here old new some.0 some.1 (gone some.0 some.1 some.2 some.3)),
)
  where
    gone : (t : Tier) → root_of old t ≢ 0 → root_of old t ≡ k → root_of new t ≢ k → root_of new t ≡ 0
    gone t some same other = goes (root_of old t) (root_of new t) (get_or spare (wanted_before old x t) 0) k (in_tier x t) (roots t) some same other

-- ---- no block is left twice

once_join : (xs ys : List ℕ) → Once xs → Once ys → ((k : ℕ) → Contains xs k → Contains ys k → ⊥) → Once (xs ++ ys)
once_join [] ys one two apart = two
once_join (x ∷ xs) ys one two apart = (
  λ at. elim (Contains-append_cases xs ys x at) [ inl here ↦ one.0 here | inr there ↦ apart x (cons_here x xs x refl) there ],
  once_join xs ys one.1 two (λ k here there. apart k (Contains-append_right (x ∷ []) xs k here) there),
)

fast_block : tiers.Fast ≡ tiers.Block → ⊥
fast_block e = cc

fast_slow : tiers.Fast ≡ tiers.Slow → ⊥
fast_slow e = cc

block_slow : tiers.Block ≡ tiers.Slow → ⊥
block_slow e = cc

pub left_once : (g : Sizes) (old new : Slot) → fits_slot g old ≡ true → Once (roots_left old new)
left_once g old new fits =
    once_join (root_left (root_of old tiers.Fast) (root_of new tiers.Fast) ++ root_left (root_of old tiers.Block) (root_of new tiers.Block)) (root_left (root_of old tiers.Slow) (root_of new tiers.Slow))
    (once_join (root_left (root_of old tiers.Fast) (root_of new tiers.Fast)) (root_left (root_of old tiers.Block) (root_of new tiers.Block)) (root_left_once (root_of old tiers.Fast) (root_of new tiers.Fast)) (root_left_once (root_of old tiers.Block) (root_of new tiers.Block)) (λ k one two. two_apart tiers.Fast tiers.Block fast_block k one two))
    (root_left_once (root_of old tiers.Slow) (root_of new tiers.Slow))
    (λ k one two. elim (Contains-append_cases (root_left (root_of old tiers.Fast) (root_of new tiers.Fast)) (root_left (root_of old tiers.Block) (root_of new tiers.Block)) k one) [
      | inl fast ↦ two_apart tiers.Fast tiers.Slow fast_slow k fast two
      | inr block ↦ two_apart tiers.Block tiers.Slow block_slow k block two
    ])
  where
    two_apart : (t u : Tier) → (t ≡ u → ⊥) → (k : ℕ) → Contains (root_left (root_of old t) (root_of new t)) k → Contains (root_left (root_of old u) (root_of new u)) k → ⊥
    two_apart t u other k one two =
        let a = root_left_at (root_of old t) (root_of new t) k one in
        let b = root_left_at (root_of old u) (root_of new u) k two in
        other (roots_differ g old t u fits a.0 (a.2 ∙ sym b.2))
