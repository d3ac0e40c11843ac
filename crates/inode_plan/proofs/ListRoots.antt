-- A slot with roots for new extents.
use Rattle.std.proofs.Common.{◌≡◌, ◌≢◌, inl, inr, ℕ, true, Option, Some, None, sym, ap, ◌∙◌, refl, subst}
use Rattle.std.specs.Prelude.{◌==◌, ◌||◌, not, nat_lt, ◌^◌, IsSome}
use Rattle.std.proofs.lemmas.Bool.{cases_Bool, and_parts, and_from, cond-true, cond-false, eqb-true, eqb-false, false≢true}
use Rattle.area_commit.specs.layout.Extents.{ExtentList}
use Rattle.area_commit.specs.layout.Places.{Sizes}
use Rattle.area_commit.specs.layout.Slot.{is_root_block, roots_apart, fits_slot}
use Rattle.area_commit.specs.layout.declared.slot.Slot.TheVariants as slots
use Rattle.tier_device.specs.declared.media.Tier.TheVariants as tiers
use Rattle.area_commit.specs.area_reader.declared.tiers.InodeExtents.{InodeExtents}
use Rattle.inode_plan.specs.Lists.{root_for, SpareFits}

-- the root of a tier for new extents is none, the one it had, or the spare one where it had none
data Root (old : ℕ) (o : Option ExtentList) (spare n : ℕ) : Type 0 where
  none : n ≡ 0 → Root old o spare n
  kept : old ≢ 0 → n ≡ old → Root old o spare n
  new : old ≡ 0 → IsSome o → n ≡ spare → Root old o spare n

root_is : (old : ℕ) (o : Option ExtentList) (spare : ℕ) → Root old o spare (root_for old o spare)
root_is old None spare = none refl
root_is old (Some v) spare = elim (cases_Bool (old == 0)) [
  | inl zero ↦ new (eqb-true old 0 zero) refl (cond-true (old == 0) spare old zero)
  | inr some ↦ kept (eqb-false old 0 some) (cond-false (old == 0) spare old some)
]

-- ---- each root

root_fits : (g : Sizes) (old : ℕ) (o : Option ExtentList) (spare n : ℕ) → Root old o spare n → is_root_block g old ≡ true → is_root_block g spare ≡ true → is_root_block g n ≡ true
root_fits g old o spare n (none is) was node = subst (λ k. is_root_block g k ≡ true) (sym is) refl
root_fits g old o spare n (kept some is) was node = subst (λ k. is_root_block g k ≡ true) (sym is) was
root_fits g old o spare n (new zero some is) was node = subst (λ k. is_root_block g k ≡ true) (sym is) node

apart_from : (a b : ℕ) → (a ≢ 0 → a ≢ b) → roots_apart a b ≡ true
apart_from a b differ = elim (cases_Bool (a == 0)) [
  | inl zero ↦ ap (λ x. x || not (a == b)) zero
  | inr some ↦ elim (cases_Bool (a == b)) [
    | inl same ↦ absurd (differ (eqb-false a 0 some) (eqb-true a b same))
    | inr other ↦ ap (λ x. x || not (a == b)) some ∙ ap not other
  ]
]

pub apart_parts : (a b : ℕ) → roots_apart a b ≡ true → a ≢ 0 → a ≢ b
apart_parts a b apart some same =
    elim (cases_Bool (a == 0)) [
      | inl zero ↦ some (eqb-true a 0 zero)
      | inr more ↦ elim (cases_Bool (a == b)) [
        | inl equal ↦ false≢true (sym (ap (λ x. x || not (a == b)) more ∙ ap not equal) ∙ apart)
        | inr differ ↦ eqb-false a b differ same
      ]
    ]

-- ---- two roots

module _ (a b : ℕ) (o q : Option ExtentList) (spare : ℕ) (differ : a ≢ 0 → a ≢ b) (fresh_a : a ≢ 0 → a ≢ spare) (fresh_b : b ≢ 0 → b ≢ spare) (one : a ≡ 0 → IsSome o → b ≡ 0 → IsSome q → ⊥) where
  two_differ : (m n : ℕ) → Root a o spare m → Root b q spare n → m ≢ 0 → m ≢ n
  two_differ m n (none is) r some same = some is
  two_differ m n (kept a_some is) (none zero) some same = some (same ∙ zero)
  two_differ m n (kept a_some is) (kept b_some it) some same = differ a_some (sym is ∙ same ∙ it)
  two_differ m n (kept a_some is) (new b_zero q_some it) some same = fresh_a a_some (sym is ∙ same ∙ it)
  two_differ m n (new a_zero o_some is) (none zero) some same = some (same ∙ zero)
  two_differ m n (new a_zero o_some is) (kept b_some it) some same = fresh_b b_some (sym it ∙ sym same ∙ is)
  two_differ m n (new a_zero o_some is) (new b_zero q_some it) some same = one a_zero o_some b_zero q_some

  stay_apart : roots_apart (root_for a o spare) (root_for b q spare) ≡ true
  stay_apart = apart_from (root_for a o spare) (root_for b q spare) (two_differ (root_for a o spare) (root_for b q spare) (root_is a o spare) (root_is b q spare))

-- ---- the slot

pub file_fits : (g : Sizes) (x : InodeExtents) (spare names size touch fast block slow : ℕ) → fits_slot g (slots.File names size touch fast block slow) ≡ true → SpareFits g (slots.File names size touch fast block slow) x spare
    → fits_slot g (slots.File names size touch (root_for fast x.fast spare) (root_for block x.block spare) (root_for slow x.slow spare)) ≡ true
file_fits g x spare names size touch fast block slow was fits =
    let t = and_parts (nat_lt touch (2 ^ 64)) _ was in
    let bs = and_parts _ (roots_apart block slow) t.1 in
    let fs = and_parts _ (roots_apart fast slow) bs.0 in
    let fb = and_parts _ (roots_apart fast block) fs.0 in
    let s = and_parts _ (is_root_block g slow) fb.0 in
    let b = and_parts _ (is_root_block g block) s.0 in
    let f = and_parts _ (is_root_block g fast) b.0 in
    let here = λ (old : ℕ) (o : Option ExtentList) (is : is_root_block g old ≡ true). root_fits g old o spare (root_for old o spare) (root_is old o spare) is fits.node in
    let fast_block = stay_apart fast block x.fast x.block spare (apart_parts fast block fb.1) (fits.fresh tiers.Fast) (fits.fresh tiers.Block) (λ z o y q. fast_not_block (fits.one tiers.Fast tiers.Block (z, o) (y, q))) in
    let fast_slow = stay_apart fast slow x.fast x.slow spare (apart_parts fast slow fs.1) (fits.fresh tiers.Fast) (fits.fresh tiers.Slow) (λ z o y q. fast_not_slow (fits.one tiers.Fast tiers.Slow (z, o) (y, q))) in
    let block_slow = stay_apart block slow x.block x.slow spare (apart_parts block slow bs.1) (fits.fresh tiers.Block) (fits.fresh tiers.Slow) (λ z o y q. block_not_slow (fits.one tiers.Block tiers.Slow (z, o) (y, q))) in
    and_from _ _ t.0 (and_from _ _ (and_from _ _ (and_from _ _ (and_from _ _ (and_from _ _ (and_from _ _ f.0 (here fast x.fast f.1)) (here block x.block b.1)) (here slow x.slow s.1)) fast_block) fast_slow) block_slow)
  where
    fast_not_block : tiers.Fast ≡ tiers.Block → ⊥
    fast_not_block e = cc

    fast_not_slow : tiers.Fast ≡ tiers.Slow → ⊥
    fast_not_slow e = cc

    block_not_slow : tiers.Block ≡ tiers.Slow → ⊥
    block_not_slow e = cc
