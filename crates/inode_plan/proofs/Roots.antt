-- A slot with roots for new extents, each tier with a spare one of its own.
use Rattle.std.proofs.Common.{◌≡◌, ◌≢◌, ◌≤◌, ◌<◌, ◌+◌, inl, inr, ℕ, List, length, get_or, Bool, true, false, Option, Some, None, sym, ap, ◌∙◌, refl, subst, arith}
use Rattle.std.specs.Prelude.{◌==◌, ◌||◌, not, nat_lt, ◌^◌, IfSome}
use Rattle.std.proofs.lemmas.Bool.{cases_Bool, and_parts, and_from, cond-true, cond-false, eqb-true, eqb-false, leb-true, le-leb, lt-ltb, false≢true}
use Rattle.posix_calls.specs.declared.limits.TheConstants.{MAX_NAMES, MAX_FILE}
use Rattle.tier_device.specs.declared.media.Tier.TheVariants as tiers
use Rattle.area_commit.specs.graph_change.Bounds.{IsBounded}
use Rattle.area_commit.specs.graph_change.Bytes.{Length, Grown, Cut, length_after, end}
use Rattle.area_commit.specs.graph_change.Change.{Change}
use Rattle.area_commit.specs.graph_change.Net.{Base, Kept, Made, Gone, names_after}
use Rattle.area_commit.specs.layout.Extents.{ExtentList}
use Rattle.area_commit.specs.layout.Places.{Sizes, is_node}
use Rattle.area_commit.specs.layout.Slot.{is_root_block, roots_apart, fits_slot}
use Rattle.area_commit.specs.layout.declared.slot.Slot.{Slot}
use Rattle.area_commit.specs.layout.declared.slot.Slot.TheVariants as slots
use Rattle.area_commit.specs.tree_blocks.Inode.{LogicalBlocks, inode_of}
use Rattle.area_commit.specs.tree_blocks.After.{start_node}
use Rattle.area_commit.specs.area_reader.Store.{root_of}
use Rattle.area_commit.specs.area_reader.declared.tiers.InodeExtents.{InodeExtents}
use Rattle.inode_plan.specs.Lists.{root_for}
use Rattle.inode_plan.specs.Roots.{missing_roots, wanted_before, roots_wanted, SparesFit}

-- the root of a tier is none, the one it had, or the spare one where it lacked one
data Root (old : ℕ) (o : Option ExtentList) (spare n : ℕ) : Type 0 where
  none : n ≡ 0 → Root old o spare n
  kept : old ≢ 0 → n ≡ old → Root old o spare n
  new : missing_roots old o ≡ 1 → n ≡ spare → Root old o spare n

root_is : (old : ℕ) (o : Option ExtentList) (spare : ℕ) → Root old o spare (root_for old o spare)
root_is old None spare = none refl
root_is old (Some v) spare = elim (cases_Bool (old == 0)) [
  | inl zero ↦ new (cond-true (old == 0) 1 0 zero) (cond-true (old == 0) spare old zero)
  | inr some ↦ kept (eqb-false old 0 some) (cond-false (old == 0) spare old some)
]

or_right : (a b : Bool) → b ≡ true → (a || b) ≡ true
or_right true b is = refl
or_right false b is = is

-- ---- each root

one_fits : (g : Sizes) (old : ℕ) (o : Option ExtentList) (spare n : ℕ) → Root old o spare n → is_root_block g old ≡ true → (missing_roots old o ≡ 1 → is_node g spare ≡ true) → is_root_block g n ≡ true
one_fits g old o spare n (none is) was node = subst (λ k. is_root_block g k ≡ true) (sym is) refl
one_fits g old o spare n (kept some is) was node = subst (λ k. is_root_block g k ≡ true) (sym is) was
one_fits g old o spare n (new lacks is) was node = subst (λ k. is_root_block g k ≡ true) (sym is) (or_right (spare == 0) (is_node g spare) (node lacks))

apart_from : (a b : ℕ) → (a ≢ 0 → a ≢ b) → roots_apart a b ≡ true
apart_from a b differ = elim (cases_Bool (a == 0)) [
  | inl zero ↦ ap (λ x. x || not (a == b)) zero
  | inr some ↦ elim (cases_Bool (a == b)) [
    | inl same ↦ absurd (differ (eqb-false a 0 some) (eqb-true a b same))
    | inr other ↦ ap (λ x. x || not (a == b)) some ∙ ap not other
  ]
]

apart_parts : (a b : ℕ) → roots_apart a b ≡ true → a ≢ 0 → a ≢ b
apart_parts a b apart some same =
    elim (cases_Bool (a == 0)) [
      | inl zero ↦ some (eqb-true a 0 zero)
      | inr more ↦ elim (cases_Bool (a == b)) [
        | inl equal ↦ false≢true (sym (ap (λ x. x || not (a == b)) more ∙ ap not equal) ∙ apart)
        | inr differ ↦ eqb-false a b differ same
      ]
    ]

-- ---- two roots

module _ (a b : ℕ) (o q : Option ExtentList) (s u : ℕ) (differ : a ≢ 0 → a ≢ b) (fresh_a : missing_roots b q ≡ 1 → a ≢ u) (fresh_b : missing_roots a o ≡ 1 → b ≢ s) (two : missing_roots a o ≡ 1 → missing_roots b q ≡ 1 → s ≢ u) where
  two_differ : (m n : ℕ) → Root a o s m → Root b q u n → m ≢ 0 → m ≢ n
  two_differ m n (none is) r some same = some is
  two_differ m n (kept a_some is) (none zero) some same = some (same ∙ zero)
  two_differ m n (kept a_some is) (kept b_some it) some same = differ a_some (sym is ∙ same ∙ it)
  two_differ m n (kept a_some is) (new lacks it) some same = fresh_a lacks (sym is ∙ same ∙ it)
  two_differ m n (new lacks is) (none zero) some same = some (same ∙ zero)
  two_differ m n (new lacks is) (kept b_some it) some same = fresh_b lacks (sym it ∙ sym same ∙ is)
  two_differ m n (new lacks is) (new lacks_too it) some same = two lacks lacks_too (sym is ∙ same ∙ it)

  stay_apart : roots_apart (root_for a o s) (root_for b q u) ≡ true
  stay_apart = apart_from (root_for a o s) (root_for b q u) (two_differ (root_for a o s) (root_for b q u) (root_is a o s) (root_is b q u))

-- ---- what holds of an old slot

-- its roots are blocks of the node pool, no two the same
pub record AreRoots (g : Sizes) (a b d : ℕ) : Type 0 where
  pub fast : is_root_block g a ≡ true
  pub block : is_root_block g b ≡ true
  pub slow : is_root_block g d ≡ true
  pub fast_block : roots_apart a b ≡ true
  pub fast_slow : roots_apart a d ≡ true
  pub block_slow : roots_apart b d ≡ true

from_none : (a : ℕ) → roots_apart a 0 ≡ true
from_none a = apart_from a 0 (λ some. some)

old_roots : (g : Sizes) (slot : Slot) → fits_slot g slot ≡ true → AreRoots g (root_of slot tiers.Fast) (root_of slot tiers.Block) (root_of slot tiers.Slow)
old_roots g slots.Free was = record { fast = refl; block = refl; slow = refl; fast_block = refl; fast_slow = refl; block_slow = refl }
old_roots g (slots.File names size touch fast block slow) was =
    let t = and_parts (nat_lt touch (2 ^ 64)) _ was in
    let bs = and_parts _ (roots_apart block slow) t.1 in
    let fs = and_parts _ (roots_apart fast slow) bs.0 in
    let fb = and_parts _ (roots_apart fast block) fs.0 in
    let s = and_parts _ (is_root_block g slow) fb.0 in
    let b = and_parts _ (is_root_block g block) s.0 in
    let f = and_parts _ (is_root_block g fast) b.0 in
    record { fast = f.1; block = b.1; slow = s.1; fast_block = fb.1; fast_slow = fs.1; block_slow = bs.1 }
old_roots g (slots.Directory names entries touch root) was =
    let t = and_parts (nat_lt touch (2 ^ 64)) _ was in
    let r = and_parts _ (is_root_block g root) t.1 in
    record { fast = r.1; block = refl; slow = refl; fast_block = from_none root; fast_slow = from_none root; block_slow = refl }

-- what a change starts from keeps the limits
started_few : (g : Sizes) (slot : Slot) (base : Base) (blocks : LogicalBlocks) → fits_slot g slot ≡ true → ((start_node base (inode_of slot blocks)).names ≤ MAX_NAMES) × ((start_node base (inode_of slot blocks)).size ≤ MAX_FILE)
started_few g slots.Free Kept blocks was = (omega arith, omega arith)
started_few g (slots.File names size touch fast block slow) Kept blocks was =
    let t = and_parts (nat_lt touch (2 ^ 64)) _ was in
    let bs = and_parts _ (roots_apart block slow) t.1 in
    let fs = and_parts _ (roots_apart fast slow) bs.0 in
    let fb = and_parts _ (roots_apart fast block) fs.0 in
    let s = and_parts _ (is_root_block g slow) fb.0 in
    let b = and_parts _ (is_root_block g block) s.0 in
    let f = and_parts _ (is_root_block g fast) b.0 in
    let n = and_parts _ _ f.0 in
    (leb-true names _ n.0, leb-true size _ n.1)
started_few g (slots.Directory names entries touch root) Kept blocks was =
    let t = and_parts (nat_lt touch (2 ^ 64)) _ was in
    let r = and_parts _ (is_root_block g root) t.1 in
    let n = and_parts _ _ r.0 in
    (leb-true names _ n.0, (let few = leb-true entries _ n.1 in omega (arith, few)))
started_few g slot (Made kind) blocks was = (omega arith, omega arith)
started_few g slot Gone blocks was = (omega arith, omega arith)

few_names : (names : Option ℕ) (old : ℕ) → IfSome names (λ n. n ≤ MAX_NAMES) → old ≤ MAX_NAMES → names_after names old ≤ MAX_NAMES
few_names None old some few = few
few_names (Some n) old some few = some

few_bytes : (len : Length) (old : ℕ) → end len ≤ MAX_FILE → old ≤ MAX_FILE → length_after len old ≤ MAX_FILE
few_bytes (Grown to) old few was = omega (arith, few, was)
few_bytes (Cut least to) old few was = few

-- ---- the slot

module _ (g : Sizes) (slot : Slot) (x : InodeExtents) (spare : List ℕ) (many : length spare ≡ roots_wanted slot x) (fit : SparesFit g slot spare) where
  abbrev a : ℕ
  a = root_of slot tiers.Fast

  abbrev b : ℕ
  b = root_of slot tiers.Block

  abbrev d : ℕ
  d = root_of slot tiers.Slow

  -- the place of a tier's spare block among the others
  first : missing_roots a x.fast ≡ 1 → 0 < length spare
  first lacks = omega (arith, many, lacks)

  second : missing_roots b x.block ≡ 1 → missing_roots a x.fast < length spare
  second lacks = omega (arith, many, lacks)

  third : missing_roots d x.slow ≡ 1 → missing_roots a x.fast + missing_roots b x.block < length spare
  third lacks = omega (arith, many, lacks)

  pub roots_fit : AreRoots g a b d → AreRoots g (root_for a x.fast (get_or spare 0 0)) (root_for b x.block (get_or spare (missing_roots a x.fast) 0)) (root_for d x.slow (get_or spare (missing_roots a x.fast + missing_roots b x.block) 0))
  roots_fit old = record {
    fast = one_fits g a x.fast (get_or spare 0 0) _ (root_is a x.fast (get_or spare 0 0)) old.fast (λ lacks. fit.node 0 (first lacks));
    block = one_fits g b x.block (get_or spare (missing_roots a x.fast) 0) _ (root_is b x.block (get_or spare (missing_roots a x.fast) 0)) old.block (λ lacks. fit.node (missing_roots a x.fast) (second lacks));
    slow = one_fits g d x.slow (get_or spare (missing_roots a x.fast + missing_roots b x.block) 0) _ (root_is d x.slow (get_or spare (missing_roots a x.fast + missing_roots b x.block) 0)) old.slow (λ lacks. fit.node (missing_roots a x.fast + missing_roots b x.block) (third lacks));
    fast_block = stay_apart a b x.fast x.block (get_or spare 0 0) (get_or spare (missing_roots a x.fast) 0) (apart_parts a b old.fast_block)
        (λ lacks. fit.fresh tiers.Fast (missing_roots a x.fast) (second lacks))
        (λ lacks. fit.fresh tiers.Block 0 (first lacks))
        (λ one two same. (let is = fit.apart 0 (missing_roots a x.fast) (first one) (second two) same in omega (arith, is, one)));
    fast_slow = stay_apart a d x.fast x.slow (get_or spare 0 0) (get_or spare (missing_roots a x.fast + missing_roots b x.block) 0) (apart_parts a d old.fast_slow)
        (λ lacks. fit.fresh tiers.Fast (missing_roots a x.fast + missing_roots b x.block) (third lacks))
        (λ lacks. fit.fresh tiers.Slow 0 (first lacks))
        (λ one two same. (let is = fit.apart 0 (missing_roots a x.fast + missing_roots b x.block) (first one) (third two) same in omega (arith, is, one)));
    block_slow = stay_apart b d x.block x.slow (get_or spare (missing_roots a x.fast) 0) (get_or spare (missing_roots a x.fast + missing_roots b x.block) 0) (apart_parts b d old.block_slow)
        (λ lacks. fit.fresh tiers.Block (missing_roots a x.fast + missing_roots b x.block) (third lacks))
        (λ lacks. fit.fresh tiers.Slow (missing_roots a x.fast) (second lacks))
        (λ one two same. (let is = fit.apart (missing_roots a x.fast) (missing_roots a x.fast + missing_roots b x.block) (second one) (third two) same in omega (arith, is, one)));
  }

-- numbers within the limits and such roots are a slot
pub file_fits : (g : Sizes) (names size touch fast block slow : ℕ) → names ≤ MAX_NAMES → size ≤ MAX_FILE → touch < 2 ^ 64 → AreRoots g fast block slow → fits_slot g (slots.File names size touch fast block slow) ≡ true
file_fits g names size touch fast block slow few_n few_s few_t r =
    and_from _ _ (lt-ltb touch (2 ^ 64) few_t) (and_from _ _ (and_from _ _ (and_from _ _ (and_from _ _ (and_from _ _ (and_from _ _ (and_from _ _ (le-leb names _ few_n) (le-leb size _ few_s)) r.fast) r.block) r.slow) r.fast_block) r.fast_slow) r.block_slow)

pub slot_fits : (g : Sizes) (slot : Slot) (x : InodeExtents) (spare : List ℕ) (c : Change) (blocks : LogicalBlocks) (touch : ℕ) → fits_slot g slot ≡ true → IsBounded c → SparesFit g slot spare → length spare ≡ roots_wanted slot x → touch < 2 ^ 64
    → fits_slot g (slots.File (names_after c.names (start_node c.base (inode_of slot blocks)).names) (length_after c.length (start_node c.base (inode_of slot blocks)).size) touch
    (root_for (root_of slot tiers.Fast) x.fast (get_or spare (wanted_before slot x tiers.Fast) 0))
    (root_for (root_of slot tiers.Block) x.block (get_or spare (wanted_before slot x tiers.Block) 0))
    (root_for (root_of slot tiers.Slow) x.slow (get_or spare (wanted_before slot x tiers.Slow) 0)))
    ≡ true
slot_fits g slot x spare c blocks touch was bounded fit many few =
    let start = started_few g slot c.base blocks was in
    file_fits g (names_after c.names (start_node c.base (inode_of slot blocks)).names) (length_after c.length (start_node c.base (inode_of slot blocks)).size) touch _ _ _
    (few_names c.names (start_node c.base (inode_of slot blocks)).names bounded.names start.0)
    (few_bytes c.length (start_node c.base (inode_of slot blocks)).size bounded.length start.1)
    few (roots_fit g slot x spare many fit (old_roots g slot was))

-- the same numbers are the same slot
pub file_same : (g : Sizes) (n n' s s' t f f' b b' d d' : ℕ) → n ≡ n' → s ≡ s' → f ≡ f' → b ≡ b' → d ≡ d' → fits_slot g (slots.File n' s' t f' b' d') ≡ true → fits_slot g (slots.File n s t f b d) ≡ true
file_same g n n' s s' t f f' b b' d d' n_is s_is f_is b_is d_is fits =
    subst (λ x. fits_slot g (slots.File x s t f b d) ≡ true) (sym n_is)
    (subst (λ x. fits_slot g (slots.File n' x t f b d) ≡ true) (sym s_is)
    (subst (λ x. fits_slot g (slots.File n' s' t x b d) ≡ true) (sym f_is)
    (subst (λ x. fits_slot g (slots.File n' s' t f' x d) ≡ true) (sym b_is)
    (subst (λ x. fits_slot g (slots.File n' s' t f' b' x) ≡ true) (sym d_is) fits))))
