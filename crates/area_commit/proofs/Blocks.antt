-- The slots block by block, and the images of the blocks.
use Rattle.std.proofs.Common.{◌≡◌, ◌≢◌, inl, inr, ℕ, zero, suc, ◌+◌, ◌-◌, ◌*◌, ◌≤◌, ◌<◌, List, [], ◌∷◌, ◌++◌, length, take, drop, slice_index_or, Option, Some, None, refl, sym, ◌∙◌, ap, subst, arith, Bool, true, false, cond, ◌==◌, ◌||◌, ltb}
use Rattle.std.proofs.lemmas.Bool.{cases_eq, cases_order, cond-true, cond-false, eq-eqb, ne_eqb, or_left, or_from, lt-ltb, le-ltb}
use Rattle.std.proofs.lemmas.List.Folds.{list_any-append}
use Rattle.area_reader.specs.layout.declared.slot.Slot.TheVariants as slot
use Rattle.area_reader.specs.layout.Places.{slot_block}
use Rattle.area_reader.specs.batch_journal.Images.{image_for}
use Rattle.area_reader.specs.batch_journal.Blocks.{Blocks}
use Rattle.area_commit.specs.declared.slots.ChangedSlot.{ChangedSlot}
use Rattle.area_commit.specs.Slots.{RiseIn, has_slot, with_slot, with_slots, slot_image}
use Rattle.area_commit.specs.Batches.{HasSlotImages, images_for}

-- what is behind the end of a list
abbrev pub none_such : ChangedSlot
none_such = record { inode = 0; slot = slot.Free }

-- ---- slots up to an inode

-- none of the first n is behind that inode
abbrev pub Low : ℕ → ℕ → List ChangedSlot → Type 0
Low last zero xs = Unit {0}
Low last (suc n) [] = Unit {0}
Low last (suc n) (x ∷ xs) = (x.inode ≤ last) × Low last n xs

pub low_more : (last n : ℕ) (xs : List ChangedSlot) (d : ChangedSlot) → Low last n xs → (slice_index_or xs n d).inode ≤ last → Low last (suc n) xs
low_more last n [] d low le = tt
low_more last zero (x ∷ xs) d low le = (le, tt)
low_more last (suc n) (x ∷ xs) d low le = (low.0, low_more last n xs d low.1 le)

pub front_rises : (first last upto n : ℕ) (xs : List ChangedSlot) → RiseIn first last xs → Low upto n xs → RiseIn first upto (take n xs)
front_rises first last upto zero xs rises low = tt
front_rises first last upto (suc n) [] rises low = tt
front_rises first last upto (suc n) (x ∷ xs) rises low = (rises.0, low.0, front_rises (x.inode + 1) last upto n xs rises.2 low.1)

pub rest_rises : (first last upto n : ℕ) (xs : List ChangedSlot) (d : ChangedSlot) → RiseIn first last xs → (n < length xs → upto < (slice_index_or xs n d).inode) → RiseIn (upto + 1) last (drop n xs)
rest_rises first last upto zero [] d rises stop = tt
rest_rises first last upto zero (x ∷ xs) d rises stop = (omega (arith, stop (omega arith)), rises.1, rises.2)
rest_rises first last upto (suc n) [] d rises stop = tt
rest_rises first last upto (suc n) (x ∷ xs) d rises stop = rest_rises (x.inode + 1) last upto n xs d rises.2 (λ lt. stop (omega (arith, lt)))

pub at_within : (first last n : ℕ) (xs : List ChangedSlot) (d : ChangedSlot) → RiseIn first last xs → n < length xs → (first ≤ (slice_index_or xs n d).inode) × ((slice_index_or xs n d).inode ≤ last)
at_within first last n [] d rises lt = absurd (omega (arith, lt))
at_within first last zero (x ∷ xs) d rises lt = (rises.0, rises.1)
at_within first last (suc n) (x ∷ xs) d rises lt = let p = at_within (x.inode + 1) last n xs d rises.2 (omega (arith, lt)) in (omega (arith, p.0, rises.0), p.1)

-- one slot more is written over its block
pub with_next : (k n : ℕ) (xs : List ChangedSlot) (d : ChangedSlot) (b : List ℕ) → n < length xs → slot_block (slice_index_or xs n d).inode ≡ k → with_slots k (drop n xs) b ≡ with_slots k (drop (suc n) xs) (with_slot (slice_index_or xs n d) b)
with_next k n [] d b lt at = absurd (omega (arith, lt))
with_next k zero (x ∷ xs) d b lt at = ap (with_slots k xs) (cond-true (slot_block x.inode == k) (with_slot x b) b (eq-eqb (slot_block x.inode) k at))
with_next k (suc n) (x ∷ xs) d b lt at = with_next k n xs d b (omega (arith, lt)) at

-- ---- slots of other blocks

-- none stands in block k
abbrev Off : ℕ → List ChangedSlot → Type 0
Off k [] = Unit {0}
Off k (x ∷ xs) = ((slot_block x.inode == k) ≡ false) × Off k xs

off_below : (k low last : ℕ) (xs : List ChangedSlot) → 1 ≤ low → last ≤ 32 * (k - 1) → RiseIn low last xs → Off k xs
off_below k low last [] one le rises = tt
off_below k low last (x ∷ xs) one le rises = (ne_eqb (slot_block x.inode) k (λ e. omega (arith, e, one, le, rises.0, rises.1)), off_below k (x.inode + 1) last xs (omega arith) le rises.2)

off_above : (k low last : ℕ) (xs : List ChangedSlot) → 32 * k < low → RiseIn low last xs → Off k xs
off_above k low last [] lt rises = tt
off_above k low last (x ∷ xs) lt rises = (ne_eqb (slot_block x.inode) k (λ e. omega (arith, e, lt, rises.0)), off_above k (x.inode + 1) last xs (omega (arith, lt, rises.0)) rises.2)

off_has : (k : ℕ) (xs : List ChangedSlot) → Off k xs → has_slot k xs ≡ false
off_has k [] off = refl
off_has k (x ∷ xs) off = or_from (slot_block x.inode == k) (has_slot k xs) off.0 (off_has k xs off.1)

off_with : (k : ℕ) (xs : List ChangedSlot) (b : List ℕ) → Off k xs → with_slots k xs b ≡ b
off_with k [] b off = refl
off_with k (x ∷ xs) b off = ap (with_slots k xs) (cond-false (slot_block x.inode == k) (with_slot x b) b off.0) ∙ off_with k xs b off.1

with_more : (k : ℕ) (xs ys : List ChangedSlot) (b : List ℕ) → with_slots k (xs ++ ys) b ≡ with_slots k ys (with_slots k xs b)
with_more k [] ys b = refl
with_more k (x ∷ xs) ys b = with_more k xs ys (cond (slot_block x.inode == k) (with_slot x b) b)

has_more : (k : ℕ) (xs ys : List ChangedSlot) → has_slot k (xs ++ ys) ≡ (has_slot k xs || has_slot k ys)
has_more k xs ys = list_any-append (λ (x : ChangedSlot). slot_block x.inode == k) xs ys

or_false : (a : Bool) → (a || false) ≡ a
or_false true = refl
or_false false = refl

image_same : (k : ℕ) (xs ys : List ChangedSlot) (b : List ℕ) → has_slot k xs ≡ has_slot k ys → with_slots k xs b ≡ with_slots k ys b → slot_image k xs b ≡ slot_image k ys b
image_same k xs ys b has put = ap (λ t. cond t (Some (with_slots k xs b)) None) has ∙ ap (λ (c : List ℕ). cond (has_slot k ys) (Some c) None) put

skip_front : (k : ℕ) (xs ys : List ChangedSlot) (b : List ℕ) → Off k xs → slot_image k (xs ++ ys) b ≡ slot_image k ys b
skip_front k xs ys b off =
    image_same k (xs ++ ys) ys b (has_more k xs ys ∙ ap (λ t. t || has_slot k ys) (off_has k xs off)) (with_more k xs ys b ∙ ap (with_slots k ys) (off_with k xs b off))

skip_rest : (k : ℕ) (xs ys : List ChangedSlot) (b : List ℕ) → Off k ys → slot_image k (xs ++ ys) b ≡ slot_image k xs b
skip_rest k xs ys b off =
    image_same k (xs ++ ys) xs b (has_more k xs ys ∙ ap (λ t. has_slot k xs || t) (off_has k ys off) ∙ or_false (has_slot k xs)) (with_more k xs ys b ∙ off_with k ys (with_slots k xs b) off)

-- ---- images

abbrev first_of : Option (List ℕ) → Option (List ℕ) → Option (List ℕ)
first_of None y = y
first_of (Some x) y = Some x

first_none : (x : Option (List ℕ)) → first_of x None ≡ x
first_none None = refl
first_none (Some x) = refl

pub image_more : (j : ℕ) (xs ys : List (ℕ × List ℕ)) → image_for j (xs ++ ys) ≡ first_of (image_for j xs) (image_for j ys)
image_more j [] ys = refl
image_more j (x ∷ xs) ys = elim (cases_eq j x.0) [
  | inl is ↦ let t = eq-eqb j x.0 is in cond-true (j == x.0) (Some x.1) (image_for j (xs ++ ys)) t ∙ sym (ap (λ o. first_of o (image_for j ys)) (cond-true (j == x.0) (Some x.1) (image_for j xs) t))
  | inr off ↦ let t = ne_eqb j x.0 off in cond-false (j == x.0) (Some x.1) (image_for j (xs ++ ys)) t ∙ image_more j xs ys ∙ sym (ap (λ o. first_of o (image_for j ys)) (cond-false (j == x.0) (Some x.1) (image_for j xs) t))
]

-- what comes behind is not found, and what comes before is not there
pub more_before : (j : ℕ) (xs ys : List (ℕ × List ℕ)) → image_for j ys ≡ None → image_for j (xs ++ ys) ≡ image_for j xs
more_before j xs ys none = image_more j xs ys ∙ ap (first_of (image_for j xs)) none ∙ first_none (image_for j xs)

pub more_behind : (j : ℕ) (xs ys : List (ℕ × List ℕ)) → image_for j xs ≡ None → image_for j (xs ++ ys) ≡ image_for j ys
more_behind j xs ys none = image_more j xs ys ∙ ap (λ o. first_of o (image_for j ys)) none

-- the image of a block with the slots that stand there
own_image : (k : ℕ) (xs : List ChangedSlot) (b : List ℕ) → 1 ≤ k → RiseIn (32 * (k - 1) + 1) (32 * k) xs → image_for k (images_for k xs b) ≡ slot_image k xs b
own_image k [] b one rises = refl
own_image k (x ∷ xs) b one rises =
    let here : (slot_block x.inode == k) ≡ true = eq-eqb (slot_block x.inode) k (omega (arith, one, rises.0, rises.1)) in
    cond-true (k == k) (Some (with_slots k (x ∷ xs) b)) None (eq-eqb k k refl) ∙ sym (cond-true (has_slot k (x ∷ xs)) (Some (with_slots k (x ∷ xs) b)) None (or_left (slot_block x.inode == k) (has_slot k xs) here))

no_other : (j k : ℕ) (xs : List ChangedSlot) (b : List ℕ) → j ≢ k → image_for j (images_for k xs b) ≡ None
no_other j k [] b off = refl
no_other j k (x ∷ xs) b off = cond-false (j == k) (Some (with_slots k (x ∷ xs) b)) None (ne_eqb j k off)

none_some : (x : List ℕ) → None ≡ Some x → ⊥
none_some x e = cc

-- ---- one block more

-- The slots that are left tell the images from this block on.
abbrev pub TellsFrom : ℕ → List ChangedSlot → List ChangedSlot → Type 0
TellsFrom k rest slots = (j : ℕ) → k ≤ j → (b : List ℕ) → slot_image j rest b ≡ slot_image j slots b

module _ (k last : ℕ) (slots front back : List ChangedSlot) (one : 1 ≤ k) (tells : TellsFrom k (front ++ back) slots) (here : RiseIn (32 * (k - 1) + 1) (32 * k) front) (behind : RiseIn (32 * k + 1) last back) where
  pub tells_on : TellsFrom (k + 1) back slots
  tells_on j le b = sym (skip_front j front back b (off_below j (32 * (k - 1) + 1) (32 * k) front (omega arith) (omega (arith, le)) here)) ∙ tells j (omega (arith, le)) b

  front_image : (b : List ℕ) → slot_image k front b ≡ slot_image k slots b
  front_image b = sym (skip_rest k front back b (off_above k (32 * k + 1) last back (omega arith) behind)) ∙ tells k (omega arith) b

  pub one_block : (blocks : Blocks) (images : List (ℕ × List ℕ)) → HasSlotImages slots blocks k images → HasSlotImages slots blocks (k + 1) (images ++ images_for k front (blocks k))
  one_block blocks images has j = elim (cases_order j k) [
    | inl same ↦
        let none : image_for k images ≡ None = has k ∙ cond-false (ltb k k) (slot_image k slots (blocks k)) None (le-ltb k k (omega arith)) in
        let at_k : image_for k (images ++ images_for k front (blocks k)) ≡ slot_image k slots (blocks k) = more_behind k images (images_for k front (blocks k)) none ∙ own_image k front (blocks k) one here ∙ front_image (blocks k) in
        subst (λ i. image_for i (images ++ images_for k front (blocks k)) ≡ cond (ltb i (k + 1)) (slot_image i slots (blocks i)) None) (sym same) (at_k ∙ sym (cond-true (ltb k (k + 1)) (slot_image k slots (blocks k)) None (lt-ltb k (k + 1) (omega arith))))
    | inr (inl lt) ↦
        more_before j images (images_for k front (blocks k)) (no_other j k front (blocks k) (λ e. omega (arith, e, lt)))
        ∙ has j ∙ cond-true (ltb j k) (slot_image j slots (blocks j)) None (lt-ltb j k lt) ∙ sym (cond-true (ltb j (k + 1)) (slot_image j slots (blocks j)) None (lt-ltb j (k + 1) (omega (arith, lt))))
    | inr (inr gt) ↦
        more_before j images (images_for k front (blocks k)) (no_other j k front (blocks k) (λ e. omega (arith, e, gt)))
        ∙ has j ∙ cond-false (ltb j k) (slot_image j slots (blocks j)) None (le-ltb j k (omega (arith, gt))) ∙ sym (cond-false (ltb j (k + 1)) (slot_image j slots (blocks j)) None (le-ltb j (k + 1) (omega (arith, gt))))
  ]

  -- a block that was read was whole
  pub whole_block : (b : List ℕ) → (1 ≤ length front → length b ≡ 4096) → has_slot k slots ≡ true → length b ≡ 4096
  whole_block b read has = read (some_front front (front_image b)) where
    some_front : (xs : List ChangedSlot) → slot_image k xs b ≡ slot_image k slots b → 1 ≤ length xs
    some_front [] same = absurd (none_some (with_slots k slots b) (same ∙ cond-true (has_slot k slots) (Some (with_slots k slots b)) None has))
    some_front (x ∷ xs) same = omega arith
