-- The images of a batch, in their order.
use Rattle.std.proofs.Common.{◌≡◌, ◌≢◌, inl, inr, ℕ, ◌+◌, ◌≤◌, ◌<◌, true, false, List, [], ◌∷◌, ◌++◌, length, Option, Some, None, refl, sym, ap, subst, ◌∙◌, arith, ltb, ◌==◌}
use Rattle.std.specs.Prelude.{IsSome, IfSome, nat_le, nat_lt, option_map}
use Rattle.std.proofs.lemmas.Bool.{true≢false, cases_lt, cond-true, cond-false, ne_eqb, and_parts, leb-true, le-leb, lt-ltb, le-ltb, or_left, or_from}
use Rattle.tier_device.specs.declared.media.Tier.TheVariants.{Fast}
use Rattle.area_reader.specs.layout.declared.marks.Marks.{Marks}
use Rattle.area_reader.specs.layout.Marks.{marks_spelling}
use Rattle.area_reader.specs.layout.Places.{Sizes, is_node, node_end, is_journaled, slot_block}
use Rattle.area_reader.specs.batch_journal.Images.{image_for, next_of}
use Rattle.area_reader.specs.batch_journal.Blocks.{AreJournaled}
use Rattle.area_reader.specs.batch_journal.Volume.{Spells, KeepsGeometry}
use Rattle.area_reader.specs.Store.{Store}
use Rattle.area_commit.specs.declared.slots.ChangedSlot.{ChangedSlot}
use Rattle.area_commit.specs.Slots.{RiseIn, has_slot, with_slots, slot_image}
use Rattle.area_commit.specs.Batches.{AreNodes, HasSlotImages, images_for, marks_images, IsBatchOf}
use Rattle.area_commit.proofs.Blocks.{more_before, more_behind}

-- ---- the parts lie apart

pub node_low : (g : Sizes) (nodes : List (ℕ × List ℕ)) → AreNodes g nodes → (k : ℕ) → IsSome (image_for k nodes) → 292 ≤ k
node_low g nodes are k some = leb-true 292 k (and_parts (nat_le 292 k) (nat_lt k (node_end g)) (are k some)).0

no_node : (g : Sizes) (nodes : List (ℕ × List ℕ)) → AreNodes g nodes → (k : ℕ) → k < 292 → image_for k nodes ≡ None
no_node g nodes are k lt =
    elim (image_for k nodes) as (λ o. image_for k nodes ≡ o → o ≡ None) [
      | None ↦ λ e. refl
      | Some b ↦ λ e. absurd (omega (arith, lt, node_low g nodes are k (subst IsSome (sym e) refl)))
    ] refl

no_marks : (m : Option Marks) (k : ℕ) → k ≢ 33 → image_for k (marks_images m) ≡ None
no_marks None k off = refl
no_marks (Some m) k off = cond-false (k == 33) (Some (marks_spelling m)) None (ne_eqb k 33 off)

the_marks : (m : Option Marks) → image_for 33 (marks_images m) ≡ option_map marks_spelling m
the_marks None = refl
the_marks (Some m) = refl

no_slot_at_0 : (slots : List ChangedSlot) → has_slot 0 slots ≡ false
no_slot_at_0 [] = refl
no_slot_at_0 (x ∷ xs) = or_from (slot_block x.inode == 0) (has_slot 0 xs) (ne_eqb (slot_block x.inode) 0 (λ e. omega (arith, e))) (no_slot_at_0 xs)

-- none is pushed yet
pub none_yet : (slots : List ChangedSlot) (blocks : ℕ → List ℕ) (images : List (ℕ × List ℕ)) → images ≡ [] → HasSlotImages slots blocks 1 images
none_yet slots blocks images is k = ap (image_for k) is ∙ elim (cases_lt k 1) [
  | inl first ↦ sym (cond-true (ltb k 1) (slot_image k slots (blocks k)) None (lt-ltb k 1 first) ∙ subst (λ j. slot_image j slots (blocks j) ≡ None) (omega (arith, first)) (cond-false (has_slot 0 slots) (Some (with_slots 0 slots (blocks 0))) None (no_slot_at_0 slots)))
  | inr behind ↦ sym (cond-false (ltb k 1) (slot_image k slots (blocks k)) None (le-ltb k 1 behind))
]

pub none_whole : (slots : List ChangedSlot) (k : ℕ) → k < 1 → has_slot k slots ≡ true → ⊥
none_whole slots k lt has = true≢false (sym has ∙ subst (λ j. has_slot j slots ≡ false) (omega (arith, lt)) (no_slot_at_0 slots))

pub next_none : (images : List (ℕ × List ℕ)) → images ≡ [] → next_of images ≤ 1
next_none images is = subst (λ (l : List (ℕ × List ℕ)). next_of l ≤ 1) (sym is) (omega arith)

pub places_none : (images : List (ℕ × List ℕ)) → images ≡ [] → (g : Sizes) → AreJournaled g images
places_none images is g = subst (AreJournaled g) (sym is) tt

-- blocks from 33 on have no slot
high_has_none : (low k : ℕ) (slots : List ChangedSlot) → RiseIn low 1024 slots → 33 ≤ k → has_slot k slots ≡ false
high_has_none low k [] rises le = refl
high_has_none low k (x ∷ xs) rises le = or_from (slot_block x.inode == k) (has_slot k xs) (ne_eqb (slot_block x.inode) k (λ e. omega (arith, e, le, rises.1))) (high_has_none (x.inode + 1) k xs rises.2 le)

pub all_whole : (low : ℕ) (slots : List ChangedSlot) (blocks : ℕ → List ℕ) → RiseIn low 1024 slots → ((k : ℕ) → k < 33 → has_slot k slots ≡ true → length (blocks k) ≡ 4096) → (k : ℕ) → has_slot k slots ≡ true → length (blocks k) ≡ 4096
all_whole low slots blocks rises each k has = elim (cases_lt k 33) [
  | inl lt ↦ each k lt has
  | inr le ↦ absurd (true≢false (sym has ∙ high_has_none low k slots rises le))
]

-- ---- the whole

module _ (g : Sizes) (s : Store) (slots : List ChangedSlot) (m : Option Marks) (nodes front : List (ℕ × List ℕ)) (has : HasSlotImages slots (s Fast) 33 front) (are : AreNodes g nodes) where
  abbrev all : List (ℕ × List ℕ)
  all = (front ++ marks_images m) ++ nodes

  before_nodes : (k : ℕ) → k < 292 → image_for k all ≡ image_for k (front ++ marks_images m)
  before_nodes k lt = more_before k (front ++ marks_images m) nodes (no_node g nodes are k lt)

  no_front : (k : ℕ) → 33 ≤ k → image_for k front ≡ None
  no_front k le = has k ∙ cond-false (ltb k 33) (slot_image k slots (s Fast k)) None (le-ltb k 33 le)

  a_slot_block : (k : ℕ) → k < 33 → image_for k all ≡ slot_image k slots (s Fast k)
  a_slot_block k lt =
      before_nodes k (omega (arith, lt)) ∙ more_before k front (marks_images m) (no_marks m k (λ e. omega (arith, e, lt)))
      ∙ has k ∙ cond-true (ltb k 33) (slot_image k slots (s Fast k)) None (lt-ltb k 33 lt)

  no_super : image_for 0 all ≡ None
  no_super = a_slot_block 0 (omega arith) ∙ cond-false (has_slot 0 slots) (Some (with_slots 0 slots (s Fast 0))) None (no_slot_at_0 slots)

  pub is_batch : (batch : List (ℕ × List ℕ)) → ((k : ℕ) → has_slot k slots ≡ true → length (s Fast k) ≡ 4096) → batch ≡ all → IsBatchOf s slots m nodes batch
  is_batch batch whole is = subst (IsBatchOf s slots m nodes) (sym is) (record {
    superblock = no_super;
    slot_blocks = λ k low high. a_slot_block k high;
    marks_block = before_nodes 33 (omega arith) ∙ more_behind 33 front (marks_images m) (no_front 33 (omega arith)) ∙ the_marks m;
    node_blocks = λ k le. more_behind k (front ++ marks_images m) nodes (more_before k front (marks_images m) (no_marks m k (λ e. omega (arith, e, le))) ∙ no_front k (omega (arith, le)));
    whole = whole;
  })

  pub same_geometry : (batch : List (ℕ × List ℕ)) → batch ≡ all → KeepsGeometry g batch
  same_geometry batch is = subst (λ (o : Option (List ℕ)). IfSome o (Spells g)) (sym (ap (image_for 0) is ∙ no_super)) tt

-- ---- what a batch may write, and how much

low_journaled : (g : Sizes) (k : ℕ) → k ≤ 33 → is_journaled g k ≡ true
low_journaled g k le = or_left (nat_le k 33) (is_node g k) (le-leb k 33 le)

pub slot_journaled : (g : Sizes) (k : ℕ) (slots : List ChangedSlot) (b : List ℕ) → k ≤ 33 → AreJournaled g (images_for k slots b)
slot_journaled g k [] b le = tt
slot_journaled g k (x ∷ xs) b le = (low_journaled g k le, tt)

pub marks_journaled : (g : Sizes) (m : Option Marks) → AreJournaled g (marks_images m)
marks_journaled g None = tt
marks_journaled g (Some m) = (low_journaled g 33 (omega arith), tt)

pub one_or_none : (k : ℕ) (slots : List ChangedSlot) (b : List ℕ) → length (images_for k slots b) ≤ 1
one_or_none k [] b = omega arith
one_or_none k (x ∷ xs) b = omega arith

pub one_for_some : (k : ℕ) (slots : List ChangedSlot) (b : List ℕ) → length (images_for k slots b) ≤ length slots
one_for_some k [] b = omega arith
one_for_some k (x ∷ xs) b = omega arith

pub one_for_marks : (m : Option Marks) → length (marks_images m) ≤ 1
one_for_marks None = omega arith
one_for_marks (Some m) = omega arith
