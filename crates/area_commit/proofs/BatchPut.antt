-- What becomes of a store by a batch.
use Rattle.std.proofs.Common.{◌≡◌, ◌≢◌, inl, inr, ℕ, ◌≤◌, ◌<◌, List, [], Option, Some, None, refl, sym, ◌∙◌, ap, subst, arith, true, false}
use Rattle.std.specs.Prelude.{nat_le, nat_lt}
use Rattle.std.specs.List.{Contains}
use Rattle.std.proofs.lemmas.Bool.{cases_Bool, cases_eq, cond-true, cond-false, and_parts, leb-true, lt-ltb, le-leb, or_left, or_right}
use Rattle.tier_device.specs.declared.media.Tier.{Tier}
use Rattle.tier_device.specs.declared.media.Tier.TheVariants.{Fast}
use Rattle.area_reader.specs.layout.declared.marks.Marks.{Marks}
use Rattle.area_reader.specs.layout.Places.{is_inode, slot_block, slot_byte}
use Rattle.area_reader.specs.layout.Slot.{slot_spelling}
use Rattle.area_reader.specs.batch_journal.Images.{slice, image_for, or_else, with_images}
use Rattle.area_reader.specs.batch_journal.Blocks.{is_home, home, after_batch}
use Rattle.area_reader.specs.Store.{Store, slot_bytes}
use Rattle.area_commit.specs.declared.slots.ChangedSlot.{ChangedSlot}
use Rattle.area_commit.specs.Slots.{RiseIn, has_slot, with_slots, slot_image}
use Rattle.area_commit.specs.Batches.{IsBatchOf, IsPutIn}
use Rattle.area_commit.proofs.SlotBytes.{slots_stay, slot_put, has_its, within}

after_home : (images : List (ℕ × List ℕ)) (blocks : ℕ → List ℕ) (k : ℕ) → is_home k ≡ true → after_batch images blocks k ≡ or_else (image_for k images) (blocks k)
unfolding after_batch
after_home images blocks k is = cond-true (is_home k) (with_images images blocks k) [] is

after_journal : (images : List (ℕ × List ℕ)) (blocks : ℕ → List ℕ) (k : ℕ) → is_home k ≡ false → after_batch images blocks k ≡ []
unfolding after_batch
after_journal images blocks k is = cond-false (is_home k) (with_images images blocks k) [] is

no_home : (c : List ℕ) (k : ℕ) → is_home k ≡ false → home c k ≡ []
unfolding home
no_home c k is = cond-false (is_home k) _ [] is

low_home : (k : ℕ) → k < 34 → is_home k ≡ true
low_home k lt = or_left (nat_lt k 34) (nat_le 292 k) (lt-ltb k 34 lt)

high_home : (k : ℕ) → 292 ≤ k → is_home k ≡ true
high_home k le = or_right (nat_lt k 34) (nat_le 292 k) (le-leb 292 k le)

pub inode_range : (i : ℕ) → is_inode i ≡ true → (1 ≤ i) × (i ≤ 1024)
inode_range i is = let p = and_parts (nat_le 1 i) (nat_le i 1024) is in (leb-true 1 i p.0, leb-true i 1024 p.1)

module _ (s old new : Store) (c : List ℕ) (slots : List ChangedSlot) (m : Option Marks) (nodes batch : List (ℕ × List ℕ)) (is : IsBatchOf s slots m nodes batch) (rises : RiseIn 1 1024 slots)
    (same : (k : ℕ) → k < 33 → old Fast k ≡ s Fast k) (homes : old Fast ≡ home c) (after : new Fast ≡ after_batch batch (old Fast)) where
  now : (k : ℕ) → is_home k ≡ true → new Fast k ≡ or_else (image_for k batch) (old Fast k)
  now k at = ap (λ (f : ℕ → List ℕ). f k) after ∙ after_home batch (old Fast) k at

  slot_block_now : (k : ℕ) → 1 ≤ k → k < 33 → new Fast k ≡ or_else (slot_image k slots (s Fast k)) (old Fast k)
  slot_block_now k low high = now k (low_home k (omega (arith, high))) ∙ ap (λ o. or_else o (old Fast k)) (is.slot_blocks k low high)

  changed : (k : ℕ) → 1 ≤ k → k < 33 → has_slot k slots ≡ true → new Fast k ≡ with_slots k slots (s Fast k)
  changed k low high has = slot_block_now k low high ∙ ap (λ o. or_else o (old Fast k)) (cond-true (has_slot k slots) (Some (with_slots k slots (s Fast k))) None has)

  unchanged : (k : ℕ) → 1 ≤ k → k < 33 → has_slot k slots ≡ false → new Fast k ≡ old Fast k
  unchanged k low high none = slot_block_now k low high ∙ ap (λ o. or_else o (old Fast k)) (cond-false (has_slot k slots) (Some (with_slots k slots (s Fast k))) None none)

  super_stays : new Fast 0 ≡ old Fast 0
  super_stays = now 0 refl ∙ ap (λ o. or_else o (old Fast 0)) is.superblock

  put : (x : ChangedSlot) → Contains slots x → slot_bytes new x.inode ≡ slot_spelling x.slot
  put x has =
      let k = slot_block x.inode in
      let range = within 1 1024 slots x rises has in
      let in_block = has_its slots x has in
      ap (slice (slot_byte x.inode) 128) (changed k (omega arith) (omega (arith, range.1)) in_block) ∙ slot_put 1 1024 slots x (s Fast k) (omega arith) rises has (is.whole k in_block)

  stay : (i : ℕ) → is_inode i ≡ true → ((x : ChangedSlot) → Contains slots x → x.inode ≢ i) → slot_bytes new i ≡ slot_bytes old i
  stay i number none =
      let k = slot_block i in
      let range = inode_range i number in
      let high : k < 33 = omega (arith, range.1) in
      elim (cases_Bool (has_slot k slots)) [
        | inl has ↦
            ap (slice (slot_byte i) 128) (changed k (omega arith) high has)
            ∙ slots_stay k i 1 1024 slots (s Fast k) (omega arith) rises range.0 refl none (is.whole k has) ∙ ap (slice (slot_byte i) 128) (sym (same k high))
        | inr off ↦ ap (slice (slot_byte i) 128) (unchanged k (omega arith) high off)
      ]

  block_stays : (k : ℕ) → k < 33 → has_slot k slots ≡ false → new Fast k ≡ old Fast k
  block_stays k high off = elim (cases_eq k 0) [
    | inl zero ↦ subst (λ j. new Fast j ≡ old Fast j) (sym zero) super_stays
    | inr some ↦ unchanged k (omega (arith, some)) high off
  ]

  pub is_put : ((t : Tier) → t ≢ Fast → new t ≡ old t) → IsPutIn slots m nodes old new
  is_put others = record {
    superblock = super_stays;
    slots_put = put;
    slots_stay = stay;
    slot_blocks_stay = block_stays;
    marks_block = now 33 refl ∙ ap (λ o. or_else o (old Fast 33)) is.marks_block;
    node_blocks = λ k le. now k (high_home k le) ∙ ap (λ o. or_else o (old Fast k)) (is.node_blocks k le);
    journal = λ k off. ap (λ (f : ℕ → List ℕ). f k) after ∙ after_journal batch (old Fast) k off ∙ sym (ap (λ (f : ℕ → List ℕ). f k) homes ∙ no_home c k off);
    others = others;
  }
