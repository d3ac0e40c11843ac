-- Slots over the block that they stand in.
use Rattle.std.proofs.Common.{◌≡◌, ◌≢◌, ◌⊎◌, inl, inr, ℕ, zero, suc, ◌+◌, ◌-◌, ◌≤◌, List, [], ◌∷◌, ◌++◌, length, replicate, refl, sym, ◌∙◌, ap, subst, arith, true, cond, ◌==◌}
use Rattle.std.specs.List.{Contains}
use Rattle.std.proofs.lemmas.Bool.{cases_Bool, cases_order, cond-true, cond-false, eq-eqb, eqb-true, or_left, or_right}
use Rattle.std.proofs.lemmas.List.{length-append, length-replicate}
use Rattle.tier_device.specs.Media.{Torn}
use Rattle.tier_device.specs.RecordLaws.{torn_overwritten}
use Rattle.area_reader.proofs.file_graph_lemmas.Fields.{u32_long, u64_long}
use Rattle.area_reader.specs.layout.declared.slot.Slot.{Slot}
use Rattle.area_reader.specs.layout.declared.slot_fields.SlotFields.{SlotFields}
use Rattle.area_reader.specs.layout.Places.{slot_block, slot_byte}
use Rattle.area_reader.specs.layout.Bytes.{u32, u64, padded_text, zeros}
use Rattle.area_reader.specs.layout.Slot.{slot_fields, slot_text, slot_spelling}
use Rattle.area_reader.specs.batch_journal.Images.{slice}
use Rattle.area_reader.proofs.batch_journal_lemmas.Bytes.{slice_apart, slice_written}
use Rattle.area_commit.specs.declared.slots.ChangedSlot.{ChangedSlot}
use Rattle.area_commit.specs.Slots.{RiseIn, has_slot, with_slot, with_slots}

-- ---- one slot

text_long : (f : SlotFields) → length (slot_text f) ≡ 36
text_long f =
    let w = length-append (u32 f.block) (u32 f.slow) in
    let b = length-append (u32 f.fast) (u32 f.block ++ u32 f.slow) in
    let t = length-append (u64 f.touch) (u32 f.fast ++ (u32 f.block ++ u32 f.slow)) in
    let s = length-append (u64 f.size) (u64 f.touch ++ (u32 f.fast ++ (u32 f.block ++ u32 f.slow))) in
    let n = length-append (u32 f.names) (u64 f.size ++ (u64 f.touch ++ (u32 f.fast ++ (u32 f.block ++ u32 f.slow)))) in
    let k = length-append (u32 f.kind) (u32 f.names ++ (u64 f.size ++ (u64 f.touch ++ (u32 f.fast ++ (u32 f.block ++ u32 f.slow))))) in
    omega (arith, w, b, t, s, n, k, u32_long f.kind, u32_long f.names, u64_long f.size, u64_long f.touch, u32_long f.fast, u32_long f.block, u32_long f.slow)

filled_long : (text : List ℕ) → length text ≡ 36 → length (padded_text 128 text) ≡ 128
unfolding padded_text zeros
filled_long text is = omega (arith, is, length-append text (replicate (128 - length text) 0), length-replicate {A = ℕ} (128 - length text) 0)

pub slot_long : (x : Slot) → length (slot_spelling x) ≡ 128
slot_long x = filled_long (slot_text (slot_fields x)) (text_long (slot_fields x))

module _ (x : ChangedSlot) (block : List ℕ) (long : length block ≡ 4096) where
  torn : Torn (slot_byte x.inode) 128 block (with_slot x block)
  torn = subst (λ n. Torn (slot_byte x.inode) n block (with_slot x block)) (slot_long x.slot) (torn_overwritten block (slot_byte x.inode) (slot_spelling x.slot) (omega (arith, long, slot_long x.slot)))

  pub still_long : length (with_slot x block) ≡ 4096
  still_long = torn.same_length ∙ long

  slot_there : slice (slot_byte x.inode) 128 (with_slot x block) ≡ slot_spelling x.slot
  slot_there = slice_written block (slot_byte x.inode) (slot_spelling x.slot) 128 (sym (slot_long x.slot)) (omega (arith, long))

  other_there : (i : ℕ) → (slot_byte i + 128 ≤ slot_byte x.inode) ⊎ (slot_byte x.inode + 128 ≤ slot_byte i) → slice (slot_byte i) 128 (with_slot x block) ≡ slice (slot_byte i) 128 block
  other_there i apart = slice_apart (slot_byte x.inode) 128 block (with_slot x block) torn (slot_byte i) 128 apart

-- two slots of one block lie apart
apart : (i j : ℕ) → 1 ≤ i → 1 ≤ j → slot_block i ≡ slot_block j → i ≢ j → (slot_byte i + 128 ≤ slot_byte j) ⊎ (slot_byte j + 128 ≤ slot_byte i)
apart i j one other same differ = elim (cases_order i j) [
  | inl is ↦ absurd (differ is)
  | inr (inl before) ↦ inl (omega (arith, one, same, before))
  | inr (inr behind) ↦ inr (omega (arith, other, same, behind))
]

-- ---- inodes that rise

pub within : (low last : ℕ) (xs : List ChangedSlot) (y : ChangedSlot) → RiseIn low last xs → Contains xs y → (low ≤ y.inode) × (y.inode ≤ last)
within low last [] y rises (k, lt, is) = absurd (omega (arith, lt))
within low last (x ∷ xs) y rises (zero, lt, is) = let same : x.inode ≡ y.inode = ap (λ (z : ChangedSlot). z.inode) is in (omega (arith, rises.0, same), omega (arith, rises.1, same))
within low last (x ∷ xs) y rises (suc k, lt, is) = let p = within (x.inode + 1) last xs y rises.2 (k, omega (arith, lt), is) in (omega (arith, p.0, rises.0), p.1)

-- ---- all slots

-- a step: the head is written where it stands in the block
step_long : (k : ℕ) (x : ChangedSlot) (block : List ℕ) → length block ≡ 4096 → length (cond (slot_block x.inode == k) (with_slot x block) block) ≡ 4096
step_long k x block long = elim (cases_Bool (slot_block x.inode == k)) [
  | inl is ↦ ap length (cond-true (slot_block x.inode == k) (with_slot x block) block is) ∙ still_long x block long
  | inr off ↦ ap length (cond-false (slot_block x.inode == k) (with_slot x block) block off) ∙ long
]

pub slots_stay : (k i low last : ℕ) (xs : List ChangedSlot) (block : List ℕ) → 1 ≤ low → RiseIn low last xs → 1 ≤ i → slot_block i ≡ k → ((y : ChangedSlot) → Contains xs y → y.inode ≢ i) → length block ≡ 4096
    → slice (slot_byte i) 128 (with_slots k xs block) ≡ slice (slot_byte i) 128 block
slots_stay k i low last [] block one rises first at none long = refl
slots_stay k i low last (x ∷ xs) block one rises first at none long =
    let now = cond (slot_block x.inode == k) (with_slot x block) block in
    let rest = slots_stay k i (x.inode + 1) last xs now (omega arith) rises.2 first at (λ y has. none y (suc has.0, omega (arith, has.1), has.2)) (step_long k x block long) in
    elim (cases_Bool (slot_block x.inode == k)) [
      | inl is ↦
          let here : slot_block x.inode ≡ k = eqb-true (slot_block x.inode) k is in
          let other : x.inode ≢ i = none x (0, omega arith, refl) in
          rest ∙ ap (slice (slot_byte i) 128) (cond-true (slot_block x.inode == k) (with_slot x block) block is) ∙ other_there x block long i (apart i x.inode first (omega (arith, one, rises.0)) (at ∙ sym here) (λ e. other (sym e)))
      | inr off ↦ rest ∙ ap (slice (slot_byte i) 128) (cond-false (slot_block x.inode == k) (with_slot x block) block off)
    ]

pub slot_put : (low last : ℕ) (xs : List ChangedSlot) (y : ChangedSlot) (block : List ℕ) → 1 ≤ low → RiseIn low last xs → Contains xs y → length block ≡ 4096
    → slice (slot_byte y.inode) 128 (with_slots (slot_block y.inode) xs block) ≡ slot_spelling y.slot
slot_put low last [] y block one rises (k, lt, is) long = absurd (omega (arith, lt))
slot_put low last (x ∷ xs) y block one rises (zero, lt, is) long =
    let same : x ≡ y = is in
    let k = slot_block y.inode in
    let now = cond (slot_block x.inode == k) (with_slot x block) block in
    let at : slot_block x.inode ≡ k = ap (λ (z : ChangedSlot). slot_block z.inode) same in
    let first : 1 ≤ y.inode = omega (arith, one, rises.0, ap (λ (z : ChangedSlot). z.inode) same) in
    let others : (z : ChangedSlot) → Contains xs z → z.inode ≢ y.inode = λ z has e. let p = within (x.inode + 1) last xs z rises.2 has in omega (arith, p.0, e, ap (λ (z : ChangedSlot). z.inode) same) in
    slots_stay k y.inode (x.inode + 1) last xs now (omega arith) rises.2 first refl others (step_long k x block long)
    ∙ ap (slice (slot_byte y.inode) 128) (cond-true (slot_block x.inode == k) (with_slot x block) block (eq-eqb (slot_block x.inode) k at))
    ∙ subst (λ (z : ChangedSlot). slice (slot_byte z.inode) 128 (with_slot x block) ≡ slot_spelling z.slot) same (slot_there x block long)
slot_put low last (x ∷ xs) y block one rises (suc n, lt, is) long =
    slot_put (x.inode + 1) last xs y (cond (slot_block x.inode == slot_block y.inode) (with_slot x block) block) (omega arith) rises.2 (n, omega (arith, lt), is) (step_long (slot_block y.inode) x block long)

-- a slot stands in its block
pub has_its : (xs : List ChangedSlot) (y : ChangedSlot) → Contains xs y → has_slot (slot_block y.inode) xs ≡ true
has_its [] y (k, lt, is) = absurd (omega (arith, lt))
has_its (x ∷ xs) y (zero, lt, is) = or_left (slot_block x.inode == slot_block y.inode) (has_slot (slot_block y.inode) xs) (eq-eqb (slot_block x.inode) (slot_block y.inode) (ap (λ (z : ChangedSlot). slot_block z.inode) is))
has_its (x ∷ xs) y (suc n, lt, is) = or_right (slot_block x.inode == slot_block y.inode) (has_slot (slot_block y.inode) xs) (has_its xs y (n, omega (arith, lt), is))
