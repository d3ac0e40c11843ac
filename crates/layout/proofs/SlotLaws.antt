-- Inode slots, both ways.
use Rattle.std.proofs.Common.{◌≡◌, ℕ, ◌^◌, ◌<◌, ◌≤◌, Bool, true, false, eqb, leb, ltb, ◌&&◌, ◌||◌, List, ◌++◌, length, Some, refl, ap, subst, ◌∙◌, append_assoc, arith, inl, inr, ◌⊎◌}
use Rattle.std.proofs.lemmas.Bool.{eqb-true, ltb-true, leb-true}
use Rattle.std.proofs.lemmas.List.{length-append}
use Rattle.posix_calls.specs.declared.limits.TheConstants.{MAX_NAMES, MAX_FILE, MAX_ENTRIES}
use Rattle.layout.specs.declared.slot.Slot.{Slot}
use Rattle.layout.specs.declared.slot.Slot.TheVariants as slot
use Rattle.layout.specs.declared.slot_fields.SlotFields.{SlotFields}
use Rattle.layout.specs.Places.{Sizes, IsAllowed, is_node, node_end}
use Rattle.layout.specs.Bytes.{AreBytes, u32, u64, padded_text, number_at, within}
use Rattle.layout.specs.Slot.{slot_fields, slot_text, slot_spelling, is_root_block, roots_apart, fits_slot, slot_at, is_blank, slot_from, slot_of}
use Rattle.layout.proofs.Limits.{and_parts}
use Rattle.layout.proofs.Fields.{Takes, Takes-then, bind_some, test_some, chosen, some_is, u32_takes, u64_takes, u32_again, u64_again, u32_long, u64_long}
use Rattle.layout.proofs.Blocks.{within_parts, within_again, filled_from}

fields_take : (bytes : List ℕ) (x : SlotFields × List ℕ) → AreBytes bytes → slot_at bytes ≡ Some x → Takes bytes (slot_text x.0) x.1
unfolding slot_at
fields_take bytes x are e =
    let k = bind_some (number_at 4 bytes) _ x e in
    let n = bind_some (number_at 4 k.0.1) _ x k.2 in
    let s = bind_some (number_at 8 n.0.1) _ x n.2 in
    let t = bind_some (number_at 8 s.0.1) _ x s.2 in
    let f = bind_some (number_at 4 t.0.1) _ x t.2 in
    let b = bind_some (number_at 4 f.0.1) _ x f.2 in
    let w = bind_some (number_at 4 b.0.1) _ x b.2 in
    let t0 = u32_takes bytes k.0 are k.1 in
    let t1 = u32_takes k.0.1 n.0 t0.behind n.1 in
    let t2 = u64_takes n.0.1 s.0 t1.behind s.1 in
    let t3 = u64_takes s.0.1 t.0 t2.behind t.1 in
    let t4 = u32_takes t.0.1 f.0 t3.behind f.1 in
    let t5 = u32_takes f.0.1 b.0 t4.behind b.1 in
    let t6 = u32_takes b.0.1 w.0 t5.behind w.1 in
    let s5 = Takes-then f.0.1 (u32 b.0.0) b.0.1 (u32 w.0.0) w.0.1 t5 t6 in
    let s4 = Takes-then t.0.1 (u32 f.0.0) f.0.1 _ w.0.1 t4 s5 in
    let s3 = Takes-then s.0.1 (u64 t.0.0) t.0.1 _ w.0.1 t3 s4 in
    let s2 = Takes-then n.0.1 (u64 s.0.0) s.0.1 _ w.0.1 t2 s3 in
    let s1 = Takes-then k.0.1 (u32 n.0.0) n.0.1 _ w.0.1 t1 s2 in
    let s0 = Takes-then bytes (u32 k.0.0) k.0.1 _ w.0.1 t0 s1 in
    let made : SlotFields × List ℕ = (record { kind = k.0.0; names = n.0.0; size = s.0.0; touch = t.0.0; fast = f.0.0; block = b.0.0; slow = w.0.0 }, w.0.1) in
    subst (λ (y : SlotFields × List ℕ). Takes bytes (slot_text y.0) y.1) (some_is made x w.2) s0

record FieldsFit (f : SlotFields) : Type 0 where
  kind : f.kind < 2 ^ 32
  names : f.names < 2 ^ 32
  size : f.size < 2 ^ 64
  touch : f.touch < 2 ^ 64
  fast : f.fast < 2 ^ 32
  block : f.block < 2 ^ 32
  slow : f.slow < 2 ^ 32

fields_again : (f : SlotFields) (rest : List ℕ) → FieldsFit f → slot_at (slot_text f ++ rest) ≡ Some (f, rest)
unfolding slot_at
fields_again f rest h =
    let tail5 : List ℕ = u32 f.slow ++ rest in
    let tail4 : List ℕ = u32 f.block ++ tail5 in
    let tail3 : List ℕ = u32 f.fast ++ tail4 in
    let tail2 : List ℕ = u64 f.touch ++ tail3 in
    let tail1 : List ℕ = u64 f.size ++ tail2 in
    let tail0 : List ℕ = u32 f.names ++ tail1 in
    let flat : slot_text f ++ rest ≡ u32 f.kind ++ tail0 = simp append_assoc in
    ap slot_at flat ∙ rw (u32_again f.kind tail0 h.kind, u32_again f.names tail1 h.names, u64_again f.size tail2 h.size, u64_again f.touch tail3 h.touch, u32_again f.fast tail4 h.fast, u32_again f.block tail5 h.block, u32_again f.slow rest h.slow) refl

slot_text_long : (f : SlotFields) → length (slot_text f) ≡ 36
slot_text_long f = simp (length-append, u32_long, u64_long) refl

-- ---- numbers and slots

from_fields : (s : Slot) → slot_from (slot_fields s) ≡ Some s
unfolding slot_from
from_fields slot.Free = refl
from_fields (slot.File names size touch fast block slow) = refl
from_fields (slot.Directory names entries touch root) = refl

blank_text : (f : SlotFields) → is_blank f ≡ true → slot_text f ≡ slot_text (slot_fields slot.Free)
blank_text f e =
    let a = and_parts _ _ e in
    let b = and_parts _ _ a.0 in
    let c = and_parts _ _ b.0 in
    let d = and_parts _ _ c.0 in
    let g = and_parts _ _ d.0 in
    let h = and_parts _ _ g.0 in
    let kind : f.kind ≡ 0 = eqb-true _ _ h.0 in
    let names : f.names ≡ 0 = eqb-true _ _ h.1 in
    let size : f.size ≡ 0 = eqb-true _ _ g.1 in
    let touch : f.touch ≡ 0 = eqb-true _ _ d.1 in
    let fast : f.fast ≡ 0 = eqb-true _ _ c.1 in
    let block : f.block ≡ 0 = eqb-true _ _ b.1 in
    let slow : f.slow ≡ 0 = eqb-true _ _ a.1 in
    rw (kind, names, size, touch, fast, block, slow) refl

text_from : (f : SlotFields) (s : Slot) → slot_from f ≡ Some s → slot_text f ≡ slot_text (slot_fields s)
unfolding slot_from
text_from f s e =
    elim (chosen (is_blank f) (Some slot.Free) _ (Some s) e) [
      | inl w ↦ blank_text f w.0 ∙ ap (λ (t : Slot). slot_text (slot_fields t)) (some_is slot.Free s w.1)
      | inr v ↦ elim (chosen (eqb f.kind 1) (Some (slot.File f.names f.size f.touch f.fast f.block f.slow)) _ (Some s) v.1) [
        | inl w ↦
            let kind : f.kind ≡ 1 = eqb-true _ _ w.0 in
            let same : slot_text f ≡ slot_text (slot_fields (slot.File f.names f.size f.touch f.fast f.block f.slow)) = rw kind refl in
            same ∙ ap (λ (t : Slot). slot_text (slot_fields t)) (some_is _ s w.1)
        | inr u ↦
            let t = test_some (eqb f.kind 2 && eqb f.block 0 && eqb f.slow 0) (slot.Directory f.names f.size f.touch f.fast) s u.1 in
            let p = and_parts _ _ t.0 in
            let q = and_parts _ _ p.0 in
            let kind : f.kind ≡ 2 = eqb-true _ _ q.0 in
            let block : f.block ≡ 0 = eqb-true _ _ q.1 in
            let slow : f.slow ≡ 0 = eqb-true _ _ p.1 in
            let same : slot_text f ≡ slot_text (slot_fields (slot.Directory f.names f.size f.touch f.fast)) = rw (kind, block, slow) refl in
            same ∙ ap (λ (k : Slot). slot_text (slot_fields k)) t.1
      ]
    ]

-- ---- limits

small_root : (g : Sizes) (root : ℕ) → IsAllowed g → is_root_block g root ≡ true → root < 2 ^ 32
small_root g root allowed e =
    elim (either (eqb root 0) (is_node g root) e) [
      | inl zero_root ↦ let r : root ≡ 0 = eqb-true _ _ zero_root in omega (arith, r)
      | inr inside ↦
          let p = and_parts (leb 292 root) (ltb root (node_end g)) inside in
          omega (arith, ltb-true _ _ p.1, allowed.few_units)
    ]
  where
    either : (a b : Bool) → (a || b) ≡ true → (a ≡ true) ⊎ (b ≡ true)
    either true b e = inl refl
    either false b e = inr e

fields_fit : (g : Sizes) (s : Slot) → IsAllowed g → fits_slot g s ≡ true → FieldsFit (slot_fields s)
fields_fit g slot.Free allowed e = record { kind = omega arith; names = omega arith; size = omega arith; touch = omega arith; fast = omega arith; block = omega arith; slow = omega arith }
fields_fit g (slot.File names size touch fast block slow) allowed e =
    let p = and_parts (ltb touch (2 ^ 64)) _ e in
    let a = and_parts _ (roots_apart block slow) p.1 in
    let b = and_parts _ (roots_apart fast slow) a.0 in
    let c = and_parts _ (roots_apart fast block) b.0 in
    let d = and_parts _ (is_root_block g slow) c.0 in
    let f = and_parts _ (is_root_block g block) d.0 in
    let h = and_parts _ (is_root_block g fast) f.0 in
    let k = and_parts (leb names MAX_NAMES) (leb size MAX_FILE) h.0 in
    let few : names ≤ MAX_NAMES = leb-true _ _ k.0 in
    let short : size ≤ MAX_FILE = leb-true _ _ k.1 in
    record {
      kind = omega arith;
      names = omega (arith, few);
      size = omega (arith, short);
      touch = ltb-true _ _ p.0;
      fast = small_root g fast allowed h.1;
      block = small_root g block allowed f.1;
      slow = small_root g slow allowed d.1;
    }
fields_fit g (slot.Directory names entries touch root) allowed e =
    let p = and_parts (ltb touch (2 ^ 64)) _ e in
    let a = and_parts _ (is_root_block g root) p.1 in
    let k = and_parts (leb names MAX_NAMES) (leb entries MAX_ENTRIES) a.0 in
    let few : names ≤ MAX_NAMES = leb-true _ _ k.0 in
    let short : entries ≤ MAX_ENTRIES = leb-true _ _ k.1 in
    record {
      kind = omega arith;
      names = omega (arith, few);
      size = omega (arith, short);
      touch = ltb-true _ _ p.0;
      fast = small_root g root allowed a.1;
      block = omega arith;
      slow = omega arith;
    }

-- ---- the laws

pub slot_of_takes : (g : Sizes) (bytes : List ℕ) (s : Slot) → AreBytes bytes → slot_of g bytes ≡ Some s → (fits_slot g s ≡ true) × (bytes ≡ slot_spelling s)
unfolding slot_of
slot_of_takes g bytes s are e =
    let f = bind_some (within 128 slot_at bytes) _ s e in
    let v = bind_some (slot_from f.0) _ s f.2 in
    let fit = test_some (fits_slot g v.0) v.0 s v.2 in
    let p = within_parts 128 slot_at bytes f.0 f.1 in
    let t = fields_take bytes (f.0, p.0) are p.2 in
    let spelled = filled_from 128 bytes (slot_text f.0) p.0 p.1 t p.3 ∙ ap (padded_text 128) (text_from f.0 v.0 v.1) in
    subst (λ (y : Slot). (fits_slot g y ≡ true) × (bytes ≡ slot_spelling y)) fit.1 (fit.0, spelled)

pub slot_of_again : (g : Sizes) (s : Slot) → IsAllowed g → fits_slot g s ≡ true → slot_of g (slot_spelling s) ≡ Some s
unfolding slot_of
slot_of_again g s allowed fit =
    let f = slot_fields s in
    let inner = within_again 128 slot_at (slot_text f) f (omega (arith, slot_text_long f)) (fields_again f _ (fields_fit g s allowed fit)) in
    rw (inner, from_fields s, fit) refl
