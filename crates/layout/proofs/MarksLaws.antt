-- The marks, both ways.
use Rattle.std.proofs.Common.{◌≡◌, ℕ, ◌*◌, ◌^◌, ◌<◌, true, eqb, ltb, List, [], ◌∷◌, ◌++◌, length, Some, refl, sym, ap, subst, ◌∙◌, append_assoc, arith}
use Rattle.std.specs.List.{flat_map, list_all}
use Rattle.std.proofs.lemmas.Bool.{and_from, eqb-true, ltb-true}
use Rattle.std.proofs.lemmas.List.{length-append}
use Rattle.layout.specs.declared.marks.Mark.{Mark}
use Rattle.layout.specs.declared.marks.Marks.{Marks}
use Rattle.layout.specs.Bytes.{AreBytes, u32, u64, number_at, items_at}
use Rattle.layout.specs.Marks.{mark_text, marks_text, marks_spelling, fits_mark, fits_marks, mark_at, marks_at, marks_of}
use Rattle.layout.proofs.Limits.{and_parts}
use Rattle.layout.proofs.Fields.{Takes, Takes-then, bind_some, test_some, some_is, u32_takes, u64_takes, u32_small, u64_small, u32_again, u64_again, u32_long, u64_long}
use Rattle.layout.proofs.Blocks.{within_parts, within_again, filled_from}
use Rattle.layout.proofs.Items.{IsRead, items_take, items_again}

mark_takes : (bytes : List ℕ) (x : Mark × List ℕ) → AreBytes bytes → mark_at bytes ≡ Some x → Takes bytes (mark_text x.0) x.1 × (fits_mark x.0 ≡ true)
unfolding mark_at
mark_takes bytes x are e =
    let g = bind_some (number_at 8 bytes) _ x e in
    let d = bind_some (number_at 4 g.0.1) _ x g.2 in
    let z = bind_some (number_at 4 d.0.1) _ x d.2 in
    let made : Mark × List ℕ = (record { generation = g.0.0; done = d.0.0 }, z.0.1) in
    let gap = test_some (eqb z.0.0 0) made x z.2 in
    let t0 = u64_takes bytes g.0 are g.1 in
    let t1 = u32_takes g.0.1 d.0 t0.behind d.1 in
    let t2 = u32_takes d.0.1 z.0 t1.behind z.1 in
    let s1 = Takes-then g.0.1 (u32 d.0.0) d.0.1 (u32 z.0.0) z.0.1 t1 t2 in
    let s0 = Takes-then bytes (u64 g.0.0) g.0.1 (u32 d.0.0 ++ u32 z.0.0) z.0.1 t0 s1 in
    let fields : Takes bytes (mark_text made.0) z.0.1 = subst (λ (n : ℕ). Takes bytes (u64 g.0.0 ++ (u32 d.0.0 ++ u32 n)) z.0.1) (eqb-true _ _ gap.0) s0 in
    let small = and_from _ _ (u64_small bytes g.0 are g.1) (u32_small g.0.1 d.0 t0.behind d.1) in
    subst (λ (y : Mark × List ℕ). Takes bytes (mark_text y.0) y.1 × (fits_mark y.0 ≡ true)) gap.1 (fields, small)

mark_again : (m : Mark) (rest : List ℕ) → fits_mark m ≡ true → mark_at (mark_text m ++ rest) ≡ Some (m, rest)
unfolding mark_at
mark_again m rest fit =
    let p = and_parts (ltb m.generation (2 ^ 64)) (ltb m.done (2 ^ 32)) fit in
    let tail1 : List ℕ = u32 0 ++ rest in
    let tail0 : List ℕ = u32 m.done ++ tail1 in
    let flat : mark_text m ++ rest ≡ u64 m.generation ++ tail0 = simp append_assoc in
    ap mark_at flat ∙ rw (u64_again m.generation tail0 (ltb-true _ _ p.0), u32_again m.done tail1 (ltb-true _ _ p.1), u32_again 0 rest (omega arith)) refl

mark_read : IsRead mark_at mark_text fits_mark
mark_read = record { takes = mark_takes; again = mark_again }

marks_take : (bytes : List ℕ) (x : Marks × List ℕ) → AreBytes bytes → marks_at bytes ≡ Some x → Takes bytes (marks_text x.0) x.1 × (fits_marks x.0 ≡ true)
unfolding marks_at
marks_take bytes x are e =
    let c = bind_some (items_at mark_at 8 bytes) _ x e in
    let d = bind_some (number_at 8 c.0.1) _ x c.2 in
    let t0 = items_take mark_at mark_text fits_mark mark_read 8 bytes c.0 are c.1 in
    let t1 = u64_takes c.0.1 d.0 t0.takes.behind d.1 in
    let fields = Takes-then bytes (flat_map mark_text c.0.0) c.0.1 (u64 d.0.0) d.0.1 t0.takes t1 in
    let eight : eqb (length c.0.0) 8 ≡ true = ap (λ (k : ℕ). eqb k 8) t0.long in
    let fit = and_from _ _ (and_from _ _ eight t0.all_fit) (u64_small c.0.1 d.0 t0.takes.behind d.1) in
    let made : Marks × List ℕ = (record { clients = c.0.0; digests = d.0.0 }, d.0.1) in
    subst (λ (y : Marks × List ℕ). Takes bytes (marks_text y.0) y.1 × (fits_marks y.0 ≡ true)) (some_is made x d.2) (fields, fit)

record MarksFit (m : Marks) : Type 0 where
  eight : length m.clients ≡ 8
  clients : list_all fits_mark m.clients ≡ true
  digests : m.digests < 2 ^ 64

marks_fit : (m : Marks) → fits_marks m ≡ true → MarksFit m
marks_fit m fit =
    let p = and_parts _ _ fit in
    let q = and_parts _ _ p.0 in
    record { eight = eqb-true _ _ q.0; clients = q.1; digests = ltb-true _ _ p.1 }

marks_again : (m : Marks) (rest : List ℕ) → fits_marks m ≡ true → marks_at (marks_text m ++ rest) ≡ Some (m, rest)
unfolding marks_at
marks_again m rest fit =
    let h = marks_fit m fit in
    let flat : marks_text m ++ rest ≡ flat_map mark_text m.clients ++ (u64 m.digests ++ rest) = append_assoc (flat_map mark_text m.clients) (u64 m.digests) rest in
    let items : items_at mark_at 8 (flat_map mark_text m.clients ++ (u64 m.digests ++ rest)) ≡ Some (m.clients, u64 m.digests ++ rest) =
    ap (λ (k : ℕ). items_at mark_at k (flat_map mark_text m.clients ++ (u64 m.digests ++ rest))) (sym h.eight) ∙ items_again mark_at mark_text fits_mark mark_read m.clients (u64 m.digests ++ rest) h.clients in
    ap marks_at flat ∙ rw (items, u64_again m.digests rest h.digests) refl

pub mark_text_long : (m : Mark) → length (mark_text m) ≡ 16
mark_text_long m = simp (length-append, u32_long, u64_long) refl

pub mark_texts_long : (ms : List Mark) → length (flat_map mark_text ms) ≡ 16 * length ms
mark_texts_long [] = refl
mark_texts_long (m ∷ ms) = omega (arith, length-append (mark_text m) (flat_map mark_text ms), mark_text_long m, mark_texts_long ms)

marks_text_long : (m : Marks) → fits_marks m ≡ true → length (marks_text m) ≡ 136
marks_text_long m fit = omega (arith, length-append (flat_map mark_text m.clients) (u64 m.digests), mark_texts_long m.clients, u64_long m.digests, (marks_fit m fit).eight)

pub marks_of_takes : (block : List ℕ) (m : Marks) → AreBytes block → marks_of block ≡ Some m → (fits_marks m ≡ true) × (block ≡ marks_spelling m)
unfolding marks_of
marks_of_takes block m are e =
    let p = within_parts 4096 marks_at block m e in
    let t = marks_take block (m, p.0) are p.2 in
    (t.1, filled_from 4096 block (marks_text m) p.0 p.1 t.0 p.3)

pub marks_of_again : (m : Marks) → fits_marks m ≡ true → marks_of (marks_spelling m) ≡ Some m
unfolding marks_of
marks_of_again m fit = within_again 4096 marks_at (marks_text m) m (omega (arith, marks_text_long m fit)) (marks_again m _ fit)
