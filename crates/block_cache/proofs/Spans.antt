-- The blocks of a file, taken out by the span in which they lie.
use Rattle.std.proofs.Common.{◌≡◌, inl, inr, ℕ, ◌+◌, ◌≤◌, ◌<◌, Bool, true, false, cond, ◌&&◌, List, [], ◌∷◌, Option, Some, None, refl, sym, ◌∙◌, ap, subst, arith}
use Rattle.std.specs.Prelude.{◌≢◌, ◌==◌, not, option_map, slice_get}
use Rattle.std.specs.List.{AllByRecursion, IsDistinct}
use Rattle.std.specs.Map.{keys_of, remove_entry}
use Rattle.std.proofs.lemmas.Bool.{cases_Bool, cases_eq, and_parts, and_from, eqb-true, eq-eqb, ne_eqb, cond-true, cond-false, not_from_true, not_from_false}
use Rattle.std.proofs.lemmas.Map.Keys.{IsDistinct-head, IsDistinct-tail}
use Rattle.lru.specs.LruCache.{LruCache, promoted, put_entries}
use Rattle.lru.proofs.Splits.{all_at, all_from}
use Rattle.lru.proofs.CallerLemmas.{Contains-promoted, Contains-put_entries}
use Rattle.block_cache.specs.declared.blocks.Place.{Place}
use Rattle.block_cache.specs.declared.span.Span.{Span}
use Rattle.block_cache.specs.Entries.{others_than}
use Rattle.block_cache.specs.Spans.{IsIn, AreIn, AreFromTo, others_at, wider_span}
use Rattle.block_cache.proofs.Entries.{same_place, same_is}

abbrev Entry : Type 0
Entry = Place × List ℕ

-- ---- one block is taken out

module _ (p : Place) where
  abbrev IsFree : List Entry → Type 0
  IsFree es = AllByRecursion (λ (q : Place). same_place p q ≡ false) (keys_of es)

  free_all : (es : List Entry) → IsFree es → others_at p.inode p.block es ≡ es
  free_all [] free = refl
  free_all (e ∷ es) free =
      cond-true (not (same_place p e.0)) (e ∷ others_at p.inode p.block es) (others_at p.inode p.block es) (not_from_false (same_place p e.0) free.0)
      ∙ ap (λ (l : List Entry). e ∷ l) (free_all es free.1)

  pub removed_is_others : (es : List Entry) → IsDistinct same_place (keys_of es) → remove_entry (same_place p) es ≡ others_at p.inode p.block es
  removed_is_others [] apart = refl
  removed_is_others (e ∷ es) apart =
      let rest = others_at p.inode p.block es in
      elim (cases_Bool (same_place p e.0)) [
        | inl t ↦ cond-true (same_place p e.0) es (e ∷ remove_entry (same_place p) es) t
            ∙ sym (free_all es (subst (λ (q : Place). AllByRecursion (λ (r : Place). same_place q r ≡ false) (keys_of es)) (sym (same_is p e.0 t)) (IsDistinct-head same_place e.0 (keys_of es) apart)))
            ∙ sym (cond-false (not (same_place p e.0)) (e ∷ rest) rest (not_from_true (same_place p e.0) t))
        | inr f ↦ cond-false (same_place p e.0) es (e ∷ remove_entry (same_place p) es) f
            ∙ ap (λ (l : List Entry). e ∷ l) (removed_is_others es (IsDistinct-tail same_place e.0 (keys_of es) apart))
            ∙ sym (cond-true (not (same_place p e.0)) (e ∷ rest) rest (not_from_false (same_place p e.0) f))
      ]

-- ---- and then all of a span

module _ (i : ℕ) where
  abbrev is_other : Entry → Bool
  is_other e = not (e.0.inode == i)

  abbrev is_past : ℕ → Entry → Bool
  is_past b e = not ((i == e.0.inode) && (b == e.0.block))

  -- a block of the file is none of the others
  pub others_stay_others : (b : ℕ) (es : List Entry) → others_than i (others_at i b es) ≡ others_than i es
  others_stay_others b [] = refl
  others_stay_others b (e ∷ es) =
      let rest = others_at i b es in
      let on = others_stay_others b es in
      elim (cases_Bool ((i == e.0.inode) && (b == e.0.block))) [
        | inl t ↦
            let same = eq-eqb e.0.inode i (sym (eqb-true i e.0.inode (and_parts (i == e.0.inode) (b == e.0.block) t).0)) in
            ap (others_than i) (cond-false (is_past b e) (e ∷ rest) rest (not_from_true ((i == e.0.inode) && (b == e.0.block)) t))
            ∙ on ∙ sym (cond-false (is_other e) (e ∷ others_than i es) (others_than i es) (not_from_true (e.0.inode == i) same))
        | inr f ↦
            ap (others_than i) (cond-true (is_past b e) (e ∷ rest) rest (not_from_false ((i == e.0.inode) && (b == e.0.block)) f))
            ∙ ap (λ (l : List Entry). cond (is_other e) (e ∷ l) l) on
      ]

  past : (b : ℕ) (e : Entry) → e.0.inode ≡ i → (i == e.0.inode) && (b == e.0.block) ≡ false → b ≤ e.0.block → b + 1 ≤ e.0.block
  past b e of f le = elim (cases_Bool (b == e.0.block)) [
    | inl t ↦ absurd (let yes = and_from (i == e.0.inode) (b == e.0.block) (eq-eqb i e.0.inode (sym of)) t in let no : true ≡ false = sym yes ∙ f in cc no)
    | inr g ↦ let other : b ≡ e.0.block → ⊥ = (λ same. let no : true ≡ false = sym (eq-eqb b e.0.block same) ∙ g in cc no) in omega (arith, le, other)
  ]

  -- the first block of a span is gone
  pub first_gone : (b last : ℕ) (es : List Entry) → AreFromTo i b last es → AreFromTo i (b + 1) last (others_at i b es)
  first_gone b last [] in_span = tt
  first_gone b last (e ∷ es) in_span =
      let rest = others_at i b es in
      let on = first_gone b last es in_span.1 in
      elim (cases_Bool ((i == e.0.inode) && (b == e.0.block))) [
        | inl t ↦ subst (AreFromTo i (b + 1) last) (sym (cond-false (is_past b e) (e ∷ rest) rest (not_from_true ((i == e.0.inode) && (b == e.0.block)) t))) on
        | inr f ↦ subst (AreFromTo i (b + 1) last) (sym (cond-true (is_past b e) (e ∷ rest) rest (not_from_false ((i == e.0.inode) && (b == e.0.block)) f)))
            ((λ of. let here = in_span.0 of in (past b e of f here.0, here.1)), on)
      ]

  -- where no block of the file is left all are others
  pub none_left : (first last : ℕ) (es : List Entry) → last < first → AreFromTo i first last es → others_than i es ≡ es
  none_left first last [] lt in_span = refl
  none_left first last (e ∷ es) lt in_span =
      let other : e.0.inode ≡ i → ⊥ = (λ of. let here = in_span.0 of in omega (arith, here.0, here.1, lt)) in
      cond-true (is_other e) (e ∷ others_than i es) (others_than i es) (not_from_false (e.0.inode == i) (ne_eqb e.0.inode i other))
      ∙ ap (λ (l : List Entry). e ∷ l) (none_left first last es lt in_span.1)

  weaker : (m b last : ℕ) (es : List Entry) → m ≤ b → AreFromTo i b last es → AreFromTo i m last es
  weaker m b last [] le in_span = tt
  weaker m b last (e ∷ es) le in_span = ((λ of. let here = in_span.0 of in (omega (arith, le, here.0), here.1)), weaker m b last es le in_span.1)

  -- the last block of a span goes, and all before it are gone
  pub all_gone : (b last : ℕ) (es : List Entry) → last ≤ b → AreFromTo i b last es → others_at i last es ≡ others_than i es
  all_gone b last es le in_span = sym (none_left (last + 1) last (others_at i last es) (omega arith) (first_gone last last es (weaker last b last es le in_span))) ∙ others_stay_others last es

  -- what the span of a file says of its blocks
  pub in_its_span : (spans : List (Option Span)) (s : Span) (es : List Entry) → slice_get spans i ≡ Some (Some s) → AreIn spans es → AreFromTo i s.first s.last es
  in_its_span spans s [] is in_all = tt
  in_its_span spans s (e ∷ es) is in_all = ((λ of. subst (λ (o : Option (Option Span)). IsIn o e.0.block) (ap (slice_get spans) of ∙ is) in_all.0), in_its_span spans s es is in_all.1)

  -- a file with nothing in its span has no blocks
  pub without_span : (spans : List (Option Span)) (es : List Entry) → slice_get spans i ≡ Some None → AreIn spans es → others_than i es ≡ es
  without_span spans [] is in_all = refl
  without_span spans (e ∷ es) is in_all =
      let other : e.0.inode ≡ i → ⊥ = (λ of. subst (λ (o : Option (Option Span)). IsIn o e.0.block) (ap (slice_get spans) of ∙ is) in_all.0) in
      cond-true (is_other e) (e ∷ others_than i es) (others_than i es) (not_from_false (e.0.inode == i) (ne_eqb e.0.inode i other))
      ∙ ap (λ (l : List Entry). e ∷ l) (without_span spans es is in_all.1)

-- ---- what each call of the cache leaves in the spans

abbrev Lies : List (Option Span) → Entry → Type 0
Lies spans e = IsIn (slice_get spans e.0.inode) e.0.block

pub wider : (spans more : List (Option Span)) → ((i b : ℕ) → IsIn (slice_get spans i) b → IsIn (slice_get more i) b) → (es : List Entry) → AreIn spans es → AreIn more es
wider spans more wide [] in_all = tt
wider spans more wide (e ∷ es) in_all = (wide e.0.inode e.0.block in_all.0, wider spans more wide es in_all.1)

-- a widened span has the new block, and all that it had
pub has_new : (o : Option (Option Span)) (block : ℕ) → IsIn (option_map (λ span. Some (wider_span span block)) o) block
has_new None block = tt
has_new (Some None) block = (omega arith, omega arith)
has_new (Some (Some s)) block = (omega arith, omega arith)

has_old : (o : Option (Option Span)) (block b : ℕ) → IsIn o b → IsIn (option_map (λ span. Some (wider_span span block)) o) b
has_old None block b old = tt
has_old (Some None) block b old = absurd old
has_old (Some (Some s)) block b old = (omega (arith, old.0), omega (arith, old.1))

pub widened_has : (spans more : List (Option Span)) (i block : ℕ) → slice_get more i ≡ option_map (λ span. Some (wider_span span block)) (slice_get spans i) → ((j : ℕ) → j ≢ i → slice_get more j ≡ slice_get spans j) → (j b : ℕ) → IsIn (slice_get spans j) b → IsIn (slice_get more j) b
widened_has spans more i block here others j b old = elim (cases_eq j i) [
  | inl same ↦ subst (λ (o : Option (Option Span)). IsIn o b) (ap (λ k. option_map (λ span. Some (wider_span span block)) (slice_get spans k)) same ∙ sym here ∙ ap (slice_get more) (sym same)) (has_old (slice_get spans j) block b old)
  | inr other ↦ subst (λ (o : Option (Option Span)). IsIn o b) (sym (others j other)) old
]

pub promoted_in : (p : Place) (spans : List (Option Span)) (es : List Entry) → AreIn spans es → AreIn spans (promoted (same_place p) es)
promoted_in p spans es in_all = all_from (Lies spans) (promoted (same_place p) es) (λ e there. all_at (Lies spans) es e in_all (Contains-promoted (same_place p) es e there))

pub put_in : (c : LruCache Place (List ℕ)) (p : Place) (v : List ℕ) (spans : List (Option Span)) → IsIn (slice_get spans p.inode) p.block → AreIn spans c.entries → AreIn spans (put_entries same_place c p v)
put_in c p v spans here in_all = all_from (Lies spans) (put_entries same_place c p v) (λ e there. elim (Contains-put_entries same_place c p v e there) [
  | inl old ↦ all_at (Lies spans) c.entries e in_all old
  | inr new ↦ elim new.1 [
    | inl same ↦ subst (λ (q : Place). IsIn (slice_get spans q.inode) q.block) (sym same) here
    | inr was ↦ all_at (Lies spans) c.entries (e.0, was.0) in_all was.1
  ]
])

pub others_in : (i : ℕ) (spans less : List (Option Span)) → ((j : ℕ) → j ≢ i → slice_get less j ≡ slice_get spans j) → (es : List Entry) → AreIn spans es → AreIn less (others_than i es)
others_in i spans less keeps [] in_all = tt
others_in i spans less keeps (e ∷ es) in_all =
    let on = others_in i spans less keeps es in_all.1 in
    elim (cases_Bool (e.0.inode == i)) [
      | inl t ↦ subst (AreIn less) (sym (cond-false (is_other i e) (e ∷ others_than i es) (others_than i es) (not_from_true (e.0.inode == i) t))) on
      | inr f ↦ subst (AreIn less) (sym (cond-true (is_other i e) (e ∷ others_than i es) (others_than i es) (not_from_false (e.0.inode == i) f)))
          (subst (λ (o : Option (Option Span)). IsIn o e.0.block) (sym (keeps e.0.inode (λ same. let no : true ≡ false = sym (eq-eqb e.0.inode i same) ∙ f in cc no))) in_all.0, on)
    ]
