-- Blocks that are counted, with one more.
use Rattle.std.proofs.Common.{◌≡◌, ℕ, ◌<◌, ◌/◌, ◌+◌, ◌-◌, length, ◌≤◌, ◌==◌, cond, Bool, true, false, [], ◌∷◌, refl, ap, sym, ◌∙◌, arith}
use Rattle.std.specs.Prelude.{◌||◌, ◌&&◌}
use Rattle.std.specs.List.{range_with_len}
use Rattle.std.specs.Set.{is_member}
use Rattle.std.specs.Ordering.{nat_cmp, is_eq}
use Rattle.std.specs.Cmp.{nat_eq_equiv, unsigned_tied, tied_then}
use Rattle.std.specs.BTreeMap.{is_at}
use Rattle.std.specs.BTreeSet.{BTreeSet, contains, Updates}
use Rattle.std.proofs.lemmas.List.Folds.{list_any-append}
use Rattle.std.proofs.lemmas.List.FromFn.{map-range_with_len_more, length-range_with_len}
use Rattle.std.proofs.lemmas.Bool.Decides.{nat_tests}
use Rattle.posix_calls.specs.declared.limits.TheConstants.{UNIT_BYTES}
use Rattle.graph_change.specs.Change.{span}
use Rattle.coalescer.specs.Weight.{blocks_at, same_block}
use Rattle.coalescer.specs.EffectCounts.{block_cmp}

in_front : (a b : Bool) → cond a true b ≡ (b || (a || false))
in_front true true = refl
in_front true false = refl
in_front false true = refl
in_front false false = refl

or_regroup : (a b c : Bool) → ((a || b) || c) ≡ (a || (b || c))
or_regroup true b c = refl
or_regroup false b c = refl

same_at : (k q : ℕ × ℕ) → is_at (block_cmp k) q ≡ same_block q k
same_at k q =
    sym (tied_then (nat_cmp k.0 q.0) (nat_cmp k.1 q.1))
    ∙ ap (λ b. b && is_eq (nat_cmp k.1 q.1)) (unsigned_tied k.0 q.0 ∙ nat_eq_equiv.symm k.0 q.0)
    ∙ ap (λ b. q.0 == k.0 && b) (unsigned_tied k.1 q.1 ∙ nat_eq_equiv.symm k.1 q.1)

-- with one block more
pub one_block : (old new : BTreeSet (ℕ × ℕ)) (k : ℕ × ℕ) → Updates block_cmp old new k true → (q : ℕ × ℕ) → contains block_cmp new q ≡ (contains block_cmp old q || is_member same_block (k ∷ []) q)
one_block old new k updates q =
    updates.0 q
    ∙ ap (λ b. cond b true (contains block_cmp old q)) (same_at k q)
    ∙ in_front (same_block q k) (contains block_cmp old q)

-- with the next block of a row
pub next_block : (old now new : BTreeSet (ℕ × ℕ)) (i first b : ℕ) → first ≤ b → ((q : ℕ × ℕ) → contains block_cmp now q ≡ (contains block_cmp old q || is_member same_block (blocks_at i (range_with_len first (b - first))) q)) → Updates block_cmp now new (i, b) true
    → (q : ℕ × ℕ) → contains block_cmp new q ≡ (contains block_cmp old q || is_member same_block (blocks_at i (range_with_len first (b + 1 - first))) q)
next_block old now new i first b le so_far updates q =
    let was = blocks_at i (range_with_len first (b - first)) in
    let more : b + 1 - first ≡ (b - first) + 1 = omega (arith, le) in
    one_block now new (i, b) updates q
    ∙ ap (λ t. t || is_member same_block ((i, b) ∷ []) q) (so_far q)
    ∙ or_regroup (contains block_cmp old q) (is_member same_block was q) (is_member same_block ((i, b) ∷ []) q)
    ∙ ap (λ t. contains block_cmp old q || t) (sym (
    ap (λ n. is_member same_block (blocks_at i (range_with_len first n)) q) more
    ∙ ap (λ bs. is_member same_block bs q) (map-range_with_len_more (λ k. (i, k)) first (b - first) b (omega (arith, le)))
    ∙ list_any-append (same_block q) was ((i, b) ∷ [])))

-- how many blocks some bytes lie in
pub span_length : (at count last : ℕ) → 0 < count → last ≡ (at + (count - 1)) / UNIT_BYTES → last + 1 - at / UNIT_BYTES ≡ length (span at count)
span_length at count last some is =
    let pos : (count == 0) ≡ false = grind (arith, nat_tests, some) in
    let behind : at + count - 1 ≡ at + (count - 1) = omega (arith, some) in
    let same : (at + count - 1) / UNIT_BYTES ≡ last = ap (λ k. k / UNIT_BYTES) behind ∙ sym is in
    sym (ap (λ t. length (cond t [] (range_with_len (at / UNIT_BYTES) ((at + count - 1) / UNIT_BYTES + 1 - at / UNIT_BYTES)))) pos
    ∙ length-range_with_len (at / UNIT_BYTES) ((at + count - 1) / UNIT_BYTES + 1 - at / UNIT_BYTES) ∙ ap (λ q. q + 1 - at / UNIT_BYTES) same)
