-- Images by the numbers of their blocks, as a map in order keeps them.
use Rattle.std.proofs.Common.{◌≡◌, ◌≢◌, inl, inr, ℕ, ◌+◌, ◌≤◌, ◌<◌, Bool, true, false, cond, List, [], ◌∷◌, ◌++◌, Some, refl, sym, ap, subst, ◌∙◌, arith, ◌==◌}
use Rattle.std.specs.Prelude.{IsSome}
use Rattle.std.proofs.lemmas.Bool.{cases_eq, eq-eqb, ne_eqb, cond-true, cond-false}
use Rattle.std.specs.List.{AllByRecursion}
use Rattle.std.specs.List.Sorted.{IsStrictlySortedBy}
use Rattle.std.specs.Ordering.{nat_cmp, is_eq}
use Rattle.std.specs.declared.cmp.Ordering.TheVariants.{Less, Equal, Greater}
use Rattle.std.specs.Cmp.{nat_cmp_total, tied_itself, ranked}
use Rattle.std.specs.Map.{lookup, keys_of}
use Rattle.std.specs.BTreeMap.{BTreeMap, is_at, Updates}
use Rattle.area_reader.specs.layout.Places.{Sizes, is_node, is_journaled}
use Rattle.area_reader.specs.batch_journal.Images.{image_for, Rises}
use Rattle.area_reader.specs.batch_journal.Blocks.{AreJournaled}
use Rattle.area_commit.specs.Batches.{AreNodes, PutsImage}

-- ---- a map as its images

other_key : (j d : ℕ) → j ≢ d → is_eq (nat_cmp j d) ≡ false
other_key j d apart =
    elim (nat_cmp j d) as (λ r. nat_cmp j d ≡ r → is_eq r ≡ false) [
      | Less ↦ λ e. refl
      | Equal ↦ λ e. absurd (apart (ranked j d Equal (sym e)))
      | Greater ↦ λ e. refl
    ] refl

same_key : (k q : ℕ) → (k == q) ≡ is_eq (nat_cmp k q)
same_key k q = elim (cases_eq k q) [
  | inl is ↦ eq-eqb k q is ∙ sym (ap is_eq (tied_itself nat_cmp_total k)) ∙ ap (λ r. is_eq (nat_cmp k r)) is
  | inr off ↦ ne_eqb k q off ∙ sym (other_key k q off)
]

looked : (k : ℕ) (es : List (ℕ × List ℕ)) → image_for k es ≡ lookup (is_at (nat_cmp k)) es
looked k [] = refl
looked k (e ∷ es) = ap (λ b. cond b (Some e.1) (image_for k es)) (same_key k e.0) ∙ ap (cond (is_eq (nat_cmp k e.0)) (Some e.1)) (looked k es)

pub puts : (n : ℕ) (bytes : List ℕ) (old new : BTreeMap ℕ (List ℕ)) → Updates nat_cmp old new n (Some bytes) → PutsImage n bytes old.entries new.entries
puts n bytes old new u = (looked n new.entries ∙ u.1, λ k off. looked k new.entries ∙ u.2 k (other_key n k (λ e. off (sym e))) ∙ sym (looked k old.entries))

pub nodes_still : (n : ℕ) (bytes : List ℕ) (old new : List (ℕ × List ℕ)) → PutsImage n bytes old new → (g : Sizes) → AreNodes g old → is_node g n ≡ true → AreNodes g new
nodes_still n bytes old new put g are is k some = elim (cases_eq k n) [
  | inl same ↦ subst (λ j. is_node g j ≡ true) (sym same) is
  | inr off ↦ are k (subst IsSome (put.1 k off) some)
]

pub one_more : (b : Bool) (n : ℕ) → n + cond b 0 1 ≤ n + 1
one_more true n = omega arith
one_more false n = omega arith

-- ---- numbers that rise

behind : (x : ℕ) (es : List (ℕ × List ℕ)) → AllByRecursion (λ y. nat_cmp x y ≡ Less) (keys_of es) → (k : ℕ) → IsSome (image_for k es) → x < k
behind x [] all k some = absurd cc
behind x (e ∷ es) all k some = elim (cases_eq k e.0) [
  | inl same ↦ omega (arith, same, ranked x e.0 Less (sym all.0))
  | inr off ↦ behind x es all.1 k (subst IsSome (cond-false (k == e.0) (Some e.1) (image_for k es) (ne_eqb k e.0 off)) some)
]

pub rise_from : (low : ℕ) (es : List (ℕ × List ℕ)) → IsStrictlySortedBy nat_cmp (keys_of es) → ((k : ℕ) → IsSome (image_for k es) → low ≤ k) → Rises low es
unfolding IsStrictlySortedBy
rise_from low [] ordered above = tt
rise_from low (e ∷ es) ordered above = (
  above e.0 (subst IsSome (sym (cond-true (e.0 == e.0) (Some e.1) (image_for e.0 es) (eq-eqb e.0 e.0 refl))) refl),
  rise_from (e.0 + 1) es ordered.1 (λ k some. omega (arith, behind e.0 es ordered.0 k some)),
)

pub rises_low : (low low' : ℕ) (es : List (ℕ × List ℕ)) → low' ≤ low → Rises low es → Rises low' es
rises_low low low' [] le rises = tt
rises_low low low' (e ∷ es) le rises = (omega (arith, le, rises.0), rises.1)

-- ---- blocks that a batch may write

pub journaled_both : (g : Sizes) (xs ys : List (ℕ × List ℕ)) → AreJournaled g xs → AreJournaled g ys → AreJournaled g (xs ++ ys)
journaled_both g [] ys are these = these
journaled_both g (x ∷ xs) ys are these = (are.0, journaled_both g xs ys are.1 these)

node_journaled : (g : Sizes) (k : ℕ) → is_node g k ≡ true → is_journaled g k ≡ true
node_journaled g k is = grind arith

pub nodes_journaled : (g : Sizes) (nodes : List (ℕ × List ℕ)) → AreNodes g nodes → AreJournaled g nodes
nodes_journaled g [] are = tt
nodes_journaled g (e ∷ es) are = (
  node_journaled g e.0 (are e.0 (subst IsSome (sym (cond-true (e.0 == e.0) (Some e.1) (image_for e.0 es) (eq-eqb e.0 e.0 refl))) refl)),
  nodes_journaled g es (λ k some. are k (still k some)),
) where
  still : (k : ℕ) → IsSome (image_for k es) → IsSome (image_for k (e ∷ es))
  still k some = elim (cases_eq k e.0) [
    | inl same ↦ subst IsSome (sym (cond-true (k == e.0) (Some e.1) (image_for k es) (eq-eqb k e.0 same))) refl
    | inr off ↦ subst IsSome (sym (cond-false (k == e.0) (Some e.1) (image_for k es) (ne_eqb k e.0 off))) some
  ]
