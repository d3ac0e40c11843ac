-- The way from the root to a leaf.
use Rattle.std.proofs.Common.{◌≡◌, ◌≤◌, ◌<◌, ℕ, zero, suc, ◌+◌, ◌-◌, ◌*◌, ◌^◌, List, [], ◌∷◌, length, get_or, sym, ap, ◌∙◌, refl, arith, subst, Some, inl, inr}
use Rattle.std.proofs.lemmas.Bool.{cases_Bool}
use Rattle.std.proofs.lemmas.Option.{none-some, same_Some}
use Rattle.std.proofs.lemmas.List.{append-nil, nil_from_length}
use Rattle.std.proofs.Math.Nat.{mul-le-mul_left, mul-le-mul_right}
use Rattle.layout.specs.declared.extents.Extent.{Extent}
use Rattle.extent_tree.specs.Places.{has, extent_with}
use Rattle.extent_tree.specs.Normal.{IsRising, PlacesFit}
use Rattle.extent_tree.specs.Nodes.{flat, summaries}
use Rattle.extent_tree.proofs.Maps.{at-here, at-later}
use Rattle.extent_tree.proofs.Levels.{most-count, summaries-rising}
use Rattle.extent_tree.specs.Tree.{IsLevel, IsTree, level_at}

-- a root alone is all that there is
pub root-alone : (ns : List (List Extent)) (d : List Extent) → length ns ≤ 1 → 0 < length ns → flat ns ≡ get_or ns 0 d
root-alone [] d one some = absurd (omega (arith, some))
root-alone (n ∷ []) d one some = append-nil n
root-alone (n ∷ m ∷ ns) d one some = absurd (omega (arith, one))

pub no-nodes : (ns : List (List Extent)) → length ns ≡ 0 → flat ns ≡ []
no-nodes ns none = ap flat (nil_from_length ns none)

pub no-inner : (width : ℕ) (ns : List (List Extent)) (inner : List (List (List Extent))) → IsTree width ns inner → length inner ≡ 0 → length ns ≤ 1
no-inner width ns [] is none = is
no-inner width ns (level ∷ higher) is none = absurd (omega (arith, none))

-- ---- the levels by their numbers

pub level-of : (k : ℕ) (ns : List (List Extent)) (inner : List (List (List Extent))) (d : List (List Extent)) → 0 < k → k ≤ length inner → level_at k ns inner ≡ get_or inner (k - 1) d
level-of zero ns inner d some le = absurd (omega (arith, some))
level-of (suc k) ns [] d some le = absurd (omega (arith, le))
level-of (suc zero) ns (level ∷ higher) d some le = refl
level-of (suc (suc k)) ns (level ∷ higher) d some le =
    let at : suc (suc k) - 1 ≡ suc (suc k - 1) = omega arith in
    level-of (suc k) level higher d (omega arith) (omega (arith, le)) ∙ ap (λ n. get_or (level ∷ higher) n d) (sym at)

-- what holds of each level
pub record IsAt (width : ℕ) (ns : List (List Extent)) : Type 0 where
  pub rising : IsRising 0 4294967295 (flat ns)
  pub level : IsLevel width ns

pub tree-at : (width k : ℕ) (ns : List (List Extent)) (inner : List (List (List Extent))) → IsTree width ns inner → IsAt width ns → k ≤ length inner → IsAt width (level_at k ns inner)
tree-at width zero ns inner is at le = at
tree-at width (suc k) ns [] is at le = absurd (omega (arith, le))
tree-at width (suc k) ns (level ∷ higher) is at le =
    tree-at width k level higher is.4 (record { rising = subst (IsRising 0 4294967295) (sym is.1) (summaries-rising 0 0 4294967295 ns at.rising at.level.filled); level = is.2 }) (omega (arith, le))

pub covers-at : (width k : ℕ) (ns : List (List Extent)) (inner : List (List (List Extent))) → IsTree width ns inner → k < length inner → flat (level_at (suc k) ns inner) ≡ summaries 0 (level_at k ns inner)
covers-at width k ns [] is lt = absurd (omega (arith, lt))
covers-at width zero ns (level ∷ higher) is lt = is.1
covers-at width (suc k) ns (level ∷ higher) is lt = covers-at width k level higher is.4 (omega (arith, lt))

pub top-one : (width : ℕ) (ns : List (List Extent)) (inner : List (List (List Extent))) → IsTree width ns inner → length (level_at (length inner) ns inner) ≤ 1
top-one width ns [] is = is
top-one width ns (level ∷ higher) is = top-one width level higher is.4

-- the product stays small
pub small-product : (width levels : ℕ) → width < 2 ^ 31 → levels ≤ 2 ^ 32 → width * levels < 2 ^ 63
small-product width levels w l =
    let wide : width ≤ 2 ^ 31 - 1 = omega (arith, w) in
    omega (arith, mul-le-mul_right levels wide, mul-le-mul_left (2 ^ 31 - 1) l)

pub product-more : (width done a b : ℕ) → a ≤ width * (1 + done) → b ≤ a + width → b ≤ width * (1 + (done + 1))
product-more width done a b most more =
    let e : width * (1 + (done + 1)) ≡ width * (1 + done) + width = omega arith in
    omega (arith, most, more, e)

pub product-one : (width n a : ℕ) → a ≤ width → a ≤ width * (1 + n)
product-one width n a le =
    let e : width * (1 + n) ≡ width + width * n = omega arith in
    omega (arith, le, e)

pub root-few : (width : ℕ) (ns : List (List Extent)) → IsLevel width ns → length ns ≤ 1 → length (flat ns) ≤ width
root-few width ns is one =
    let e : width * 1 ≡ width = omega arith in
    omega (arith, most-count 0 width ns is.most, mul-le-mul_left width one, e)

-- the extent that was found has the block, and its places are numbers of 32 bits
pub found-fits : (b : ℕ) (es : List Extent) (e : Extent) → PlacesFit es → extent_with b es ≡ Some e → e.place + e.length < 2 ^ 32
found-fits b [] e fit is = absurd (none-some e is)
found-fits b (x ∷ xs) e fit is = elim (cases_Bool (has b x)) [
  | inl it ↦ let same : x ≡ e = same_Some x e (sym (at-here b x xs it) ∙ is) in subst (λ y. y.place + y.length < 2 ^ 32) same fit.0
  | inr out ↦ found-fits b xs e fit.1 (sym (at-later b x xs out) ∙ is)
]
