-- One leaf beside those that a run meets gives entries enough.
use Rattle.std.proofs.Common.{refl, ◌≡◌, ◌≢◌, ◌≤◌, ◌<◌, inl, inr, ℕ, ◌+◌, ◌-◌, ◌*◌, ◌/◌, ◌^◌, List, [], ◌++◌, length, take, drop, sym, ap, ◌∙◌, arith, subst, length-append, Option}
use Rattle.std.specs.Prelude.{slice_range}
use Rattle.std.specs.List.{AllByRecursion}
use Rattle.std.proofs.lemmas.Bool.{cases_lt}
use Rattle.std.proofs.lemmas.List.{append-nil, length-drop, length-take}
use Rattle.std.proofs.lemmas.List.Folds.{drop_split}
use Rattle.std.proofs.Math.Seq.{take-append-add}
use Rattle.layout.specs.declared.extents.Extent.{Extent}
use Rattle.extent_tree.specs.Places.{place_of}
use Rattle.extent_tree.specs.Normal.{IsNormal, Joins}
use Rattle.extent_tree.specs.Changes.{after, changed_extents, EndBefore, BeginBehind}
use Rattle.extent_tree.specs.Nodes.{flat, HaveFrom}
use Rattle.extent_tree.proofs.Joined.{all-left, all-right, apart-left, apart-right}
use Rattle.extent_tree.proofs.Summaries.{flat-append}
use Rattle.extent_tree.proofs.Splices.{Spliced, spliced-normal, spliced-at}
use Rattle.extent_tree.proofs.Levels.{least-count}
use Rattle.extent_tree.proofs.Unique.{one-list}
use Rattle.extent_tree.specs.LeafChoice.{Touched, Remade, MeetsEach, MeetsButOne}
use Rattle.extent_tree.specs.Value.{OthersStay}
use Rattle.extent_tree.proofs.Rewrites.{all-take, all-drop, flat-pieces, flat-three, piece-rises, piece-fits}

-- ---- pieces of a row of leaves

slice-long : {X : Type 0} (a b : ℕ) (xs : List X) → a ≤ b → b ≤ length xs → length (slice_range xs a b) ≡ b - a
slice-long a b xs ab within = omega (arith, length-take (b - a) (drop a xs), length-drop a xs, ab, within)

slice-two : {X : Type 0} (a b c : ℕ) (xs : List X) → a ≤ b → b ≤ c → c ≤ length xs → slice_range xs a c ≡ slice_range xs a b ++ slice_range xs b c
slice-two a b c xs ab bc within =
    let first = slice_range xs a b in
    let long : length first ≡ b - a = slice-long a b xs ab (omega (arith, bc, within)) in
    let parts : c - a ≡ length first + (c - b) = omega (arith, long, ab, bc) in
    ap (λ k. take k (drop a xs)) parts ∙ ap (take (length first + (c - b))) (drop_split xs a b ab) ∙ take-append-add first (drop b xs) (c - b)

slice-front : {X : Type 0} (n : ℕ) (xs : List X) → slice_range xs 0 n ≡ take n xs
slice-front n xs = let same : n - 0 ≡ n = omega arith in ap (λ k. take k xs) same

piece-normal : (from to : ℕ) (ns : List (List Extent)) → from ≤ to → IsNormal (flat ns) → IsNormal (flat (slice_range ns from to))
piece-normal from to ns le normal =
    let parts = subst IsNormal (flat-pieces from to ns le) normal in
    record {
      rising = piece-rises from to ns le normal.rising;
      apart = apart-left (flat (slice_range ns from to)) (flat (drop to ns)) (apart-right (flat (take from ns)) (flat (slice_range ns from to) ++ flat (drop to ns)) parts.apart);
      places = piece-fits from to ns le normal.places;
    }

-- ---- entries of more leaves

-- a list that is changed as a whole
whole-changed : (first count : ℕ) (place : Option ℕ) (es new : List Extent) → first + count < 2 ^ 32 → IsNormal es → Joins 4294967295 (changed_extents first count place es) new → IsNormal new × ((b : ℕ) → place_of new b ≡ after first count place es b)
whole-changed first count place es new fits normal made =
    let s : Spliced first count place [] es [] new = record { fits = fits; normal = subst IsNormal (sym (append-nil es)) normal; before = tt; behind = tt; made = made } in (
      subst IsNormal (append-nil new) (spliced-normal first count place [] es [] new s),
      λ b. sym (ap (λ l. place_of l b) (append-nil new)) ∙ spliced-at first count place [] es [] new s b ∙ ap (λ l. after first count place l b) (append-nil es),
    )

-- leaves that the run does not meet keep their entries beside those of the others
entries-beside : (first count : ℕ) (place : Option ℕ) (front middle back some new : List Extent) → first + count < 2 ^ 32 → IsNormal (front ++ (middle ++ back)) → EndBefore first front → BeginBehind (first + count) back → Joins 4294967295 (changed_extents first count place middle) some → Joins 4294967295 (changed_extents first count place (front ++ (middle ++ back))) new → new ≡ front ++ (some ++ back)
entries-beside first count place front middle back some new fits normal before behind made more =
    let s : Spliced first count place front middle back some = record { fits = fits; normal = normal; before = before; behind = behind; made = made } in
    let all = whole-changed first count place (front ++ (middle ++ back)) new fits normal more in
    let parts = spliced-normal first count place front middle back some s in
    one-list 0 4294967295 new (front ++ (some ++ back)) all.0.rising parts.rising all.0.apart parts.apart (λ b. all.1 b ∙ sym (spliced-at first count place front middle back some s b))

front-before : (first from' from : ℕ) (ns : List (List Extent)) → from' ≤ from → from ≤ length ns → EndBefore first (flat (take from ns)) → EndBefore first (flat (slice_range ns from' from))
front-before first from' from ns le within before =
    let parts : flat (take from ns) ≡ flat (slice_range ns 0 from') ++ flat (slice_range ns from' from) =
    ap flat (sym (slice-front from ns) ∙ slice-two 0 from' from ns (omega arith) le within) ∙ flat-append (slice_range ns 0 from') (slice_range ns from' from) in
    all-right (λ e. e.logical + e.length < first) (flat (slice_range ns 0 from')) (flat (slice_range ns from' from)) (subst (EndBefore first) parts before)

back-behind : (block to to' : ℕ) (ns : List (List Extent)) → to ≤ to' → BeginBehind block (flat (drop to ns)) → BeginBehind block (flat (slice_range ns to to'))
back-behind block to to' ns le behind =
    let parts : flat (drop to ns) ≡ flat (slice_range ns to to') ++ flat (drop to' ns) = ap flat (drop_split ns to to' le) ∙ flat-append (slice_range ns to to') (drop to' ns) in
    all-left (λ e. block < e.logical) (flat (slice_range ns to to')) (flat (drop to' ns)) (subst (BeginBehind block) parts behind)

-- one leaf has as many entries as each has at least
one-leaf : (least most a b : ℕ) (ns : List (List Extent)) → HaveFrom least most ns → a + 1 ≡ b → b ≤ length ns → least ≤ length (flat (slice_range ns a b))
one-leaf least most a b ns have is within =
    let P : List Extent → Type 0 = λ n. (least ≤ length n) × (length n ≤ most) in
    let long : length (slice_range ns a b) ≡ 1 = slice-long a b ns (omega (arith, is)) within ∙ omega (arith, is) in
    let count = least-count least most (slice_range ns a b) (all-take P (b - a) (drop a ns) (all-drop P a ns have)) in
    let here : least * 1 ≤ length (flat (slice_range ns a b)) = subst (λ k. least * k ≤ length (flat (slice_range ns a b))) long count in
    let same : least * 1 ≡ least = omega arith in
    omega (arith, here, same)

pub wider-enough : (width first count : ℕ) (place : Option ℕ) (from to from' to' : ℕ) (ns : List (List Extent)) (some new : List Extent) → first + count < 2 ^ 32 → IsNormal (flat ns) → HaveFrom (width / 4) width ns → Touched first count from to ns → from' ≤ from → to ≤ to' → to' ≤ length ns → to' + from ≡ to + from' + 1 → Remade first count place from to ns some → Remade first count place from' to' ns new → width / 4 ≤ length new
wider-enough width first count place from to from' to' ns some new fits normal have t less more within one made wider =
    let front = slice_range ns from' from in
    let middle = slice_range ns from to in
    let back = slice_range ns to to' in
    let order = t.order in
    let parts : flat (slice_range ns from' to') ≡ flat front ++ (flat middle ++ flat back) =
    ap flat (slice-two from' from to' ns less (omega (arith, order, more)) within ∙ ap (λ l. front ++ l) (slice-two from to to' ns order more within)) ∙ flat-three front middle back in
    let is : new ≡ flat front ++ (some ++ flat back) = entries-beside first count place (flat front) (flat middle) (flat back) some new fits
    (subst IsNormal parts (piece-normal from' to' ns (omega (arith, order, less, more)) normal))
    (front-before first from' from ns less (omega (arith, order, t.within)) t.before) (back-behind (first + count) to to' ns more t.behind) made
    (subst (λ l. Joins 4294967295 (changed_extents first count place l) new) parts wider) in
    let long : length new ≡ length (flat front) + (length some + length (flat back)) = ap length is ∙ length-append (flat front) (some ++ flat back) ∙ ap (λ k. length (flat front) + k) (length-append some (flat back)) in
    elim (cases_lt from' from) [
      | inl lower ↦ omega (arith, long, one-leaf (width / 4) width from' from ns have (omega (arith, lower, one, more)) (omega (arith, order, t.within)))
      | inr same ↦ omega (arith, long, one-leaf (width / 4) width to to' ns have (omega (arith, same, one, less)) within)
    ]

-- ---- which leaves the run meets

pub met-but-one : (first count from to : ℕ) (ns : List (List Extent)) → Touched first count from to ns → MeetsEach first count from to ns → MeetsButOne first count from to ns
met-but-one first count from to ns t each = elim (cases_lt 1 (length ns)) [
  | inl several ↦ record { beside = to; met = λ k d low high other. each several k d low high }
  | inr single ↦ let all = t.single single in record { beside = 0; met = λ k d low high other. absurd (other (omega (arith, single, all.1, high))) }
]

pub met-wider : (first count from to from' to' : ℕ) (ns : List (List Extent)) → 1 < length ns → MeetsEach first count from to ns → from' ≤ from → to ≤ to' → to' + from ≡ to + from' + 1 → MeetsButOne first count from' to' ns
met-wider first count from to from' to' ns several each less more one = elim (cases_lt from' from) [
  | inl lower ↦ record { beside = from'; met = λ k d low high other. each several k d (omega (arith, low, other, lower, one, more)) (omega (arith, high, one, lower, more)) }
  | inr same ↦ record { beside = to; met = λ k d low high other. each several k d (omega (arith, low, same)) (omega (arith, high, other, one, same, less)) }
]

-- where the leaves that the run meets are not enough, there are several
pub several-more : (first count from to : ℕ) (ns : List (List Extent)) → Touched first count from to ns → ((from ≡ 0) × (to ≡ length ns) → ⊥) → 1 < length ns
several-more first count from to ns t not_all = elim (cases_lt 1 (length ns)) [
  | inl several ↦ several
  | inr single ↦ absurd (not_all (t.single single))
]

-- ---- all leaves

pub all-stay : (first count : ℕ) (ns : List (List Extent)) → OthersStay first count ns ns
all-stay first count ns = record { from = 0; to = 0; more = []; order = omega arith; within = omega arith; is = refl; beside = 0; met = λ k d low high other. absurd (omega (arith, high)) }

pub others-stay : (first count from to : ℕ) (old seen packed new : List (List Extent)) → seen ≡ old → Touched first count from to seen → MeetsButOne first count from to seen → new ≡ take from old ++ (packed ++ drop to old) → OthersStay first count old new
others-stay first count from to old seen packed new is_old touched met is =
    let t = subst (Touched first count from to) is_old touched in
    let m = subst (MeetsButOne first count from to) is_old met in
    record { from = from; to = to; more = packed; order = t.order; within = t.within; is = is; beside = m.beside; met = m.met }
