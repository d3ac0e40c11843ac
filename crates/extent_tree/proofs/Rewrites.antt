-- A level of which some nodes are rewritten.
use Rattle.std.proofs.Common.{◌≡◌, ◌≤◌, ◌<◌, inl, inr, ℕ, ◌+◌, ◌-◌, ◌/◌, ◌^◌, List, [], ◌++◌, length, take, drop, sym, ap, ◌∙◌, arith, subst, append_assoc, length-append, Option}
use Rattle.std.specs.Prelude.{slice_range}
use Rattle.std.specs.List.{AllByRecursion}
use Rattle.std.proofs.lemmas.Bool.{cases_lt}
use Rattle.std.proofs.lemmas.List.{append-nil, take-append-drop, drop_all, drop_at, take_at, take-take, take_rest, length-drop}
use Rattle.std.proofs.Math.Seq.{take-append-add}
use Rattle.std.proofs.lemmas.List.Folds.{drop_split}
use Rattle.layout.specs.declared.extents.Extent.{Extent}
use Rattle.extent_tree.specs.Places.{place_of}
use Rattle.extent_tree.specs.Normal.{IsRising, PlacesFit, IsNormal}
use Rattle.extent_tree.specs.Changes.{after}
use Rattle.extent_tree.specs.Nodes.{flat, last_end, summaries, AreFilled, HaveFrom}
use Rattle.extent_tree.proofs.Joined.{all-left, all-right, all-append}
use Rattle.extent_tree.proofs.Rising.{rising-wider, rising-left, rising-right}
use Rattle.extent_tree.proofs.Summaries.{flat-append, summaries-append}
use Rattle.extent_tree.proofs.Splices.{Spliced, spliced-normal, spliced-at}
use Rattle.extent_tree.proofs.Levels.{before-less, behind-less}
use Rattle.extent_tree.proofs.Trees.{nodes-few}
use Rattle.extent_tree.specs.Tree.{IsLevel, IsNeeded}
use Rattle.extent_tree.specs.LeafChoice.{Touched, Remade, IsEnough}

-- ---- three pieces of a level

pub all-take : {X : Type 0} (P : X → Type 0) (i : ℕ) (xs : List X) → AllByRecursion P xs → AllByRecursion P (take i xs)
all-take P i xs all = all-left P (take i xs) (drop i xs) (subst (AllByRecursion P) (sym (take-append-drop i xs)) all)

pub all-drop : {X : Type 0} (P : X → Type 0) (i : ℕ) (xs : List X) → AllByRecursion P xs → AllByRecursion P (drop i xs)
all-drop P i xs all = all-right P (take i xs) (drop i xs) (subst (AllByRecursion P) (sym (take-append-drop i xs)) all)

pub three-pieces : {X : Type 0} (from to : ℕ) (xs : List X) → from ≤ to → xs ≡ take from xs ++ (slice_range xs from to ++ drop to xs)
three-pieces from to xs le = sym (take-append-drop from xs) ∙ ap (λ l. take from xs ++ l) (drop_split xs from to le)

pub flat-three : (xs ys zs : List (List Extent)) → flat (xs ++ (ys ++ zs)) ≡ flat xs ++ (flat ys ++ flat zs)
flat-three xs ys zs = flat-append xs (ys ++ zs) ∙ ap (λ l. flat xs ++ l) (flat-append ys zs)

pub flat-pieces : (from to : ℕ) (ns : List (List Extent)) → from ≤ to → flat ns ≡ flat (take from ns) ++ (flat (slice_range ns from to) ++ flat (drop to ns))
flat-pieces from to ns le = ap flat (three-pieces from to ns le) ∙ flat-three (take from ns) (slice_range ns from to) (drop to ns)

pub piece-rising : (from to : ℕ) (ns : List (List Extent)) → from ≤ to → IsRising 0 4294967295 (flat ns) → (low : ℕ) × IsRising low 4294967295 (flat (slice_range ns from to))
piece-rising from to ns le is =
    let parts = subst (IsRising 0 4294967295) (flat-pieces from to ns le) is in
    (_, rising-left _ 4294967295 (flat (slice_range ns from to)) (flat (drop to ns)) (rising-right 0 4294967295 (flat (take from ns)) (flat (slice_range ns from to) ++ flat (drop to ns)) parts))

pub piece-rises : (from to : ℕ) (ns : List (List Extent)) → from ≤ to → IsRising 0 4294967295 (flat ns) → IsRising 0 4294967295 (flat (slice_range ns from to))
piece-rises from to ns le is = let p = piece-rising from to ns le is in rising-wider p.0 4294967295 0 4294967295 (flat (slice_range ns from to)) p.1 (omega arith) (omega arith)

pub piece-fits : (from to : ℕ) (ns : List (List Extent)) → from ≤ to → PlacesFit (flat ns) → PlacesFit (flat (slice_range ns from to))
piece-fits from to ns le fit =
    let P : Extent → Type 0 = λ e. e.place + e.length < 2 ^ 32 in
    all-left P (flat (slice_range ns from to)) (flat (drop to ns)) (all-right P (flat (take from ns)) (flat (slice_range ns from to) ++ flat (drop to ns)) (subst PlacesFit (flat-pieces from to ns le) fit))

-- ---- the leaves once some are rewritten

-- what a change comes to: the leaves that stay, and the nodes in place of the others
pub record Rewritten (width first count : ℕ) (place : Option ℕ) (from to : ℕ) (old packed : List (List Extent)) (entries : List Extent) : Type 0 where
  pub fits : first + count < 2 ^ 32
  pub touched : Touched first count from to old
  pub made : Remade first count place from to old entries
  pub enough : IsEnough width from to old entries
  pub flat_is : flat packed ≡ entries
  pub one : length entries ≤ width → length packed ≤ 1
  pub filled : AreFilled packed
  pub most : HaveFrom 0 width packed
  pub quarter : width / 4 ≤ length entries → HaveFrom (width / 4) width packed

spliced : (width first count : ℕ) (place : Option ℕ) (from to : ℕ) (old packed : List (List Extent)) (entries : List Extent) → IsNormal (flat old) → Rewritten width first count place from to old packed entries → Spliced first count place (flat (take from old)) (flat (slice_range old from to)) (flat (drop to old)) entries
spliced width first count place from to old packed entries normal r = record {
  fits = r.fits;
  normal = subst IsNormal (flat-pieces from to old r.touched.order) normal;
  before = r.touched.before;
  behind = r.touched.behind;
  made = r.made;
}

flat-new : (from to : ℕ) (old packed : List (List Extent)) (entries : List Extent) → flat packed ≡ entries → flat (take from old ++ (packed ++ drop to old)) ≡ flat (take from old) ++ (entries ++ flat (drop to old))
flat-new from to old packed entries is = flat-three (take from old) packed (drop to old) ∙ ap (λ l. flat (take from old) ++ (l ++ flat (drop to old))) is

pub rewritten-normal : (width first count : ℕ) (place : Option ℕ) (from to : ℕ) (old packed : List (List Extent)) (entries : List Extent) → IsNormal (flat old) → Rewritten width first count place from to old packed entries → IsNormal (flat (take from old ++ (packed ++ drop to old)))
rewritten-normal width first count place from to old packed entries normal r =
    subst IsNormal (sym (flat-new from to old packed entries r.flat_is))
    (spliced-normal first count place (flat (take from old)) (flat (slice_range old from to)) (flat (drop to old)) entries (spliced width first count place from to old packed entries normal r))

pub rewritten-at : (width first count : ℕ) (place : Option ℕ) (from to : ℕ) (old packed : List (List Extent)) (entries : List Extent) → IsNormal (flat old) → Rewritten width first count place from to old packed entries → (b : ℕ) → place_of (flat (take from old ++ (packed ++ drop to old))) b ≡ after first count place (flat old) b
rewritten-at width first count place from to old packed entries normal r b =
    ap (λ l. place_of l b) (flat-new from to old packed entries r.flat_is)
    ∙ spliced-at first count place (flat (take from old)) (flat (slice_range old from to)) (flat (drop to old)) entries (spliced width first count place from to old packed entries normal r) b
    ∙ ap (λ l. after first count place l b) (sym (flat-pieces from to old r.touched.order))

-- all leaves are rewritten
whole : (from to : ℕ) (old packed : List (List Extent)) → from ≡ 0 → to ≡ length old → take from old ++ (packed ++ drop to old) ≡ packed
whole from to old packed none all =
    (λ i. take (none i) old ++ (packed ++ drop (all i) old)) ∙ ap (λ l. packed ++ l) (drop_all (length old) old (omega arith)) ∙ append-nil packed

-- nodes that some entries were packed into
packed-level : (width : ℕ) (packed : List (List Extent)) (entries : List Extent) → (length entries ≤ width → length packed ≤ 1) → AreFilled packed → HaveFrom 0 width packed → (width / 4 ≤ length entries → HaveFrom (width / 4) width packed) → IsLevel width packed
packed-level width packed entries one filled most quarter = record {
  filled = filled;
  most = most;
  quarter = λ several. quarter (elim (cases_lt width (length entries)) [
    | inl more ↦ omega (arith, more)
    | inr few ↦ absurd (omega (arith, one few, several))
  ]);
}

whole-level : (width first count : ℕ) (place : Option ℕ) (from to : ℕ) (old packed : List (List Extent)) (entries : List Extent) → Rewritten width first count place from to old packed entries → IsLevel width packed
whole-level width first count place from to old packed entries r = packed-level width packed entries r.one r.filled r.most r.quarter

pub rewritten-level : (width first count : ℕ) (place : Option ℕ) (from to : ℕ) (old packed : List (List Extent)) (entries : List Extent) → IsLevel width old → Rewritten width first count place from to old packed entries → IsLevel width (take from old ++ (packed ++ drop to old))
rewritten-level width first count place from to old packed entries level r = elim (cases_lt 1 (length old)) [
  | inl several ↦ elim r.enough [
    | inl enough ↦ record {
      filled = three (λ n. 0 < length n) level.filled r.filled;
      most = three (λ n. (0 ≤ length n) × (length n ≤ width)) level.most r.most;
      quarter = λ _. three (λ n. (width / 4 ≤ length n) × (length n ≤ width)) (level.quarter several) (r.quarter enough);
    }
    | inr all ↦ subst (IsLevel width) (sym (whole from to old packed all.0 all.1)) (whole-level width first count place from to old packed entries r)
  ]
  | inr single ↦ let all = r.touched.single single in subst (IsLevel width) (sym (whole from to old packed all.0 all.1)) (whole-level width first count place from to old packed entries r)
]
  where
    three : (P : List Extent → Type 0) → AllByRecursion P old → AllByRecursion P packed → AllByRecursion P (take from old ++ (packed ++ drop to old))
    three P all new = all-append P (take from old) (packed ++ drop to old) (all-take P from old all) (all-append P packed (drop to old) new (all-drop P to old all))

-- a single leaf becomes several only where one could not hold the entries
pub rewritten-needed : (width first count : ℕ) (place : Option ℕ) (from to : ℕ) (old packed : List (List Extent)) (entries : List Extent) → Rewritten width first count place from to old packed entries → length old ≤ 1 → IsNeeded width (take from old ++ (packed ++ drop to old))
rewritten-needed width first count place from to old packed entries r single =
    let all = r.touched.single single in
    subst (IsNeeded width) (sym (whole from to old packed all.0 all.1))
    (λ several. elim (cases_lt width (length entries)) [
      | inl more ↦ omega (arith, more, ap length r.flat_is)
      | inr few ↦ absurd (omega (arith, r.one few, several))
    ])

-- ---- more leaves are taken

pub touched-wider : (first count from to from' to' : ℕ) (ns : List (List Extent)) → Touched first count from to ns → from' ≤ from → to ≤ to' → to' ≤ length ns → Touched first count from' to' ns
touched-wider first count from to from' to' ns t less more within = record {
  order = omega (arith, t.order, less, more);
  within = within;
  before = before-less first from from' ns less t.before;
  behind = behind-less (first + count) to to' ns more t.behind;
  single = λ single. let all = t.single single in (omega (arith, all.0, less), omega (arith, all.1, more, within));
}

pub wider-within : (from to from' to' n : ℕ) → ((from ≡ 0) × (to ≡ n) → ⊥) → to ≤ n → from' ≤ from → to' + from ≡ to + from' + 1 → (0 < from → to' ≡ to) → to' ≤ n
wider-within from to from' to' n not_all within less one end = elim (cases_lt 0 from) [
  | inl some ↦ omega (arith, end some, within)
  | inr none ↦ elim (cases_lt to n) [
    | inl room ↦ omega (arith, one, none, less, room)
    | inr full ↦ absurd (not_all (omega (arith, none), omega (arith, full, within)))
  ]
]

-- ---- three slices of nodes

pub three-filled : (xs ys zs : List (List Extent)) → AreFilled xs → AreFilled ys → AreFilled zs → AreFilled (xs ++ (ys ++ zs))
three-filled xs ys zs a b c = let P : List Extent → Type 0 = λ n. 0 < length n in all-append P xs (ys ++ zs) a (all-append P ys zs b c)

pub three-few : (xs ys zs : List (List Extent)) → IsRising 0 4294967295 (flat xs ++ (flat ys ++ flat zs)) → AreFilled xs → AreFilled ys → AreFilled zs → length xs + length ys + length zs ≤ 4294967295
three-few xs ys zs rising a b c =
    omega (arith, nodes-few (xs ++ (ys ++ zs)) (subst (IsRising 0 4294967295) (sym (flat-three xs ys zs)) rising) (three-filled xs ys zs a b c), length-append xs (ys ++ zs), length-append ys zs)

pub middle-rises : (xs ys zs : List Extent) → IsRising 0 4294967295 (xs ++ (ys ++ zs)) → IsRising 0 4294967295 ys
middle-rises xs ys zs is = rising-wider (last_end 0 xs) 4294967295 0 4294967295 ys (rising-left (last_end 0 xs) 4294967295 ys zs (rising-right 0 4294967295 xs (ys ++ zs) is)) (omega arith) (omega arith)

pub back-rises : (xs ys zs : List Extent) → IsRising 0 4294967295 (xs ++ (ys ++ zs)) → IsRising 0 4294967295 zs
back-rises xs ys zs is =
    let low = last_end 0 xs in
    rising-wider (last_end low ys) 4294967295 0 4294967295 zs (rising-right low 4294967295 ys zs (rising-right 0 4294967295 xs (ys ++ zs) is)) (omega arith) (omega arith)

pub three-covers : (xs ys zs : List (List Extent)) → ([] ++ summaries 0 xs ++ summaries (length xs) ys) ++ summaries (length xs + length ys) zs ≡ summaries 0 (xs ++ (ys ++ zs))
three-covers xs ys zs =
    let a : 0 + length xs ≡ length xs = omega arith in
    append_assoc (summaries 0 xs) (summaries (length xs) ys) (summaries (length xs + length ys) zs)
    ∙ sym (summaries-append 0 xs (ys ++ zs) ∙ ap (λ l. summaries 0 xs ++ l) (summaries-append (0 + length xs) ys zs) ∙ ap (λ k. summaries 0 xs ++ (summaries k ys ++ summaries (k + length ys) zs)) a)

-- ---- leaves put in the place of others

pub turned : {X : Type 0} (xs more : List X) (from to back : ℕ) → from ≤ to → to ≤ length xs → back ≡ length xs - to
    → drop back (take (back + from) (drop to xs ++ take to xs) ++ more) ++ take back (take (back + from) (drop to xs ++ take to xs) ++ more) ≡ take from xs ++ (more ++ drop to xs)
turned xs more from to back order within is =
    let d = drop to xs in
    let long : length d ≡ back = length-drop to xs ∙ sym is in
    let cut : take (back + from) (d ++ take to xs) ≡ d ++ take from xs = ap (λ k. take (k + from) (d ++ take to xs)) (sym long) ∙ take-append-add d (take to xs) from ∙ ap (λ l. d ++ l) (take-take from to xs order) in
    let whole : take (back + from) (d ++ take to xs) ++ more ≡ d ++ (take from xs ++ more) = ap (λ l. l ++ more) cut ∙ append_assoc d (take from xs) more in
    (λ i. drop back (whole i) ++ take back (whole i))
    ∙ (λ i. drop_at d (take from xs ++ more) back long i ++ take_at d (take from xs ++ more) back long i)
    ∙ append_assoc (take from xs) more d

-- ---- what the calls of a change tell, put together

pub told : (width first count : ℕ) (place : Option ℕ) (from to : ℕ) (old seen packed : List (List Extent)) (entries given : List Extent) → seen ≡ old → given ≡ entries → first + count < 2 ^ 32
    → Touched first count from to seen → Remade first count place from to seen entries → IsEnough width from to seen entries
    → flat packed ≡ given → (length given ≤ width → length packed ≤ 1) → AreFilled packed → HaveFrom 0 width packed → (width / 4 ≤ length given → HaveFrom (width / 4) width packed)
    → Rewritten width first count place from to old packed entries
told width first count place from to old seen packed entries given is_old is_entries fits touched made enough flat_is one filled most quarter = record {
  fits = fits;
  touched = subst (Touched first count from to) is_old touched;
  made = subst (λ l. Remade first count place from to l entries) is_old made;
  enough = subst (λ l. IsEnough width from to l entries) is_old enough;
  flat_is = flat_is ∙ is_entries;
  one = subst (λ l. length l ≤ width → length packed ≤ 1) is_entries one;
  filled = filled;
  most = most;
  quarter = subst (λ l. width / 4 ≤ length l → HaveFrom (width / 4) width packed) is_entries quarter;
}

-- the three slices are the new leaves
pub slices : (from to : ℕ) (old packed a b c : List (List Extent)) → a ≡ old → b ≡ packed → c ≡ old → take from a ++ (b ++ take (length c - to) (drop to c)) ≡ take from old ++ (packed ++ drop to old)
slices from to old packed a b c is_a is_b is_c =
    (λ i. take from (is_a i) ++ (is_b i ++ take (length (is_c i) - to) (drop to (is_c i)))) ∙ ap (λ l. take from old ++ (packed ++ l)) (take_rest old to)
