-- The units of nodes, counted one after the other as they stand in a map in order.
use Rattle.std.proofs.Common.{◌≡◌, ◌≢◌, ◌⊎◌, inl, inr, ℕ, zero, suc, ◌+◌, ◌*◌, ◌^◌, ◌<◌, ◌≤◌, Bool, false, cond, leb, List, [], ◌∷◌, Some, None, refl, sym, ap, ◌∙◌, arith, ◌&&◌}
use Rattle.std.proofs.lemmas.Bool.{cases_lt, le-leb, lt-leb}
use Rattle.std.specs.List.{AllByRecursion}
use Rattle.std.specs.List.Sorted.{IsStrictlySortedBy}
use Rattle.std.specs.Ordering.{nat_cmp, is_eq}
use Rattle.std.specs.declared.cmp.Ordering.{Ordering}
use Rattle.std.specs.declared.cmp.Ordering.TheVariants.{Less, Equal, Greater}
use Rattle.std.specs.Cmp.{nat_cmp_total, tied_itself, ranked}
use Rattle.std.specs.Map.{lookup, keys_of}
use Rattle.std.specs.BTreeMap.{BTreeMap, get, is_at}
use Rattle.file_graph.specs.Graph.{Graph, Node, cost}
use Rattle.posix_calls.specs.Tree.{sum_up_to}
use Rattle.file_graph.specs.Units.{charge}
use Rattle.file_graph.specs.Plain.{units_at}

-- ---- sums where one count changes

same_sum : (n : ℕ) (f g : ℕ → ℕ) (d : ℕ) → ((j : ℕ) → j ≢ d → g j ≡ f j) → (n < d) ⊎ (d < 1) → sum_up_to n g ≡ sum_up_to n f
unfolding sum_up_to
same_sum zero f g d same out = refl
same_sum (suc n) f g d same (inl below) =
    let first : g (suc n) ≡ f (suc n) = same (suc n) (λ e. omega (arith, e)) in
    let rest : sum_up_to n g ≡ sum_up_to n f = same_sum n f g d same (inl (omega arith)) in
    omega (arith, first, rest)
same_sum (suc n) f g d same (inr nothing) =
    let first : g (suc n) ≡ f (suc n) = same (suc n) (λ e. omega (arith, e)) in
    let rest : sum_up_to n g ≡ sum_up_to n f = same_sum n f g d same (inr nothing) in
    omega (arith, first, rest)

one_changes : (n : ℕ) (f g : ℕ → ℕ) (d : ℕ) → 1 ≤ d → d ≤ n → ((j : ℕ) → j ≢ d → g j ≡ f j) → sum_up_to n g + f d ≡ sum_up_to n f + g d
unfolding sum_up_to
one_changes zero f g d low high same = absurd (omega arith)
one_changes (suc n) f g d low high same =
    elim (cases_lt n d) [
      | inr inside ↦
          let first : g (suc n) ≡ f (suc n) = same (suc n) (λ e. omega (arith, e)) in
          let rest : sum_up_to n g + f d ≡ sum_up_to n f + g d = one_changes n f g d low inside same in
          omega (arith, first, rest)
      | inl outside ↦
          let last : d ≡ suc n = omega arith in
          let gd : g d ≡ g (suc n) = ap g last in
          let fd : f d ≡ f (suc n) = ap f last in
          let rest : sum_up_to n g ≡ sum_up_to n f = same_sum n f g d same (inl outside) in
          omega (arith, gd, fd, rest)
    ]

no_units : (n : ℕ) → sum_up_to n (λ i. 0) ≡ 0
unfolding sum_up_to
no_units zero = refl
no_units (suc n) = let rest : sum_up_to n (λ i. 0) ≡ 0 = no_units n in omega (arith, rest)

-- ---- the sum over the inodes is the sum over the nodes that there are

-- what the nodes of a list cost
abbrev pub units_of : List (ℕ × Node) → ℕ
units_of [] = 0
units_of (e ∷ es) = units_at e.0 e.1 + units_of es

abbrev graph_in : List (ℕ × Node) → Graph
graph_in es k = lookup (is_at (nat_cmp k)) es

other_key : (j d : ℕ) → j ≢ d → is_eq (nat_cmp j d) ≡ false
other_key j d apart =
    elim (nat_cmp j d) as (λ r. nat_cmp j d ≡ r → is_eq r ≡ false) [
      | Less ↦ λ e. refl
      | Equal ↦ λ e. absurd (apart (ranked j d Equal (sym e)))
      | Greater ↦ λ e. refl
    ] refl

not_above : (k : ℕ) (es : List (ℕ × Node)) → AllByRecursion (λ y. nat_cmp k y ≡ Less) (keys_of es) → graph_in es k ≡ None
not_above k [] h = refl
not_above k (e ∷ es) h = ap (λ (r : Ordering). cond (is_eq r) (Some e.1) (graph_in es k)) h.0 ∙ not_above k es h.1

abbrev costs : List (ℕ × Node) → ℕ → ℕ
costs es k = cost (graph_in es k)

in_range : (d v : ℕ) → 1 ≤ d → d ≤ 1024 → cond (leb 1 d && leb d 1024) v 0 ≡ v
in_range d v low high = ap (λ (b : Bool). cond (b && leb d 1024) v 0) (le-leb 1 d low) ∙ ap (λ (b : Bool). cond b v 0) (le-leb d 1024 high)

too_low : (d v : ℕ) → d < 1 → cond (leb 1 d && leb d 1024) v 0 ≡ 0
too_low d v out = ap (λ (b : Bool). cond (b && leb d 1024) v 0) (lt-leb 1 d out)

too_high : (d v : ℕ) → 1024 < d → cond (leb 1 d && leb d 1024) v 0 ≡ 0
too_high d v out = ap (λ (b : Bool). cond (b && leb d 1024) v 0) (le-leb 1 d (omega (arith, out))) ∙ ap (λ (b : Bool). cond b v 0) (lt-leb d 1024 out)

units_are : (es : List (ℕ × Node)) → IsStrictlySortedBy nat_cmp (keys_of es) → sum_up_to 1024 (costs es) ≡ units_of es
unfolding IsStrictlySortedBy
units_are [] ascend = no_units 1024
units_are (e ∷ es) ascend =
    let rest : sum_up_to 1024 (costs es) ≡ units_of es = units_are es ascend.1 in
    let same : (j : ℕ) → j ≢ e.0 → costs (e ∷ es) j ≡ costs es j = λ j apart. ap (λ (b : Bool). cost (cond b (Some e.1) (graph_in es j))) (other_key j e.0 apart) in
    let gone : costs es e.0 ≡ 0 = ap cost (not_above e.0 es ascend.0) in
    let here : costs (e ∷ es) e.0 ≡ cost (Some e.1) = ap (λ (r : Ordering). cost (cond (is_eq r) (Some e.1) (graph_in es e.0))) (tied_itself nat_cmp_total e.0) in
    elim (cases_lt e.0 1) [
      | inl low ↦
          let sum : sum_up_to 1024 (costs (e ∷ es)) ≡ sum_up_to 1024 (costs es) = same_sum 1024 (costs es) (costs (e ∷ es)) e.0 same (inr low) in
          let nothing : units_at e.0 e.1 ≡ 0 = too_low e.0 (cost (Some e.1)) low in
          omega (arith, sum, rest, nothing)
      | inr low ↦ elim (cases_lt 1024 e.0) [
        | inl high ↦
            let sum : sum_up_to 1024 (costs (e ∷ es)) ≡ sum_up_to 1024 (costs es) = same_sum 1024 (costs es) (costs (e ∷ es)) e.0 same (inl high) in
            let nothing : units_at e.0 e.1 ≡ 0 = too_high e.0 (cost (Some e.1)) high in
            omega (arith, sum, rest, nothing)
        | inr high ↦
            let sum : sum_up_to 1024 (costs (e ∷ es)) + costs es e.0 ≡ sum_up_to 1024 (costs es) + costs (e ∷ es) e.0 = one_changes 1024 (costs es) (costs (e ∷ es)) e.0 low high same in
            let counted : units_at e.0 e.1 ≡ cost (Some e.1) = in_range e.0 (cost (Some e.1)) low high in
            omega (arith, sum, rest, gone, here, counted)
      ]
    ]

-- ---- counting

-- room for one more node's units, where the next number is an inode's
abbrev pub IsLow : ℕ → List (ℕ × Node) → Type 0
IsLow so_far [] = Unit {0}
IsLow so_far (e ∷ es) = e.0 ≤ 1024 → so_far ≤ 2 ^ 53 * e.0

-- some nodes are counted, and some are left
pub record Counted (g : Graph) (so_far : ℕ) (left : List (ℕ × Node)) : Type 0 where
  pub all : so_far + units_of left ≡ charge g
  pub ascend : IsStrictlySortedBy nat_cmp (keys_of left)
  pub low : IsLow so_far left

low_at_first : (es : List (ℕ × Node)) → IsLow 0 es
low_at_first [] = tt
low_at_first (e ∷ es) = λ h. omega arith

pub none_counted : (m : BTreeMap ℕ Node) → IsStrictlySortedBy nat_cmp (keys_of m.entries) → Counted (get nat_cmp m) 0 m.entries
unfolding charge
none_counted m ascend = let sum : sum_up_to 1024 (costs m.entries) ≡ units_of m.entries = units_are m.entries ascend in record { all = omega (arith, sum); ascend = ascend; low = low_at_first m.entries }

outside : (e : ℕ × Node) → 1024 < e.0 → units_at e.0 e.1 ≡ 0
outside e high = too_high e.0 (cost (Some e.1)) high

pub one_fits : (so_far : ℕ) (e : ℕ × Node) (es : List (ℕ × Node)) → IsLow so_far (e ∷ es) → so_far < 2 ^ 64 → units_at e.0 e.1 < 2 ^ 53 → so_far + units_at e.0 e.1 < 2 ^ 64
one_fits so_far e es low fits small =
    elim (cases_lt 1024 e.0) [
      | inl high ↦ let nothing : units_at e.0 e.1 ≡ 0 = outside e high in omega (arith, fits, nothing)
      | inr inside ↦ let bound : so_far ≤ 2 ^ 53 * e.0 = low inside in omega (arith, bound, inside, small)
    ]

low_again : (so_far : ℕ) (e : ℕ × Node) (es : List (ℕ × Node)) → IsStrictlySortedBy nat_cmp (keys_of (e ∷ es)) → IsLow so_far (e ∷ es) → units_at e.0 e.1 < 2 ^ 53 → IsLow (so_far + units_at e.0 e.1) es
unfolding IsStrictlySortedBy
low_again so_far e [] ascend low small = tt
low_again so_far e (f ∷ es) ascend low small = λ inside.
    let above : e.0 < f.0 = ranked e.0 f.0 Less (sym ascend.0.0) in
    let bound : so_far ≤ 2 ^ 53 * e.0 = low (omega (arith, above, inside)) in
    omega (arith, above, bound, small)

pub one_counted : (g : Graph) (so_far : ℕ) (e : ℕ × Node) (es : List (ℕ × Node)) → Counted g so_far (e ∷ es) → units_at e.0 e.1 < 2 ^ 53 → Counted g (so_far + units_at e.0 e.1) es
unfolding IsStrictlySortedBy
one_counted g so_far e es before small =
    let sum : so_far + (units_at e.0 e.1 + units_of es) ≡ charge g = before.all in
    record { all = omega (arith, sum); ascend = before.ascend.1; low = low_again so_far e es before.ascend before.low small }

pub all_counted : (g : Graph) (so_far : ℕ) → Counted g so_far [] → so_far ≡ charge g
all_counted g so_far before = let sum : so_far + 0 ≡ charge g = before.all in omega (arith, sum)
