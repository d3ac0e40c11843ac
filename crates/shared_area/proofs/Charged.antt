-- What the inodes of a change cost, and the charge.
use Rattle.std.proofs.Common.{◌≡◌, ◌≤◌, ◌<◌, ◌+◌, ◌*◌, ◌==◌, ◌||◌, ◌∙◌, inl, inr, ℕ, zero, suc, List, [], ◌∷◌, Bool, true, false, Option, Some, None, length, drop, get_or, refl, ap, subst, arith}
use Rattle.std.specs.Prelude.{is_some, unwrap_or, if◌then◌else◌}
use Rattle.std.specs.FinMap as fin
use Rattle.std.specs.List.{Contains, list_any, sum_by}
use Rattle.std.specs.Ordering.{nat_cmp, eq_by_cmp}
use Rattle.std.proofs.lemmas.Bool.{cond-true, cond-false, eq-eqb, ne_eqb, or_left, or_right, true≢false}
use Rattle.std.proofs.lemmas.List.{length-map}
use Rattle.std.proofs.lemmas.List.Sums.{sum_by-cons}
use Rattle.record_validation.specs.file_graph.Graph.{Graph, Node, cost, is_among}
use Rattle.record_validation.specs.file_graph.Units.{charge}
use Rattle.area_reader.specs.graph_change.Bounds.{AreBounded}
use Rattle.area_reader.specs.graph_change.Change.{Change, Changes, changed_graph, net_of, new_change}
use Rattle.area_reader.specs.graph_change.Net.{Kept, node_after}
use Rattle.area_reader.proofs.graph_change_lemmas.Law.{empty_at, coalesced_law}
use Rattle.area_reader.specs.layout.Places.{Sizes, is_inode}
use Rattle.area_reader.specs.layout.Slot.{fits_slot}
use Rattle.area_reader.specs.Store.{Store, slot, graph}
use Rattle.area_reader.specs.Format.{IsSpelled}
use Rattle.area_reader.specs.Units.{slot_units}
use Rattle.area_reader.proofs.Costs.{units_told, few_units}
use Rattle.area_reader.proofs.Parts.{slot_as}
use Rattle.change_plan.specs.area_commit.declared.slots.ChangedSlot.{ChangedSlot}
use Rattle.change_plan.proofs.area_commit_lemmas.Members.{cons_cases, cons_here, cons_there, nothing}
use Rattle.change_plan.proofs.area_commit_lemmas.Chosen.{inode_range}
use Rattle.change_plan.specs.area_commit.BlockExchange.{AreInodesOnce}
use Rattle.change_plan.specs.ReadSlots.{HaveSlots}
use Rattle.change_plan.proofs.Climbs.{Climb, keys_climb, key_has}
use Rattle.change_plan.proofs.Walked.{same_number}
use Rattle.change_plan.proofs.Wants.{entries_few}
use Rattle.shared_area.specs.Costs.{units_in}

-- ---- the inodes of a change

any_among : (i : ℕ) (ks : List ℕ) → list_any (eq_by_cmp nat_cmp i) ks ≡ is_among i ks
any_among i [] = refl
any_among i (k ∷ ks) = ap (λ (b : Bool). b || list_any (eq_by_cmp nat_cmp i) ks) (same_number i k) ∙ ap (λ (b : Bool). (k == i) || b) (any_among i ks)

none_there : (o : Option Change) → is_some o ≡ false → o ≡ None
none_there None is = refl
none_there (Some c) is = absurd (true≢false is)

kept_node : (x : Option Node) → node_after (net_of (new_change Kept)) x ≡ x
kept_node x = subst (λ c. node_after (net_of c) x ≡ x) (empty_at 0) (ap (λ (h : Graph). h 0) (coalesced_law [] (λ _. x)))

-- of the others nothing is said
stays_so : (cs : Changes) (old : Graph) (i : ℕ) → is_among i (fin.keys cs) ≡ false → changed_graph cs old i ≡ old i
stays_so cs old i other =
    let none : fin.contains_key cs i ≡ false = fin.contains_key-keys cs i ∙ (any_among i (fin.keys cs) ∙ other) in
    ap (λ o. node_after (net_of (unwrap_or o (new_change Kept))) (old i)) (none_there (fin.get cs i) none) ∙ kept_node (old i)

contains_among : (is : List ℕ) (i : ℕ) → Contains is i → is_among i is ≡ true
contains_among [] i at = absurd (nothing i at)
contains_among (j ∷ is) i at = elim (cons_cases j is i at) [
  | inl here ↦ or_left (j == i) (is_among i is) (eq-eqb j i here)
  | inr there ↦ or_right (j == i) (is_among i is) (contains_among is i there)
]

below_all : (low : ℕ) (is : List ℕ) (i : ℕ) → Climb low is → i < low → is_among i is ≡ false
below_all low [] i climb less = refl
below_all low (j ∷ is) i climb less =
    let from = climb.0 in
    ap (λ b. b || is_among i is) (ne_eqb j i (λ e. absurd (omega (arith, less, from, e)))) ∙ below_all (j + 1) is i climb.1 (omega (arith, less, from))

climb_once : (low : ℕ) (is : List ℕ) → Climb low is → ((i : ℕ) → Contains is i → is_inode i ≡ true) → AreInodesOnce is
climb_once low [] climb each = tt
climb_once low (i ∷ is) climb each = (each i (cons_here i is i refl), below_all (i + 1) is i climb.1 (omega arith), climb_once (i + 1) is climb.1 (λ j at. each j (cons_there i is j at)))

-- each stands there once
keys_once : (cs : Changes) → AreBounded cs → AreInodesOnce (fin.keys cs)
keys_once cs bounded = climb_once 0 (fin.keys cs) (keys_climb cs) (λ k at. bounded.inodes k (key_has cs k at))

-- ---- sums

sums_same : (is : List ℕ) (f h : ℕ → ℕ) → ((i : ℕ) → Contains is i → f i ≡ h i) → sum_by f is ≡ sum_by h is
sums_same [] f h same = refl
sums_same (i ∷ is) f h same =
    let here = same i (cons_here i is i refl) in
    let rest = sums_same is f h (λ j at. same j (cons_there i is j at)) in
    omega (arith, here, rest, sum_by-cons f i is, sum_by-cons h i is)

sums_none : (is : List ℕ) (f : ℕ → ℕ) → ((i : ℕ) → Contains is i → f i ≡ 0) → sum_by f is ≡ 0
sums_none [] f none = refl
sums_none (i ∷ is) f none =
    let here = none i (cons_here i is i refl) in
    let rest = sums_none is f (λ j at. none j (cons_there i is j at)) in
    omega (arith, here, rest, sum_by-cons f i is)

once_inode : (is : List ℕ) → AreInodesOnce is → (i : ℕ) → Contains is i → is_inode i ≡ true
once_inode [] once i at = absurd (nothing i at)
once_inode (j ∷ is) once i at = elim (cons_cases j is i at) [
  | inl here ↦ subst (λ (n : ℕ). is_inode n ≡ true) here once.0
  | inr there ↦ once_inode is once.2 i there
]

-- slots tell what inodes cost
slots_tell : (g : Sizes) (s : Store) (is : List ℕ) → IsSpelled g s → AreInodesOnce is → sum_by (λ i. cost (graph g s i)) is ≡ units_in g s is
slots_tell g s is spelled once = sums_same is (λ i. cost (graph g s i)) (λ i. slot_units (slot g s i)) (λ i at. units_told g s i (spelled.inodes i (once_inode is once i at)))

-- What is known of the charge of graphs of which some inodes differ.
abbrev pub GraphsDiffer : Type 0
GraphsDiffer = (old new : Graph) (changed : List ℕ) → AreInodesOnce changed → ((i : ℕ) → is_among i changed ≡ false → cost (new i) ≡ cost (old i)) → charge old + sum_by (λ i. cost (new i)) changed ≡ charge new + sum_by (λ i. cost (old i)) changed

-- a graph without some inodes
abbrev without : List ℕ → Graph → Graph
without is g i = if is_among i is then None else g i

costs_within : GraphsDiffer → (g : Graph) (is : List ℕ) → AreInodesOnce is → sum_by (λ i. cost (g i)) is ≤ charge g
costs_within law g is once =
    let all = law g (without is g) is once (λ i none. ap cost (cond-false (is_among i is) None (g i) none)) in
    let none = sums_none is (λ i. cost (without is g i)) (λ i at. ap cost (cond-true (is_among i is) None (g i) (contains_among is i at))) in
    omega (arith, all, none)

pub units_within : GraphsDiffer → (g : Sizes) (s : Store) (cs : Changes) → IsSpelled g s → AreBounded cs → units_in g s (fin.keys cs) ≤ charge (graph g s)
units_within law g s cs spelled bounded =
    let once = keys_once cs bounded in
    let within = costs_within law (graph g s) (fin.keys cs) once in
    let same = slots_tell g s (fin.keys cs) spelled once in
    omega (arith, within, same)

-- the charge of a graph that is changed
pub units_follow : GraphsDiffer → (g : Sizes) (old new : Store) (cs : Changes) → IsSpelled g old → IsSpelled g new → AreBounded cs → graph g new ≡ changed_graph cs (graph g old)
    → charge (graph g old) + units_in g new (fin.keys cs) ≡ charge (graph g new) + units_in g old (fin.keys cs)
units_follow law g old new cs before after bounded is =
    let once = keys_once cs bounded in
    let all = law (graph g old) (graph g new) (fin.keys cs) once (λ i none. ap cost (ap (λ (h : Graph). h i) is ∙ stays_so cs (graph g old) i none)) in
    omega (arith, all, slots_tell g old (fin.keys cs) before once, slots_tell g new (fin.keys cs) after once)

-- ---- slots that were read, or are planned

pub slots_units : (g : Sizes) (s : Store) (is : List ℕ) (xs : List ChangedSlot) → HaveSlots g s is xs → sum_by (λ (x : ChangedSlot). slot_units x.slot) xs ≡ units_in g s is
slots_units g s [] [] have = refl
slots_units g s [] (x ∷ xs) have = absurd have
slots_units g s (i ∷ is) [] have = absurd have
slots_units g s (i ∷ is) (x ∷ xs) have =
    let here : slot_units (slot g s i) ≡ slot_units x.slot = ap slot_units (slot_as g s i x.slot have.0.slot_is) in
    let rest = slots_units g s is xs have.1 in
    omega (arith, here, rest, sum_by-cons (λ (y : ChangedSlot). slot_units y.slot) x xs, sum_by-cons (λ j. slot_units (slot g s j)) i is)

-- the next of them, and those behind it
pub slots_next : (at : ℕ) (xs : List ChangedSlot) (d : ChangedSlot) → at < length xs → sum_by (λ (x : ChangedSlot). slot_units x.slot) (drop at xs) ≡ slot_units (get_or xs at d).slot + sum_by (λ (x : ChangedSlot). slot_units x.slot) (drop (at + 1) xs)
slots_next zero [] d lt = absurd (omega (arith, lt))
slots_next zero (x ∷ xs) d lt = sum_by-cons (λ (y : ChangedSlot). slot_units y.slot) x xs
slots_next (suc at) [] d lt = absurd (omega (arith, lt))
slots_next (suc at) (x ∷ xs) d lt =
    let more : suc (at + 1) ≡ suc at + 1 = omega arith in
    subst (λ (n : ℕ). sum_by (λ (y : ChangedSlot). slot_units y.slot) (drop at xs) ≡ slot_units (get_or xs at d).slot + sum_by (λ (y : ChangedSlot). slot_units y.slot) (drop n (x ∷ xs))) more (slots_next at xs d (omega (arith, lt)))

pub slots_past : (at : ℕ) (xs : List ChangedSlot) → length xs ≤ at → sum_by (λ (x : ChangedSlot). slot_units x.slot) (drop at xs) ≡ 0
slots_past zero [] ge = refl
slots_past (suc at) [] ge = refl
slots_past zero (x ∷ xs) ge = absurd (omega (arith, ge))
slots_past (suc at) (x ∷ xs) ge = slots_past at xs (omega (arith, ge))

few_each : (g : Sizes) (xs : List ChangedSlot) → ((x : ChangedSlot) → Contains xs x → fits_slot g x.slot ≡ true) → sum_by (λ (x : ChangedSlot). slot_units x.slot) xs ≤ 257 * length xs
few_each g [] fits = omega arith
few_each g (x ∷ xs) fits =
    let here = few_units g x.slot (fits x (cons_here x xs x refl)) in
    let rest = few_each g xs (λ y at. fits y (cons_there x xs y at)) in
    omega (arith, here, rest, sum_by-cons (λ (y : ChangedSlot). slot_units y.slot) x xs)

-- those of a change are a small number
pub slots_small : (g : Sizes) (cs : Changes) → AreBounded cs → (xs : List ChangedSlot) → length xs ≡ length (fin.keys cs) → ((x : ChangedSlot) → Contains xs x → fits_slot g x.slot ≡ true) → sum_by (λ (x : ChangedSlot). slot_units x.slot) xs < 18446744073709551616
slots_small g cs bounded xs long fits =
    let few = entries_few cs (λ i has. (let high = (inode_range i (bounded.inodes i has)).1 in omega (arith, high))) in
    let many = length-map (fin.entries cs) (λ (e : ℕ × Change). e.0) in
    let each = few_each g xs fits in
    omega (arith, few, many, each, long)

pub have_fits : (g : Sizes) (s : Store) (is : List ℕ) (xs : List ChangedSlot) → HaveSlots g s is xs → (x : ChangedSlot) → Contains xs x → fits_slot g x.slot ≡ true
have_fits g s is [] have x at = absurd (nothing x at)
have_fits g s [] (y ∷ ys) have x at = absurd have
have_fits g s (i ∷ is) (y ∷ ys) have x at = elim (cons_cases y ys x at) [
  | inl here ↦ subst (λ (z : ChangedSlot). fits_slot g z.slot ≡ true) here have.0.fits
  | inr there ↦ have_fits g s is ys have.1 x there
]
