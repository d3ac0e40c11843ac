-- The charge where some inodes change.
use Rattle.std.proofs.Common.{◌≡◌, ◌≢◌, ◌≤◌, ◌+◌, ◌==◌, ◌||◌, inl, inr, ℕ, zero, suc, Bool, true, false, cond, if◌then◌else◌, List, [], ◌∷◌, refl, sym, ap, ◌∙◌, arith}
use Rattle.std.specs.List.{sum_by}
use Rattle.std.proofs.lemmas.Bool.{cases_Bool, cases_eq, cond-true, cond-false, eq-eqb, ne_eqb, true≢false}
use Rattle.std.proofs.lemmas.List.Sums.{sum_by-cons}
use Rattle.posix_calls.specs.Tree.{sum_up_to}
use Rattle.posix_calls.proofs.Sums.{one_changes}
use Rattle.area_reader.specs.file_graph.Graph.{Graph, cost, is_among}
use Rattle.area_reader.specs.file_graph.Units.{charge}
use Rattle.area_reader.specs.layout.Places.{Sizes}
use Rattle.area_reader.specs.tree_blocks.Inode.{Inode, node_of}
use Rattle.area_reader.specs.Store.{Store, slot, inode, graph}
use Rattle.area_reader.specs.Format.{IsSpelled}
use Rattle.area_reader.specs.Units.{slot_units}
use Rattle.area_reader.specs.Rewrites.{Rewrites}
use Rattle.area_reader.proofs.Rewriting.{new_spelled, other_inode}
use Rattle.area_commit.specs.BlockExchange.{AreInodesOnce}
use Rattle.area_commit.proofs.Counting.{sum_same}
use Rattle.area_commit.proofs.RoomHeld.{inode_low, charge_is, cost_told}

-- ---- sums over some inodes

-- one count with that of another at one number
abbrev but_at : ℕ → (ℕ → ℕ) → (ℕ → ℕ) → ℕ → ℕ
but_at d f g i = cond (d == i) (f i) (g i)

but_here : (d : ℕ) (f g : ℕ → ℕ) (i : ℕ) → d ≡ i → but_at d f g i ≡ f i
but_here d f g i e = cond-true (d == i) (f i) (g i) (eq-eqb d i e)

but_there : (d : ℕ) (f g : ℕ → ℕ) (i : ℕ) → d ≢ i → but_at d f g i ≡ g i
but_there d f g i e = cond-false (d == i) (f i) (g i) (ne_eqb d i e)

or_false : (a b : Bool) → (a || b) ≡ false → (a ≡ false) × (b ≡ false)
or_false true b e = absurd (true≢false e)
or_false false b e = (refl, e)

-- a sum over numbers that lack one does not see it
sum_but : (d : ℕ) (f g : ℕ → ℕ) (is : List ℕ) → is_among d is ≡ false → sum_by (but_at d f g) is ≡ sum_by g is
sum_but d f g [] none = refl
sum_but d f g (i ∷ is) none =
    let parts = or_false (i == d) (is_among d is) none in
    let differ : d ≢ i = λ e. true≢false (sym (eq-eqb i d (sym e)) ∙ parts.0) in
    let first : but_at d f g i ≡ g i = but_there d f g i differ in
    let rest : sum_by (but_at d f g) is ≡ sum_by g is = sum_but d f g is parts.1 in
    let one : sum_by (but_at d f g) (i ∷ is) ≡ but_at d f g i + sum_by (but_at d f g) is = sum_by-cons (but_at d f g) i is in
    let two : sum_by g (i ∷ is) ≡ g i + sum_by g is = sum_by-cons g i is in
    omega (arith, first, rest, one, two)

swapped : (changed : List ℕ) (f g : ℕ → ℕ) → AreInodesOnce changed → ((i : ℕ) → is_among i changed ≡ false → g i ≡ f i) → sum_up_to 1024 f + sum_by g changed ≡ sum_up_to 1024 g + sum_by f changed
swapped [] f g once same =
    let sum : sum_up_to 1024 f ≡ sum_up_to 1024 g = sum_same 1024 f g (λ i low high. sym (same i refl)) in
    ap (λ n. n + 0) sum
swapped (d ∷ is) f g (number, fresh, once) same =
    let h : ℕ → ℕ = but_at d f g in
    let low = inode_low d number in
    let before : sum_up_to 1024 f + sum_by h is ≡ sum_up_to 1024 h + sum_by f is = swapped is f h once (λ i none. elim (cases_eq d i) [
      | inl here ↦ but_here d f g i here
      | inr there ↦ but_there d f g i there ∙ same i (ap (λ b. b || is_among i is) (ne_eqb d i there) ∙ none)
    ]) in
    let one : sum_up_to 1024 g + h d ≡ sum_up_to 1024 h + g d = one_changes 1024 h g d low.0 low.1 (λ i other. sym (but_there d f g i (λ e. other (sym e)))) in
    let at : h d ≡ f d = but_here d f g d refl in
    let unseen : sum_by h is ≡ sum_by g is = sum_but d f g is fresh in
    let new : sum_by g (d ∷ is) ≡ g d + sum_by g is = sum_by-cons g d is in
    let old : sum_by f (d ∷ is) ≡ f d + sum_by f is = sum_by-cons f d is in
    omega (arith, before, one, at, unseen, new, old)

pub graphs_differ : (old new : Graph) (changed : List ℕ) → AreInodesOnce changed → ((i : ℕ) → is_among i changed ≡ false → cost (new i) ≡ cost (old i)) → charge old + sum_by (λ i. cost (new i)) changed ≡ charge new + sum_by (λ i. cost (old i)) changed
graphs_differ old new changed once same =
    let all : sum_up_to 1024 (λ i. cost (old i)) + sum_by (λ i. cost (new i)) changed ≡ sum_up_to 1024 (λ i. cost (new i)) + sum_by (λ i. cost (old i)) changed = swapped changed (λ i. cost (old i)) (λ i. cost (new i)) once same in
    let before : sum_up_to 1024 (λ i. cost (old i)) ≡ charge old = charge_is old in
    let after : sum_up_to 1024 (λ i. cost (new i)) ≡ charge new = charge_is new in
    omega (arith, all, before, after)

-- ---- slots

told_all : (g : Sizes) (s : Store) (is : List ℕ) → IsSpelled g s → AreInodesOnce is → sum_by (λ i. cost (graph g s i)) is ≡ sum_by (λ i. slot_units (slot g s i)) is
told_all g s [] spelled once = refl
told_all g s (i ∷ is) spelled (number, fresh, once) =
    let low = inode_low i number in
    let here : cost (graph g s i) ≡ slot_units (slot g s i) = cost_told g s spelled i low.0 low.1 in
    let rest : sum_by (λ i. cost (graph g s i)) is ≡ sum_by (λ i. slot_units (slot g s i)) is = told_all g s is spelled once in
    let one : sum_by (λ i. cost (graph g s i)) (i ∷ is) ≡ cost (graph g s i) + sum_by (λ i. cost (graph g s i)) is = sum_by-cons (λ i. cost (graph g s i)) i is in
    let two : sum_by (λ i. slot_units (slot g s i)) (i ∷ is) ≡ slot_units (slot g s i) + sum_by (λ i. slot_units (slot g s i)) is = sum_by-cons (λ i. slot_units (slot g s i)) i is in
    omega (arith, here, rest, one, two)

same_cost : (g : Sizes) (old new : Store) (i : ℕ) → inode g new i ≡ inode g old i → cost (graph g new i) ≡ cost (graph g old i)
same_cost g old new i same = ap (λ (x : Inode). cost (node_of x)) same

pub stores_differ : (g : Sizes) (old new : Store) (changed : List ℕ) → IsSpelled g old → IsSpelled g new → AreInodesOnce changed → ((i : ℕ) → is_among i changed ≡ false → inode g new i ≡ inode g old i) → charge (graph g old) + sum_by (λ i. slot_units (slot g new i)) changed ≡ charge (graph g new) + sum_by (λ i. slot_units (slot g old i)) changed
stores_differ g old new changed before after once same =
    let all : charge (graph g old) + sum_by (λ i. cost (graph g new i)) changed ≡ charge (graph g new) + sum_by (λ i. cost (graph g old i)) changed = graphs_differ (graph g old) (graph g new) changed once (λ i other. same_cost g old new i (same i other)) in
    let one : sum_by (λ i. cost (graph g new i)) changed ≡ sum_by (λ i. slot_units (slot g new i)) changed = told_all g new changed after once in
    let two : sum_by (λ i. cost (graph g old i)) changed ≡ sum_by (λ i. slot_units (slot g old i)) changed = told_all g old changed before once in
    omega (arith, all, one, two)

sums_meet : (n : ℕ) (a b c d : ℕ → ℕ) → ((i : ℕ) → 1 ≤ i → i ≤ n → a i + b i ≡ c i + d i) → sum_up_to n a + sum_up_to n b ≡ sum_up_to n c + sum_up_to n d
unfolding sum_up_to
sums_meet zero a b c d same = refl
sums_meet (suc n) a b c d same =
    let one : a (suc n) + b (suc n) ≡ c (suc n) + d (suc n) = same (suc n) (omega arith) (omega arith) in
    let rest : sum_up_to n a + sum_up_to n b ≡ sum_up_to n c + sum_up_to n d = sums_meet n a b c d (λ i low high. same i low (omega (arith, high))) in
    omega (arith, one, rest)

pub rewritten_differ : (g : Sizes) (rewritten : ℕ → Bool) (old new : Store) → IsSpelled g old → Rewrites g rewritten old new → charge (graph g old) + sum_up_to 1024 (λ i. if rewritten i then slot_units (slot g new i) else 0) ≡ charge (graph g new) + sum_up_to 1024 (λ i. if rewritten i then slot_units (slot g old i) else 0)
rewritten_differ g rewritten old new before is =
    let now : ℕ → ℕ = λ i. if rewritten i then slot_units (slot g new i) else 0 in
    let was : ℕ → ℕ = λ i. if rewritten i then slot_units (slot g old i) else 0 in
    let all : sum_up_to 1024 (λ i. cost (graph g old i)) + sum_up_to 1024 now ≡ sum_up_to 1024 (λ i. cost (graph g new i)) + sum_up_to 1024 was = sums_meet 1024 (λ i. cost (graph g old i)) now (λ i. cost (graph g new i)) was each in
    let one : sum_up_to 1024 (λ i. cost (graph g old i)) ≡ charge (graph g old) = charge_is (graph g old) in
    let two : sum_up_to 1024 (λ i. cost (graph g new i)) ≡ charge (graph g new) = charge_is (graph g new) in
    omega (arith, all, one, two)
  where
    after : IsSpelled g new
    after = new_spelled g rewritten old new before is

    each : (i : ℕ) → 1 ≤ i → i ≤ 1024 → cost (graph g old i) + (if rewritten i then slot_units (slot g new i) else 0) ≡ cost (graph g new i) + (if rewritten i then slot_units (slot g old i) else 0)
    each i low high = elim (cases_Bool (rewritten i)) [
      | inl its ↦
          let one : (if rewritten i then slot_units (slot g new i) else 0) ≡ slot_units (slot g new i) = cond-true (rewritten i) (slot_units (slot g new i)) 0 its in
          let two : (if rewritten i then slot_units (slot g old i) else 0) ≡ slot_units (slot g old i) = cond-true (rewritten i) (slot_units (slot g old i)) 0 its in
          let told : cost (graph g old i) ≡ slot_units (slot g old i) = cost_told g old before i low high in
          let shown : cost (graph g new i) ≡ slot_units (slot g new i) = cost_told g new after i low high in
          omega (arith, one, two, told, shown)
      | inr other ↦
          let one : (if rewritten i then slot_units (slot g new i) else 0) ≡ 0 = cond-false (rewritten i) (slot_units (slot g new i)) 0 other in
          let two : (if rewritten i then slot_units (slot g old i) else 0) ≡ 0 = cond-false (rewritten i) (slot_units (slot g old i)) 0 other in
          let same : cost (graph g new i) ≡ cost (graph g old i) = same_cost g old new i (other_inode g rewritten old new is i other) in
          omega (arith, one, two, same)
    ]
