-- The growth of effects is the sum of the rises of the nodes that they touch.
use Rattle.std.proofs.Common.{◌≡◌, ◌≢◌, inl, inr, ℕ, zero, suc, ◌+◌, ◌-◌, ◌==◌, ◌||◌, Bool, true, false, cond, List, [], ◌∷◌, ◌++◌, Option, Some, None, refl, ap, sym, subst, ◌∙◌, arith}
use Rattle.std.specs.Prelude.{option_map}
use Rattle.std.specs.List.{AllByRecursion}
use Rattle.std.proofs.lemmas.Bool.{eq-eqb, false≢true}
use Rattle.std.proofs.lemmas.Bool.Decides.{eqb_tells}
use Rattle.std.proofs.lemmas.List.Concat.{flat_map-cons}
use Rattle.posix_calls.specs.Tree.{sum_up_to}
use Rattle.posix_calls.proofs.Sums.{one_changes, all_zero}
use Rattle.call_effects.specs.file_graph.declared.effect.Effect.{Effect}
use Rattle.call_effects.specs.file_graph.declared.effect.Effect.TheVariants as effect
use Rattle.call_effects.specs.file_graph.Graph.{Graph, Node, FileBody, DirBody, after_effects, touches, subjects, is_among, cost, body_cost}
use Rattle.call_effects.specs.file_graph.Units.{rise, growth, charge}
use Rattle.call_effects.proofs.file_graph_lemmas.Touches.{untouched}
use Rattle.call_effects.specs.log_record.Grammar.{FitsLimits, IsInode}
use Rattle.call_effects.specs.NodeView.{NodeView, view_at, view_of_node, view_of_body}
use Rattle.call_effects.proofs.Rises.{same_sums}
use Rattle.record_validation.proofs.Alike.{counts_seen}
use Rattle.record_validation.specs.Counts.{counts_of, counts_after, counts_cost}
use Rattle.record_validation.specs.Rises.{view_rise, view_cost, view_cost_after, sum_distinct}

-- ---- the cost of a node is told by its numbers

pub cost_counted : (o : Option Node) → cost o ≡ counts_cost (option_map counts_of (option_map view_of_node o))
cost_counted None = refl
cost_counted (Some n) = elim (n.body) as (λ y. body_cost y ≡ counts_cost (Some (counts_of (view_of_body n.names y)))) [ FileBody bytes ↦ refl | DirBody es ↦ refl ]

-- ---- sums over some inodes

abbrev AreInodes : List ℕ → Type 0
AreInodes is = (i : ℕ) → is_among i is ≡ true → IsInode i

or_right : (a b : Bool) → b ≡ true → (a || b) ≡ true
or_right true b e = refl
or_right false b e = e

or_left : (a b : Bool) → a ≡ true → (a || b) ≡ true
or_left a b e = ap (λ x. x || b) e

here : (d : ℕ) → (d == d) ≡ true
here d = eq-eqb d d refl

elsewhere : (d j : ℕ) → j ≢ d → (d == j) ≡ false
elsewhere d j off = elim (eqb_tells d j) [
  | inl same ↦ absurd (off (sym same.1))
  | inr apart ↦ apart.0
]

one_more : (b : Bool) (all rest x : ℕ) → all + cond b x 0 ≡ rest + x → all ≡ cond b 0 x + rest
one_more true all rest x e = omega (arith, e)
one_more false all rest x e = omega (arith, e)

pub sum_is : (f : ℕ → ℕ) (is : List ℕ) → AreInodes is → sum_up_to 1024 (λ i. cond (is_among i is) (f i) 0) ≡ sum_distinct f is
sum_is f [] inodes = all_zero 1024 (λ i. 0) (λ j. refl)
sum_is f (d ∷ is) inodes =
    let at : IsInode d = inodes d (or_left (d == d) (is_among d is) (here d)) in
    let moved : sum_up_to 1024 (λ i. cond (is_among i (d ∷ is)) (f i) 0) + cond (is_among d is) (f d) 0 ≡ sum_up_to 1024 (λ i. cond (is_among i is) (f i) 0) + cond (is_among d (d ∷ is)) (f d) 0 =
    one_changes 1024 (λ i. cond (is_among i is) (f i) 0) (λ i. cond (is_among i (d ∷ is)) (f i) 0) d at.0 at.1 (λ j off. ap (λ b. cond (b || is_among j is) (f j) 0) (elsewhere d j off)) in
    let there : cond (is_among d (d ∷ is)) (f d) 0 ≡ f d = ap (λ b. cond (b || is_among d is) (f d) 0) (here d) in
    let rest = sum_is f is (λ i e. inodes i (or_right (d == i) (is_among i is) e)) in
    one_more (is_among d is) (sum_up_to 1024 (λ i. cond (is_among i (d ∷ is)) (f i) 0)) (sum_up_to 1024 (λ i. cond (is_among i is) (f i) 0)) (f d) (moved ∙ ap (λ x. sum_up_to 1024 (λ i. cond (is_among i is) (f i) 0) + x) there)
    ∙ ap (λ x. cond (is_among d is) 0 (f d) + x) rest

-- ---- the inodes that effects touch

one_inode : (d i : ℕ) → is_among i (d ∷ []) ≡ true → IsInode d → IsInode i
one_inode d i e at = elim (eqb_tells d i) [
  | inl same ↦ subst IsInode same.1 at
  | inr apart ↦ absurd (false≢true (sym (ap (λ b. b || false) apart.0) ∙ e))
]

joined : (i : ℕ) (is js : List ℕ) (P : Type 0) → is_among i (is ++ js) ≡ true → (is_among i is ≡ true → P) → (is_among i js ≡ true → P) → P
joined i [] js P e l r = r e
joined i (d ∷ is) js P e l r = elim (d == i) as (λ b. (b || is_among i (is ++ js)) ≡ true → ((b || is_among i is) ≡ true → P) → P) [
  | true ↦ λ all first. first refl
  | false ↦ λ all first. joined i is js P all first r
] e l

subject_fits : (e : Effect) → FitsLimits e → (i : ℕ) → is_among i (subjects e) ≡ true → IsInode i
subject_fits (effect.Make d k) fit i e = one_inode d i e fit
subject_fits (effect.Enter d j k name) fit i e = one_inode d i e fit.0
subject_fits (effect.Leave d name) fit i e = one_inode d i e fit.0
subject_fits (effect.Names d n) fit i e = one_inode d i e fit.0
subject_fits (effect.Size d size) fit i e = one_inode d i e fit.0
subject_fits (effect.Bytes d at new) fit i e = one_inode d i e fit.0
subject_fits (effect.Drop d) fit i e = one_inode d i e fit
subject_fits (effect.Swap d a e b) fit i among = joined i (d ∷ []) (e ∷ []) (IsInode i) among (λ here. one_inode d i here fit.0) (λ there. one_inode e i there fit.2)

pub touched_fit : (es : List Effect) → AllByRecursion FitsLimits es → (i : ℕ) → is_among i (touches es) ≡ true → IsInode i
touched_fit [] fit i e = absurd (false≢true e)
touched_fit (e ∷ es) fit i among = joined i (subjects e) (touches es) (IsInode i) (ap (is_among i) (sym (flat_map-cons subjects e es)) ∙ among) (subject_fits e fit.0 i) (touched_fit es fit.1 i)

-- ---- growth

at_touched : (b : Bool) (x y : ℕ) → (b ≡ true → x ≡ y) → cond b x 0 ≡ cond b y 0
at_touched true x y same = same refl
at_touched false x y same = refl

rise_told : (g : Graph) (es : List Effect) (known : ℕ → Option NodeView) (i : ℕ) → view_at g i ≡ known i → rise g (after_effects g es) i ≡ view_rise es known i
rise_told g es known i is =
    ap (λ n. n - cost (g i)) (cost_counted (after_effects g es i) ∙ ap counts_cost (counts_seen g es i (known i) is))
    ∙ ap (λ n. counts_cost (counts_after es i (known i)) - n) (cost_counted (g i) ∙ ap (λ v. counts_cost (option_map counts_of v)) is)

-- whatever the rest of the graph is
pub growth_told : (g : Graph) (es : List Effect) (known : ℕ → Option NodeView) → AllByRecursion FitsLimits es → ((i : ℕ) → is_among i (touches es) ≡ true → view_at g i ≡ known i) → growth g es ≡ sum_distinct (view_rise es known) (touches es)
unfolding growth
growth_told g es known fit same =
    same_sums 1024 (λ i. cond (is_among i (touches es)) (rise g (after_effects g es) i) 0) (λ i. cond (is_among i (touches es)) (view_rise es known i) 0)
    (λ i. at_touched (is_among i (touches es)) (rise g (after_effects g es) i) (view_rise es known i) (λ among. rise_told g es known i (same i among)))
    ∙ sum_is (view_rise es known) (touches es) (touched_fit es fit)

-- ---- charge

sum_moves : (n : ℕ) (new old before after : ℕ → ℕ) → ((j : ℕ) → new j + before j ≡ old j + after j) → sum_up_to n new + sum_up_to n before ≡ sum_up_to n old + sum_up_to n after
unfolding sum_up_to
sum_moves zero new old before after each = refl
sum_moves (suc n) new old before after each =
    let first : new (suc n) + before (suc n) ≡ old (suc n) + after (suc n) = each (suc n) in
    let rest : sum_up_to n new + sum_up_to n before ≡ sum_up_to n old + sum_up_to n after = sum_moves n new old before after each in
    omega (arith, first, rest)

moved : (b : Bool) (old new : ℕ) → (b ≡ false → new ≡ old) → new + cond b old 0 ≡ old + cond b new 0
moved true old new same = omega arith
moved false old new same = let e : new ≡ old = same refl in omega (arith, e)

pub charge_told : (g : Graph) (es : List Effect) (known : ℕ → Option NodeView) → AllByRecursion FitsLimits es → ((i : ℕ) → is_among i (touches es) ≡ true → view_at g i ≡ known i) → charge (after_effects g es) + sum_distinct (view_cost known) (touches es) ≡ charge g + sum_distinct (view_cost_after es known) (touches es)
unfolding charge
charge_told g es known fit same =
    let inodes = touched_fit es fit in
    let before : sum_up_to 1024 (λ i. cond (is_among i (touches es)) (cost (g i)) 0) ≡ sum_distinct (view_cost known) (touches es) =
    same_sums 1024 (λ i. cond (is_among i (touches es)) (cost (g i)) 0) (λ i. cond (is_among i (touches es)) (view_cost known i) 0) (λ i. at_touched (is_among i (touches es)) (cost (g i)) (view_cost known i) (λ among. cost_counted (g i) ∙ ap (λ v. counts_cost (option_map counts_of v)) (same i among)))
    ∙ sum_is (view_cost known) (touches es) inodes in
    let after : sum_up_to 1024 (λ i. cond (is_among i (touches es)) (cost (after_effects g es i)) 0) ≡ sum_distinct (view_cost_after es known) (touches es) =
    same_sums 1024 (λ i. cond (is_among i (touches es)) (cost (after_effects g es i)) 0) (λ i. cond (is_among i (touches es)) (view_cost_after es known i) 0) (λ i. at_touched (is_among i (touches es)) (cost (after_effects g es i)) (view_cost_after es known i) (λ among. cost_counted (after_effects g es i) ∙ ap counts_cost (counts_seen g es i (known i) (same i among))))
    ∙ sum_is (view_cost_after es known) (touches es) inodes in
    let all = sum_moves 1024 (λ i. cost (after_effects g es i)) (λ i. cost (g i)) (λ i. cond (is_among i (touches es)) (cost (g i)) 0) (λ i. cond (is_among i (touches es)) (cost (after_effects g es i)) 0)
    (λ i. moved (is_among i (touches es)) (cost (g i)) (cost (after_effects g es i)) (λ e. ap cost (untouched g es i e))) in
    ap (λ n. sum_up_to 1024 (λ i. cost (after_effects g es i)) + n) (sym before) ∙ all ∙ ap (λ n. sum_up_to 1024 (λ i. cost (g i)) + n) after
