-- What is learned of an inode is as the graph is; what is not known, no record has touched.
use Rattle.std.proofs.Common.{◌≡◌, ◌≢◌, inl, inr, ℕ, Bool, true, false, cond, not, List, [], ◌∷◌, ◌==◌, ◌||◌, Option, Some, None, refl, ap, sym, subst, ◌∙◌}
use Rattle.std.specs.Prelude.{unwrap_or, option_map, is_some}
use Rattle.std.specs.Ordering.{nat_cmp, is_eq}
use Rattle.std.specs.declared.cmp.Ordering.TheVariants.{Less, Equal, Greater}
use Rattle.std.specs.Cmp.{ranked}
use Rattle.std.specs.BTreeMap.{get, Updates}
use Rattle.std.proofs.lemmas.Bool.Decides.{eqb_tells}
use Rattle.std.proofs.lemmas.Bool.{false≢true}
use Rattle.call_effects.specs.file_graph.declared.effect.Effect.{Effect}
use Rattle.call_effects.specs.file_graph.declared.effect.Effect.TheVariants as effect
use Rattle.call_effects.specs.file_graph.Graph.{Graph, after_effects, touches, swapped_directories, is_among}
use Rattle.call_effects.specs.file_graph.Units.{charge}
use Rattle.call_effects.proofs.file_graph_lemmas.Touches.{untouched}
use Rattle.call_effects.specs.KnownCopies.{Copies, SwapsAreKnown, known_after}
use Rattle.call_effects.specs.NodeView.{NodeView, view_at, view_of_node}
use Rattle.call_effects.proofs.KnownCopies.{some_after, swaps_known}
use Rattle.record_validation.specs.KnownNodes.{Known, ViewsAgree, first_unknown, is_unknown}
use Rattle.record_validation.specs.Row.{with_known}
use Rattle.record_validation.proofs.Touched.{all_known}

-- ---- what is learned

off : (j d : ℕ) → j ≢ d → is_eq (nat_cmp j d) ≡ false
off j d apart =
    elim (nat_cmp j d) as (λ r. nat_cmp j d ≡ r → is_eq r ≡ false) [
      | Less ↦ λ e. refl
      | Equal ↦ λ e. absurd (apart (ranked j d Equal (sym e)))
      | Greater ↦ λ e. refl
    ] refl

-- what a map has once this is put in at an inode
pub put_in : (m n : Known) (inode : ℕ) (v : Option NodeView) → Updates nat_cmp m n inode (Some v) → (i : ℕ) → get nat_cmp n i ≡ with_known inode v (get nat_cmp m) i
put_in m n inode v u i = elim (eqb_tells i inode) [
  | inl here ↦ ap (get nat_cmp n) here.1 ∙ u.1 ∙ sym (ap (λ b. cond b (Some v) (get nat_cmp m i)) here.0)
  | inr apart ↦ u.2 i (off inode i (λ e. apart.1 (sym e))) ∙ sym (ap (λ b. cond b (Some v) (get nat_cmp m i)) apart.0)
]

pub learned : (m n : Known) (g : Graph) (inode : ℕ) (v : Option NodeView) → ((i : ℕ) → get nat_cmp n i ≡ with_known inode v (get nat_cmp m) i) → view_at g inode ≡ v → ViewsAgree m g → ViewsAgree n g
learned m n g inode v is stands agrees i w at = elim (eqb_tells i inode) [
  | inl here ↦ ap (view_at g) here.1 ∙ stands ∙ ap (λ (o : Option (Option NodeView)). unwrap_or o None) (sym (ap (λ b. cond b (Some v) (get nat_cmp m i)) here.0) ∙ sym (is i) ∙ at)
  | inr apart ↦ agrees i w (sym (ap (λ b. cond b (Some v) (get nat_cmp m i)) apart.0) ∙ sym (is i) ∙ at)
]

-- ---- what is not known

still_unknown : (m n : Known) (es : List Effect) (i : ℕ) → get nat_cmp n ≡ known_after es (get nat_cmp m) → is_unknown n i ≡ true → is_unknown m i ≡ true
still_unknown m n es i is unknown = sym (ap not (ap (λ (k : Copies). is_some (k i)) is ∙ some_after es (get nat_cmp m) i)) ∙ unknown

not_touched : (m : Known) (es : List Effect) (i : ℕ) → first_unknown m es ≡ None → is_unknown m i ≡ true → is_among i (touches es) ≡ false
not_touched m es i none unknown = elim (is_among i (touches es)) as (λ b. is_among i (touches es) ≡ b → b ≡ false) [
  | true ↦ λ among. absurd (false≢true (sym (ap not (all_known m (touches es) none i among)) ∙ unknown))
  | false ↦ λ apart. refl
] refl

-- a good record is done
pub has_come : (m n : Known) (es : List Effect) (g now : Graph) → get nat_cmp n ≡ known_after es (get nat_cmp m) → first_unknown m es ≡ None → ((i : ℕ) → is_unknown m i ≡ true → view_at now i ≡ view_at g i) → (i : ℕ) → is_unknown n i ≡ true → view_at (after_effects now es) i ≡ view_at g i
has_come m n es g now is none same i unknown =
    let before = still_unknown m n es i is unknown in
    ap (option_map view_of_node) (untouched now es i (not_touched m es i none before)) ∙ same i before

-- an inode is learned
unknown_before : (m n : Known) (inode : ℕ) (v : Option NodeView) → ((i : ℕ) → get nat_cmp n i ≡ with_known inode v (get nat_cmp m) i) → (i : ℕ) → is_unknown n i ≡ true → is_unknown m i ≡ true
unknown_before m n inode v is i unknown = elim (eqb_tells i inode) [
  | inl here ↦ absurd (false≢true (sym (ap (λ o. not (is_some o)) (is i ∙ ap (λ b. cond b (Some v) (get nat_cmp m i)) here.0)) ∙ unknown))
  | inr apart ↦ sym (ap (λ o. not (is_some o)) (is i ∙ ap (λ b. cond b (Some v) (get nat_cmp m i)) apart.0)) ∙ unknown
]

pub learned_first : (m n : Known) (g now : Graph) (inode : ℕ) (v : Option NodeView) → ((i : ℕ) → get nat_cmp n i ≡ with_known inode v (get nat_cmp m) i) → is_unknown m inode ≡ true → view_at g inode ≡ v → ViewsAgree m now → ((i : ℕ) → is_unknown m i ≡ true → view_at now i ≡ view_at g i) → ViewsAgree n now × ((i : ℕ) → is_unknown n i ≡ true → view_at now i ≡ view_at g i)
learned_first m n g now inode v is unknown stands agrees same = (learned m n now inode v is (same inode unknown ∙ stands) agrees, λ i e. same i (unknown_before m n inode v is i e))

pub all_come : (m n : Known) (es fs : List Effect) (g h : Graph) (units : ℕ) → es ≡ fs → get nat_cmp n ≡ known_after es (get nat_cmp m) → ViewsAgree n (after_effects h es) → charge (after_effects h fs) ≡ units → first_unknown m fs ≡ None → ((i : ℕ) → is_unknown m i ≡ true → view_at h i ≡ view_at g i) → (ViewsAgree n (after_effects h fs) × (charge (after_effects h fs) ≡ units)) × ((i : ℕ) → is_unknown n i ≡ true → view_at (after_effects h fs) i ≡ view_at g i)
all_come m n es fs g h units same taken agrees costs none before =
    let told = subst (λ (xs : List Effect). get nat_cmp n ≡ known_after xs (get nat_cmp m)) same taken in
    ((subst (λ (xs : List Effect). ViewsAgree n (after_effects h xs)) same agrees, costs), has_come m n fs g h told none before)

behind : (b c : Bool) → c ≡ true → (b || c) ≡ true
behind true c e = refl
behind false c e = e

-- the directories that Swaps name are touched
swapped_touched : (i : ℕ) (es : List Effect) → is_among i (swapped_directories es) ≡ true → is_among i (touches es) ≡ true
swapped_touched i [] among = among
swapped_touched i (effect.Swap d a e b ∷ es) among = in_two (d == i) (e == i) (is_among i (swapped_directories es)) (is_among i (touches es)) (swapped_touched i es) among where
  in_two : (a b c d : Bool) → (c ≡ true → d ≡ true) → (a || (b || c)) ≡ true → (a || (b || d)) ≡ true
  in_two true b c d so e = refl
  in_two false true c d so e = refl
  in_two false false c d so e = so e
swapped_touched i (effect.Make x k ∷ es) among = behind (x == i) (is_among i (touches es)) (swapped_touched i es among)
swapped_touched i (effect.Enter x y k name ∷ es) among = behind (x == i) (is_among i (touches es)) (swapped_touched i es among)
swapped_touched i (effect.Leave x name ∷ es) among = behind (x == i) (is_among i (touches es)) (swapped_touched i es among)
swapped_touched i (effect.Names x n ∷ es) among = behind (x == i) (is_among i (touches es)) (swapped_touched i es among)
swapped_touched i (effect.Size x size ∷ es) among = behind (x == i) (is_among i (touches es)) (swapped_touched i es among)
swapped_touched i (effect.Bytes x at new ∷ es) among = behind (x == i) (is_among i (touches es)) (swapped_touched i es among)
swapped_touched i (effect.Drop x ∷ es) among = behind (x == i) (is_among i (touches es)) (swapped_touched i es among)

-- where all that effects touch is known, so are the directories of their Swaps
pub record_swaps : (m : Known) (es : List Effect) → first_unknown m es ≡ None → SwapsAreKnown (get nat_cmp m) es
record_swaps m es none = swaps_known es (get nat_cmp m) (λ i among. all_known m (touches es) none i (swapped_touched i es among))
