-- The nodes of a graph after effects, and after records.
use Rattle.std.proofs.Common.{◌≡◌, ◌≢◌, inl, inr, ℕ, zero, suc, ◌+◌, ◌<◌, ◌≤◌, ◌==◌, ◌||◌, List, [], ◌∷◌, length, get_or, drop, Bool, true, false, cond, Option, Some, None, refl, ap, sym, ◌∙◌, subst, add-one, drop-cons, arith}
use Rattle.std.specs.List.{AllByRecursion}
use Rattle.std.specs.Prelude.{option_map}
use Rattle.std.specs.FinMap as fin
use Rattle.std.proofs.lemmas.Bool.{eq-eqb}
use Rattle.std.proofs.lemmas.Bool.Decides.{eqb_tells}
use Rattle.world_invariant.specs.file_graph.declared.effect.Effect.{Effect}
use Rattle.world_invariant.specs.file_graph.declared.effect.Effect.TheVariants as effect
use Rattle.world_invariant.specs.file_graph.declared.effect.Kind.{Kind}
use Rattle.posix_calls.specs.Content.{Entries}
use Rattle.world_invariant.specs.file_graph.Graph.{Graph, Node, with_body, in_directory, subject_after, acted_graph, acted_all, after_effect, exchanged_entries, child_at, subjects, is_among}
use Rattle.world_invariant.specs.LeaseSteps.{also, without}
use Rattle.kernel_fs.specs.Nodes.{AreNodes, is_node}

-- ---- one effect

apart : (i j : ℕ) → i ≢ j → (j == i) ≡ false
apart i j other = elim (eqb_tells j i) [ inl same ↦ absurd (other (sym same.1)) | inr off ↦ off.0 ]

pub made : (g : Graph) (nodes after : ℕ → Bool) (i : ℕ) (k : Kind) → AreNodes g nodes → ((j : ℕ) → after j ≡ also nodes i j) → AreNodes (after_effect g (effect.Make i k)) after
made g nodes after i k are more j = elim (eqb_tells i j) [
  | inl same ↦ more j ∙ ap (λ b. b || nodes j) (eq-eqb j i (sym same.1)) ∙ sym (ap (λ b. is_node (cond (b || false) (subject_after (effect.Make i k) (g j)) (g j))) same.0)
  | inr other ↦ more j ∙ ap (λ b. b || nodes j) (apart i j other.1) ∙ are j ∙ sym (ap (λ b. is_node (cond (b || false) (subject_after (effect.Make i k) (g j)) (g j))) other.0)
]

pub dropped : (g : Graph) (nodes after : ℕ → Bool) (i : ℕ) → AreNodes g nodes → ((j : ℕ) → after j ≡ without nodes i j) → AreNodes (after_effect g (effect.Drop i)) after
dropped g nodes after i are less j = elim (eqb_tells i j) [
  | inl same ↦ less j ∙ ap (λ b. cond b false (nodes j)) (eq-eqb j i (sym same.1)) ∙ sym (ap (λ b. is_node (cond (b || false) None (g j))) same.0)
  | inr other ↦ less j ∙ ap (λ b. cond b false (nodes j)) (apart i j other.1) ∙ are j ∙ sym (ap (λ b. is_node (cond (b || false) None (g j))) other.0)
]

-- the other effects change nodes that are there
kept : (b : Bool) (f : Node → Node) (o : Option Node) → is_node o ≡ is_node (cond b (option_map f o) o)
kept true f None = refl
kept true f (Some n) = refl
kept false f o = refl

pub stays : (g : Graph) (e : Effect) (nodes : ℕ → Bool) (f : Node → Node) → ((o : Option Node) → subject_after e o ≡ option_map f o) → AreNodes g nodes → AreNodes (acted_graph g e) nodes
stays g e nodes f is are j = are j ∙ kept (is_among j (subjects e)) f (g j) ∙ sym (ap (λ o. is_node (cond (is_among j (subjects e)) o (g j))) (is (g j)))

-- so does a Swap, which enters two names or does nothing
entered : (g : Graph) (d i : ℕ) (k : Kind) (name : List ℕ) (nodes : ℕ → Bool) → AreNodes g nodes → AreNodes (acted_graph g (effect.Enter d i k name)) nodes
entered g d i k name nodes are = stays g (effect.Enter d i k name) nodes (with_body (in_directory (λ (es : Entries (ℕ × Kind)). fin.insert es name (i, k)))) (λ o. refl) are

exchanged : (g : Graph) (d e : ℕ) (a b : List ℕ) (x y : Option (ℕ × Kind)) (nodes : ℕ → Bool) → AreNodes g nodes → AreNodes (acted_all g (exchanged_entries d a e b x y)) nodes
exchanged g d e a b (Some x) (Some y) nodes are = entered (acted_graph g (effect.Enter d y.0 y.1 a)) e x.0 x.1 b nodes (entered g d y.0 y.1 a nodes are)
exchanged g d e a b (Some x) None nodes are = are
exchanged g d e a b None y nodes are = are

pub swapped : (g : Graph) (d e : ℕ) (a b : List ℕ) (nodes : ℕ → Bool) → AreNodes g nodes → AreNodes (after_effect g (effect.Swap d a e b)) nodes
swapped g d e a b nodes are = exchanged g d e a b (child_at g d a) (child_at g e b) nodes are

-- ---- several, one after the other

pub all_at : {X : Type 0} (P : X → Type 0) (xs : List X) (k : ℕ) (d : X) → AllByRecursion P xs → k < length xs → P (get_or xs k d)
all_at P [] k d all low = absurd (omega (arith, low))
all_at P (x ∷ xs) zero d all low = all.0
all_at P (x ∷ xs) (suc k) d all low = all_at P xs k d all.1 (omega (arith, low))

module _ {X : Type 0} (run : Graph → List X → Graph) where
  -- after the first k of them these are the nodes of a graph which the others lead to the same end
  pub record LeadsOn (g : Graph) (xs : List X) (k : ℕ) (nodes : ℕ → Bool) : Type 0 where
    pub now : Graph
    pub are : AreNodes now nodes
    pub end : run now (drop k xs) ≡ run g xs

  pub begins : (g : Graph) (xs : List X) (nodes after : ℕ → Bool) → AreNodes g nodes → LeadsOn g xs 0 nodes
  begins g xs nodes after are = record { now = g; are = are; end = refl }

  pub goes_on : (one : Graph → X → Graph) → ((h : Graph) (x : X) (xs : List X) → run h (x ∷ xs) ≡ run (one h x) xs) → (g : Graph) (xs : List X) (k : ℕ) (x : X) (nodes after : ℕ → Bool)
      → k < length xs → x ≡ get_or xs k x → ((h : Graph) → AreNodes h nodes → AreNodes (one h x) after) → LeadsOn g xs k nodes → LeadsOn g xs (k + 1) after
  goes_on one first g xs k x nodes after low is step leads = record {
    now = one leads.now x;
    are = step leads.now leads.are;
    end =
        ap (λ n. run (one leads.now x) (drop n xs)) (add-one k)
        ∙ sym (first leads.now x (drop (suc k) xs))
        ∙ ap (λ y. run leads.now (y ∷ drop (suc k) xs)) is
        ∙ sym (ap (run leads.now) (drop-cons xs k x low))
        ∙ leads.end;
  }

  pub ends : ((h : Graph) → run h [] ≡ h) → (g : Graph) (xs : List X) (k : ℕ) (nodes : ℕ → Bool) → length xs ≤ k → LeadsOn g xs k nodes → AreNodes (run g xs) nodes
  ends none g xs k nodes all leads =
      subst (λ h. AreNodes h nodes) (sym (none leads.now) ∙ sym (ap (run leads.now) (drop_all xs k all)) ∙ leads.end) leads.are
    where
      drop_all : (ys : List X) (n : ℕ) → length ys ≤ n → drop n ys ≡ []
      drop_all [] zero few = refl
      drop_all [] (suc n) few = refl
      drop_all (y ∷ ys) zero few = absurd (omega (arith, few))
      drop_all (y ∷ ys) (suc n) few = drop_all ys n (omega (arith, few))
