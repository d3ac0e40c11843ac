-- A Swap leaves the numbers of each node, and which names it has: so these are told after effects without a look at what names lead to.
use Rattle.std.proofs.Common.{◌≡◌, inl, inr, ℕ, ◌+◌, Bool, true, false, cond, List, [], ◌∷◌, Option, Some, None, refl, ap, sym, subst, ◌∙◌, ◌==◌, ◌||◌}
use Rattle.std.specs.Prelude.{option_map, unwrap_or, is_some}
use Rattle.std.specs.Ordering.{nat_cmp, eq_by_cmp}
use Rattle.std.specs.Cmp.Lexicographic.{slice_cmp}
use Rattle.std.proofs.lemmas.Bool.Decides.{eqb_tells}
use Rattle.std.specs.FinMap as fin
use Rattle.posix_calls.specs.Content.{Entries}
use Rattle.posix_calls.proofs.Counts.{alike}
use Rattle.call_effects.specs.file_graph.declared.effect.Kind.{Kind}
use Rattle.call_effects.specs.file_graph.declared.effect.Effect.{Effect}
use Rattle.call_effects.specs.file_graph.declared.effect.Effect.TheVariants as effect
use Rattle.call_effects.specs.file_graph.Graph.{Graph, Node, FileBody, DirBody, subjects, is_among, node_entries, child_at, exchanged_entries, acted_graph, acted_all, after_effect, after_effects}
use Rattle.call_effects.specs.NodeView.{NodeView, view_of_node, view_of_body, view_at, view_acted, view_after}
use Rattle.call_effects.proofs.NodeViews.{view_acts_if}
use Rattle.record_validation.specs.declared.node_counts.NodeCounts.{NodeCounts}
use Rattle.record_validation.specs.declared.node_counts.NodeCounts.TheVariants as counts
use Rattle.record_validation.specs.Counts.{counts_of, counts_after, counts_acted, in_count, is_named, entry_in, entry_acted}
use Rattle.record_validation.proofs.Steps.{entry_acts, counts_act}

-- two views have the same numbers, and entries of the same names
pub record AreAlike (v w : Option NodeView) : Type 0 where
  pub counts : option_map counts_of v ≡ option_map counts_of w
  pub names : (name : List ℕ) → entry_in name v ≡ entry_in name w

itself : (v : Option NodeView) → AreAlike v v
itself v = record { counts = refl; names = λ name. refl }

joined : (u v w : Option NodeView) → AreAlike u v → AreAlike v w → AreAlike u w
joined u v w first second = record { counts = first.counts ∙ second.counts; names = λ name. first.names name ∙ second.names name }

-- ---- an effect on both

named_alike : (e : Effect) (v w : Option NodeView) → AreAlike v w → is_named e v ≡ is_named e w
named_alike (effect.Enter d i k name) v w alike = ap (λ (o : Option Bool). unwrap_or o false) (alike.names name)
named_alike (effect.Leave d name) v w alike = ap (λ (o : Option Bool). unwrap_or o false) (alike.names name)
named_alike (effect.Make i k) v w alike = refl
named_alike (effect.Names i n) v w alike = refl
named_alike (effect.Size i size) v w alike = refl
named_alike (effect.Bytes i at new) v w alike = refl
named_alike (effect.Drop i) v w alike = refl
named_alike (effect.Swap d a e b) v w alike = refl

acts_alike : (e : Effect) (v w : Option NodeView) → AreAlike v w → AreAlike (view_acted e v) (view_acted e w)
acts_alike e v w alike = record {
  counts = counts_act e v ∙ ap (λ b. counts_acted e b (option_map counts_of v)) (named_alike e v w alike) ∙ ap (counts_acted e (is_named e w)) alike.counts ∙ sym (counts_act e w);
  names = λ name. entry_acts name e v ∙ ap (entry_acted name e) (alike.names name) ∙ sym (entry_acts name e w);
}

acts_alike_if : (c : Bool) (e : Effect) (v w : Option NodeView) → AreAlike v w → AreAlike (cond c (view_acted e v) v) (cond c (view_acted e w) w)
acts_alike_if true e v w alike = acts_alike e v w alike
acts_alike_if false e v w alike = alike

-- ---- a name that is there leads to something else

as_many : (c : Option NodeCounts) → option_map (in_count (λ n. n)) c ≡ c
as_many None = refl
as_many (Some (counts.File names size)) = refl
as_many (Some (counts.Directory names entries)) = refl

still_there : (b : Bool) (o : Option Bool) → (b ≡ true → o ≡ Some true) → option_map (λ was. cond b true was) o ≡ o
still_there true o is = ap (option_map (λ was. true)) (is refl) ∙ sym (is refl)
still_there false None is = refl
still_there false (Some was) is = refl

entered_alike : (d i : ℕ) (k : Kind) (name : List ℕ) (v : Option NodeView) → entry_in name v ≡ Some true → AreAlike (view_acted (effect.Enter d i k name) v) v
entered_alike d i k name v there = record {
  counts = counts_act (effect.Enter d i k name) v ∙ ap (λ (o : Option Bool). counts_acted (effect.Enter d i k name) (unwrap_or o false) (option_map counts_of v)) there ∙ as_many (option_map counts_of v);
  names = λ q. entry_acts q (effect.Enter d i k name) v ∙ still_there (eq_by_cmp (slice_cmp nat_cmp) q name) (entry_in q v) (λ same. ap (λ x. entry_in x v) (alike q name same) ∙ there);
}

entered : (g : Graph) (d c : ℕ) (k : Kind) (name : List ℕ) (i : ℕ) → entry_in name (view_at g d) ≡ Some true → AreAlike (view_at (acted_graph g (effect.Enter d c k name)) i) (view_at g i)
entered g d c k name i there =
    let e = effect.Enter d c k name in
    let acted = view_acts_if (is_among i (d ∷ [])) e (g i) in
    elim (eqb_tells d i) [
      | inl same ↦ subst (λ v. AreAlike v (view_at g i)) (sym (acted ∙ ap (λ b. cond (b || false) (view_acted e (view_at g i)) (view_at g i)) same.0)) (entered_alike d c k name (view_at g i) (ap (λ j. entry_in name (view_at g j)) (sym same.1) ∙ there))
      | inr off ↦ subst (λ v. AreAlike v (view_at g i)) (sym (acted ∙ ap (λ b. cond (b || false) (view_acted e (view_at g i)) (view_at g i)) off.0)) (itself (view_at g i))
    ]

no_child : (name : List ℕ) (x : ℕ × Kind) → fin.get {R = slice_cmp nat_cmp} fin.empty name ≡ Some x → ⊥
no_child name x is = let clash : None ≡ Some x = sym (fin.get-empty (slice_cmp nat_cmp) name) ∙ is in absurd cc

child_there : (o : Option Node) (name : List ℕ) (x : ℕ × Kind) → fin.get (node_entries o) name ≡ Some x → entry_in name (option_map view_of_node o) ≡ Some true
child_there None name x is = absurd (no_child name x is)
child_there (Some n) name x is = elim (n.body) as (λ y. fin.get (node_entries (Some (record { names = n.names; body = y }))) name ≡ Some x → entry_in name (Some (view_of_body n.names y)) ≡ Some true) [
  | FileBody bytes ↦ λ there. absurd (no_child name x there)
  | DirBody es ↦ λ there. ap (λ o. Some (is_some o)) there
] is

exchanged_alike : (g : Graph) (d : ℕ) (a : List ℕ) (e : ℕ) (b : List ℕ) (x y : Option (ℕ × Kind)) (i : ℕ) → child_at g d a ≡ x → child_at g e b ≡ y → AreAlike (view_at (acted_all g (exchanged_entries d a e b x y)) i) (view_at g i)
exchanged_alike g d a e b (Some x) (Some y) i first second =
    let h = acted_graph g (effect.Enter d y.0 y.1 a) in
    let there_a = child_there (g d) a x first in
    let there_b = (entered g d y.0 y.1 a e there_a).names b ∙ child_there (g e) b y second in
    joined (view_at (acted_graph h (effect.Enter e x.0 x.1 b)) i) (view_at h i) (view_at g i) (entered h e x.0 x.1 b i there_b) (entered g d y.0 y.1 a i there_a)
exchanged_alike g d a e b (Some x) None i first second = itself (view_at g i)
exchanged_alike g d a e b None y i first second = itself (view_at g i)

-- ---- effects one after the other

same_if : {A : Type 0} (c : Bool) (x : A) → x ≡ cond c x x
same_if true x = refl
same_if false x = refl

alike_step : (g : Graph) (e : Effect) (i : ℕ) (v : Option NodeView) → AreAlike (view_at g i) v → AreAlike (view_at (after_effect g e) i) (cond (is_among i (subjects e)) (view_acted e v) v)
alike_step g (effect.Swap d a e b) i v alike =
    subst (AreAlike (view_at (after_effect g (effect.Swap d a e b)) i)) (same_if (is_among i (d ∷ e ∷ [])) v)
    (joined (view_at (after_effect g (effect.Swap d a e b)) i) (view_at g i) v (exchanged_alike g d a e b (child_at g d a) (child_at g e b) i refl refl) alike)
alike_step g e i v alike = subst (λ w. AreAlike w (cond (is_among i (subjects e)) (view_acted e v) v)) (sym (view_acts_if (is_among i (subjects e)) e (g i))) (acts_alike_if (is_among i (subjects e)) e (view_at g i) v alike)

pub alike_after : (g : Graph) (es : List Effect) (i : ℕ) (v : Option NodeView) → AreAlike (view_at g i) v → AreAlike (view_at (after_effects g es) i) (view_after es i v)
alike_after g [] i v alike = alike
alike_after g (e ∷ es) i v alike = alike_after (after_effect g e) es i (cond (is_among i (subjects e)) (view_acted e v) v) (alike_step g e i v alike)

-- the numbers after effects are told inode by inode
pub counts_seen : (g : Graph) (es : List Effect) (i : ℕ) (v : Option NodeView) → view_at g i ≡ v → option_map counts_of (view_at (after_effects g es) i) ≡ counts_after es i v
counts_seen g es i v is = (alike_after g es i v (subst (AreAlike (view_at g i)) is (itself (view_at g i)))).counts
