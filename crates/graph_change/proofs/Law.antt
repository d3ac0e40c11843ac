-- The change that a list of effects comes to makes of every graph what the effects make of it.
use Rattle.std.proofs.Common.{◌≡◌, inl, inr, ℕ, ◌+◌, ◌==◌, ◌/◌, ◌%◌, if◌then◌else◌, cond, Bool, true, false, List, [], ◌∷◌, length, refl, None, Option, ap, sym, ◌∙◌, subst}
use Rattle.std.specs.Prelude.{◌||◌, unwrap_or}
use Rattle.std.specs.Ordering.{nat_cmp}
use Rattle.std.specs.FinMap as fin
use Rattle.std.proofs.lemmas.Bool.{eq-eqb}
use Rattle.std.proofs.lemmas.Bool.Decides.{eqb_tells}
use Rattle.posix_calls.specs.declared.limits.TheConstants.{UNIT_BYTES}
use Rattle.file_graph.specs.declared.effect.Effect.{Effect}
use Rattle.file_graph.specs.declared.effect.Effect.TheVariants as effect
use Rattle.file_graph.specs.Graph.{Graph, Node, is_among, subject_after, acted_graph, acted_all}
use Rattle.graph_change.specs.Bytes.{Grown, IsTidy, grown_to, sized_to}
use Rattle.graph_change.specs.Net.{Base, Net, Kept, Made, Gone, from_base, node_after, net_after}
use Rattle.graph_change.specs.Change.{Change, Changes, blank, new_in, subject, new_change, net_of, change_after, change_at, changed_graph, with_effect, with_effects, coalesced_changes}
use Rattle.graph_change.proofs.Blocks.{value_put, write_written, cut_new}
use Rattle.graph_change.proofs.Nodes.{one_more, tidy_after, stays}
use Rattle.graph_change.proofs.Bytes.{tidy_nothing}

-- no block of no change has a byte
none_new : (i : ℕ) → new_in fin.empty i ≡ None
none_new i = ap (λ o. unwrap_or o blank (i % UNIT_BYTES)) (fin.get-empty nat_cmp (i / UNIT_BYTES))

pub empty_of : (base : Base) → net_of (new_change base) ≡ from_base base
empty_of base = ap (λ w. record { base = base; names = None; bytes = record { length = Grown 0; new = w }; entries = fin.empty }) (λ t i. none_new i t)

-- the blocks of a change stand for the net change
pub stands : (e : Effect) (c : Change) → net_of (change_after e c) ≡ net_after e (net_of c)
stands (effect.Make i kind) c = empty_of (Made kind)
stands (effect.Enter d i kind name) c = refl
stands (effect.Leave d name) c = refl
stands (effect.Names i n) c = refl
stands (effect.Size i size) c = ap (λ w. record { base = c.base; names = c.names; bytes = record { length = sized_to size c.length; new = w }; entries = c.entries }) (λ t i. cut_new size c.patches i t)
stands (effect.Bytes i at bytes) c = ap (λ w. record { base = c.base; names = c.names; bytes = record { length = grown_to (at + length bytes) c.length; new = w }; entries = c.entries }) (λ t i. write_written at bytes c.patches i t)
stands (effect.Drop i) c = empty_of Gone
stands (effect.Swap d a e b) c = refl

-- ---- an effect acts on its subject, and on nothing else

among_one : (j s : ℕ) → is_among j (s ∷ []) ≡ (j == s)
among_one j s = elim (eqb_tells j s) [
  | inl here ↦ ap (λ b. b || false) (eq-eqb s j (sym here.1)) ∙ sym here.0
  | inr off ↦ elim (eqb_tells s j) [
    | inl there ↦ absurd (off.1 (sym there.1))
    | inr apart ↦ ap (λ b. b || false) apart.0 ∙ sym off.0
  ]
]

same_both : {A : Type 0} (a b : Bool) (x : A) → cond a x x ≡ cond b x x
same_both true true x = refl
same_both true false x = refl
same_both false true x = refl
same_both false false x = refl

one_there : (g : Graph) (e : Effect) (s j : ℕ) → cond (is_among j (s ∷ [])) (subject_after e (g j)) (g j) ≡ (if j == s then subject_after e (g j) else g j)
one_there g e s j = ap (λ b. cond b (subject_after e (g j)) (g j)) (among_one j s)

pub acts_there : (g : Graph) (e : Effect) (j : ℕ) → acted_graph g e j ≡ (if j == subject e then subject_after e (g j) else g j)
acts_there g (effect.Make i k) j = one_there g (effect.Make i k) i j
acts_there g (effect.Enter d i k name) j = one_there g (effect.Enter d i k name) d j
acts_there g (effect.Leave d name) j = one_there g (effect.Leave d name) d j
acts_there g (effect.Names i n) j = one_there g (effect.Names i n) i j
acts_there g (effect.Size i size) j = one_there g (effect.Size i size) i j
acts_there g (effect.Bytes i at text) j = one_there g (effect.Bytes i at text) i j
acts_there g (effect.Drop i) j = one_there g (effect.Drop i) i j
acts_there g (effect.Swap d a e b) j = same_both (is_among j (d ∷ e ∷ [])) (j == d) (g j)

-- ---- all inodes

-- nothing is put behind the end of any file
abbrev pub AreTidy : Changes → Type 0
AreTidy cs = (i : ℕ) → IsTidy (net_of (change_at cs i)).bytes

pub change_put : (e : Effect) (cs : Changes) (j : ℕ) → change_at (with_effect e cs) j ≡ (if j == subject e then change_after e (change_at cs (subject e)) else change_at cs j)
change_put e cs j = value_put (new_change Kept) (subject e) (change_after e (change_at cs (subject e))) cs j

effect_at : (e : Effect) (cs : Changes) (g : Graph) (j : ℕ) → AreTidy cs → changed_graph (with_effect e cs) g j ≡ acted_graph (changed_graph cs g) e j
effect_at e cs g j tidy =
    let s = subject e in
    let c = change_after e (change_at cs s) in
    elim (eqb_tells j s) [
      | inl here ↦
          ap (λ x. node_after (net_of x) (g j)) (change_put e cs j ∙ ap (λ b. cond b c (change_at cs j)) here.0)
          ∙ ap (λ n. node_after n (g j)) (stands e (change_at cs s))
          ∙ one_more e (net_of (change_at cs s)) (g j) (tidy s)
          ∙ ap (λ k. subject_after e (node_after (net_of (change_at cs k)) (g j))) (sym here.1)
          ∙ sym (acts_there (changed_graph cs g) e j ∙ ap (λ b. cond b (subject_after e (changed_graph cs g j)) (changed_graph cs g j)) here.0)
      | inr off ↦
          ap (λ x. node_after (net_of x) (g j)) (change_put e cs j ∙ ap (λ b. cond b c (change_at cs j)) off.0)
          ∙ sym (acts_there (changed_graph cs g) e j ∙ ap (λ b. cond b (subject_after e (changed_graph cs g j)) (changed_graph cs g j)) off.0)
    ]

pub tidy_with : (e : Effect) (cs : Changes) → AreTidy cs → AreTidy (with_effect e cs)
tidy_with e cs tidy j =
    let s = subject e in
    let c = change_after e (change_at cs s) in
    elim (eqb_tells j s) [
      | inl here ↦ subst (λ (x : Change). IsTidy (net_of x).bytes) (sym (change_put e cs j ∙ ap (λ b. cond b c (change_at cs j)) here.0))
          (subst (λ (n : Net). IsTidy n.bytes) (sym (stands e (change_at cs s))) (tidy_after e (net_of (change_at cs s)) (tidy s)))
      | inr off ↦ subst (λ (x : Change). IsTidy (net_of x).bytes) (sym (change_put e cs j ∙ ap (λ b. cond b c (change_at cs j)) off.0)) (tidy j)
    ]

-- one more effect is done last
pub one_more_effect : (e : Effect) (cs : Changes) (g : Graph) → AreTidy cs → changed_graph (with_effect e cs) g ≡ acted_graph (changed_graph cs g) e
one_more_effect e cs g tidy = λ t j. effect_at e cs g j tidy t

pub more_effects : (es : List Effect) (cs : Changes) (g : Graph) → AreTidy cs → changed_graph (with_effects cs es) g ≡ acted_all (changed_graph cs g) es
more_effects [] cs g tidy = refl
more_effects (e ∷ es) cs g tidy = more_effects es (with_effect e cs) g (tidy_with e cs tidy) ∙ ap (λ h. acted_all h es) (one_more_effect e cs g tidy)

pub empty_at : (i : ℕ) → change_at fin.empty i ≡ new_change Kept
empty_at i = ap (λ o. unwrap_or o (new_change Kept)) (fin.get-empty nat_cmp i)

tidy_nothing_put : IsTidy (net_of (new_change Kept)).bytes
tidy_nothing_put = subst (λ (n : Net). IsTidy n.bytes) (sym (empty_of Kept)) tidy_nothing

pub untouched : (x : Option Node) (i : ℕ) → node_after (net_of (change_at fin.empty i)) x ≡ x
untouched x i = ap (λ c. node_after (net_of c) x) (empty_at i) ∙ ap (λ n. node_after n x) (empty_of Kept) ∙ stays x

pub tidy_empty : AreTidy fin.empty
tidy_empty i = subst (λ (x : Change). IsTidy (net_of x).bytes) (sym (empty_at i)) tidy_nothing_put

pub coalesced_law : (es : List Effect) (g : Graph) → changed_graph (coalesced_changes es) g ≡ acted_all g es
coalesced_law es g = more_effects es fin.empty g tidy_empty ∙ ap (λ h. acted_all h es) (λ t i. untouched (g i) i t)
