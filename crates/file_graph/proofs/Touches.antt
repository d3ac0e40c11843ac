-- What effects leave as it was, and what they make of the units of a graph.
use Rattle.std.proofs.Common.{◌≡◌, ℕ, ◌+◌, ◌-◌, ◌≤◌, ◌==◌, Bool, true, false, cond, List, [], ◌∷◌, ◌++◌, Option, Some, None, refl, sym, ap, ◌∙◌, arith, ◌||◌}
use Rattle.std.proofs.lemmas.List.Concat.{flat_map-cons}
use Rattle.file_graph.specs.declared.effect.Effect.{Effect}
use Rattle.std.proofs.lemmas.Bool.{eq-eqb}
use Rattle.std.proofs.lemmas.List.{append-nil}
use Rattle.std.specs.List.{AllByRecursion}
use Rattle.std.specs.FinMap as fin
use Rattle.std.specs.Prelude.{option_map}
use Rattle.posix_calls.specs.Content.{Entries}
use Rattle.file_graph.specs.declared.effect.Kind.{Kind}
use Rattle.file_graph.specs.declared.effect.Kind.TheVariants as kind
use Rattle.file_graph.specs.declared.effect.Effect.TheVariants as effect
use Rattle.file_graph.specs.Plain.{is_swap}
use Rattle.file_graph.specs.Graph.{Graph, Node, FileBody, DirBody, directory_in, StandAlike, acted_graph, acted_all, plain_effects, exchanged_entries, node_entries, child_at, settled_effects, after_effect, after_effects, touches, subjects, is_among, subject_after, AreApart, cost}
use Rattle.posix_calls.proofs.Sums.{sum_below}
use Rattle.file_graph.specs.Units.{charge, rise, growth}

-- ---- effects at one inode

neither : (a b : Bool) → (a || b) ≡ false → (a ≡ false) × (b ≡ false)
neither true b e = absurd cc
neither false b e = (refl, e)

among_append : (i : ℕ) (is js : List ℕ) → is_among i (is ++ js) ≡ false → (is_among i is ≡ false) × (is_among i js ≡ false)
among_append i [] js e = (refl, e)
among_append i (j ∷ is) js e =
    let p = neither _ _ e in
    let q = among_append i is js p.1 in
    (ap (λ (b : Bool). b || is_among i is) p.0 ∙ q.0, q.1)

among_first : (i : ℕ) (is js : List ℕ) → is_among i is ≡ true → is_among i (is ++ js) ≡ true
among_first i [] js e = absurd cc
among_first i (j ∷ is) js e = elim (j == i) as (λ b. (b || is_among i is) ≡ true → (b || is_among i (is ++ js)) ≡ true) [ true ↦ λ h. refl | false ↦ λ h. among_first i is js h ] e

among_rest : (i : ℕ) (is js : List ℕ) → is_among i js ≡ true → is_among i (is ++ js) ≡ true
among_rest i [] js e = e
among_rest i (j ∷ is) js e = elim (j == i) as (λ b. (b || is_among i (is ++ js)) ≡ true) [ true ↦ refl | false ↦ among_rest i is js e ]

-- effects that are no Swaps leave what is none of their subjects, and what they make of an inode depends on what stands there
pub acted_untouched : (g : Graph) (es : List Effect) (i : ℕ) → is_among i (touches es) ≡ false → acted_all g es i ≡ g i
acted_untouched g [] i e = refl
acted_untouched g (f ∷ es) i e =
    let p = among_append i (subjects f) (touches es) (ap (is_among i) (sym (flat_map-cons subjects f es)) ∙ e) in
    acted_untouched (acted_graph g f) es i p.1 ∙ ap (λ (b : Bool). cond b (subject_after f (g i)) (g i)) p.0

pub acted_alone : (g h : Graph) (es : List Effect) (i : ℕ) → g i ≡ h i → acted_all g es i ≡ acted_all h es i
acted_alone g h [] i e = e
acted_alone g h (f ∷ es) i e = acted_alone (acted_graph g f) (acted_graph h f) es i (ap (λ o. cond (is_among i (subjects f)) (subject_after f o) o) e)

-- ---- what stands for an effect

one_subject : (i : ℕ) (f : Effect) → is_among i (subjects f) ≡ false → is_among i (touches (f ∷ [])) ≡ false
one_subject i f e = ap (is_among i) (flat_map-cons subjects f [] ∙ append-nil (subjects f)) ∙ e

entries_touch : (i d : ℕ) (a : List ℕ) (e : ℕ) (b : List ℕ) (x y : Option (ℕ × Kind)) → is_among i (d ∷ e ∷ []) ≡ false → is_among i (touches (exchanged_entries d a e b x y)) ≡ false
entries_touch i d a e b (Some x) (Some y) off = off
entries_touch i d a e b (Some x) None off = refl
entries_touch i d a e b None y off = refl

pub plain_touches : (g : Graph) (e : Effect) (i : ℕ) → is_among i (subjects e) ≡ false → is_among i (touches (plain_effects g e)) ≡ false
plain_touches g (effect.Make j k) i off = one_subject i (effect.Make j k) off
plain_touches g (effect.Enter d j k name) i off = one_subject i (effect.Enter d j k name) off
plain_touches g (effect.Leave d name) i off = one_subject i (effect.Leave d name) off
plain_touches g (effect.Names j n) i off = one_subject i (effect.Names j n) off
plain_touches g (effect.Size j size) i off = one_subject i (effect.Size j size) off
plain_touches g (effect.Bytes j at new) i off = one_subject i (effect.Bytes j at new) off
plain_touches g (effect.Drop j) i off = one_subject i (effect.Drop j) off
plain_touches g (effect.Swap d a e b) i off = entries_touch i d a e b (child_at g d a) (child_at g e b) off

pub here : (i : ℕ) (is : List ℕ) → is_among i (i ∷ is) ≡ true
here i is = ap (λ b. b || is_among i is) (eq-eqb i i refl)

second : (i j : ℕ) → is_among j (i ∷ j ∷ []) ≡ true
second i j = elim (i == j) as (λ b. (b || is_among j (j ∷ [])) ≡ true) [ true ↦ refl | false ↦ here j [] ]

-- it is the same on graphs that are alike at the subjects
pub plain_same : (g h : Graph) (e : Effect) → ((j : ℕ) → is_among j (subjects e) ≡ true → g j ≡ h j) → plain_effects g e ≡ plain_effects h e
plain_same g h (effect.Make j k) alike = refl
plain_same g h (effect.Enter d j k name) alike = refl
plain_same g h (effect.Leave d name) alike = refl
plain_same g h (effect.Names j n) alike = refl
plain_same g h (effect.Size j size) alike = refl
plain_same g h (effect.Bytes j at new) alike = refl
plain_same g h (effect.Drop j) alike = refl
plain_same g h (effect.Swap d a e b) alike =
    ap (λ (o : Option Node). exchanged_entries d a e b (fin.get (node_entries o) a) (child_at g e b)) (alike d (here d (e ∷ [])))
    ∙ ap (λ (o : Option Node). exchanged_entries d a e b (child_at h d a) (fin.get (node_entries o) b)) (alike e (second d e))

-- ---- one effect

pub untouched_one : (g : Graph) (e : Effect) (i : ℕ) → is_among i (subjects e) ≡ false → after_effect g e i ≡ g i
untouched_one g e i off = acted_untouched g (plain_effects g e) i (plain_touches g e i off)

local_one : (g h : Graph) (e : Effect) → ((j : ℕ) → is_among j (subjects e) ≡ true → g j ≡ h j) → (i : ℕ) → g i ≡ h i → after_effect g e i ≡ after_effect h e i
local_one g h e alike i same = ap (λ es. acted_all g es i) (plain_same g h e alike) ∙ acted_alone g h (plain_effects h e) i same

-- ---- effects one after the other

-- an inode that no effect has as its subject stays
pub untouched : (g : Graph) (es : List Effect) (i : ℕ) → is_among i (touches es) ≡ false → after_effects g es i ≡ g i
untouched g [] i e = refl
untouched g (f ∷ es) i e =
    let p = among_append i (subjects f) (touches es) (ap (is_among i) (sym (flat_map-cons subjects f es)) ∙ e) in
    untouched (after_effect g f) es i p.1 ∙ untouched_one g f i p.0

-- what effects make of an inode depends on what stands there, and at the inodes that they touch
pub local : (g h : Graph) (es : List Effect) → ((j : ℕ) → is_among j (touches es) ≡ true → g j ≡ h j) → (i : ℕ) → g i ≡ h i → after_effects g es i ≡ after_effects h es i
local g h [] alike i same = same
local g h (f ∷ es) alike i same =
    let all : touches (f ∷ es) ≡ subjects f ++ touches es = flat_map-cons subjects f es in
    let one = local_one g h f (λ j there. alike j (ap (is_among j) all ∙ among_first j (subjects f) (touches es) there)) in
    local (after_effect g f) (after_effect h f) es (λ j there. one j (alike j (ap (is_among j) all ∙ among_rest j (subjects f) (touches es) there))) i (one i same)

-- ---- rows of effects that touch no common inode

untouched_by : (is js : List ℕ) (i : ℕ) → AreApart is js → is_among i is ≡ true → is_among i js ≡ false
untouched_by is js i apart there = elim (is_among i js) as (λ b. is_among i js ≡ b → b ≡ false) [
  | true ↦ λ e. absurd (apart i there e)
  | false ↦ λ e. refl
] refl

-- what a row leaves is as it was for another
beside : (g : Graph) (es fs : List Effect) → AreApart (touches es) (touches fs) → (i : ℕ) → is_among i (touches fs) ≡ false → after_effects (after_effects g fs) es i ≡ after_effects g es i
beside g es fs apart i off = local (after_effects g fs) g es (λ j there. untouched g fs j (untouched_by (touches es) (touches fs) j apart there)) i (untouched g fs i off)

pub rows_commute : (g : Graph) (es fs : List Effect) → AreApart (touches es) (touches fs) → after_effects (after_effects g es) fs ≡ after_effects (after_effects g fs) es
rows_commute g es fs apart = λ t i. at i t where
  at : (i : ℕ) → after_effects (after_effects g es) fs i ≡ after_effects (after_effects g fs) es i
  at i = elim (is_among i (touches es)) as (λ b. is_among i (touches es) ≡ b → after_effects (after_effects g es) fs i ≡ after_effects (after_effects g fs) es i) [
    | true ↦ λ there.
        let off = untouched_by (touches es) (touches fs) i apart there in
        untouched (after_effects g es) fs i off ∙ sym (beside g es fs apart i off)
    | false ↦ λ off. beside g fs es (λ j a b. apart j b a) i off ∙ sym (untouched (after_effects g fs) es i off)
  ] refl

pub effects_commute : (g : Graph) (e f : Effect) → AreApart (subjects e) (subjects f) → after_effect (after_effect g e) f ≡ after_effect (after_effect g f) e
effects_commute g e f apart =
    let one = λ (x : Effect). flat_map-cons subjects x [] ∙ append-nil (subjects x) in
    rows_commute g (e ∷ []) (f ∷ []) (λ i a b. apart i (ap (is_among i) (sym (one e)) ∙ a) (ap (is_among i) (sym (one f)) ∙ b))

-- ---- without a Swap

pub acted_append : (g : Graph) (es fs : List Effect) → acted_all g (es ++ fs) ≡ acted_all (acted_all g es) fs
acted_append g [] fs = refl
acted_append g (e ∷ es) fs = acted_append (acted_graph g e) es fs

-- an effect that is no Swap acts by itself
pub plain_is : (g : Graph) (e : Effect) → is_swap e ≡ false → after_effect g e ≡ acted_graph g e
plain_is g (effect.Make j k) off = refl
plain_is g (effect.Enter d j k name) off = refl
plain_is g (effect.Leave d name) off = refl
plain_is g (effect.Names j n) off = refl
plain_is g (effect.Size j size) off = refl
plain_is g (effect.Bytes j at new) off = refl
plain_is g (effect.Drop j) off = refl
plain_is g (effect.Swap d a e b) off = absurd cc

pub acted_is : (g : Graph) (es : List Effect) → AllByRecursion (λ e. is_swap e ≡ false) es → after_effects g es ≡ acted_all g es
acted_is g [] none = refl
acted_is g (e ∷ es) none = ap (λ (h : Graph). after_effects h es) (plain_is g e none.0) ∙ acted_is (acted_graph g e) es none.1

entries_plain : (d : ℕ) (a : List ℕ) (e : ℕ) (b : List ℕ) (x y : Option (ℕ × Kind)) (es : List Effect) → AllByRecursion (λ f. is_swap f ≡ false) es → AllByRecursion (λ f. is_swap f ≡ false) (exchanged_entries d a e b x y ++ es)
entries_plain d a e b (Some x) (Some y) es rest = (refl, (refl, rest))
entries_plain d a e b (Some x) None es rest = rest
entries_plain d a e b None y es rest = rest

plain_first : (g : Graph) (e : Effect) (es : List Effect) → AllByRecursion (λ f. is_swap f ≡ false) es → AllByRecursion (λ f. is_swap f ≡ false) (plain_effects g e ++ es)
plain_first g (effect.Make j k) es rest = (refl, rest)
plain_first g (effect.Enter d j k name) es rest = (refl, rest)
plain_first g (effect.Leave d name) es rest = (refl, rest)
plain_first g (effect.Names j n) es rest = (refl, rest)
plain_first g (effect.Size j size) es rest = (refl, rest)
plain_first g (effect.Bytes j at new) es rest = (refl, rest)
plain_first g (effect.Drop j) es rest = (refl, rest)
plain_first g (effect.Swap d a e b) es rest = entries_plain d a e b (child_at g d a) (child_at g e b) es rest

pub settled_plain : (g : Graph) (es : List Effect) → AllByRecursion (λ e. is_swap e ≡ false) (settled_effects g es)
settled_plain g [] = tt
settled_plain g (e ∷ es) = plain_first g e (settled_effects (after_effect g e) es) (settled_plain (after_effect g e) es)

-- what stands for effects does what they do
pub settled_acts : (g : Graph) (es : List Effect) → after_effects g es ≡ acted_all g (settled_effects g es)
settled_acts g [] = refl
settled_acts g (e ∷ es) = settled_acts (after_effect g e) es ∙ sym (acted_append g (plain_effects g e) (settled_effects (after_effect g e) es))

pub settled_is : (g : Graph) (es : List Effect) → after_effects g es ≡ after_effects g (settled_effects g es)
settled_is g es = settled_acts g es ∙ sym (acted_is g (settled_effects g es) (settled_plain g es))

-- ---- graphs in which the same directories stand

abbrev pub or_empty : Option (Entries (ℕ × Kind)) → Entries (ℕ × Kind)
or_empty None = fin.empty
or_empty (Some es) = es

pub entries_in : (o : Option Node) → node_entries o ≡ or_empty (directory_in o)
entries_in None = refl
entries_in (Some n) = elim (n.body) as (λ y. node_entries (Some (record { names = n.names; body = y })) ≡ or_empty (directory_in (Some (record { names = n.names; body = y })))) [ FileBody bytes ↦ refl | DirBody es ↦ refl ]

-- what an effect makes of a directory
abbrev directory_after : Effect → Option (Entries (ℕ × Kind)) → Option (Entries (ℕ × Kind))
directory_after (effect.Make i kind.File) old = None
directory_after (effect.Make i kind.Directory) old = Some fin.empty
directory_after (effect.Enter d i k name) old = option_map (λ es. fin.insert es name (i, k)) old
directory_after (effect.Leave d name) old = option_map (λ es. fin.remove es name) old
directory_after (effect.Names i n) old = old
directory_after (effect.Size i size) old = old
directory_after (effect.Bytes i at new) old = old
directory_after (effect.Drop i) old = None
directory_after (effect.Swap d a e b) old = old

directory_acts : (e : Effect) (o : Option Node) → directory_in (subject_after e o) ≡ directory_after e (directory_in o)
directory_acts (effect.Make i kind.File) o = refl
directory_acts (effect.Make i kind.Directory) o = refl
directory_acts (effect.Enter d i k name) None = refl
directory_acts (effect.Enter d i k name) (Some n) = elim (n.body) as (λ y. directory_in (subject_after (effect.Enter d i k name) (Some (record { names = n.names; body = y }))) ≡ directory_after (effect.Enter d i k name) (directory_in (Some (record { names = n.names; body = y })))) [ FileBody bytes ↦ refl | DirBody es ↦ refl ]
directory_acts (effect.Leave d name) None = refl
directory_acts (effect.Leave d name) (Some n) = elim (n.body) as (λ y. directory_in (subject_after (effect.Leave d name) (Some (record { names = n.names; body = y }))) ≡ directory_after (effect.Leave d name) (directory_in (Some (record { names = n.names; body = y })))) [ FileBody bytes ↦ refl | DirBody es ↦ refl ]
directory_acts (effect.Names i m) None = refl
directory_acts (effect.Names i m) (Some n) = refl
directory_acts (effect.Size i size) None = refl
directory_acts (effect.Size i size) (Some n) = elim (n.body) as (λ y. directory_in (subject_after (effect.Size i size) (Some (record { names = n.names; body = y }))) ≡ directory_in (Some (record { names = n.names; body = y }))) [ FileBody bytes ↦ refl | DirBody es ↦ refl ]
directory_acts (effect.Bytes i at new) None = refl
directory_acts (effect.Bytes i at new) (Some n) = elim (n.body) as (λ y. directory_in (subject_after (effect.Bytes i at new) (Some (record { names = n.names; body = y }))) ≡ directory_in (Some (record { names = n.names; body = y }))) [ FileBody bytes ↦ refl | DirBody es ↦ refl ]
directory_acts (effect.Drop i) o = refl
directory_acts (effect.Swap d a e b) o = refl

acted_directory : (g h : Graph) (e : Effect) (j : ℕ) → directory_in (g j) ≡ directory_in (h j) → directory_in (acted_graph g e j) ≡ directory_in (acted_graph h e j)
acted_directory g h e j same = elim (is_among j (subjects e)) as (λ b. directory_in (cond b (subject_after e (g j)) (g j)) ≡ directory_in (cond b (subject_after e (h j)) (h j))) [
  | true ↦ directory_acts e (g j) ∙ ap (directory_after e) same ∙ sym (directory_acts e (h j))
  | false ↦ same
]

pub acted_directories : (g h : Graph) (es : List Effect) (j : ℕ) → directory_in (g j) ≡ directory_in (h j) → directory_in (acted_all g es j) ≡ directory_in (acted_all h es j)
acted_directories g h [] j same = same
acted_directories g h (e ∷ es) j same = acted_directories (acted_graph g e) (acted_graph h e) es j (acted_directory g h e j same)

plain_by_directories : (g h : Graph) (e : Effect) → StandAlike (subjects e) g h → plain_effects g e ≡ plain_effects h e
plain_by_directories g h (effect.Make j k) alike = refl
plain_by_directories g h (effect.Enter d j k name) alike = refl
plain_by_directories g h (effect.Leave d name) alike = refl
plain_by_directories g h (effect.Names j n) alike = refl
plain_by_directories g h (effect.Size j size) alike = refl
plain_by_directories g h (effect.Bytes j at new) alike = refl
plain_by_directories g h (effect.Drop j) alike = refl
plain_by_directories g h (effect.Swap d a e b) alike =
    ap (λ m. exchanged_entries d a e b (fin.get m a) (child_at g e b)) (entries_in (g d) ∙ ap or_empty (alike d (here d (e ∷ []))) ∙ sym (entries_in (h d)))
    ∙ ap (λ m. exchanged_entries d a e b (child_at h d a) (fin.get m b)) (entries_in (g e) ∙ ap or_empty (alike e (second d e)) ∙ sym (entries_in (h e)))

-- so where the same directories stand at what an effect touches, it makes the same of each directory
directories_one : (g h : Graph) (e : Effect) → StandAlike (subjects e) g h → (i : ℕ) → directory_in (g i) ≡ directory_in (h i) → directory_in (after_effect g e i) ≡ directory_in (after_effect h e i)
directories_one g h e alike i same = ap (λ ps. directory_in (acted_all g ps i)) (plain_by_directories g h e alike) ∙ acted_directories g h (plain_effects h e) i same

-- the same directories stand at what the first of effects touches
first_touched : (g h : Graph) (f : Effect) (es : List Effect) → StandAlike (touches (f ∷ es)) g h → StandAlike (subjects f) g h
first_touched g h f es alike j there = alike j (ap (is_among j) (flat_map-cons subjects f es) ∙ among_first j (subjects f) (touches es) there)

-- and behind it at what the others touch
rest_touched : (g h : Graph) (f : Effect) (es : List Effect) → StandAlike (touches (f ∷ es)) g h → StandAlike (touches es) (after_effect g f) (after_effect h f)
rest_touched g h f es alike j there = directories_one g h f (first_touched g h f es alike) j (alike j (ap (is_among j) (flat_map-cons subjects f es) ∙ among_rest j (subjects f) (touches es) there))

-- Where the same directories stand at what effects touch, and the same at an inode, they make the same of it: whatever files are there.
pub local_by_directories : (g h : Graph) (es : List Effect) → StandAlike (touches es) g h → (i : ℕ) → g i ≡ h i → after_effects g es i ≡ after_effects h es i
local_by_directories g h [] alike i same = same
local_by_directories g h (f ∷ es) alike i same =
    local_by_directories (after_effect g f) (after_effect h f) es (rest_touched g h f es alike) i
    (ap (λ ps. acted_all g ps i) (plain_by_directories g h f (first_touched g h f es alike)) ∙ acted_alone g h (plain_effects h f) i same)

-- they make the same directory of the same directory
pub directories_after : (g h : Graph) (es : List Effect) → StandAlike (touches es) g h → (i : ℕ) → directory_in (g i) ≡ directory_in (h i) → directory_in (after_effects g es i) ≡ directory_in (after_effects h es i)
directories_after g h [] alike i same = same
directories_after g h (f ∷ es) alike i same = directories_after (after_effect g f) (after_effect h f) es (rest_touched g h f es alike) i (directories_one g h f (first_touched g h f es alike) i same)

-- ---- units

risen : (b : Bool) (old new : ℕ) → (b ≡ false → new ≡ old) → new ≤ old + cond b (new - old) 0
risen true old new same = omega arith
risen false old new same = let e : new ≡ old = same refl in omega (arith, e)

pub charge_rises : (g : Graph) (es : List Effect) → charge (after_effects g es) ≤ charge g + growth g es
unfolding charge growth
charge_rises g es =
    sum_below 1024 (λ i. cost (g i)) (λ i. cost (after_effects g es i)) (λ i. cond (is_among i (touches es)) (rise g (after_effects g es) i) 0)
    (λ i. risen (is_among i (touches es)) (cost (g i)) (cost (after_effects g es i)) (λ e. ap cost (untouched g es i e)))
