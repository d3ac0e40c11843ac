-- What is known of nodes after effects is so in the graph after them.
use Rattle.std.proofs.Common.{◌≡◌, ℕ, List, [], ◌∷◌, ◌++◌, refl, Some, None, Option, cond, ap, sym, ◌∙◌, true, false, Bool, ◌==◌, ◌||◌}
use Rattle.std.specs.Prelude.{option_map, unwrap_or, IsSome, is_some}
use Rattle.std.specs.FinMap as fin
use Rattle.log_record.specs.file_graph.Graph.{Graph, Node, FileBody, DirBody, subjects, is_among, acted_graph, acted_all, exchanged_entries, node_entries, child_at, plain_effects, after_effect, after_effects, touches, swapped_directories}
use Rattle.log_record.specs.file_graph.declared.effect.Kind.{Kind}
use Rattle.log_record.specs.file_graph.declared.effect.Effect.{Effect}
use Rattle.log_record.specs.file_graph.declared.effect.Effect.TheVariants as effect
use Rattle.log_record.proofs.file_graph_lemmas.Touches.{here}
use Rattle.call_effects.specs.KnownCopies.{Copies, AreSeen, child_known, plain_known, known_acted, known_acted_all, known_after_effect, known_after, IsSwapKnown, SwapsAreKnown}
use Rattle.call_effects.specs.NodeView.{NodeView, view_of_node, view_of_body, view_at, view_acted, view_after, view_entries}
use Rattle.call_effects.proofs.Blocks.{mapped}
use Rattle.call_effects.proofs.NodeViews.{view_acts_if, among_append}

-- ---- what is known is so

acted_seen : (e : Effect) (known : Copies) (g : Graph) → AreSeen known g → AreSeen (known_acted e known) (acted_graph g e)
acted_seen e known g seen i copy is =
    let was = mapped (λ v. cond (is_among i (subjects e)) (view_acted e v) v) (known i) copy is in
    view_acts_if (is_among i (subjects e)) e (g i) ∙ ap (λ v. cond (is_among i (subjects e)) (view_acted e v) v) (seen i was.0 was.1) ∙ was.2

all_seen : (es : List Effect) (known : Copies) (g : Graph) → AreSeen known g → AreSeen (known_acted_all es known) (acted_all g es)
all_seen [] known g seen = seen
all_seen (e ∷ es) known g seen = all_seen es (known_acted e known) (acted_graph g e) (acted_seen e known g seen)

entries_viewed : (o : Option Node) → view_entries (option_map view_of_node o) ≡ node_entries o
entries_viewed None = refl
entries_viewed (Some n) = elim (n.body) as (λ y. view_entries (Some (view_of_body n.names y)) ≡ node_entries (Some (record { names = n.names; body = y }))) [ FileBody bytes ↦ refl | DirBody es ↦ refl ]

there : {A : Type 0} (o : Option A) → IsSome o → (x : A) × (o ≡ Some x)
there None some = absurd (let clash : false ≡ true = some in cc)
there (Some x) some = (x, refl)

-- what a name of a known directory leads to
child_seen : (known : Copies) (g : Graph) (d : ℕ) (name : List ℕ) → AreSeen known g → IsSome (known d) → child_known known d name ≡ child_at g d name
child_seen known g d name seen some =
    let copy = there (known d) some in
    ap (λ (o : Option (Option NodeView)). fin.get (view_entries (unwrap_or o None)) name) copy.1
    ∙ ap (λ v. fin.get (view_entries v) name) (sym (seen d copy.0 copy.1))
    ∙ ap (λ m. fin.get m name) (entries_viewed (g d))

plain_seen : (known : Copies) (g : Graph) (e : Effect) → AreSeen known g → IsSwapKnown known e → plain_known known e ≡ plain_effects g e
plain_seen known g (effect.Swap d a e b) seen some =
    ap (λ x. exchanged_entries d a e b x (child_known known e b)) (child_seen known g d a seen some.0)
    ∙ ap (λ y. exchanged_entries d a e b (child_at g d a) y) (child_seen known g e b seen some.1)
plain_seen known g e seen some = refl

-- where both directories of each Swap are known, what is known after effects is so after them
pub seen_after : (es : List Effect) (known : Copies) (g : Graph) → AreSeen known g → SwapsAreKnown known es → AreSeen (known_after es known) (after_effects g es)
seen_after [] known g seen swaps = seen
seen_after (e ∷ es) known g seen swaps =
    let here = plain_seen known g e seen swaps.0 in
    let next = all_seen (plain_known known e) known g seen in
    seen_after es (known_after_effect e known) (after_effect g e) (λ j c at. ap (λ ps. view_at (acted_all g ps) j) (sym here) ∙ next j c at) swaps.1

-- ---- one list of effects after another

pub known_joined : (es more : List Effect) (known : Copies) → known_after (es ++ more) known ≡ known_after more (known_after es known)
known_joined [] more known = refl
known_joined (e ∷ es) more known = known_joined es more (known_after_effect e known)

-- ---- at an inode that no Swap names

map_same : {A : Type 0} (o : Option A) → o ≡ option_map (λ x. x) o
map_same None = refl
map_same (Some x) = refl

map_twice : {A B C : Type 0} (f : A → B) (h : B → C) (o : Option A) → option_map h (option_map f o) ≡ option_map (λ x. h (f x)) o
map_twice f h None = refl
map_twice f h (Some x) = refl

acted_apart : (e : Effect) (known : Copies) (i : ℕ) → is_among i (subjects e) ≡ false → known_acted e known i ≡ known i
acted_apart e known i off = ap (λ b. option_map (λ v. cond b (view_acted e v) v) (known i)) off ∙ sym (map_same (known i))

-- an Enter acts on its directory alone
entered_apart : (d c : ℕ) (k : Kind) (a : List ℕ) (known : Copies) (i : ℕ) → is_among i (d ∷ []) ≡ false → known_acted (effect.Enter d c k a) known i ≡ known i
entered_apart d c k a known i off = acted_apart (effect.Enter d c k a) known i off

exchanged_apart : (d : ℕ) (a : List ℕ) (e : ℕ) (b : List ℕ) (x y : Option (ℕ × Kind)) (known : Copies) (i : ℕ) → is_among i (d ∷ []) ≡ false → is_among i (e ∷ []) ≡ false → known_acted_all (exchanged_entries d a e b x y) known i ≡ known i
exchanged_apart d a e b (Some x) (Some y) known i off_d off_e = entered_apart e x.0 x.1 b (known_acted (effect.Enter d y.0 y.1 a) known) i off_e ∙ entered_apart d y.0 y.1 a known i off_d
exchanged_apart d a e b (Some x) None known i off_d off_e = refl
exchanged_apart d a e b None y known i off_d off_e = refl

cond_same : {A : Type 0} (c : Bool) (x : A) → x ≡ cond c x x
cond_same true x = refl
cond_same false x = refl

-- what is known of it depends on what was known of it alone
pub known_alone : (es : List Effect) (known : Copies) (i : ℕ) → is_among i (swapped_directories es) ≡ false → known_after es known i ≡ option_map (view_after es i) (known i)
known_alone [] known i off = map_same (known i)
known_alone (effect.Swap d a e b ∷ es) known i off =
    let all = among_append i (d ∷ e ∷ []) (swapped_directories es) off in
    let two = among_append i (d ∷ []) (e ∷ []) all.0 in
    let swap = effect.Swap d a e b in
    known_alone es (known_after_effect swap known) i all.1
    ∙ ap (option_map (view_after es i)) (exchanged_apart d a e b (child_known known d a) (child_known known e b) known i two.0 two.1)
    ∙ ap (λ f. option_map f (known i)) (λ t v. view_after es i (cond_same (is_among i (d ∷ e ∷ [])) v t))
known_alone (e ∷ es) known i off =
    known_alone es (known_acted e known) i off
    ∙ map_twice (λ v. cond (is_among i (subjects e)) (view_acted e v) v) (view_after es i) (known i)

-- ---- what stays known

map_some : {A B : Type 0} (f : A → B) (o : Option A) → is_some (option_map f o) ≡ is_some o
map_some f None = refl
map_some f (Some x) = refl

some_acted : (es : List Effect) (known : Copies) (i : ℕ) → is_some (known_acted_all es known i) ≡ is_some (known i)
some_acted [] known i = refl
some_acted (e ∷ es) known i = some_acted es (known_acted e known) i ∙ map_some (λ v. cond (is_among i (subjects e)) (view_acted e v) v) (known i)

-- of an inode something is known after effects if it was before them
pub some_after : (es : List Effect) (known : Copies) (i : ℕ) → is_some (known_after es known i) ≡ is_some (known i)
some_after [] known i = refl
some_after (e ∷ es) known i = some_after es (known_after_effect e known) i ∙ some_acted (plain_known known e) known i

abbrev KnowsAll : Copies → List ℕ → Type 0
KnowsAll known is = (i : ℕ) → is_among i is ≡ true → IsSome (known i)

-- so it is enough that the directories that Swaps name are known before all of them
pub swaps_known : (es : List Effect) (known : Copies) → KnowsAll known (swapped_directories es) → SwapsAreKnown known es
swaps_known [] known all = tt
swaps_known (effect.Swap d a e b ∷ es) known all =
    let swap = effect.Swap d a e b in
    let rest = swapped_directories es in (
      (all d (here d (e ∷ rest)), all e (later (d == e) (is_among e (e ∷ rest)) (here e rest))),
      swaps_known es (known_after_effect swap known) (λ i among. some_acted (plain_known known swap) known i ∙ all i (later (d == i) (is_among i (e ∷ rest)) (later (e == i) (is_among i rest) among))),
    )
  where
    later : (b c : Bool) → c ≡ true → (b || c) ≡ true
    later true c e = refl
    later false c e = e
swaps_known (e ∷ es) known all = (tt, swaps_known es (known_acted e known) (λ i among. some_acted (e ∷ []) known i ∙ all i among))
