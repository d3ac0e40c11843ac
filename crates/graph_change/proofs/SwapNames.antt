-- What names lead to after effects is told by the effects on names alone.
use Rattle.std.proofs.Common.{◌≡◌, ℕ, ◌||◌, cond, Bool, true, false, List, [], ◌∷◌, refl, Some, None, Option, ap, sym, ◌∙◌}
use Rattle.std.specs.Prelude.{option_map, if◌then◌else◌}
use Rattle.std.specs.List.{list_any, AllByRecursion}
use Rattle.file_graph.specs.Plain.{is_swap}
use Rattle.std.specs.FinMap as fin
use Rattle.posix_calls.specs.Content.{Entries}
use Rattle.file_graph.specs.declared.effect.Kind.TheVariants as kind
use Rattle.file_graph.specs.declared.effect.Effect.{Effect}
use Rattle.file_graph.specs.declared.effect.Effect.TheVariants as effect
use Rattle.file_graph.specs.Graph.{Graph, Node, FileBody, DirBody, subjects, is_among, subject_after, acted_graph, acted_all, exchanged_entries, plain_effects, after_effect, after_effects, node_entries, child_at, swap_places, entered_if, entered_places}
use Rattle.graph_change.specs.Net.{Child}
use Rattle.graph_change.specs.Change.{Changes, with_effect, with_effects, coalesced_changes, changed_graph}
use Rattle.graph_change.specs.Swaps.{SwappedChange, is_on_names, on_names, swapped_graph, swapped_sum}
use Rattle.file_graph.proofs.Touches.{acted_append, acted_is}
use Rattle.file_graph.proofs.Swaps.{swaps_last}
use Rattle.graph_change.proofs.Law.{AreTidy, tidy_with, tidy_empty, more_effects, coalesced_law}

-- whether a node stands there, whether it is a directory, and its entries
abbrev listing : Option Node → Option (Option (Entries Child))
listing None = None
listing (Some n) = Some (elim (n.body) [ FileBody bytes ↦ None | DirBody es ↦ Some es ])

abbrev listed_entries : Option (Option (Entries Child)) → Entries Child
listed_entries None = fin.empty
listed_entries (Some None) = fin.empty
listed_entries (Some (Some es)) = es

entries_are : (o : Option Node) → node_entries o ≡ listed_entries (listing o)
entries_are None = refl
entries_are (Some n) = elim (n.body) as (λ y. node_entries (Some (record { names = n.names; body = y })) ≡ listed_entries (listing (Some (record { names = n.names; body = y })))) [ FileBody bytes ↦ refl | DirBody es ↦ refl ]

-- what an effect makes of that
abbrev listing_after : Effect → Option (Option (Entries Child)) → Option (Option (Entries Child))
listing_after (effect.Make i kind.File) old = Some None
listing_after (effect.Make i kind.Directory) old = Some (Some fin.empty)
listing_after (effect.Enter d i k name) old = option_map (option_map (λ es. fin.insert es name (i, k))) old
listing_after (effect.Leave d name) old = option_map (option_map (λ es. fin.remove es name)) old
listing_after (effect.Names i n) old = old
listing_after (effect.Size i size) old = old
listing_after (effect.Bytes i at new) old = old
listing_after (effect.Drop i) old = None
listing_after (effect.Swap d a e b) old = old

listing_acts : (e : Effect) (o : Option Node) → listing (subject_after e o) ≡ listing_after e (listing o)
listing_acts (effect.Make i kind.File) o = refl
listing_acts (effect.Make i kind.Directory) o = refl
listing_acts (effect.Enter d i k name) None = refl
listing_acts (effect.Enter d i k name) (Some n) = elim (n.body) as (λ y. listing (subject_after (effect.Enter d i k name) (Some (record { names = n.names; body = y }))) ≡ listing_after (effect.Enter d i k name) (listing (Some (record { names = n.names; body = y })))) [ FileBody bytes ↦ refl | DirBody es ↦ refl ]
listing_acts (effect.Leave d name) None = refl
listing_acts (effect.Leave d name) (Some n) = elim (n.body) as (λ y. listing (subject_after (effect.Leave d name) (Some (record { names = n.names; body = y }))) ≡ listing_after (effect.Leave d name) (listing (Some (record { names = n.names; body = y })))) [ FileBody bytes ↦ refl | DirBody es ↦ refl ]
listing_acts (effect.Names i m) None = refl
listing_acts (effect.Names i m) (Some n) = refl
listing_acts (effect.Size i size) None = refl
listing_acts (effect.Size i size) (Some n) = elim (n.body) as (λ y. listing (subject_after (effect.Size i size) (Some (record { names = n.names; body = y }))) ≡ listing (Some (record { names = n.names; body = y }))) [ FileBody bytes ↦ refl | DirBody es ↦ refl ]
listing_acts (effect.Bytes i at new) None = refl
listing_acts (effect.Bytes i at new) (Some n) = elim (n.body) as (λ y. listing (subject_after (effect.Bytes i at new) (Some (record { names = n.names; body = y }))) ≡ listing (Some (record { names = n.names; body = y }))) [ FileBody bytes ↦ refl | DirBody es ↦ refl ]
listing_acts (effect.Drop i) o = refl
listing_acts (effect.Swap d a e b) o = refl

-- two graphs have the same listings
abbrev ListAlike : Graph → Graph → Type 0
ListAlike g h = (i : ℕ) → listing (g i) ≡ listing (h i)

acted_alike : (e : Effect) (g h : Graph) → ListAlike g h → ListAlike (acted_graph g e) (acted_graph h e)
acted_alike e g h same i = elim (is_among i (subjects e)) as (λ b. listing (cond b (subject_after e (g i)) (g i)) ≡ listing (cond b (subject_after e (h i)) (h i))) [
  | true ↦ listing_acts e (g i) ∙ ap (listing_after e) (same i) ∙ sym (listing_acts e (h i))
  | false ↦ same i
]

all_alike : (es : List Effect) (g h : Graph) → ListAlike g h → ListAlike (acted_all g es) (acted_all h es)
all_alike [] g h same = same
all_alike (e ∷ es) g h same = all_alike es (acted_graph g e) (acted_graph h e) (acted_alike e g h same)

child_alike : (g h : Graph) → ListAlike g h → (d : ℕ) (name : List ℕ) → fin.get (node_entries (g d)) name ≡ fin.get (node_entries (h d)) name
child_alike g h same d name = ap (λ m. fin.get m name) (entries_are (g d) ∙ ap listed_entries (same d) ∙ sym (entries_are (h d)))

plain_alike : (e : Effect) (g h : Graph) → ListAlike g h → plain_effects g e ≡ plain_effects h e
plain_alike (effect.Make i k) g h same = refl
plain_alike (effect.Enter d i k name) g h same = refl
plain_alike (effect.Leave d name) g h same = refl
plain_alike (effect.Names i n) g h same = refl
plain_alike (effect.Size i size) g h same = refl
plain_alike (effect.Bytes i at new) g h same = refl
plain_alike (effect.Drop i) g h same = refl
plain_alike (effect.Swap d a e b) g h same =
    ap (λ x. exchanged_entries d a e b x (fin.get (node_entries (g e)) b)) (child_alike g h same d a)
    ∙ ap (exchanged_entries d a e b (fin.get (node_entries (h d)) a)) (child_alike g h same e b)

effect_alike : (e : Effect) (g h : Graph) → ListAlike g h → ListAlike (after_effect g e) (after_effect h e)
effect_alike e g h same i = ap (λ es. listing (acted_all g es i)) (plain_alike e g h same) ∙ all_alike (plain_effects h e) g h same i

-- an effect on no name leaves every listing
quiet_at : (e : Effect) (g : Graph) (i : ℕ) → ((o : Option (Option (Entries Child))) → listing_after e o ≡ o) → listing (acted_graph g e i) ≡ listing (g i)
quiet_at e g i stays = elim (is_among i (subjects e)) as (λ b. listing (cond b (subject_after e (g i)) (g i)) ≡ listing (g i)) [ true ↦ listing_acts e (g i) ∙ stays (listing (g i)) | false ↦ refl ]

quiet : (e : Effect) (g : Graph) → is_on_names e ≡ false → ListAlike (after_effect g e) g
quiet (effect.Make i k) g off j = absurd cc
quiet (effect.Enter d i k name) g off j = absurd cc
quiet (effect.Leave d name) g off j = absurd cc
quiet (effect.Names i n) g off j = quiet_at (effect.Names i n) g j (λ o. refl)
quiet (effect.Size i size) g off j = quiet_at (effect.Size i size) g j (λ o. refl)
quiet (effect.Bytes i at new) g off j = quiet_at (effect.Bytes i at new) g j (λ o. refl)
quiet (effect.Drop i) g off j = absurd cc
quiet (effect.Swap d a e b) g off j = absurd cc

-- so the effects on names tell all listings
names_tell : (es : List Effect) (g h : Graph) → ListAlike g h → ListAlike (after_effects g (on_names es)) (after_effects h es)
names_tell [] g h same = same
names_tell (e ∷ es) g h same =
    elim (is_on_names e) as (λ b. is_on_names e ≡ b → ListAlike (after_effects g (if b then e ∷ on_names es else on_names es)) (after_effects (after_effect h e) es)) [
      | true ↦ λ on. names_tell es (after_effect g e) (after_effect h e) (effect_alike e g h same)
      | false ↦ λ off. names_tell es g (after_effect h e) (λ i. same i ∙ sym (quiet e h off i))
    ] refl

-- the names that Swaps name are the same, and so is what is entered at them
pub places_are : (es : List Effect) → swap_places (on_names es) ≡ swap_places es
places_are [] = refl
places_are (effect.Make i k ∷ es) = places_are es
places_are (effect.Enter d i k name ∷ es) = places_are es
places_are (effect.Leave d name ∷ es) = places_are es
places_are (effect.Names i n ∷ es) = places_are es
places_are (effect.Size i size ∷ es) = places_are es
places_are (effect.Bytes i at new ∷ es) = places_are es
places_are (effect.Drop i ∷ es) = places_are es
places_are (effect.Swap d a e b ∷ es) = ap (λ ps. (d, a) ∷ (e, b) ∷ ps) (places_are es)

entered_alike : (g h : Graph) (ps : List (ℕ × List ℕ)) → ListAlike g h → entered_places g ps ≡ entered_places h ps
entered_alike g h [] same = refl
entered_alike g h (p ∷ ps) same = ap (λ c. entered_if p c (entered_places g ps)) (child_alike g h same p.0 p.1) ∙ ap (entered_if p (child_at h p.0 p.1)) (entered_alike g h ps same)

tidy_with_all : (es : List Effect) (cs : Changes) → AreTidy cs → AreTidy (with_effects cs es)
tidy_with_all [] cs tidy = tidy
tidy_with_all (e ∷ es) cs tidy = tidy_with_all es (with_effect e cs) (tidy_with e cs tidy)

-- with these effects kept beside it
abbrev summed : List Effect → List Effect → SwappedChange
summed es names = record { change = coalesced_changes es; names = names }

with_names : (es : List Effect) (g : Graph) → swapped_graph (summed es (on_names es)) g ≡ after_effects g es
with_names es g =
    ap (λ fs. changed_graph (with_effects (coalesced_changes es) fs) g)
    (entered_alike (after_effects g (on_names es)) (after_effects g es) (swap_places (on_names es)) (names_tell es g g (λ i. refl)) ∙ ap (entered_places (after_effects g es)) (places_are es))
    ∙ more_effects (entered_places (after_effects g es) (swap_places es)) (coalesced_changes es) g (tidy_with_all es fin.empty tidy_empty)
    ∙ ap (λ (h : Graph). acted_all h (entered_places (after_effects g es) (swap_places es))) (coalesced_law es g)
    ∙ sym (acted_append g es (entered_places (after_effects g es) (swap_places es)))
    ∙ sym (swaps_last es g)

-- ---- without a Swap none is kept

neither : (a b : Bool) → (a || b) ≡ false → (a ≡ false) × (b ≡ false)
neither true b e = absurd cc
neither false b e = (refl, e)

none_swapped : (es : List Effect) → list_any is_swap es ≡ false → AllByRecursion (λ e. is_swap e ≡ false) es
none_swapped [] off = tt
none_swapped (e ∷ es) off = let both = neither (is_swap e) (list_any is_swap es) off in (both.0, none_swapped es both.1)

without_names : (es : List Effect) (g : Graph) → list_any is_swap es ≡ false → swapped_graph (summed es []) g ≡ after_effects g es
without_names es g off = coalesced_law es g ∙ sym (acted_is g es (none_swapped es off))

pub sum_is : (es : List Effect) (g : Graph) → swapped_graph (swapped_sum es) g ≡ after_effects g es
sum_is es g =
    elim (list_any is_swap es) as (λ b. list_any is_swap es ≡ b → swapped_graph (summed es (if b then on_names es else [])) g ≡ after_effects g es) [
      | true ↦ λ on. with_names es g
      | false ↦ λ off. without_names es g off
    ] refl
