-- What is entered at swapped names adds to a change no block, and no inode that the effects do not touch.
use Rattle.std.proofs.Common.{◌≡◌, inl, inr, ℕ, ◌≤◌, ◌==◌, true, false, List, [], ◌∷◌, length, Option, Some, None, refl, ap, sym, ◌∙◌, subst, arith}
use Rattle.std.specs.Prelude.{◌||◌, nat_eq, map, if◌then◌else◌}
use Rattle.std.specs.Ordering.{nat_cmp, eq_by_cmp}
use Rattle.std.specs.Cmp.{nat_eq_equiv, unsigned_tied}
use Rattle.std.specs.List.{list_any}
use Rattle.std.specs.Set.{distinct_count, unique_keys, is_member}
use Rattle.std.specs.FinMap as fin
use Rattle.std.specs.FinMap.Entries.{is_sorted}
use Rattle.std.proofs.lemmas.Bool.{false≢true}
use Rattle.std.proofs.lemmas.List.{length-map}
use Rattle.std.proofs.lemmas.List.Concat.{flat_map-cons}
use Rattle.std.proofs.lemmas.List.Folds.{list_any-append}
use Rattle.std.proofs.lemmas.Map.Made.{length-le_from_is_member}
use Rattle.graph_change.specs.file_graph.declared.effect.Effect.{Effect}
use Rattle.graph_change.specs.file_graph.declared.effect.Effect.TheVariants as effect
use Rattle.graph_change.specs.file_graph.Graph.{Graph, after_effects, child_at, is_among, subjects, touches, swap_places, entered_if, entered_places}
use Rattle.graph_change.specs.file_graph.Plain.{is_swap}
use Rattle.graph_change.specs.Net.{Child}
use Rattle.graph_change.specs.Change.{Changes, subject, change_at, with_effects, coalesced_changes, writes_block, changes_inode, changes_block}
use Rattle.graph_change.specs.Swaps.{kept_names, on_names, swapped_sum, told_change}
use Rattle.graph_change.proofs.SwapNames.{places_are}
use Rattle.graph_change.proofs.Touched.{coalesces, with_blocks, with_has}
use Rattle.coalescer.specs.Weight.{blocks}
use Rattle.coalescer.specs.Within.{AreBlocksIn}
use Rattle.coalescer.proofs.Counts.{member_unique, same_any}
use Rattle.coalescer.proofs.Within.{or_left, or_right, or_cases, and_nothing, keys_apart, holds, blocks_within_by}

abbrev Place : Type 0
Place = ℕ × List ℕ

-- ---- what effects touch

first_subject : (e : Effect) (q : ℕ) → (q == subject e) ≡ true → is_member nat_eq (subjects e) q ≡ true
first_subject (effect.Make i k) q h = or_left (q == i) false h
first_subject (effect.Enter d i k name) q h = or_left (q == d) false h
first_subject (effect.Leave d name) q h = or_left (q == d) false h
first_subject (effect.Names i n) q h = or_left (q == i) false h
first_subject (effect.Size i size) q h = or_left (q == i) false h
first_subject (effect.Bytes i at bytes) q h = or_left (q == i) false h
first_subject (effect.Drop i) q h = or_left (q == i) false h
first_subject (effect.Swap d a e b) q h = or_left (q == d) (q == e || false) h

-- those of the first effect, and of the others
all_touched : (e : Effect) (es : List Effect) (q : ℕ) → is_member nat_eq (touches (e ∷ es)) q ≡ (is_member nat_eq (subjects e) q || is_member nat_eq (touches es) q)
all_touched e es q = ap (λ xs. is_member nat_eq xs q) (flat_map-cons subjects e es) ∙ list_any-append (nat_eq q) (subjects e) (touches es)

by_first : (e : Effect) (es : List Effect) (q : ℕ) → is_member nat_eq (subjects e) q ≡ true → is_member nat_eq (touches (e ∷ es)) q ≡ true
by_first e es q h = all_touched e es q ∙ or_left (is_member nat_eq (subjects e) q) (is_member nat_eq (touches es) q) h

by_others : (e : Effect) (es : List Effect) (q : ℕ) → is_member nat_eq (touches es) q ≡ true → is_member nat_eq (touches (e ∷ es)) q ≡ true
by_others e es q h = all_touched e es q ∙ or_right (is_member nat_eq (subjects e) q) (is_member nat_eq (touches es) q) h

subject_touched : (es : List Effect) (q : ℕ) → changes_inode es q ≡ true → is_member nat_eq (touches es) q ≡ true
subject_touched [] q h = absurd (false≢true h)
subject_touched (e ∷ es) q h = elim (or_cases (q == subject e) (changes_inode es q) h) [
  | inl here ↦ by_first e es q (first_subject e q here)
  | inr later ↦ by_others e es q (subject_touched es q later)
]

-- ---- where swapped names are

-- the directories of some places are inodes that effects touch
abbrev AreTouched : List Effect → List Place → Type 0
AreTouched es ps = (q : ℕ) → is_member nat_eq (map (λ p. p.0) ps) q ≡ true → is_member nat_eq (touches es) q ≡ true

swapped_touched : (d : ℕ) (a : List ℕ) (f : ℕ) (b : List ℕ) (es : List Effect) → AreTouched es (swap_places es) → AreTouched (effect.Swap d a f b ∷ es) (swap_places (effect.Swap d a f b ∷ es))
swapped_touched d a f b es are q h = elim (or_cases (q == d) (q == f || is_member nat_eq (map (λ p. p.0) (swap_places es)) q) h) [
  | inl first ↦ by_first (effect.Swap d a f b) es q (or_left (q == d) (q == f || false) first)
  | inr rest ↦ elim (or_cases (q == f) (is_member nat_eq (map (λ p. p.0) (swap_places es)) q) rest) [
    | inl second ↦ by_first (effect.Swap d a f b) es q (or_right (q == d) (q == f || false) (or_left (q == f) false second))
    | inr later ↦ by_others (effect.Swap d a f b) es q (are q later)
  ]
]

places_touched : (es : List Effect) → AreTouched es (swap_places es)
places_touched [] q h = absurd (false≢true h)
places_touched (effect.Make i k ∷ es) q h = by_others (effect.Make i k) es q (places_touched es q h)
places_touched (effect.Enter d i k name ∷ es) q h = by_others (effect.Enter d i k name) es q (places_touched es q h)
places_touched (effect.Leave d name ∷ es) q h = by_others (effect.Leave d name) es q (places_touched es q h)
places_touched (effect.Names i n ∷ es) q h = by_others (effect.Names i n) es q (places_touched es q h)
places_touched (effect.Size i size ∷ es) q h = by_others (effect.Size i size) es q (places_touched es q h)
places_touched (effect.Bytes i at bytes ∷ es) q h = by_others (effect.Bytes i at bytes) es q (places_touched es q h)
places_touched (effect.Drop i ∷ es) q h = by_others (effect.Drop i) es q (places_touched es q h)
places_touched (effect.Swap d a f b ∷ es) q h = swapped_touched d a f b es (places_touched es) q h

-- some of the places that Swaps among effects name
pub record AreSwapped (es : List Effect) (ps : List Place) : Type 0 where
  pub touched : AreTouched es ps
  pub few : length ps ≤ length (swap_places es)

pub none_swapped : (es : List Effect) → AreSwapped es []
none_swapped es = record { touched = λ q h. absurd (false≢true h); few = omega arith }

pub kept_swapped : (es : List Effect) → AreSwapped es (swap_places (kept_names es))
kept_swapped es = elim (list_any is_swap es) as (λ b. AreSwapped es (swap_places (if b then on_names es else []))) [
  | true ↦ subst (AreSwapped es) (sym (places_are es)) (record { touched = places_touched es; few = omega arith })
  | false ↦ none_swapped es
]

-- ---- what is entered

-- the change of effects, with what these places lead to in a graph
abbrev pub with_places : List Effect → Graph → List Place → Changes
with_places es h ps = with_effects (coalesced_changes es) (entered_places h ps)

entered_on : (h : Graph) (ps : List Place) (i : ℕ) → changes_inode (entered_places h ps) i ≡ true → is_member nat_eq (map (λ p. p.0) ps) i ≡ true
entered_on h [] i e = absurd (false≢true e)
entered_on h (p ∷ ps) i e =
    elim (child_at h p.0 p.1) as (λ (c : Option Child). changes_inode (entered_if p c (entered_places h ps)) i ≡ true → (i == p.0 || is_member nat_eq (map (λ q. q.0) ps) i) ≡ true) [
      | None ↦ λ t. or_right (i == p.0) (is_member nat_eq (map (λ q. q.0) ps) i) (entered_on h ps i t)
      | Some c ↦ λ t. elim (or_cases (i == p.0) (changes_inode (entered_places h ps) i) t) [
        | inl here ↦ or_left (i == p.0) (is_member nat_eq (map (λ q. q.0) ps) i) here
        | inr later ↦ or_right (i == p.0) (is_member nat_eq (map (λ q. q.0) ps) i) (entered_on h ps i later)
      ]
    ] e

keys_touched : (es : List Effect) (h : Graph) (ps : List Place) → AreTouched es ps → (i : ℕ) → fin.contains_key (with_places es h ps) i ≡ true → is_member nat_eq (touches es) i ≡ true
keys_touched es h ps are i has =
    elim (or_cases (fin.contains_key (coalesced_changes es) i) (changes_inode (entered_places h ps) i) (sym (with_has (entered_places h ps) (coalesced_changes es) i) ∙ has)) [
      | inl old ↦ subject_touched es i (sym ((coalesces es).inodes i) ∙ old)
      | inr new ↦ are i (entered_on h ps i new)
    ]

-- an inode of the change of effects on a graph is one that they touch
pub told_touched : (g : Graph) (es : List Effect) (i : ℕ) → fin.contains_key (told_change g (swapped_sum es)) i ≡ true → is_among i (touches es) ≡ true
told_touched g es i has =
    same_any (λ k. k == i) (nat_eq i) (λ k. nat_eq_equiv.symm k i) (touches es)
    ∙ keys_touched es (after_effects g (kept_names es)) (swap_places (kept_names es)) (kept_swapped es).touched i has

pub inodes_told : (es : List Effect) (h : Graph) (ps : List Place) → AreSwapped es ps → fin.len (with_places es h ps) ≤ distinct_count nat_eq (touches es)
inodes_told es h ps are =
    let cs = with_places es h ps in
    let distinct = keys_apart (fin.entries cs) (holds (is_sorted nat_cmp (fin.entries cs)) (fin.entries_sorted cs)) in
    let few : length (fin.keys cs) ≤ distinct_count nat_eq (touches es) =
    length-le_from_is_member nat_eq_equiv (fin.keys cs) (unique_keys nat_eq (touches es)) distinct
    (λ q t.
    member_unique nat_eq_equiv (touches es) q
    ∙ keys_touched es h ps are.touched q (fin.contains_key-keys cs q ∙ same_any (eq_by_cmp nat_cmp q) (λ k. q == k) (λ k. unsigned_tied q k) (fin.keys cs) ∙ t)) in
    subst (λ (n : ℕ). n ≤ distinct_count nat_eq (touches es)) (sym (fin.len-entries cs ∙ sym (length-map (fin.entries cs) (λ e. e.0)))) few

no_block : (h : Graph) (ps : List Place) (i b : ℕ) → changes_block (entered_places h ps) i b ≡ false
no_block h [] i b = refl
no_block h (p ∷ ps) i b =
    elim (child_at h p.0 p.1) as (λ (c : Option Child). changes_block (entered_if p c (entered_places h ps)) i b ≡ false) [
      | None ↦ no_block h ps i b
      | Some c ↦ ap (λ t. t || changes_block (entered_places h ps) i b) (and_nothing (i == p.0)) ∙ no_block h ps i b
    ]

unwritten : (es : List Effect) (h : Graph) (ps : List Place) (i b : ℕ) → writes_block (change_at (with_places es h ps) i) b ≡ true → writes_block (change_at (coalesced_changes es) i) b ≡ true
unwritten es h ps i b written =
    elim (or_cases (writes_block (change_at (coalesced_changes es) i) b) (changes_block (entered_places h ps) i b) (with_blocks (entered_places h ps) (coalesced_changes es) i b written)) [
      | inl old ↦ old
      | inr new ↦ absurd (false≢true (sym (no_block h ps i b) ∙ new))
    ]

pub blocks_told : (es : List Effect) (h : Graph) (ps : List Place) (bs : List (ℕ × ℕ)) → AreBlocksIn (with_places es h ps) bs → length bs ≤ blocks es
blocks_told es h ps bs are = blocks_within_by es (with_places es h ps) (unwritten es h ps) bs are
