-- What swapped names lead to in the end is told by the directories that Swaps name.
use Rattle.std.proofs.Common.{◌≡◌, ℕ, ◌==◌, ◌||◌, true, false, List, [], ◌∷◌, refl, sym, ap, ◌∙◌}
use Rattle.std.specs.Prelude.{map}
use Rattle.std.specs.FinMap as fin
use Rattle.posix_calls.specs.Content.{Entries}
use Rattle.file_graph.specs.declared.effect.Kind.{Kind}
use Rattle.file_graph.specs.declared.effect.Effect.{Effect}
use Rattle.file_graph.specs.declared.effect.Effect.TheVariants as effect
use Rattle.file_graph.specs.Graph.{Graph, is_among, directory_in, StandAlike, acted_all, plain_effects, exchanged_entries, after_effect, after_effects, child_at, swap_places, swapped_directories, entered_if, entered_places}
use Rattle.file_graph.proofs.Touches.{here, acted_directories, entries_in, or_empty}

later : (i j : ℕ) (is : List ℕ) → is_among j is ≡ true → is_among j (i ∷ is) ≡ true
later i j is there = elim (i == j) as (λ b. (b || is_among j is) ≡ true) [ true ↦ refl | false ↦ there ]

-- a directory that a later Swap names is among all that are named
behind_first : (e : Effect) (es : List Effect) (j : ℕ) → is_among j (swapped_directories es) ≡ true → is_among j (swapped_directories (e ∷ es)) ≡ true
behind_first (effect.Make i k) es j there = there
behind_first (effect.Enter d i k name) es j there = there
behind_first (effect.Leave d name) es j there = there
behind_first (effect.Names i n) es j there = there
behind_first (effect.Size i size) es j there = there
behind_first (effect.Bytes i at new) es j there = there
behind_first (effect.Drop i) es j there = there
behind_first (effect.Swap d a e b) es j there = later d j (e ∷ swapped_directories es) (later e j (swapped_directories es) there)

-- a name of the same directory leads to the same
child_alike : (g h : Graph) (d : ℕ) (name : List ℕ) → directory_in (g d) ≡ directory_in (h d) → child_at g d name ≡ child_at h d name
child_alike g h d name same = ap (λ (m : Entries (ℕ × Kind)). fin.get m name) (entries_in (g d) ∙ ap or_empty same ∙ sym (entries_in (h d)))

-- what stands for the first effect is the same
first_alike : (g h : Graph) (e : Effect) (es : List Effect) → StandAlike (swapped_directories (e ∷ es)) g h → plain_effects g e ≡ plain_effects h e
first_alike g h (effect.Make i k) es alike = refl
first_alike g h (effect.Enter d i k name) es alike = refl
first_alike g h (effect.Leave d name) es alike = refl
first_alike g h (effect.Names i n) es alike = refl
first_alike g h (effect.Size i size) es alike = refl
first_alike g h (effect.Bytes i at new) es alike = refl
first_alike g h (effect.Drop i) es alike = refl
first_alike g h (effect.Swap d a e b) es alike =
    ap (λ x. exchanged_entries d a e b x (child_at g e b)) (child_alike g h d a (alike d (here d (e ∷ swapped_directories es))))
    ∙ ap (exchanged_entries d a e b (child_at h d a)) (child_alike g h e b (alike e (later d e (e ∷ swapped_directories es) (here e (swapped_directories es)))))

-- where the same directories stand at what Swaps name, effects make the same directory of the same
told_after : (g h : Graph) (es : List Effect) → StandAlike (swapped_directories es) g h → (j : ℕ) → directory_in (g j) ≡ directory_in (h j) → directory_in (after_effects g es j) ≡ directory_in (after_effects h es j)
told_after g h [] alike j same = same
told_after g h (e ∷ es) alike j same =
    let first = first_alike g h e es alike in
    let after = λ (k : ℕ) (at : directory_in (g k) ≡ directory_in (h k)). ap (λ ps. directory_in (acted_all g ps k)) first ∙ acted_directories g h (plain_effects h e) k at in
    told_after (after_effect g e) (after_effect h e) es (λ k there. after k (alike k (behind_first e es k there))) j (after j same)

-- so what is entered at names of these directories is the same
entered_alike : (g h : Graph) (ps : List (ℕ × List ℕ)) → StandAlike (map (λ p. p.0) ps) g h → entered_places g ps ≡ entered_places h ps
entered_alike g h [] alike = refl
entered_alike g h (p ∷ ps) alike =
    ap (λ c. entered_if p c (entered_places g ps)) (child_alike g h p.0 p.1 (alike p.0 (here p.0 (map (λ q. q.0) ps))))
    ∙ ap (entered_if p (child_at h p.0 p.1)) (entered_alike g h ps (λ j there. alike j (later p.0 j (map (λ q. q.0) ps) there)))

pub told_alike : (g h : Graph) (es : List Effect) → StandAlike (swapped_directories es) g h → entered_places (after_effects g es) (swap_places es) ≡ entered_places (after_effects h es) (swap_places es)
told_alike g h es alike = entered_alike (after_effects g es) (after_effects h es) (swap_places es) (λ j there. told_after g h es alike j (alike j there))
