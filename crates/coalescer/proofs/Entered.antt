-- What swapped names lead to, entered one after the other.
use Rattle.std.proofs.Common.{◌≡◌, ℕ, ◌+◌, ◌<◌, List, [], ◌∷◌, ◌++◌, length, take, get_or, Option, Some, None, refl, ap, sym, ◌∙◌}
use Rattle.graph_change.specs.file_graph.declared.effect.Effect.{Effect}
use Rattle.graph_change.specs.file_graph.declared.effect.Effect.TheVariants as effect
use Rattle.graph_change.specs.file_graph.Graph.{Graph, StandAlike, after_effect, after_effects, child_at, swap_places, swapped_directories, entered_if, entered_places}
use Rattle.graph_change.specs.Net.{Child}
use Rattle.graph_change.specs.Change.{Changes, with_effects}
use Rattle.log_record.proofs.file_graph_lemmas.ToldNames.{told_alike}
use Rattle.coalescer.proofs.Folds.{take_next, with_more}

-- ---- effects on a graph

after_more : (g : Graph) (es fs : List Effect) → after_effects g (es ++ fs) ≡ after_effects (after_effects g es) fs
after_more g [] fs = refl
after_more g (e ∷ es) fs = after_more (after_effect g e) es fs

-- with the next effect of a list
pub next_after : (g : Graph) (es : List Effect) (i : ℕ) (e : Effect) → i < length es → e ≡ get_or es i e → after_effect (after_effects g (take i es)) e ≡ after_effects g (take (i + 1) es)
next_after g es i e lt is =
    ap (λ (x : Effect). after_effect (after_effects g (take i es)) x) is
    ∙ sym (ap (after_effects g) (take_next es i e lt) ∙ after_more g (take i es) (get_or es i e ∷ []))

-- ---- entries

pub places_joined : (es fs : List Effect) → swap_places (es ++ fs) ≡ swap_places es ++ swap_places fs
places_joined [] fs = refl
places_joined (effect.Make i k ∷ es) fs = places_joined es fs
places_joined (effect.Enter d i k name ∷ es) fs = places_joined es fs
places_joined (effect.Leave d name ∷ es) fs = places_joined es fs
places_joined (effect.Names i n ∷ es) fs = places_joined es fs
places_joined (effect.Size i size ∷ es) fs = places_joined es fs
places_joined (effect.Bytes i at bytes ∷ es) fs = places_joined es fs
places_joined (effect.Drop i ∷ es) fs = places_joined es fs
places_joined (effect.Swap d a e b ∷ es) fs = ap (λ (ps : List (ℕ × List ℕ)). (d, a) ∷ (e, b) ∷ ps) (places_joined es fs)

entered_joined : (h : Graph) (ps qs : List (ℕ × List ℕ)) → entered_places h (ps ++ qs) ≡ entered_places h ps ++ entered_places h qs
entered_joined h [] qs = refl
entered_joined h (p ∷ ps) qs =
    elim (child_at h p.0 p.1) as (λ (c : Option Child). entered_if p c (entered_places h (ps ++ qs)) ≡ entered_if p c (entered_places h ps) ++ entered_places h qs) [
      | None ↦ entered_joined h ps qs
      | Some c ↦ ap (λ (es : List Effect). effect.Enter p.0 c.0 c.1 p.1 ∷ es) (entered_joined h ps qs)
    ]

-- with those of the next effect of a list
pub next_entered : (cs : Changes) (h : Graph) (es : List Effect) (i : ℕ) (e : Effect) → i < length es → e ≡ get_or es i e
    → with_effects (with_effects cs (entered_places h (swap_places (take i es)))) (entered_places h (swap_places (e ∷ []))) ≡ with_effects cs (entered_places h (swap_places (take (i + 1) es)))
next_entered cs h es i e lt is =
    sym (with_more cs (entered_places h (swap_places (take i es))) (entered_places h (swap_places (e ∷ []))))
    ∙ ap (with_effects cs) (
    sym (entered_joined h (swap_places (take i es)) (swap_places (e ∷ [])))
    ∙ ap (entered_places h) (
    sym (places_joined (take i es) (e ∷ []))
    ∙ ap swap_places (ap (λ (x : Effect). take i es ++ x ∷ []) is ∙ sym (take_next es i e lt))))

-- those of one Swap
pub both_entered : (cs : Changes) (h : Graph) (d : ℕ) (a : List ℕ) (e : ℕ) (b : List ℕ)
    → with_effects (with_effects cs (entered_if (d, a) (child_at h d a) [])) (entered_if (e, b) (child_at h e b) []) ≡ with_effects cs (entered_places h (swap_places (effect.Swap d a e b ∷ [])))
both_entered cs h d a e b =
    let second : List Effect = entered_if (e, b) (child_at h e b) [] in
    elim (child_at h d a) as (λ (c : Option Child). with_effects (with_effects cs (entered_if (d, a) c [])) second ≡ with_effects cs (entered_if (d, a) c second)) [ None ↦ refl | Some c ↦ refl ]

-- ---- a whole run

-- what is entered after effects on some directories is told on each graph in which these stand
pub told_run : (old new : Changes) (some after g : Graph) (names read : List Effect) → read ≡ names → after ≡ after_effects some read → new ≡ with_effects old (entered_places after (swap_places read))
    → StandAlike (swapped_directories names) some g → new ≡ with_effects old (entered_places (after_effects g names) (swap_places names))
told_run old new some after g names read same is entered alike =
    entered
    ∙ ap (λ (h : Graph). with_effects old (entered_places h (swap_places read))) is
    ∙ ap (λ (es : List Effect). with_effects old (entered_places (after_effects some es) (swap_places es))) same
    ∙ ap (with_effects old) (told_alike some g names alike)
