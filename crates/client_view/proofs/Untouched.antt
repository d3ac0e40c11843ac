-- What effects do not touch stays as it is known.
use Rattle.std.proofs.Common.{◌≡◌, ℕ, Bool, true, false, cond, List, [], ◌∷◌, Option, Some, None, refl, ap, sym, ◌∙◌}
use Rattle.std.specs.Prelude.{◌==◌, ◌||◌, option_map}
use Rattle.std.proofs.lemmas.Bool.{eq-eqb}
use Rattle.std.proofs.lemmas.List.Concat.{flat_map-cons}
use Rattle.std.proofs.lemmas.List.Folds.{list_any-append}
use Rattle.client_plan.specs.file_graph.declared.effect.Effect.{Effect}
use Rattle.client_plan.specs.file_graph.declared.effect.Effect.TheVariants as effect
use Rattle.client_plan.specs.file_graph.Subject.{subject}
use Rattle.client_plan.specs.file_graph.Graph.{is_among, subjects, swapped_directories, touches}
use Rattle.client_plan.specs.call_effects.Blocks.{block_acted, block_after}
use Rattle.client_plan.specs.call_effects.KnownCopies.{Copies, known_after, known_after_effect}
use Rattle.client_plan.specs.call_effects.NodeView.{NodeView, view_acted, view_after}
use Rattle.client_plan.proofs.call_effects_lemmas.KnownCopies.{known_alone}

pub neither : (a b : Bool) → (a || b) ≡ false → (a ≡ false) × (b ≡ false)
neither true b e = absurd (cc)
neither false b e = (refl, e)

is_first : (i : ℕ) (rest : List ℕ) → is_among i (i ∷ rest) ≡ true
is_first i rest = ap (λ b. b || is_among i rest) (eq-eqb i i refl)

-- an effect touches its subject
pub subject_among : (e : Effect) → is_among (subject e) (subjects e) ≡ true
subject_among (effect.Make i k) = is_first i []
subject_among (effect.Enter d i k name) = is_first d []
subject_among (effect.Leave d name) = is_first d []
subject_among (effect.Names i n) = is_first i []
subject_among (effect.Size i size) = is_first i []
subject_among (effect.Bytes i at new) = is_first i []
subject_among (effect.Drop i) = is_first i []
subject_among (effect.Swap d a e b) = is_first d (e ∷ [])

pub among_more : (i : ℕ) (e : Effect) (es : List Effect) → is_among i (touches (e ∷ es)) ≡ (is_among i (subjects e) || is_among i (touches es))
among_more i e es = ap (is_among i) (flat_map-cons subjects e es) ∙ list_any-append (λ j. j == i) (subjects e) (touches es)

-- an inode that is touched by none of the effects
pub apart : (i : ℕ) (e : Effect) (es : List Effect) → is_among i (touches (e ∷ es)) ≡ false → (is_among i (subjects e) ≡ false) × (is_among i (touches es) ≡ false)
apart i e es is = neither (is_among i (subjects e)) (is_among i (touches es)) (sym (among_more i e es) ∙ is)

pub untouched_view : (es : List Effect) (i : ℕ) (v : Option NodeView) → is_among i (touches es) ≡ false → view_after es i v ≡ v
untouched_view [] i v is = refl
untouched_view (e ∷ es) i v is = let p = apart i e es is in ap (λ b. view_after es i (cond b (view_acted e v) v)) p.0 ∙ untouched_view es i v p.1

pub untouched_block : (es : List Effect) (i b : ℕ) (o : Option (List ℕ)) → is_among i (touches es) ≡ false → block_after es i b o ≡ o
untouched_block [] i b o is = refl
untouched_block (e ∷ es) i b o is = let p = apart i e es is in ap (λ t. block_after es i b (cond t (block_acted e b o) o)) p.0 ∙ untouched_block es i b o p.1

-- no Swap names an inode that an effect does not touch
swaps_apart : (e : Effect) (i : ℕ) → is_among i (subjects e) ≡ false → is_among i (swapped_directories (e ∷ [])) ≡ false
swaps_apart (effect.Swap d a e b) i off = off
swaps_apart e i off = refl

same_copy : (e : Effect) (i : ℕ) (c : Option (Option NodeView)) → is_among i (subjects e) ≡ false → option_map (view_after (e ∷ []) i) c ≡ c
same_copy e i None off = refl
same_copy e i (Some v) off = ap (λ b. Some (cond b (view_acted e v) v)) off

-- what is known of an inode that effects do not touch stays
one_untouched : (e : Effect) (known : Copies) (i : ℕ) → is_among i (subjects e) ≡ false → known_after_effect e known i ≡ known i
one_untouched e known i off = known_alone (e ∷ []) known i (swaps_apart e i off) ∙ same_copy e i (known i) off

pub untouched_copy : (es : List Effect) (known : Copies) (i : ℕ) → is_among i (touches es) ≡ false → known_after es known i ≡ known i
untouched_copy [] known i is = refl
untouched_copy (e ∷ es) known i is = let p = apart i e es is in untouched_copy es (known_after_effect e known) i p.1 ∙ one_untouched e known i p.0
