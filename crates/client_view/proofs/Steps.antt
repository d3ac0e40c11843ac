-- What is laid effect by effect, one more at a time.
use Rattle.std.proofs.Common.{◌≡◌, ◌<◌, ◌≤◌, ℕ, ◌+◌, cond, List, ◌∷◌, length, drop, get_or, Option, ap, sym, ◌∙◌}
use Rattle.std.proofs.lemmas.List.{drop_all, drop_more}
use Rattle.client_plan.specs.file_graph.Graph.{is_among, subjects}
use Rattle.client_plan.specs.file_graph.declared.effect.Effect.{Effect}
use Rattle.client_plan.specs.call_effects.Blocks.{block_acted, block_after}

pub from_here : {X : Type 0} (xs : List X) (k : ℕ) (x : X) → k < length xs → x ≡ get_or xs k x → drop k xs ≡ x ∷ drop (k + 1) xs
from_here {X} xs k x inside is = drop_more xs k x inside ∙ ap (λ (y : X). y ∷ drop (k + 1) xs) (sym is)

module _ (es : List Effect) (i b : ℕ) where
  pub part_more : (k : ℕ) (e : Effect) → k < length es → e ≡ get_or es k e → (now next first : Option (List ℕ)) → next ≡ cond (is_among i (subjects e)) (block_acted e b now) now → block_after (drop k es) i b now ≡ block_after es i b first → block_after (drop (k + 1) es) i b next ≡ block_after es i b first
  part_more k e inside is now next first acted all =
      ap (block_after (drop (k + 1) es) i b) acted ∙ ap (λ (xs : List Effect). block_after xs i b now) (sym (from_here es k e inside is)) ∙ all

  pub part_all : (k : ℕ) → length es ≤ k → (now first : Option (List ℕ)) → block_after (drop k es) i b now ≡ block_after es i b first → now ≡ block_after es i b first
  part_all k done now first all = ap (λ (xs : List Effect). block_after xs i b now) (sym (drop_all k es done)) ∙ all
