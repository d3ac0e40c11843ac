-- What is put into a block.
use Rattle.std.proofs.Common.{◌≡◌, ℕ, cond, Bool, false, List, get_or, Some, None, ap, ◌∙◌, arith}
use Rattle.std.specs.Prelude.{replicate}
use Rattle.std.proofs.lemmas.Grind.{common_steps}
use Rattle.std.proofs.lemmas.List.{get_or_past}
use Rattle.graph_change.specs.View.{patch_of}

unmarked : (n p : ℕ) → get_or (replicate n false) p false ≡ false
unmarked n p = grind (arith, common_steps, get_or_past)

-- where nothing is marked, nothing is put
pub none_put : (bytes : List ℕ) (marks : List Bool) (n p : ℕ) → marks ≡ replicate n false → patch_of (bytes, marks) p ≡ None
none_put bytes marks n p e = ap (λ b. cond b (Some (get_or bytes p 0)) None) (ap (λ ms. get_or ms p false) e ∙ unmarked n p)
