-- A table of slots of which nothing is known.
use Rattle.std.proofs.Common.{◌≡◌, ℕ, zero, suc, List, [], ◌∷◌, ◌++◌, length, Option, None, refl}
use Rattle.client_plan.specs.call_effects.NodeView.{NodeView}
use Rattle.client_view.specs.KnowledgeTables.{copy_at}

-- one more, of which nothing is known either
pub unknown_more : (cs : List (Option (Option NodeView))) (i : ℕ) → copy_at (cs ++ None ∷ []) i ≡ copy_at cs i
unknown_more [] zero = refl
unknown_more [] (suc i) = refl
unknown_more (c ∷ cs) zero = refl
unknown_more (c ∷ cs) (suc i) = unknown_more cs i

pub nothing_known : (i : ℕ) → copy_at [] i ≡ None
nothing_known zero = refl
nothing_known (suc i) = refl

-- the slots so far
pub record AreUnknown (cs : List (Option (Option NodeView))) (count : ℕ) : Type 0 where
  pub long : length cs ≡ count
  pub unknown : (i : ℕ) → copy_at cs i ≡ None
