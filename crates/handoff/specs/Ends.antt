-- An end of a queue, as its callers see it.
use Rattle.std.specs.Prelude.{ℕ, zero, suc, List, [], ◌∷◌, ◌++◌}
use Rattle.atomic_table.specs.Seated.{TableId}
use Rattle.handoff.specs.declared.hand.Hand.{Hand}
use Rattle.handoff.specs.Hands.{empty_hand}

-- of which queue it is, and the hands of the places that it carries, its own first
pub record EndView (T : Type 0) : Type 0 where
  pub queue : TableId
  pub hands : List (Hand T)

-- the end of one place, which has put and taken nothing
abbrev pub fresh_end : {T : Type 0} → TableId → ℕ → EndView T
fresh_end queue place = record { queue = queue; hands = empty_hand place ∷ [] }

-- those of the places below n, in their order
abbrev pub ends_below : {T : Type 0} → TableId → ℕ → List (EndView T)
ends_below queue zero = []
ends_below queue (suc n) = ends_below queue n ++ fresh_end queue n ∷ []
