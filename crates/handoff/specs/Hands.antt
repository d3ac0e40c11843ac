-- The hands of the places, with nothing put and nothing taken.
use Rattle.std.specs.Prelude.{ℕ, zero, suc, List, [], ◌∷◌}
use Rattle.handoff.specs.declared.hand.Hand.{Hand}

abbrev pub place_of : {T : Type 0} → Hand T → ℕ
place_of h = h.place

abbrev pub empty_hand : {T : Type 0} → ℕ → Hand T
empty_hand k = record { place = k; put = []; taken = [] }

abbrev pub hands_from : {T : Type 0} → ℕ → ℕ → List (Hand T)
hands_from k zero = []
hands_from k (suc n) = empty_hand k ∷ hands_from (suc k) n

-- those of the places below n
abbrev pub hands : {T : Type 0} → ℕ → List (Hand T)
hands n = hands_from 0 n
