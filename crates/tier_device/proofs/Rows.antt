-- Pieces, one after the other.
use Rattle.std.proofs.Common.{◌≡◌, List, ℕ, [], ◌∷◌, ◌++◌, sym, ◌∙◌, ap, append_assoc}
use Rattle.std.proofs.lemmas.List.{append-nil}
use Rattle.tier_device.specs.Row.{row_bytes}

pub joined_more : (pieces : List (List ℕ)) (piece : List ℕ) → row_bytes (pieces ++ piece ∷ []) ≡ row_bytes pieces ++ piece
joined_more [] piece = append-nil piece
joined_more (p ∷ ps) piece = ap (λ (l : List ℕ). p ++ l) (joined_more ps piece) ∙ sym (append_assoc p (row_bytes ps) piece)
