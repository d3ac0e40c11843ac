-- Texts that are filled up with zeros.
use Rattle.std.proofs.Common.{◌≡◌, ℕ, ◌-◌, ◌≤◌, List, ◌++◌, length, refl, ap, ◌∙◌, arith}
use Rattle.std.proofs.lemmas.List.{length-append, length-replicate}
use Rattle.layout.specs.Bytes.{zeros, padded_text}

pub zeros_long : (n : ℕ) → length (zeros n) ≡ n
unfolding zeros
zeros_long n = length-replicate n 0

pub padded_is : (n : ℕ) (text : List ℕ) → padded_text n text ≡ text ++ zeros (n - length text)
unfolding padded_text
padded_is n text = refl

pub padded_long : (n : ℕ) (text : List ℕ) → length text ≤ n → length (padded_text n text) ≡ n
padded_long n text few = let zeros' = zeros_long (n - length text) in ap length (padded_is n text) ∙ length-append text (zeros (n - length text)) ∙ omega (arith, few, zeros')
