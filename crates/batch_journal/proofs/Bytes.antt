-- Slices of a torn tier.
use Rattle.std.proofs.Common.{◌≡◌, ◌⊎◌, inl, inr, ℕ, zero, suc, ◌+◌, ◌-◌, ◌≤◌, List, [], ◌∷◌, ◌++◌, length, take, drop, refl, sym, ◌∙◌, ap, arith, append_assoc}
use Rattle.std.proofs.lemmas.List.{take_at, drop_at, drop-drop, drop-take, length-take-le}
use Rattle.tier_device.specs.Media.{overwritten, Torn}
use Rattle.batch_journal.specs.Images.{slice}

pub take_shorter : (m n : ℕ) (c : List ℕ) → m ≤ n → take m (take n c) ≡ take m c
take_shorter zero n c le = refl
take_shorter (suc m) zero c le = absurd (omega (arith, le))
take_shorter (suc m) (suc n) [] le = refl
take_shorter (suc m) (suc n) (x ∷ xs) le = ap (λ l. x ∷ l) (take_shorter m n xs (omega (arith, le)))

-- a slice before what is torn, and one behind it
pub slice_before : (at n : ℕ) (d c : List ℕ) → Torn at n d c → (p l : ℕ) → p + l ≤ at → slice p l c ≡ slice p l d
slice_before at n d c torn p l le =
    sym (drop-take p l c) ∙ ap (drop p) (sym (take_shorter (p + l) at c le) ∙ ap (take (p + l)) torn.before ∙ take_shorter (p + l) at d le) ∙ drop-take p l d

pub slice_behind : (at n : ℕ) (d c : List ℕ) → Torn at n d c → (p l : ℕ) → at + n ≤ p → slice p l c ≡ slice p l d
slice_behind at n d c torn p l le =
    let split : (at + n) + (p - (at + n)) ≡ p = omega (arith, le) in
    let moved : (x : List ℕ) → drop p x ≡ drop (p - (at + n)) (drop (at + n) x) = λ x. ap (λ k. drop k x) (sym split) ∙ sym (drop-drop (p - (at + n)) (at + n) x) in
    ap (take l) (moved c ∙ ap (drop (p - (at + n))) torn.after ∙ sym (moved d))

pub slice_apart : (at n : ℕ) (d c : List ℕ) → Torn at n d c → (p l : ℕ) → (p + l ≤ at) ⊎ (at + n ≤ p) → slice p l c ≡ slice p l d
slice_apart at n d c torn p l (inl le) = slice_before at n d c torn p l le
slice_apart at n d c torn p l (inr le) = slice_behind at n d c torn p l le

-- what was written is read
pub slice_written : (s : List ℕ) (at : ℕ) (bytes : List ℕ) (n : ℕ) → n ≡ length bytes → at ≤ length s → slice at n (overwritten s at bytes) ≡ bytes
slice_written s at bytes n is le =
    let long : length (take at s) ≡ at = length-take-le at s le in
    ap (λ (l : List ℕ). take n (drop at l)) (append_assoc (take at s) bytes (drop (at + length bytes) s))
    ∙ ap (take n) (drop_at (take at s) (bytes ++ drop (at + length bytes) s) at long) ∙ take_at bytes (drop (at + length bytes) s) n (sym is)

pub torn_same : (at n : ℕ) (d : List ℕ) → Torn at n d d
torn_same at n d = record { before = refl; after = refl; same_length = refl }
