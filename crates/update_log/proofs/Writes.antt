-- What the writes of an append do to a content.
use Rattle.std.proofs.Common.{◌≡◌, ℕ, ◌+◌, ◌≤◌, List, [], ◌∷◌, ◌++◌, length, take, drop, get_or, sym, ◌∙◌, ap, arith, append_assoc, length-append, take-append-drop}
use Rattle.std.proofs.lemmas.List.{take_at, drop_at, drop_more}
use Rattle.tier_device.specs.Media.{overwritten, Torn}
use Rattle.update_log.specs.Stage.{IsShut, IsStaged}

module _ (front : List ℕ) (end : ℕ) (long : length front ≡ end) where
  to_gate : (gate : ℕ) (rest : List ℕ) → front ++ gate ∷ rest ≡ (front ++ gate ∷ []) ++ rest
  to_gate gate rest = sym (append_assoc front (gate ∷ []) rest)

  length-to_gate : (gate : ℕ) → length (front ++ gate ∷ []) ≡ end + 1
  length-to_gate gate = omega (arith, long, length-append front (gate ∷ []))

  -- a torn write behind the gate leaves it
  pub torn_shut : (n : ℕ) (d c : List ℕ) → IsShut front d → Torn (end + 1) n d c → IsShut front c
  torn_shut n d c shut torn =
      let fore : take (end + 1) c ≡ front ++ shut.gate ∷ [] =
      torn.before ∙ ap (take (end + 1)) (shut.is ∙ to_gate shut.gate shut.rest) ∙ take_at (front ++ shut.gate ∷ []) shut.rest (end + 1) (length-to_gate shut.gate) in
      record {
        gate = shut.gate;
        rest = drop (end + 1) c;
        shut = shut.shut;
        is = sym (take-append-drop (end + 1) c) ∙ ap (λ (l : List ℕ). l ++ drop (end + 1) c) fore ∙ sym (to_gate shut.gate (drop (end + 1) c));
      }

  pub written_staged : (body d : List ℕ) → IsShut front d → IsStaged front body (overwritten d (end + 1) body)
  written_staged body d shut =
      let fore : take (end + 1) d ≡ front ++ shut.gate ∷ [] =
      ap (take (end + 1)) (shut.is ∙ to_gate shut.gate shut.rest) ∙ take_at (front ++ shut.gate ∷ []) shut.rest (end + 1) (length-to_gate shut.gate) in
      let rest = drop (end + 1 + length body) d in
      record {
        gate = shut.gate;
        rest = rest;
        shut = shut.shut;
        is = ap (λ (l : List ℕ). l ++ body ++ rest) fore ∙ append_assoc (front ++ shut.gate ∷ []) body rest ∙ sym (to_gate shut.gate (body ++ rest));
      }

  -- a torn write of the gate leaves all else
  pub torn_gate : (gate : ℕ) (rest d c : List ℕ) → d ≡ front ++ gate ∷ rest → Torn end 1 d c → (g : ℕ) × (c ≡ front ++ g ∷ rest)
  torn_gate gate rest d c is torn =
      let fore : take end c ≡ front = torn.before ∙ ap (take end) is ∙ take_at front (gate ∷ rest) end long in
      let after : drop (end + 1) c ≡ rest =
      torn.after ∙ ap (drop (end + 1)) (is ∙ to_gate gate rest) ∙ drop_at (front ++ gate ∷ []) rest (end + 1) (length-to_gate gate) in
      let within : end + 1 ≤ length c = omega (arith, torn.same_length, ap length is, length-append front (gate ∷ rest), long) in
      let back : drop end c ≡ get_or c end 0 ∷ rest = drop_more c end 0 (omega (arith, within)) ∙ ap (λ (l : List ℕ). get_or c end 0 ∷ l) after in
      (get_or c end 0, sym (take-append-drop end c) ∙ ap (λ (l : List ℕ). l ++ drop end c) fore ∙ ap (λ (l : List ℕ). front ++ l) back)

  pub written_gate : (gate : ℕ) (rest d : List ℕ) → d ≡ front ++ gate ∷ rest → overwritten d end (165 ∷ []) ≡ front ++ 165 ∷ rest
  written_gate gate rest d is =
      ap (λ (l : List ℕ). l ++ (165 ∷ []) ++ drop (end + 1) d) (ap (take end) is ∙ take_at front (gate ∷ rest) end long)
      ∙ ap (λ (l : List ℕ). front ++ (165 ∷ []) ++ l) (ap (drop (end + 1)) (is ∙ to_gate gate rest) ∙ drop_at (front ++ gate ∷ []) rest (end + 1) (length-to_gate gate))
      ∙ append_assoc front (165 ∷ []) rest
