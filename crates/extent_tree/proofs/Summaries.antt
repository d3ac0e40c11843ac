-- Nodes and the entries that cover them.
use Rattle.std.proofs.Common.{◌≡◌, ◌≤◌, ◌<◌, ℕ, suc, ◌+◌, ◌-◌, List, [], ◌∷◌, ◌++◌, length, get_or, take, sym, ap, ◌∙◌, refl, arith, append_assoc}
use Rattle.std.proofs.lemmas.List.{append-nil, take_more}
use Rattle.layout.specs.declared.extents.Extent.{Extent}
use Rattle.extent_tree.specs.Normal.{IsRising}
use Rattle.extent_tree.specs.Nodes.{flat, summary, summaries}
use Rattle.extent_tree.proofs.Rising.{rising-order, last-at}

-- ---- one node

pub first-to-last : (low end : ℕ) (es : List Extent) (d : Extent) → IsRising low end es → 0 < length es → (get_or es 0 d).logical ≤ (get_or es (length es - 1) d).logical + (get_or es (length es - 1) d).length
first-to-last low end [] d is some = absurd (omega (arith, some))
first-to-last low end (e ∷ []) d is some = omega arith
first-to-last low end (e ∷ f ∷ es) d is some =
    let lt : 0 < length (e ∷ f ∷ es) - 1 = omega arith in
    let within : length (e ∷ f ∷ es) - 1 < length (e ∷ f ∷ es) = omega arith in
    omega (arith, rising-order low end 0 (length (e ∷ f ∷ es) - 1) (e ∷ f ∷ es) d is lt within)

pub summary-at : (number : ℕ) (es : List Extent) (d : Extent) → 0 < length es → summary number es ≡ record { logical = (get_or es 0 d).logical; length = (get_or es (length es - 1) d).logical + (get_or es (length es - 1) d).length - (get_or es 0 d).logical; place = number }
summary-at number [] d some = absurd (omega (arith, some))
summary-at number (e ∷ es) d some = ap (λ n. record { logical = e.logical; length = n - e.logical; place = number }) (last-at 0 (e ∷ es) d some)

-- ---- nodes one after the other

pub flat-append : (ms ns : List (List Extent)) → flat (ms ++ ns) ≡ flat ms ++ flat ns
flat-append [] ns = refl
flat-append (m ∷ ms) ns = ap (λ l. m ++ l) (flat-append ms ns) ∙ sym (append_assoc m (flat ms) (flat ns))

pub flat-more : (ns : List (List Extent)) (i : ℕ) (d : List Extent) → i < length ns → flat (take (i + 1) ns) ≡ flat (take i ns) ++ get_or ns i d
flat-more ns i d lt = ap flat (take_more ns i d lt) ∙ flat-append (take i ns) (get_or ns i d ∷ []) ∙ ap (λ l. flat (take i ns) ++ l) (append-nil (get_or ns i d))

pub summaries-append : (number : ℕ) (ms ns : List (List Extent)) → summaries number (ms ++ ns) ≡ summaries number ms ++ summaries (number + length ms) ns
summaries-append number [] ns = let e : number ≡ number + 0 = omega arith in ap (λ k. summaries k ns) e
summaries-append number (m ∷ ms) ns =
    let e : number + 1 + length ms ≡ number + suc (length ms) = omega arith in
    ap (λ l. summary number m ∷ l) (summaries-append (number + 1) ms ns ∙ ap (λ k. summaries (number + 1) ms ++ summaries k ns) e)

pub length-summaries : (number : ℕ) (ns : List (List Extent)) → length (summaries number ns) ≡ length ns
length-summaries number [] = refl
length-summaries number (n ∷ ns) = ap suc (length-summaries (number + 1) ns)
