-- Names kept in the order of their bytes.
use Rattle.std.proofs.Common.{◌≡◌, ℕ, Bool, true, false, List, [], ◌∷◌, refl, sym, ◌∙◌, inl, inr, ◌⊎◌}
use Rattle.std.specs.Prelude.{◌↔◌, ◌||◌, MatchBool, map, not}
use Rattle.std.specs.List.{list_any}
use Rattle.std.specs.Ordering.{nat_cmp, is_eq, match_ordering}
use Rattle.std.specs.declared.cmp.Ordering.{Ordering}
use Rattle.std.specs.declared.cmp.Ordering.TheVariants.{Less, Equal, Greater}
use Rattle.std.specs.Cmp.Lexicographic.{slice_cmp}
use Rattle.std.specs.BTreeMap.{is_at}
use Rattle.std.specs.BTreeSet.{insert_key}
use Rattle.std.proofs.lemmas.Map.Text.{is_eq-slice_cmp}
use Rattle.std.proofs.lemmas.Map.Lookups.{exact_bytes}
use Rattle.std.proofs.lemmas.Slice.Eq.{bytes_eq-Decides}
use Rattle.area_reader.specs.Names.{IsAmong}

flipped : (T F : Type 0) (b : Bool) → MatchBool b T F → MatchBool (not b) F T
flipped T F true x = x
flipped T F false x = x

module _ {V : Type 0} (bytes : V → List ℕ) where
  abbrev texts : List V → List (List ℕ)
  texts vs = map bytes vs

  abbrev order : V → V → Ordering
  order a b = slice_cmp nat_cmp (bytes a) (bytes b)

  module _ (k : V) where
    step : (x : V) (xs : List V) (t r : Bool) → (t ≡ true → bytes k ≡ bytes x) → (bytes k ≡ bytes x → t ≡ true) → MatchBool r (IsAmong (texts xs) (bytes k)) (IsAmong (texts xs) (bytes k) → ⊥) → MatchBool (t || r) (IsAmong (texts (x ∷ xs)) (bytes k)) (IsAmong (texts (x ∷ xs)) (bytes k) → ⊥)
    step x xs true r when told rest = inl (when refl)
    step x xs false true when told rest = inr rest
    step x xs false false when told rest = λ is. elim is [ inl same ↦ (let e : false ≡ true = told same in cc) | inr more ↦ rest more ]

    -- whether the name of a key is among those of others
    decided : (vs : List V) → MatchBool (list_any (is_at (order k)) vs) (IsAmong (texts vs) (bytes k)) (IsAmong (texts vs) (bytes k) → ⊥)
    decided [] = λ is. is
    decided (x ∷ xs) =
        let told = is_eq-slice_cmp (bytes k) (bytes x) in
        let same = bytes_eq-Decides (bytes k) (bytes x) in
        step x xs (is_eq (order k x)) (list_any (is_at (order k)) xs) (λ t. same.0 (sym told ∙ t)) (λ e. told ∙ same.1 e) (decided xs)

    -- whether it is a new one
    pub is_new : (vs : List V) → MatchBool (not (list_any (is_at (order k)) vs)) (IsAmong (texts vs) (bytes k) → ⊥) (IsAmong (texts vs) (bytes k))
    is_new vs = flipped (IsAmong (texts vs) (bytes k)) (IsAmong (texts vs) (bytes k) → ⊥) (list_any (is_at (order k)) vs) (decided vs)

    more : (x : V) (xs : List V) (n : List ℕ) (o : Ordering) → (o ≡ Equal → bytes k ≡ bytes x) → (IsAmong (texts (insert_key order xs k)) n ↔ (IsAmong (texts xs) n ⊎ (n ≡ bytes k)))
        → IsAmong (texts (match_ordering o (k ∷ x ∷ xs) (x ∷ xs) (x ∷ insert_key order xs k))) n ↔ (IsAmong (texts (x ∷ xs)) n ⊎ (n ≡ bytes k))
    more x xs n Less same rest = (
      λ is. elim is [ inl here ↦ inr here | inr other ↦ inl other ],
      λ is. elim is [ inl other ↦ inr other | inr here ↦ inl here ],
    )
    more x xs n Equal same rest = (
      λ is. inl is,
      λ is. elim is [ inl other ↦ other | inr here ↦ inl (here ∙ same refl) ],
    )
    more x xs n Greater same rest = (
      λ is. elim is [ inl here ↦ inl (inl here) | inr other ↦ elim (rest.0 other) [ inl there ↦ inl (inr there) | inr here ↦ inr here ] ],
      λ is. elim is [ inl other ↦ elim other [ inl here ↦ inl here | inr there ↦ inr (rest.1 (inl there)) ] | inr here ↦ inr (rest.1 (inr here)) ],
    )

    -- the names with one more put in its place
    pub inserted : (vs : List V) (n : List ℕ) → IsAmong (texts (insert_key order vs k)) n ↔ (IsAmong (texts vs) n ⊎ (n ≡ bytes k))
    inserted [] n = (λ is. elim is [ inl here ↦ inr here | inr none ↦ inl none ], λ is. elim is [ inl none ↦ inr none | inr here ↦ inl here ])
    inserted (x ∷ xs) n = more x xs n (order k x) (λ e. exact_bytes (bytes k) (bytes x) e) (inserted xs n)
