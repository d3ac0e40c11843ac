-- Names of entries that are all different.
use Rattle.std.proofs.Common.{◌≡◌, ◌≢◌, inl, inr, ℕ, suc, ◌<◌, true, List, [], ◌∷◌, length, get_or, refl, ◌∙◌, ap, arith}
use Rattle.std.specs.Prelude.{not}
use Rattle.std.specs.Str.{bytes_eq}
use Rattle.std.proofs.lemmas.Bool.{and_from, cases_Bool}
use Rattle.std.proofs.lemmas.List.{get_or_default}
use Rattle.std.proofs.lemmas.Slice.Eq.{bytes_eq-Decides}
use Rattle.layout.specs.declared.directory.DirEntry.{DirEntry}
use Rattle.layout.specs.Directory.{are_distinct, differ, no_entry}
use Rattle.layout.proofs.Pairs.{all_from}

differing : (x y : DirEntry) → x.name ≢ y.name → differ x y ≡ true
differing x y other = elim (cases_Bool (bytes_eq x.name y.name)) [
  | inl is ↦ absurd (other ((bytes_eq-Decides x.name y.name).0 is))
  | inr off ↦ ap not off
]

pub distinct_names : (es : List DirEntry) → ((i j : ℕ) → i < length es → j < length es → (get_or es i no_entry).name ≡ (get_or es j no_entry).name → i ≡ j) → are_distinct es ≡ true
distinct_names [] d = refl
distinct_names (x ∷ xs) d =
    and_from _ _
    (all_from (differ x) xs (λ k e lt. differing x (get_or xs k e) (λ same.
    let none : 0 ≡ suc k = d 0 (suc k) (omega arith) (omega (arith, lt)) (same ∙ ap (λ (y : DirEntry). y.name) (get_or_default xs k e no_entry lt)) in
    absurd (omega (arith, none)))))
    (distinct_names xs (λ i j li lj same. let more : suc i ≡ suc j = d (suc i) (suc j) (omega (arith, li)) (omega (arith, lj)) same in omega (arith, more)))
