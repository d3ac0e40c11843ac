-- A range of a file off which media were parted.
use Rattle.std.proofs.Common.{◌≡◌, ◌≤◌, ◌+◌, ◌-◌, ◌<◌, ℕ, List, [], ◌∷◌, ◌++◌, length, All, map, sum_by, take, get_or, suc, Bool, true, sym, ◌∙◌, ap, subst, arith}
use Rattle.std.proofs.Math.Seq.{take-suc}
use Rattle.std.proofs.lemmas.List.{map-append}
use Rattle.std.proofs.lemmas.List.Elements.{All-push}
use Rattle.std.proofs.lemmas.List.Sums.{sum_by-cons, sum_by_more, sum_by_more_le}
use Rattle.host_media.specs.declared.file.FileMedia.{FileMedia}
use Rattle.host_media.specs.declared.sizes.Sizes.{Sizes}
use Rattle.host_media.specs.DiskFile.{file_sizes, places_from, IsZero}
use Rattle.host_media.specs.File.{file_begin, file_changes, IsOpened}
use Rattle.host_media.specs.Sizes.{byte_count}

-- the first media of those sizes were
pub record IsParted (blank : Bool) (start changes : ℕ) (sizes : List Sizes) (count begin : ℕ) (media : List FileMedia) : Type 0 where
  pub sizes_of : map file_sizes media ≡ take count sizes
  pub places : map file_begin media ≡ places_from start (take count sizes)
  pub opened : All IsOpened media
  pub zeros : blank ≡ true → All IsZero media
  pub kept : All (λ m. file_changes m ≡ changes) media
  pub next : begin ≡ start + sum_by byte_count (take count sizes)

places-push : (begin : ℕ) (xs : List Sizes) (x : Sizes)
    → places_from begin (xs ++ x ∷ []) ≡ places_from begin xs ++ (begin + sum_by byte_count xs) ∷ []
places-push begin [] x = ap (λ n. n ∷ []) (omega arith)
places-push begin (y ∷ ys) x =
    let later = places-push (begin + byte_count y) ys x in
    let sum = sum_by-cons byte_count y ys in
    ap (λ zs. begin ∷ zs) (later ∙ ap (λ n. places_from (begin + byte_count y) ys ++ n ∷ []) (omega (arith, sum)))

-- and then the next one
pub part_next : (blank : Bool) (start changes : ℕ) (sizes : List Sizes) (count begin : ℕ) (media : List FileMedia) → IsParted blank start changes sizes count begin media
    → (d : Sizes) → count < length sizes → (m : FileMedia) → file_sizes m ≡ get_or sizes count d → file_begin m ≡ begin → IsOpened m
    → (blank ≡ true → IsZero m) → file_changes m ≡ changes → (more : List FileMedia) → more ≡ media ++ m ∷ []
    → IsParted blank start changes sizes (count + 1) (begin + byte_count (get_or sizes count d)) more
part_next blank start changes sizes count begin media parted d within m is_next place opened zeros kept more pushed =
    let next = get_or sizes count d in
    let one_more : count + 1 ≡ suc count = omega arith in
    let longer : take (count + 1) sizes ≡ take count sizes ++ next ∷ [] = ap (λ n. take n sizes) one_more ∙ take-suc sizes count d within in
    let is_begin : start + sum_by byte_count (take count sizes) ≡ file_begin m = omega (arith, parted.next, place) in
    let all : IsParted blank start changes sizes (count + 1) (begin + byte_count next) (media ++ m ∷ []) = record {
      sizes_of = map-append file_sizes media (m ∷ []) ∙ ap (λ xs. xs ++ file_sizes m ∷ []) parted.sizes_of ∙ ap (λ x. take count sizes ++ x ∷ []) is_next ∙ sym longer;
      places =
          map-append file_begin media (m ∷ [])
          ∙ ap (λ ns. ns ++ file_begin m ∷ []) parted.places
          ∙ sym (places-push start (take count sizes) next ∙ ap (λ n. places_from start (take count sizes) ++ n ∷ []) is_begin)
          ∙ sym (ap (places_from start) longer);
      opened = All-push IsOpened media m parted.opened opened;
      zeros = λ is. All-push IsZero media m (parted.zeros is) (zeros is);
      kept = All-push (λ m. file_changes m ≡ changes) media m parted.kept kept;
      next = let sum = sum_by_more byte_count sizes count d within in omega (arith, sum, parted.next);
    } in
    subst (IsParted blank start changes sizes (count + 1) (begin + byte_count next)) (sym pushed) all

-- the next one lies within what is left
pub next_fits : (sizes : List Sizes) (count left : ℕ) (d : Sizes) → left + sum_by byte_count (take count sizes) ≡ sum_by byte_count sizes → count < length sizes
    → byte_count (get_or sizes count d) ≤ left
next_fits sizes count left d all within = let sum = sum_by_more_le byte_count sizes count d within in omega (arith, sum, all)

-- what is left behind it
pub left_next : (sizes : List Sizes) (count left : ℕ) (d : Sizes) → left + sum_by byte_count (take count sizes) ≡ sum_by byte_count sizes → count < length sizes
    → (left - byte_count (get_or sizes count d)) + sum_by byte_count (take (count + 1) sizes) ≡ sum_by byte_count sizes
left_next sizes count left d all within =
    let sum = sum_by_more byte_count sizes count d within in
    let fits = next_fits sizes count left d all within in
    omega (arith, sum, all, fits)
