-- Bytes that are told, one range behind the other.
use Rattle.std.proofs.Common.{◌≡◌, ◌∙◌, ◌≤◌, ◌+◌, ◌-◌, ℕ, zero, suc, List, ◌∷◌, ◌++◌, length, take, drop, map, sym, ap, refl, arith}
use Rattle.std.specs.Prelude.{replicate}
use Rattle.std.proofs.Math.Seq.{take-append-add, drop-append-add}
use Rattle.std.proofs.lemmas.List.{append_assoc, length-append, length-take-le, length-drop, length-map, map-append, take-map, drop-map, take-append-le, drop-append-le, drop-drop, drop_at, take-replicate, drop-replicate, replicate-append-replicate, take_all, length-replicate}

module _ {A : Type 0} where
  abbrev pub put : List A → ℕ → List A → List A
  put old at new = take at old ++ new ++ drop (at + length new) old

  front-put : (old : List A) (at : ℕ) (new : List A) → at ≤ length old → length (take at old ++ new) ≡ at + length new
  front-put old at new fits = let front = length-take-le at old fits in let both = length-append (take at old) new in omega (arith, front, both)

  -- the length stays
  pub length-put : (old : List A) (at : ℕ) (new : List A) → at + length new ≤ length old → length (put old at new) ≡ length old
  length-put old at new fits =
      let front = front-put old at new (omega (arith, fits)) in
      let behind = length-drop (at + length new) old in
      let all = length-append (take at old ++ new) (drop (at + length new) old) in
      omega (arith, fits, front, behind, all)

  take-put : (old : List A) (at : ℕ) (new : List A) → at ≤ length old → take (at + length new) (put old at new) ≡ take at old ++ new
  take-put old at new fits =
      let front = front-put old at new fits in
      take-append-le (at + length new) (take at old ++ new) (drop (at + length new) old) (omega (arith, front))
      ∙ take_all (at + length new) (take at old ++ new) (omega (arith, front))

  drop-put : (old : List A) (at : ℕ) (new : List A) (more : ℕ) → at ≤ length old → drop (at + length new + more) (put old at new) ≡ drop (at + length new + more) old
  drop-put old at new more fits =
      let front = front-put old at new fits in
      let same : at + length new + more ≡ length (take at old ++ new) + more = omega (arith, front) in
      ap (λ n. drop n (put old at new)) same
      ∙ drop-append-add (take at old ++ new) (drop (at + length new) old) more
      ∙ drop-drop more (at + length new) old

  -- one range behind the other
  pub put-behind : (old : List A) (at : ℕ) (a b : List A) → at ≤ length old → put (put old at a) (at + length a) b ≡ put old at (a ++ b)
  put-behind old at a b fits =
      let both = length-append a b in
      let longer : at + length a + length b ≡ at + length (a ++ b) = omega (arith, both) in
      ap (λ xs. xs ++ b ++ drop (at + length a + length b) (put old at a)) (take-put old at a fits)
      ∙ ap (λ xs. take at old ++ a ++ b ++ xs) (drop-put old at a (length b) fits ∙ ap (λ n. drop n old) longer)
      ∙ ap (λ xs. xs ++ drop (at + length (a ++ b)) old) (append_assoc (take at old) a b)

  -- what was put is there
  pub part-put : (old : List A) (at : ℕ) (new : List A) → at ≤ length old → take (length new) (drop at (put old at new)) ≡ new
  part-put old at new fits =
      ap (λ xs. take (length new) (drop at xs)) (append_assoc (take at old) new (drop (at + length new) old))
      ∙ ap (take (length new)) (drop_at (take at old) (new ++ drop (at + length new) old) at (length-take-le at old fits))
      ∙ take-append-le (length new) new (drop (at + length new) old) (omega arith)
      ∙ take_all (length new) new (omega arith)

  -- in the middle of three rows
  pub put-between : (x y z : List A) (at : ℕ) (v : List A) → at + length v ≤ length y → put (x ++ y ++ z) (length x + at) v ≡ x ++ put y at v ++ z
  put-between x y z at v fits =
      let both = length-append x y in
      let place : length x + at + length v ≡ length x + (at + length v) = omega arith in
      let t = take at y in
      let d = drop (at + length v) y in
      ap (λ xs. xs ++ v ++ drop (length x + at + length v) (x ++ y ++ z)) (take-append-le (length x + at) (x ++ y) z (omega (arith, both, fits)) ∙ take-append-add x y at)
      ∙ ap (λ xs. x ++ t ++ v ++ xs)
      (ap (λ n. drop n (x ++ y ++ z)) place ∙ drop-append-le (length x + (at + length v)) (x ++ y) z (omega (arith, both, fits)) ∙ ap (λ xs. xs ++ z) (drop-append-add x y (at + length v)))
      ∙ sym (append_assoc (x ++ t ++ v) d z)
      ∙ ap (λ xs. xs ++ z) (ap (λ xs. xs ++ d) (append_assoc x t v) ∙ append_assoc x (t ++ v) d)

module _ {A B : Type 0} (f : A → B) where
  pub map-put : (old : List A) (at : ℕ) (new : List A) → map f (put old at new) ≡ put (map f old) at (map f new)
  map-put old at new =
      map-append f (take at old ++ new) (drop (at + length new) old)
      ∙ ap (λ xs. xs ++ map f (drop (at + length new) old)) (map-append f (take at old) new ∙ ap (λ xs. xs ++ map f new) (sym (take-map f at old)))
      ∙ ap (λ xs. take at (map f old) ++ map f new ++ xs) (sym (drop-map f (at + length new) old) ∙ ap (λ n. drop (at + n) (map f old)) (sym (length-map new f)))

  pub map-replicate : (n : ℕ) (x : A) → map f (replicate n x) ≡ replicate n (f x)
  map-replicate zero x = refl
  map-replicate (suc n) x = ap (λ xs. f x ∷ xs) (map-replicate n x)

-- a part of equal ones
pub part-replicate : {A : Type 0} (all at n : ℕ) (x : A) → at + n ≤ all → take n (drop at (replicate all x)) ≡ replicate n x
part-replicate all at n x fits = ap (take n) (drop-replicate at all x) ∙ take-replicate n (all - at) x (omega (arith, fits))

-- equal ones put at the front of others
pub put-equal : {A : Type 0} (at n m : ℕ) (x y : A) → n ≤ m → put (replicate at x ++ replicate m y) at (replicate n x) ≡ replicate (at + n) x ++ replicate (m - n) y
put-equal at n m x y fits =
    let long = length-replicate at x in
    let many = length-replicate n x in
    let place : at + length (replicate n x) ≡ length (replicate at x) + n = omega (arith, long, many) in
    ap (λ xs. xs ++ replicate n x ++ drop (at + length (replicate n x)) (replicate at x ++ replicate m y))
    (take-append-le at (replicate at x) (replicate m y) (omega (arith, long)) ∙ take_all at (replicate at x) (omega (arith, long)))
    ∙ ap (λ xs. replicate at x ++ replicate n x ++ xs) (ap (λ k. drop k (replicate at x ++ replicate m y)) place ∙ drop-append-add (replicate at x) (replicate m y) n ∙ drop-replicate n m y)
    ∙ ap (λ xs. xs ++ replicate (m - n) y) (replicate-append-replicate at n x)
