-- Fields of one kind, one after the other: both ways, and as a loop reads them.
use Rattle.std.proofs.Common.{◌≡◌, ℕ, zero, suc, ◌+◌, ◌-◌, ◌<◌, ◌≤◌, Bool, true, List, [], ◌∷◌, ◌++◌, length, take, get_or, Option, Some, None, refl, sym, ap, subst, ◌∙◌, append_assoc, arith}
use Rattle.std.specs.Prelude.{option_map}
use Rattle.std.specs.List.{flat_map, list_all}
use Rattle.std.proofs.lemmas.Bool.{and_from}
use Rattle.std.proofs.lemmas.List.{append-nil, take_more}
use Rattle.std.proofs.lemmas.Grind.{flat_map-append}
use Rattle.layout.proofs.Blocks.{written_on}
use Rattle.layout.specs.Bytes.{◌>>=◌, AreBytes, Field, items_at, padded_text, with_text}
use Rattle.layout.proofs.Limits.{and_parts}
use Rattle.layout.proofs.Fields.{Takes, Takes-then, bind_some, some_is}

-- what a field is spelled as, and which values it gives
pub record IsRead {A : Type 0} (field : Field A) (text : A → List ℕ) (fit : A → Bool) : Type 0 where
  pub takes : (bytes : List ℕ) (x : A × List ℕ) → AreBytes bytes → field bytes ≡ Some x → Takes bytes (text x.0) x.1 × (fit x.0 ≡ true)
  pub again : (x : A) (rest : List ℕ) → fit x ≡ true → field (text x ++ rest) ≡ Some (x, rest)

-- a list of so many values that stands at the front
pub record TakesItems {A : Type 0} (text : A → List ℕ) (fit : A → Bool) (n : ℕ) (bytes : List ℕ) (x : List A × List ℕ) : Type 0 where
  pub takes : Takes bytes (flat_map text x.0) x.1
  pub all_fit : list_all fit x.0 ≡ true
  pub long : length x.0 ≡ n

module _ {A : Type 0} (field : Field A) (text : A → List ℕ) (fit : A → Bool) (is : IsRead field text fit) where
  pub items_take : (n : ℕ) (bytes : List ℕ) (x : List A × List ℕ) → AreBytes bytes → items_at field n bytes ≡ Some x → TakesItems text fit n bytes x
  unfolding items_at
  items_take zero bytes x are e = subst (TakesItems text fit zero bytes) (some_is ([], bytes) x e) (record { takes = record { parts = refl; behind = are }; all_fit = refl; long = refl })
  items_take (suc n) bytes x are e =
      let a = bind_some (field bytes) _ x e in
      let b = bind_some (items_at field n a.0.1) _ x a.2 in
      let t = is.takes bytes a.0 are a.1 in
      let u = items_take n a.0.1 b.0 t.0.behind b.1 in
      let made : List A × List ℕ = (a.0.0 ∷ b.0.0, b.0.1) in
      subst (TakesItems text fit (suc n) bytes) (some_is made x b.2) (record {
        takes = Takes-then bytes (text a.0.0) a.0.1 (flat_map text b.0.0) b.0.1 t.0 u.takes;
        all_fit = and_from _ _ t.1 u.all_fit;
        long = ap suc u.long;
      })

  pub items_again : (xs : List A) (rest : List ℕ) → list_all fit xs ≡ true → items_at field (length xs) (flat_map text xs ++ rest) ≡ Some (xs, rest)
  unfolding items_at
  items_again [] rest h = refl
  items_again (x ∷ xs) rest h =
      let p = and_parts (fit x) (list_all fit xs) h in
      ap (items_at field (suc (length xs))) (append_assoc (text x) (flat_map text xs) rest)
      ∙ rw (is.again x (flat_map text xs ++ rest) p.0, items_again xs rest p.1) refl

-- what each value of a field passes, all values of a list do
pub items_pass : {A : Type 0} (field : Field A) (p : A → Bool) → ((bytes : List ℕ) (x : A × List ℕ) → field bytes ≡ Some x → p x.0 ≡ true) → (n : ℕ) (bytes : List ℕ) (x : List A × List ℕ) → items_at field n bytes ≡ Some x → list_all p x.0 ≡ true
unfolding items_at
items_pass {A = A} field p each zero bytes x e = subst (λ (y : List A × List ℕ). list_all p y.0 ≡ true) (some_is ([], bytes) x e) refl
items_pass {A = A} field p each (suc n) bytes x e =
    let a = bind_some (field bytes) _ x e in
    let b = bind_some (items_at field n a.0.1) _ x a.2 in
    let made : List A × List ℕ = (a.0.0 ∷ b.0.0, b.0.1) in
    subst (λ (y : List A × List ℕ). list_all p y.0 ≡ true) (some_is made x b.2) (and_from _ _ (each bytes a.0 a.1) (items_pass field p each n a.0.1 b.0 b.1))

-- ---- a loop that writes one after the other

pub item_on : {A : Type 0} (text : A → List ℕ) (n at i : ℕ) (head : List ℕ) (xs : List A) (x d : A) (old : List ℕ) → old ≡ padded_text n (head ++ flat_map text (take i xs)) → length (head ++ flat_map text (take i xs)) ≡ at
    → at + length (text x) ≤ n → i < length xs → x ≡ get_or xs i d → with_text at (text x) old ≡ padded_text n (head ++ flat_map text (take (i + 1) xs))
item_on {A = A} text n at i head xs x d old is long fits lt read =
    let so_far : List ℕ = head ++ flat_map text (take i xs) in
    let more : take (i + 1) xs ≡ take i xs ++ x ∷ [] = take_more xs i d lt ∙ ap (λ (y : A). take i xs ++ y ∷ []) (sym read) in
    let texts : so_far ++ text x ≡ head ++ flat_map text (take (i + 1) xs) =
    append_assoc head (flat_map text (take i xs)) (text x)
    ∙ ap (λ (t : List ℕ). head ++ t) (ap (λ (t : List ℕ). flat_map text (take i xs) ++ t) (sym (append-nil (text x))) ∙ sym (flat_map-append text (take i xs) (x ∷ [])) ∙ ap (flat_map text) (sym more)) in
    written_on n at so_far (text x) old is (sym long) (omega (arith, long, fits)) ∙ ap (padded_text n) texts

-- ---- a loop that reads one after the other

-- what was read before, and what is still read
abbrev pub with_front : {A : Type 0} → List A → Option (List A × List ℕ) → Option (List A × List ℕ)
with_front front read = read >>= λ x. Some (front ++ x.0, x.1)

module _ {A : Type 0} (field : Field A) where
  regroup : (front : List A) (e : A) (read : Option (List A × List ℕ)) → with_front front (read >>= λ x. Some (e ∷ x.0, x.1)) ≡ with_front (front ++ e ∷ []) read
  regroup front e (Some x) = ap (λ (es : List A). Some (es, x.1)) (simp append_assoc)
  regroup front e None = refl

  pub goes_on : (front : List A) (count i : ℕ) (bytes : List ℕ) (e : A) (after : List ℕ) (total : Option (List A × List ℕ)) → i < count → field bytes ≡ Some (e, after)
      → with_front front (items_at field (count - i) bytes) ≡ total → with_front (front ++ e ∷ []) (items_at field (count - (i + 1)) after) ≡ total
  unfolding items_at
  goes_on front count i bytes e after total lt h so_far =
      let k : count - i ≡ suc (count - (i + 1)) = omega arith in
      let one : with_front front (items_at field (count - i) bytes) ≡ with_front (front ++ e ∷ []) (items_at field (count - (i + 1)) after) = rw (k, h) (regroup front e (items_at field (count - (i + 1)) after)) in
      sym one ∙ so_far

  pub ends : (front : List A) (count i : ℕ) (bytes : List ℕ) (total : Option (List A × List ℕ)) → i < count → field bytes ≡ None
      → with_front front (items_at field (count - i) bytes) ≡ total → total ≡ None
  unfolding items_at
  ends front count i bytes total lt h so_far =
      let k : count - i ≡ suc (count - (i + 1)) = omega arith in
      let one : with_front front (items_at field (count - i) bytes) ≡ None = rw (k, h) refl in
      sym so_far ∙ one

  pub is_done : (front : List A) (count i : ℕ) (bytes : List ℕ) (total : Option (List A × List ℕ)) → count ≤ i
      → with_front front (items_at field (count - i) bytes) ≡ total → total ≡ Some (front, bytes)
  unfolding items_at
  is_done front count i bytes total le so_far =
      let k : count - i ≡ 0 = omega arith in
      let one : with_front front (items_at field (count - i) bytes) ≡ Some (front, bytes) = rw k (ap (λ (es : List A). Some (es, bytes)) (append-nil front)) in
      sym so_far ∙ one

  pub begins : (count : ℕ) (bytes : List ℕ) → with_front [] (items_at field count bytes) ≡ items_at field count bytes
  begins count bytes = same (items_at field count bytes)
    where
      same : (read : Option (List A × List ℕ)) → with_front [] read ≡ read
      same (Some x) = refl
      same None = refl

-- ---- a loop that passes over one after the other

abbrev behind : {A : Type 0} → Option (A × List ℕ) → Option (List ℕ)
behind read = option_map (λ x. x.1) read

module _ {A : Type 0} (field : Field A) where
  behind_more : (e : A) (read : Option (List A × List ℕ)) → behind (read >>= λ x. Some (e ∷ x.0, x.1)) ≡ behind read
  behind_more e (Some x) = refl
  behind_more e None = refl

  some_behind : (o : Option (A × List ℕ)) (after : List ℕ) → behind o ≡ Some after → (e : A) × (o ≡ Some (e, after))
  some_behind (Some x) after h = (x.0, ap (λ (r : List ℕ). Some (x.0, r)) (some_is x.1 after h))
  some_behind None after h = absurd cc

  none_behind : (o : Option (A × List ℕ)) → behind o ≡ None → o ≡ None
  none_behind (Some x) h = absurd cc
  none_behind None h = refl

  pub passes : (count i : ℕ) (bytes after : List ℕ) (total : Option (List ℕ)) → i < count → option_map (λ x. x.1) (field bytes) ≡ Some after
      → option_map (λ x. x.1) (items_at field (count - i) bytes) ≡ total → option_map (λ x. x.1) (items_at field (count - (i + 1)) after) ≡ total
  unfolding items_at
  passes count i bytes after total lt h so_far =
      let k : count - i ≡ suc (count - (i + 1)) = omega arith in
      let e = some_behind (field bytes) after h in
      let one : behind (items_at field (count - i) bytes) ≡ behind (items_at field (count - (i + 1)) after) = rw (k, e.1) (behind_more e.0 (items_at field (count - (i + 1)) after)) in
      sym one ∙ so_far

  pub stops : (count i : ℕ) (bytes : List ℕ) (total : Option (List ℕ)) → i < count → option_map (λ x. x.1) (field bytes) ≡ None
      → option_map (λ x. x.1) (items_at field (count - i) bytes) ≡ total → total ≡ None
  unfolding items_at
  stops count i bytes total lt h so_far =
      let k : count - i ≡ suc (count - (i + 1)) = omega arith in
      let none : field bytes ≡ None = none_behind (field bytes) h in
      let one : behind (items_at field (count - i) bytes) ≡ None = rw (k, none) refl in
      sym so_far ∙ one

  pub at_end : (count i : ℕ) (bytes : List ℕ) (total : Option (List ℕ)) → count ≤ i
      → option_map (λ x. x.1) (items_at field (count - i) bytes) ≡ total → total ≡ Some bytes
  unfolding items_at
  at_end count i bytes total le so_far =
      let k : count - i ≡ 0 = omega arith in
      let one : behind (items_at field (count - i) bytes) ≡ Some bytes = rw k refl in
      sym so_far ∙ one
