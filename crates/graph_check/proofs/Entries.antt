-- Entries that are counted are there, and those that are there are counted.
use Rattle.std.proofs.Common.{◌≡◌, ℕ, ◌+◌, ◌<◌, List, [], ◌∷◌, refl, Some, cond, ap, ◌∙◌, subst, true, false, Bool, arith}
use Rattle.std.specs.Prelude.{count_by, ◌&&◌}
use Rattle.std.specs.declared.cmp.Ordering.{Ordering}
use Rattle.std.specs.declared.cmp.Ordering.TheVariants.{Less, Equal, Greater}
use Rattle.std.specs.Ordering.{nat_cmp, eq_by_cmp, is_eq, is_lt}
use Rattle.std.specs.Cmp.Lexicographic.{slice_cmp, nat_list_cmp_total}
use Rattle.std.specs.Cmp.{eq_by_cmp_equiv}
use Rattle.std.specs.FinMap as fin
use Rattle.std.specs.FinMap.Entries.{below_all}
use Rattle.std.proofs.lemmas.List.Sums.{sum_by-cons}

abbrev order : List ℕ → List ℕ → Ordering
order = slice_cmp nat_cmp

pub count-cons : {X : Type 0} (q : X → Bool) (x : X) (xs : List X) → count_by q (x ∷ xs) ≡ cond (q x) 1 0 + count_by q xs
count-cons q x xs = sum_by-cons (λ y. cond (q y) 1 0) x xs

-- one where it holds, none where it doesn't
abbrev pub one_where : Bool → ℕ
one_where b = cond b 1 0

pub both : (a b : Bool) → (a && b) ≡ true → (a ≡ true) × (b ≡ true)
both true b e = (refl, e)
both false b e = absurd (cc)

is_less : (o : Ordering) → is_lt o ≡ true → o ≡ Less
is_less Less e = refl
is_less Equal e = absurd (cc)
is_less Greater e = absurd (cc)

itself : (name : List ℕ) → eq_by_cmp order name name ≡ true
itself name = (eq_by_cmp_equiv nat_list_cmp_total).refl name

-- an entry that passes, by its name; it comes behind what all are behind
pub record Found {X : Type 0} (p : X → Bool) (es : List (List ℕ × X)) : Type 0 where
  pub name : List ℕ
  pub value : X
  pub there : fin.find order name es ≡ Some value
  pub passes : p value ≡ true
  pub above : (y : List ℕ) → below_all order y es ≡ true → order y name ≡ Less

found_later : {X : Type 0} (p : X → Bool) (e : List ℕ × X) (es : List (List ℕ × X)) → below_all order e.0 es ≡ true → Found p es → Found p (e ∷ es)
found_later p e es below f =
    let apart : eq_by_cmp order f.name e.0 ≡ false = (eq_by_cmp_equiv nat_list_cmp_total).symm f.name e.0 ∙ ap is_eq (f.above e.0 below) in
    record {
      name = f.name;
      value = f.value;
      there = ap (λ b. cond b (Some e.1) (fin.find order f.name es)) apart ∙ f.there;
      passes = f.passes;
      above = λ y h. f.above y (both (is_lt (order y e.0)) (below_all order y es) h).1;
    }

pub counted_there : {X : Type 0} (p : X → Bool) (es : List (List ℕ × X)) → fin.is_sorted order es ≡ true → 0 < count_by (λ e. p e.1) es → Found p es
counted_there p [] sorted some = absurd (omega arith)
counted_there p (e ∷ es) sorted some =
    let parts = both (below_all order e.0 es) (fin.is_sorted order es) sorted in
    elim (p e.1) as (λ b. p e.1 ≡ b → 0 < cond b 1 0 + count_by (λ x. p x.1) es → Found p (e ∷ es)) [
      | true ↦ λ is more. record {
        name = e.0;
        value = e.1;
        there = ap (λ b. cond b (Some e.1) (fin.find order e.0 es)) (itself e.0);
        passes = is;
        above = λ y h. is_less (order y e.0) (both (is_lt (order y e.0)) (below_all order y es) h).0;
      }
      | false ↦ λ is more. found_later p e es parts.0 (counted_there p es parts.1 (omega arith))
    ] refl (subst (λ n. 0 < n) (count-cons (λ x. p x.1) e es) some)

pub there_counted : {X : Type 0} (p : X → Bool) (es : List (List ℕ × X)) (name : List ℕ) (x : X) → fin.find order name es ≡ Some x → p x ≡ true → 0 < count_by (λ e. p e.1) es
there_counted p [] name x there passes = absurd (cc)
there_counted p (e ∷ es) name x there passes =
    let n = count_by (λ y. p y.1) es in
    let all = count-cons (λ y. p y.1) e es in
    elim (eq_by_cmp order name e.0) as (λ b. cond b (Some e.1) (fin.find order name es) ≡ Some x → 0 < count_by (λ y. p y.1) (e ∷ es)) [
      | true ↦ λ is.
          let same : e.1 ≡ x = cc in
          let one : one_where (p e.1) ≡ 1 = ap one_where (ap p same ∙ passes) in
          omega (arith, all, one)
      | false ↦ λ is. let rest = there_counted p es name x is passes in omega (arith, all, rest)
    ] there
