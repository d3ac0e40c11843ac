-- Functions on numbers that are changed at one place.
use Rattle.std.proofs.Common.{◌≡◌, ◌≢◌, inl, inr, ℕ, ◌==◌, if◌then◌else◌, cond, Bool, true, false, refl, ap, sym, ◌∙◌}
use Rattle.std.proofs.lemmas.Bool.Decides.{eqb_tells}
use Rattle.posix_calls.proofs.Sums.{same_if, there_if}

abbrev pub put : {A : Type 0} → (ℕ → A) → ℕ → A → ℕ → A
put g i x j = if j == i then x else g j

pub put_there : {A : Type 0} (g : ℕ → A) (i : ℕ) (x : A) → put g i x i ≡ x
put_there g i x = there_if i x (g i)

pub put_other : {A : Type 0} (g : ℕ → A) (i j : ℕ) (x : A) → j ≢ i → put g i x j ≡ g j
put_other g i j x other = same_if j i x (g j) other

again : {A : Type 0} (b : Bool) (x y z : A) → cond b y (cond b x z) ≡ cond b y z
again true x y z = refl
again false x y z = refl

pub put_twice : {A : Type 0} (g : ℕ → A) (i : ℕ) (x y : A) → put (put g i x) i y ≡ put g i y
put_twice g i x y = λ t j. again (j == i) x y (g j) t

exchanged : {A : Type 0} (k i j : ℕ) (x y z : A) → i ≢ j → (if k == j then y else (if k == i then x else z)) ≡ (if k == i then x else (if k == j then y else z))
exchanged k i j x y z other =
    elim (eqb_tells k j) [
      | inl at_j ↦
          ap (λ b. cond b y (if k == i then x else z)) at_j.0
          ∙ sym (same_if k i x (if k == j then y else z) (λ e. other (sym e ∙ at_j.1)) ∙ ap (λ b. cond b y z) at_j.0)
      | inr off ↦ ap (λ b. cond b y (if k == i then x else z)) off.0 ∙ ap (λ w. if k == i then x else w) (sym (ap (λ b. cond b y z) off.0))
    ]

pub put_exchange : {A : Type 0} (g : ℕ → A) (i j : ℕ) (x y : A) → i ≢ j → put (put g i x) j y ≡ put (put g j y) i x
put_exchange g i j x y other = λ t k. exchanged k i j x y (g k) other t

of_cond : {A B : Type 0} (f : A → B) (b : Bool) (x y : A) → f (cond b x y) ≡ cond b (f x) (f y)
of_cond f true x y = refl
of_cond f false x y = refl

-- a function at each place, seen through a put
pub put_through : {A B : Type 0} (f : A → B) (g : ℕ → A) (i : ℕ) (x : A) → ◌≡◌ {A = ℕ → B} (λ j. f (put g i x j)) (put (λ j. f (g j)) i (f x))
put_through f g i x = λ t j. of_cond f (j == i) x (g j) t

at_cond : {A B : Type 0} (j i : ℕ) (f : ℕ → A → B) (x y : A) → f j (if j == i then x else y) ≡ (if j == i then f i x else f j y)
at_cond j i f x y =
    elim (eqb_tells j i) [
      | inl same ↦ ap (λ b. f j (cond b x y)) same.0 ∙ ap (λ k. f k x) same.1 ∙ sym (ap (λ b. cond b (f i x) (f j y)) same.0)
      | inr off ↦ ap (λ b. f j (cond b x y)) off.0 ∙ sym (ap (λ b. cond b (f i x) (f j y)) off.0)
    ]

-- and where the function knows the place
pub put_through_at : {A B : Type 0} (f : ℕ → A → B) (g : ℕ → A) (i : ℕ) (x : A) → ◌≡◌ {A = ℕ → B} (λ j. f j (put g i x j)) (put (λ j. f j (g j)) i (f i x))
put_through_at f g i x = λ t j. at_cond j i f x (g j) t

-- a value put where it stood
pub put_same : {A : Type 0} (g : ℕ → A) (i : ℕ) (x : A) → g i ≡ x → put g i x ≡ g
put_same g i x e = λ t j. is_same j t where
  is_same : (j : ℕ) → put g i x j ≡ g j
  is_same j = elim (eqb_tells j i) [
    | inl same ↦ ap (λ b. cond b x (g j)) same.0 ∙ sym e ∙ ap g (sym same.1)
    | inr off ↦ ap (λ b. cond b x (g j)) off.0
  ]
