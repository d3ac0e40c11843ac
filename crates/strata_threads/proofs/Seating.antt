-- Clients that are shared out, one after the other.
use Rattle.std.proofs.Common.{◌≡◌, ◌≤◌, ◌<◌, ℕ, zero, suc, ◌+◌, ◌++◌, ◌∷◌, false, List, [], length, drop, get_or, refl, sym, ap, ◌∙◌, subst, arith, append-nil, append_assoc}
use Rattle.libfs.specs.lease_manager.Passes.{client_of}
use Rattle.libfs.specs.View.{ClientView, is_pending}
use Rattle.strata_threads.specs.SharedClients.{AreIdleFrom}

module _ {M : Type 0} where
  -- a client is the next one, and the others are behind it
  pub one_more : (vs : List (ClientView M)) (i : ℕ) (v : ClientView M) (n : ℕ) → i < length vs → v ≡ get_or vs i v → (client_of v.pass ≡ n) × (is_pending v ≡ false) → AreIdleFrom (n + 1) (drop (suc i) vs) → AreIdleFrom n (drop i vs)
  one_more [] i v n within is right rest = absurd (omega (arith, within))
  one_more (x ∷ vs) zero v n within is right rest = (ap (λ (y : ClientView M). client_of y.pass) (sym is) ∙ right.0, ap is_pending (sym is) ∙ right.1, rest)
  one_more (x ∷ vs) (suc i) v n within is right rest = one_more vs i v n (omega (arith, within)) is right rest

  -- it is, and the others are behind it
  pub one_less : (vs : List (ClientView M)) (i : ℕ) (v : ClientView M) (n : ℕ) → i < length vs → v ≡ get_or vs i v → AreIdleFrom n (drop i vs) → ((client_of v.pass ≡ n) × (is_pending v ≡ false)) × AreIdleFrom (n + 1) (drop (suc i) vs)
  one_less [] i v n within is are = absurd (omega (arith, within))
  one_less (x ∷ vs) zero v n within is are = ((ap (λ (y : ClientView M). client_of y.pass) is ∙ are.0, ap is_pending is ∙ are.1), are.2)
  one_less (x ∷ vs) (suc i) v n within is are = one_less vs i v n (omega (arith, within)) is are

  -- behind the last one there is none
  pub none_behind : (n : ℕ) (vs : List (ClientView M)) (i : ℕ) → length vs ≤ i → AreIdleFrom n (drop i vs)
  none_behind n [] zero past = tt
  none_behind n [] (suc i) past = tt
  none_behind n (x ∷ vs) zero past = absurd (omega (arith, past))
  none_behind n (x ∷ vs) (suc i) past = none_behind n vs i (omega (arith, past))

  -- the next of a list that is gone through
  pub next_idle : (n : ℕ) (before : List (ClientView M)) (v : ClientView M) (rest : List (ClientView M)) → before ≡ v ∷ rest → AreIdleFrom n before → (is_pending v ≡ false) × AreIdleFrom (n + 1) rest
  next_idle n [] v rest next are = absurd (none_is_one v rest next)
    where
      none_is_one : (v : ClientView M) (rest : List (ClientView M)) → [] ≡ v ∷ rest → ⊥
      none_is_one v rest e = absurd (cc)
  next_idle n (x ∷ vs) v rest next are = (ap is_pending (sym (ap (first x) next)) ∙ are.1, subst (AreIdleFrom (n + 1)) (ap others next) are.2)
    where
      first : ClientView M → List (ClientView M) → ClientView M
      first d [] = d
      first d (y ∷ ys) = y

      others : List (ClientView M) → List (ClientView M)
      others [] = []
      others (y ∷ ys) = ys

pub none_left : {X : Type 0} (xs : List X) → length xs ≡ 0 → xs ≡ []
none_left [] none = refl
none_left (x ∷ xs) none = absurd (omega (arith, none))

pub turned : {X : Type 0} (done before rest all : List X) (x : X) → done ++ before ≡ all → before ≡ x ∷ rest → (done ++ x ∷ []) ++ rest ≡ all
turned done before rest all x split next = append_assoc done (x ∷ []) rest ∙ ap (λ xs. done ++ xs) (sym next) ∙ split

pub ended : {X : Type 0} (done before all : List X) → done ++ before ≡ all → before ≡ [] → done ≡ all
ended done before all split none = sym (append-nil done) ∙ ap (λ xs. done ++ xs) (sym none) ∙ split
