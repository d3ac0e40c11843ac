-- Steps, splits and joins of seats, for a structure and parts of any type and any law.
use Rattle.std.proofs.Common.{◌≡◌, ◌≢◌, ◌⊎◌, ℕ, zero, suc, Bool, true, false, cond, eqb, List, [], ◌∷◌, ◌++◌, length, set, refl, sym, ap, ◌∙◌, subst, inl, inr, ⊎_elim, arith, length-set, eq-eqb, ne_eqb, true≢false}
use mathlib.Core.Logic.{dite}
use mathlib.Core.Option.{some, some-injective, some-ne-none}
use native.Mathlib.Decide.{ℕ_discrete}
use lib.ListN.{get_elem?}
use Rattle.atomic_table.proofs.Lists.{at_set}
use Rattle.seat_book.specs.Book.{HoldsPart, AreApart, overlay, Carries, IsBooked, lone_of, rest_of}

-- an element of a list with one more at its end
get_snoc : {A : Type 0} → (l : List A) (x a : A) (j : ℕ) → get_elem? (l ++ x ∷ []) j ≡ some a → (get_elem? l j ≡ some a) ⊎ ((j ≡ length l) × (x ≡ a))
get_snoc [] x a zero e = inr (refl, some-injective _ _ e)
get_snoc [] x a (suc j) e = absurd (cc)
get_snoc (y ∷ ys) x a zero e = inl e
get_snoc (y ∷ ys) x a (suc j) e = ⊎_elim (λ h. inl h) (λ h. let k = h.0 in inr (omega arith, h.1)) (get_snoc ys x a j e)

-- f, but q at k
abbrev pub but : {A : Type 0} → (ℕ → A) → ℕ → A → ℕ → A
but f k q c = cond (eqb c k) q (f c)

pub but_same : {A : Type 0} → (f : ℕ → A) (k c : ℕ) (q : A) → c ≡ k → but f k q c ≡ q
but_same {A} f k c q e = ap (λ b. cond {A = A} b q (f c)) (eq-eqb c k e)

pub but_other : {A : Type 0} → (f : ℕ → A) (k c : ℕ) (q : A) → c ≢ k → but f k q c ≡ f c
but_other {A} f k c q ne = ap (λ b. cond {A = A} b q (f c)) (ne_eqb c k ne)

module _ {P : Type 0} (place : P → ℕ) where
  -- an overlay has the parts themselves at their places
  pub overlay_at : (w : List P) (f : ℕ → P) (p : P) → AreApart place w → HoldsPart w p → overlay place w f (place p) ≡ p
  overlay_at [] f p d h = absurd h
  overlay_at (q ∷ qs) f p d h = ⊎_elim
      (λ (e : q ≡ p). ap (λ b. cond {A = P} b q (overlay place qs f (place p))) (eq-eqb (place q) (place p) (ap place e)) ∙ e)
      (λ (t : HoldsPart qs p). ap (λ b. cond {A = P} b q (overlay place qs f (place p))) (ne_eqb (place q) (place p) (d.0 p t)) ∙ overlay_at qs f p d.1 t)
      h

  -- and elsewhere what stood there
  pub overlay_else : (w : List P) (f : ℕ → P) (c : ℕ) → ((p : P) → HoldsPart w p → place p ≢ c) → overlay place w f c ≡ f c
  overlay_else [] f c off = refl
  overlay_else (q ∷ qs) f c off = ap (λ b. cond {A = P} b q (overlay place qs f c)) (ne_eqb (place q) c (off q (inl refl))) ∙ overlay_else qs f c (λ p h. off p (inr h))

  -- an overlay of what stands there already changes nothing
  overlay_again : (w : List P) (f : ℕ → P) → ((p : P) → HoldsPart w p → f (place p) ≡ p) → (c : ℕ) → overlay place w f c ≡ f c
  overlay_again [] f there c = refl
  overlay_again (q ∷ qs) f there c = dite (ℕ_discrete (place q) c)
      (λ e. ap (λ b. cond {A = P} b q (overlay place qs f c)) (eq-eqb (place q) c e) ∙ sym (there q (inl refl)) ∙ ap f e)
      (λ ne. ap (λ b. cond {A = P} b q (overlay place qs f c)) (ne_eqb (place q) c ne) ∙ overlay_again qs f (λ p h. there p (inr h)) c)

  -- each part of w stands where one of v stood
  abbrev pub StandWhere : List P → List P → Type 0
  StandWhere v w = (p : P) → HoldsPart w p → (q : P) × HoldsPart v q × (place q ≡ place p)

  -- whether one of these parts has the place k
  abbrev pub among : List P → ℕ → Bool
  among [] k = false
  among (p ∷ ps) k = cond (eqb (place p) k) true (among ps k)

  among_has : (ps : List P) (p : P) → HoldsPart ps p → among ps (place p) ≡ true
  among_has [] p h = absurd h
  among_has (q ∷ qs) p h = ⊎_elim
      (λ (e : q ≡ p). ap (λ b. cond {A = Bool} b true (among qs (place p))) (eq-eqb (place q) (place p) (ap place e)))
      (λ (t : HoldsPart qs p). dite (ℕ_discrete (place q) (place p))
      (λ e. ap (λ b. cond {A = Bool} b true (among qs (place p))) (eq-eqb (place q) (place p) e))
      (λ ne. ap (λ b. cond {A = Bool} b true (among qs (place p))) (ne_eqb (place q) (place p) ne) ∙ among_has qs p t))
      h

  pub among_not : (ps : List P) (k : ℕ) → ((p : P) → HoldsPart ps p → place p ≢ k) → among ps k ≡ false
  among_not [] k off = refl
  among_not (q ∷ qs) k off = ap (λ b. cond {A = Bool} b true (among qs k)) (ne_eqb (place q) k (off q (inl refl))) ∙ among_not qs k (λ p h. off p (inr h))

  holds_append : (v w : List P) (p : P) → HoldsPart (v ++ w) p → HoldsPart v p ⊎ HoldsPart w p
  holds_append [] w p h = inr h
  holds_append (q ∷ qs) w p h = ⊎_elim (λ (e : q ≡ p). inl (inl e)) (λ (t : HoldsPart (qs ++ w) p). ⊎_elim (λ (a : HoldsPart qs p). inl (inr a)) (λ (b : HoldsPart w p). inr b) (holds_append qs w p t)) h

  apart_append : (v w : List P) → AreApart place v → AreApart place w → ((p q : P) → HoldsPart v p → HoldsPart w q → place p ≢ place q) → AreApart place (v ++ w)
  apart_append [] w dv dw cross = dw
  apart_append (x ∷ xs) w dv dw cross = (
    (λ p has. ⊎_elim (λ (a : HoldsPart xs p). dv.0 p a) (λ (b : HoldsPart w p). cross x p (inl refl) b) (holds_append xs w p has)),
    apart_append xs w dv.1 dw (λ p q hp hq. cross p q (inr hp) hq),
  )

  module _ {X : Type 0} (law : X → (ℕ → P) → Type 0) where
    abbrev B : X → List (List P) → Type 0
    B = IsBooked place law

    -- a step of a seat changes the structure and any of the parts that the seat carries
    pub steps : (x y : X) (views : List (List P)) (r : B x views) (id : ℕ) (v w : List P) → get_elem? views id ≡ some v → AreApart place w → StandWhere v w → law y (overlay place w r.whole) → B y (set views id w)
    steps x y views r id v w at apart same now = let mine = r.carried id v at in record {
      home = r.home;
      whole = overlay place w r.whole;
      lawful = now;
      carried = λ j u e. ⊎_elim
          (λ (h : (j ≡ id) × (w ≡ u)). subst (λ (z : ℕ × List P). Carries place r.home (overlay place w r.whole) z.0 z.1) (λ t. (sym h.0 t, h.1 t))
          (apart, λ p has. let o = same p has in (ap r.home (sym o.2) ∙ (mine.1 o.0 o.1).0, overlay_at w r.whole p apart has)))
          (λ (h : (j ≢ id) × (get_elem? views j ≡ some u)). let old = r.carried j u h.1 in (
            old.0,
            λ p has. let o = old.1 p has in
                (o.0, overlay_else w r.whole (place p) (λ q hq e'. let q' = same q hq in h.0 (sym o.0 ∙ (ap r.home (sym e' ∙ sym q'.2) ∙ (mine.1 q'.0 q'.1).0))) ∙ o.1),
          ))
          (at_set views id j w u e);
    }

    -- a step of a seat changes the structure and the first part that the seat carries
    pub first_steps : (x y : X) (views : List (List P)) (r : B x views) (id : ℕ) (p q : P) (ps : List P) → get_elem? views id ≡ some (p ∷ ps) → place q ≡ place p → law y (but r.whole (place p) q) → B y (set views id (q ∷ ps))
    first_steps x y views r id p q ps at stands now =
        let mine = r.carried id (p ∷ ps) at in
        let apart : AreApart place (q ∷ ps) = ((λ u has e. mine.0.0 u has (sym stands ∙ e)), mine.0.1) in
        let same : (c : ℕ) → but r.whole (place p) q c ≡ overlay place (q ∷ ps) r.whole c = λ c. dite (ℕ_discrete c (place p))
        (λ e. but_same r.whole (place p) c q e ∙ sym (ap (λ b. cond {A = P} b q (overlay place ps r.whole c)) (eq-eqb (place q) c (stands ∙ sym e))))
        (λ ne. but_other r.whole (place p) c q ne ∙ sym (overlay_again ps r.whole (λ u has. (mine.1 u (inr has)).1) c)
        ∙ sym (ap (λ b. cond {A = P} b q (overlay place ps r.whole c)) (ne_eqb (place q) c (λ e. ne (sym e ∙ stands))))) in
        steps x y views r id (p ∷ ps) (q ∷ ps) at apart
        (λ u has. ⊎_elim (λ (e : q ≡ u). (p, inl refl, sym stands ∙ ap place e)) (λ (t : HoldsPart ps u). (u, inr t, refl)) has)
        (subst (law y) (λ k c. same c k) now)

    -- a look changes nothing
    pub looks : (x : X) (views : List (List P)) (r : B x views) (id : ℕ) (v : List P) → get_elem? views id ≡ some v → B x (set views id v)
    looks x views r id v at = let mine = r.carried id v at in
        steps x x views r id v v at mine.0 (λ p has. (p, has, refl))
        (subst (law x) (λ k c. sym (overlay_again v r.whole (λ p has. (mine.1 p has).1) c) k) r.lawful)

    -- the parts `left` stay and `right` goes to a new seat. The parts of `right` may change on the way
    pub splits : (x : X) (views : List (List P)) (r : B x views) (id : ℕ) (v left right : List P) → get_elem? views id ≡ some v → AreApart place left → AreApart place right
        → ((p : P) → HoldsPart left p → HoldsPart v p × (among right (place p) ≡ false)) → StandWhere v right → law x (overlay place right r.whole)
        → B x (set views id left ++ right ∷ [])
    splits x views r id v left right at dl dr keep new_ones now =
        let mine = r.carried id v at in
        let n : ℕ = length views in
        let home : ℕ → ℕ = λ c. cond (among right c) n (r.home c) in
        let there : (p : P) → among right (place p) ≡ true → home (place p) ≡ n = λ p e. ap (λ b. cond {A = ℕ} b n (r.home (place p))) e in
        let else' : (p : P) → among right (place p) ≡ false → home (place p) ≡ r.home (place p) = λ p e. ap (λ b. cond {A = ℕ} b n (r.home (place p))) e in
        record {
          home = home;
          whole = overlay place right r.whole;
          lawful = now;
          carried = λ j u e. ⊎_elim
              (λ (old : get_elem? (set views id left) j ≡ some u). ⊎_elim
              (λ (h : (j ≡ id) × (left ≡ u)). subst (λ (z : ℕ × List P). Carries place home (overlay place right r.whole) z.0 z.1) (λ t. (sym h.0 t, h.1 t)) (
                dl,
                λ p has. let k = keep p has in let c = mine.1 p k.0 in
                    (else' p k.1 ∙ c.0, overlay_else right r.whole (place p) (λ q hq e'. true≢false (sym (among_has right q hq) ∙ ap (among right) e' ∙ k.1)) ∙ c.1),
              ))
              (λ (h : (j ≢ id) × (get_elem? views j ≡ some u)). let c = r.carried j u h.1 in (
                c.0,
                λ p has. let k = c.1 p has in
                    let off : (q : P) → HoldsPart right q → place q ≢ place p = λ q hq e'. let q' = new_ones q hq in h.0 (sym k.0 ∙ (ap r.home (sym e' ∙ sym q'.2) ∙ (mine.1 q'.0 q'.1).0)) in
                    (else' p (among_not right (place p) off) ∙ k.0, overlay_else right r.whole (place p) off ∙ k.1),
              ))
              (at_set views id j left u old))
              (λ (new : (j ≡ length (set views id left)) × (right ≡ u)). subst (λ (z : ℕ × List P). Carries place home (overlay place right r.whole) z.0 z.1) (λ t. (sym (new.0 ∙ length-set views id left) t, new.1 t))
              (dr, λ p has. (there p (among_has right p has), overlay_at right r.whole p dr has)))
              (get_snoc (set views id left) right u j e);
        }

    -- the same of parts that go as they are
    pub splits_as_they_are : (x : X) (views : List (List P)) (r : B x views) (id : ℕ) (v left right : List P) → get_elem? views id ≡ some v → AreApart place left → AreApart place right
        → ((p : P) → HoldsPart left p → HoldsPart v p × (among right (place p) ≡ false)) → ((p : P) → HoldsPart right p → HoldsPart v p)
        → B x (set views id left ++ right ∷ [])
    splits_as_they_are x views r id v left right at dl dr keep go = splits x views r id v left right at dl dr keep (λ p has. (p, go p has, refl))
        (subst (law x) (λ k c. sym (overlay_again right r.whole (λ p has. ((r.carried id v at).1 p (go p has)).1) c) k) r.lawful)

    -- one seat takes in all that another carries
    pub joins : (x : X) (views : List (List P)) (r : B x views) (id : ℕ) (v : List P) (other : ℕ) (w : List P) → get_elem? views id ≡ some v → (other ≡ id → ⊥) → get_elem? (set views id (v ++ w)) other ≡ some w → B x (set (set views id (v ++ w)) other [])
    joins x views r id v other w at apart at' =
        let there : get_elem? views other ≡ some w = ⊎_elim (λ h. absurd (apart h.0)) (λ h. h.1) (at_set views id other (v ++ w) w at') in
        let cv = r.carried id v at in
        let cw = r.carried other w there in
        let home : ℕ → ℕ = λ c. cond (eqb (r.home c) other) id (r.home c) in
        let stay : (c : ℕ) → r.home c ≢ other → home c ≡ r.home c = λ c ne. ap (λ b. cond {A = ℕ} b id (r.home c)) (ne_eqb (r.home c) other ne) in
        let go : (c : ℕ) → r.home c ≡ other → home c ≡ id = λ c e. ap (λ b. cond {A = ℕ} b id (r.home c)) (eq-eqb (r.home c) other e) in
        record {
          home = home;
          whole = r.whole;
          lawful = r.lawful;
          carried = λ j u e. ⊎_elim
              (λ (h : (j ≡ other) × ([] ≡ u)). subst (λ (z : List P). Carries place home r.whole j z) h.1 (tt, λ p out. absurd out))
              (λ (h : (j ≢ other) × (get_elem? (set views id (v ++ w)) j ≡ some u)). ⊎_elim
              (λ (k : (j ≡ id) × (v ++ w ≡ u)). subst (λ (z : ℕ × List P). Carries place home r.whole z.0 z.1) (λ t. (sym k.0 t, k.1 t)) (
                apart_append v w cv.0 cw.0 (λ p q hp hq e'. apart (sym (cw.1 q hq).0 ∙ (ap r.home (sym e') ∙ (cv.1 p hp).0))),
                λ p has. ⊎_elim
                    (λ (a : HoldsPart v p). let c = cv.1 p a in (stay (place p) (λ z. apart (sym z ∙ c.0)) ∙ c.0, c.1))
                    (λ (b : HoldsPart w p). let c = cw.1 p b in (go (place p) c.0, c.1))
                    (holds_append v w p has),
              ))
              (λ (k : (j ≢ id) × (get_elem? views j ≡ some u)). let c = r.carried j u k.1 in (c.0, λ p has. let d = c.1 p has in (stay (place p) (λ z. h.0 (sym d.0 ∙ z)) ∙ d.0, d.1)))
              (at_set views id j (v ++ w) u h.1))
              (at_set (set views id (v ++ w)) other j [] u e);
        }

    -- the first part stays, and the others go
    pub splits_first : (x : X) (views : List (List P)) (r : B x views) (id : ℕ) (v : List P) → get_elem? views id ≡ some v → B x (set views id (lone_of v) ++ rest_of v ∷ [])
    splits_first x views r id [] at = splits_as_they_are x views r id [] [] [] at tt tt (λ p h. absurd h) (λ p h. absurd h)
    splits_first x views r id (q ∷ qs) at = let apart = (r.carried id (q ∷ qs) at).0 in
        splits_as_they_are x views r id (q ∷ qs) (q ∷ []) qs at ((λ p h. absurd h), tt) apart.1
        (λ p has. ⊎_elim (λ (e : q ≡ p). (inl e, among_not qs (place p) (λ u hu e'. apart.0 u hu (ap place e ∙ sym e')))) (λ (out : ⊥). absurd out) has)
        (λ p has. inr has)

    -- all stay, and nothing goes
    pub splits_nothing : (x : X) (views : List (List P)) (r : B x views) (id : ℕ) (v : List P) → get_elem? views id ≡ some v → B x (set views id v ++ [] ∷ [])
    splits_nothing x views r id v at = splits_as_they_are x views r id v v [] at (r.carried id v at).0 tt (λ p h. (h, refl)) (λ p h. absurd h)

    -- one seat carries all parts that there are
    pub begins : (x : X) (v : List P) (whole : ℕ → P) → law x whole → AreApart place v → ((p : P) → HoldsPart v p → whole (place p) ≡ p) → B x (v ∷ [])
    begins x v whole now apart is = record { home = λ _. 0; whole = whole; lawful = now; carried = one }
      where
        one : (id : ℕ) (u : List P) → get_elem? (v ∷ []) id ≡ some u → Carries place (λ _. 0) whole id u
        one zero u e = subst (Carries place (λ _. 0) whole 0) (some-injective v u e) (apart, λ p h. (refl, is p h))
        one (suc id) u e = absurd (some-ne-none u (sym e))
