-- Each move keeps the line.
use Rattle.std.proofs.Common.{◌≡◌, ◌⊎◌, ℕ, zero, suc, ◌+◌, ◌-◌, ◌<◌, List, [], ◌∷◌, ◌++◌, length, drop, refl, sym, ap, ◌∙◌, subst, inl, inr, ⊎_elim, arith, length-append}
use mathlib.Core.Logic.{dite}
use mathlib.Core.Option.{some}
use native.Mathlib.Decide.{ℕ_discrete}
use lib.ListN.{get_elem?}
use Rattle.std.proofs.lemmas.List.{drop-append-le}
use Rattle.crossbeam_queue.specs.Fifo.{Pushes, Pops, Forks, Merges, Learns}
use Rattle.seat_book.specs.Book.{HoldsPart, AreApart, lone_of, rest_of}
use Rattle.seat_book.proofs.Book.{but, but_same, but_other, first_steps, splits_first, joins, begins}
use Rattle.handoff.specs.declared.hand.Hand.{Hand}
use Rattle.handoff.specs.Hands.{place_of, empty_hand, hands_from, hands}
use Rattle.atomic_table.specs.Seated.{TableId}
use Rattle.handoff.specs.Ends.{ends_below, fresh_end}
use Rattle.handoff.specs.Line.{At, AreBelow, Fall, Line, IsInLine, HasPut, HasTaken, HasHand, EndsLine}

module _ {T : Type 0} where
  at_left : (xs ys : List T) (k : ℕ) (x : T) → At xs k x → At (xs ++ ys) k x
  at_left [] ys k x h = absurd h
  at_left (y ∷ xs) ys zero x h = h
  at_left (y ∷ xs) ys (suc k) x h = at_left xs ys k x h

  at_end : (xs : List T) (y : T) → At (xs ++ y ∷ []) (length xs) y
  at_end [] y = refl
  at_end (x ∷ xs) y = at_end xs y

  at_snoc : (xs : List T) (y : T) (k : ℕ) (x : T) → At (xs ++ y ∷ []) k x → At xs k x ⊎ ((k ≡ length xs) × (y ≡ x))
  at_snoc [] y zero x h = inr (refl, h)
  at_snoc [] y (suc k) x h = absurd h
  at_snoc (z ∷ xs) y zero x h = inl h
  at_snoc (z ∷ xs) y (suc k) x h = ⊎_elim (λ a. inl a) (λ b. inr (ap suc b.0, b.1)) (at_snoc xs y k x h)

  at_lt : (xs : List T) (k : ℕ) (x : T) → At xs k x → k < length xs
  at_lt [] k x h = absurd h
  at_lt (y ∷ xs) zero x h = omega arith
  at_lt (y ∷ xs) (suc k) x h = let r = at_lt xs k x h in omega arith

  at_same : (xs : List T) (k : ℕ) (x y : T) → At xs k x → At xs k y → x ≡ y
  at_same [] k x y h j = absurd h
  at_same (z ∷ xs) zero x y h j = sym h ∙ j
  at_same (z ∷ xs) (suc k) x y h j = at_same xs k x y h j

  -- the first of what is left
  next : (xs : List T) (g : ℕ) (x : T) (rest : List T) → x ∷ rest ≡ drop g xs → At xs g x × (rest ≡ drop (suc g) xs)
  next [] zero x rest e = absurd (cc)
  next [] (suc g) x rest e = absurd (cc)
  next (y ∷ xs) zero x rest e = (sym (cons_head e), cons_tail e)
    where
      cons_head : {x' y' : T} {xs' ys' : List T} → x' ∷ xs' ≡ y' ∷ ys' → x' ≡ y'
      cons_head e' = cc

      cons_tail : {x' y' : T} {xs' ys' : List T} → x' ∷ xs' ≡ y' ∷ ys' → xs' ≡ ys'
      cons_tail e' = cc
  next (y ∷ xs) (suc g) x rest e = next xs g x rest e

  -- the rule's hand of a place is the one that stands first on its pass
  own : (items : List T) (views : List (List (Hand T))) (r : IsInLine items views) (id : ℕ) (h : Hand T) (hs : List (Hand T)) → get_elem? views id ≡ some (h ∷ hs) → r.whole h.place ≡ h
  own items views r id h hs at = ((r.carried id (h ∷ hs) at).1 h (inl refl)).1

  module _ (items : List T) (whole : ℕ → Hand T) (l : Line items whole) (h : Hand T) (is : whole h.place ≡ h) (mine : h.place < 17) where
    c₀ : ℕ
    c₀ = h.place

    -- with one more put
    pub line_put : (x : T) → Line (items ++ x ∷ []) (but whole h.place (record h { put = (length l.all, x) ∷ h.put }))
    line_put x = let q : Hand T = record h { put = (length l.all, x) ∷ h.put } in let n : ℕ = length l.all in let by : ℕ → ℕ = but l.put_by n h.place in record {
      all = l.all ++ x ∷ [];
      gone = l.gone;
      within = let w = l.within in omega (arith, length-append l.all (x ∷ []));
      left = ap (λ z. z ++ x ∷ []) l.left ∙ sym (drop-append-le l.gone l.all (x ∷ []) l.within);
      put_by = by;
      taken_by = l.taken_by;
      put = λ c y has. dite (ℕ_discrete c h.place)
          (λ e. let has' : HoldsPart q.put y = subst (λ (u : Hand T). HoldsPart u.put y) (but_same whole h.place c q e) has in ⊎_elim
          (λ (new : (n, x) ≡ y). subst (λ (z : ℕ × T). At (l.all ++ x ∷ []) z.0 z.1 × (by z.0 ≡ c)) new (at_end l.all x, but_same l.put_by n n h.place refl ∙ sym e))
          (λ (old : HoldsPart h.put y). let o = l.put h.place y (subst (λ (u : Hand T). HoldsPart u.put y) (sym is) old) in let lt = at_lt l.all y.0 y.1 o.0 in
          (at_left l.all (x ∷ []) y.0 y.1 o.0, but_other l.put_by n y.0 h.place (λ z. omega arith) ∙ o.1 ∙ sym e))
          has')
          (λ ne. let o = l.put c y (subst (λ (u : Hand T). HoldsPart u.put y) (but_other whole h.place c q ne) has) in let lt = at_lt l.all y.0 y.1 o.0 in
          (at_left l.all (x ∷ []) y.0 y.1 o.0, but_other l.put_by n y.0 h.place (λ z. omega arith) ∙ o.1));
      was_put = λ k y a. ⊎_elim
          (λ (old : At l.all k y). let lt = at_lt l.all k y old in let o = l.was_put k y old in
          subst (λ (c : ℕ). HoldsPart (but whole h.place q c).put (k, y)) (sym (but_other l.put_by n k h.place (λ z. omega arith)))
          (dite (ℕ_discrete (l.put_by k) h.place)
          (λ e. subst (λ (u : Hand T). HoldsPart u.put (k, y)) (sym (but_same whole h.place (l.put_by k) q e)) (inr (subst (λ (u : Hand T). HoldsPart u.put (k, y)) (ap whole e ∙ is) o)))
          (λ ne. subst (λ (u : Hand T). HoldsPart u.put (k, y)) (sym (but_other whole h.place (l.put_by k) q ne)) o)))
          (λ (new : (k ≡ n) × (x ≡ y)).
          subst (λ (c : ℕ). HoldsPart (but whole h.place q c).put (k, y)) (sym (but_same l.put_by n k h.place new.0))
          (subst (λ (u : Hand T). HoldsPart u.put (k, y)) (sym (but_same whole h.place h.place q refl)) (inl (λ i. (sym new.0 i, new.1 i)))))
          (at_snoc l.all x k y a);
      taken = λ c y has. let o = l.taken c y (subst (λ (u : List (ℕ × T)). HoldsPart u y) (same_taken c) has) in (o.0, at_left l.all (x ∷ []) y.0 y.1 o.1, o.2);
      was_taken = λ k y lt a. ⊎_elim
          (λ (old : At l.all k y). subst (λ (u : List (ℕ × T)). HoldsPart u (k, y)) (sym (same_taken (l.taken_by k))) (l.was_taken k y lt old))
          (λ (new : (k ≡ n) × (x ≡ y)). let w = l.within in let e = new.0 in absurd (omega arith))
          (at_snoc l.all x k y a);
      falls = λ c. dite (ℕ_discrete c h.place)
          (λ e. let f = subst (λ (u : Hand T). Fall u.put × Fall u.taken) is (l.falls h.place) in
          subst (λ (u : Hand T). Fall u.put × Fall u.taken) (sym (but_same whole h.place c q e)) ((below, f.0), f.1))
          (λ ne. subst (λ (u : Hand T). Fall u.put × Fall u.taken) (sym (but_other whole h.place c q ne)) (l.falls c));
      few_put = λ k lt. dite (ℕ_discrete k n)
          (λ e. subst (λ (z : ℕ). z < 17) (sym (but_same l.put_by n k h.place e)) mine)
          (λ ne. subst (λ (z : ℕ). z < 17) (sym (but_other l.put_by n k h.place ne)) (l.few_put k (omega (arith, length-append l.all (x ∷ [])))));
      few_taken = l.few_taken;
    }
      where
        below : AreBelow (length l.all) h.put
        below y has = at_lt l.all y.0 y.1 (l.put h.place y (subst (λ (u : Hand T). HoldsPart u.put y) (sym is) has)).0

        same_taken : (c : ℕ) → (but whole h.place (record h { put = (length l.all, x) ∷ h.put }) c).taken ≡ (whole c).taken
        same_taken c = dite (ℕ_discrete c h.place)
            (λ e. ap (λ (u : Hand T). u.taken) (but_same whole h.place c (record h { put = (length l.all, x) ∷ h.put }) e) ∙ sym (ap (λ (u : Hand T). u.taken) (ap whole e ∙ is)))
            (λ ne. ap (λ (u : Hand T). u.taken) (but_other whole h.place c (record h { put = (length l.all, x) ∷ h.put }) ne))

    -- with the first of what is left taken
    pub line_took : (x : T) (rest : List T) → items ≡ x ∷ rest → Line rest (but whole h.place (record h { taken = (l.gone, x) ∷ h.taken }))
    line_took x rest split = let q : Hand T = record h { taken = (l.gone, x) ∷ h.taken } in let n : ℕ = l.gone in let by : ℕ → ℕ = but l.taken_by n h.place in
        let first = next l.all n x rest (sym split ∙ l.left) in let lt₀ = at_lt l.all n x first.0 in record {
          all = l.all;
          gone = suc n;
          within = omega arith;
          left = first.1;
          put_by = l.put_by;
          taken_by = by;
          put = λ c y has. l.put c y (subst (λ (u : List (ℕ × T)). HoldsPart u y) (same_put c) has);
          was_put = λ k y a. subst (λ (u : List (ℕ × T)). HoldsPart u (k, y)) (sym (same_put (l.put_by k))) (l.was_put k y a);
          taken = λ c y has. dite (ℕ_discrete c h.place)
              (λ e. let has' : HoldsPart q.taken y = subst (λ (u : Hand T). HoldsPart u.taken y) (but_same whole h.place c q e) has in ⊎_elim
              (λ (new : (n, x) ≡ y). subst (λ (z : ℕ × T). (z.0 < suc n) × At l.all z.0 z.1 × (by z.0 ≡ c)) new (omega arith, first.0, but_same l.taken_by n n h.place refl ∙ sym e))
              (λ (old : HoldsPart h.taken y). let o = l.taken h.place y (subst (λ (u : Hand T). HoldsPart u.taken y) (sym is) old) in let lt = o.0 in
              (omega arith, o.1, but_other l.taken_by n y.0 h.place (λ z. omega arith) ∙ o.2 ∙ sym e))
              has')
              (λ ne. let o = l.taken c y (subst (λ (u : Hand T). HoldsPart u.taken y) (but_other whole h.place c q ne) has) in let lt = o.0 in
              (omega arith, o.1, but_other l.taken_by n y.0 h.place (λ z. omega arith) ∙ o.2));
          was_taken = λ k y lt a. dite (ℕ_discrete k n)
              (λ e. subst (λ (c : ℕ). HoldsPart (but whole h.place q c).taken (k, y)) (sym (but_same l.taken_by n k h.place e))
              (subst (λ (u : Hand T). HoldsPart u.taken (k, y)) (sym (but_same whole h.place h.place q refl)) (inl (λ i. (sym e i, at_same l.all n x y first.0 (subst (λ (z : ℕ). At l.all z y) e a) i)))))
              (λ ne. let o = l.was_taken k y (omega arith) a in
              subst (λ (c : ℕ). HoldsPart (but whole h.place q c).taken (k, y)) (sym (but_other l.taken_by n k h.place ne))
              (dite (ℕ_discrete (l.taken_by k) h.place)
              (λ e. subst (λ (u : Hand T). HoldsPart u.taken (k, y)) (sym (but_same whole h.place (l.taken_by k) q e)) (inr (subst (λ (u : Hand T). HoldsPart u.taken (k, y)) (ap whole e ∙ is) o)))
              (λ ne'. subst (λ (u : Hand T). HoldsPart u.taken (k, y)) (sym (but_other whole h.place (l.taken_by k) q ne')) o)));
          falls = λ c. dite (ℕ_discrete c h.place)
              (λ e. let f = subst (λ (u : Hand T). Fall u.put × Fall u.taken) is (l.falls h.place) in
              subst (λ (u : Hand T). Fall u.put × Fall u.taken) (sym (but_same whole h.place c q e)) (f.0, (below, f.1)))
              (λ ne. subst (λ (u : Hand T). Fall u.put × Fall u.taken) (sym (but_other whole h.place c q ne)) (l.falls c));
          few_put = l.few_put;
          few_taken = λ k lt. dite (ℕ_discrete k n)
              (λ e. subst (λ (z : ℕ). z < 17) (sym (but_same l.taken_by n k h.place e)) mine)
              (λ ne. subst (λ (z : ℕ). z < 17) (sym (but_other l.taken_by n k h.place ne)) (l.few_taken k (omega arith)));
        }
      where
        below : AreBelow l.gone h.taken
        below y has = (l.taken h.place y (subst (λ (u : Hand T). HoldsPart u.taken y) (sym is) has)).0

        same_put : (c : ℕ) → (but whole h.place (record h { taken = (l.gone, x) ∷ h.taken }) c).put ≡ (whole c).put
        same_put c = dite (ℕ_discrete c h.place)
            (λ e. ap (λ (u : Hand T). u.put) (but_same whole h.place c (record h { taken = (l.gone, x) ∷ h.taken }) e) ∙ sym (ap (λ (u : Hand T). u.put) (ap whole e ∙ is)))
            (λ ne. ap (λ (u : Hand T). u.put) (but_other whole h.place c (record h { taken = (l.gone, x) ∷ h.taken }) ne))

    -- what it put lies below the number that comes next
    pub put_below : AreBelow (length l.all) h.put
    put_below y has = at_lt l.all y.0 y.1 (l.put h.place y (subst (λ (u : Hand T). HoldsPart u.put y) (sym is) has)).0

    pub taken_below : AreBelow l.gone h.taken
    taken_below y has = (l.taken h.place y (subst (λ (u : Hand T). HoldsPart u.taken y) (sym is) has)).0

  pub puts : (n pass : ℕ) (v : List (Hand T)) (x : T) → HasHand v → Pushes IsInLine n pass v x (λ w. HasPut v x w)
  puts n pass [] x has items views lt r at = absurd has
  puts n pass (h ∷ hs) x has items views lt r at =
      let is = own items views r pass h hs at in let l : Line items r.whole = r.lawful in (
        record h { put = (length l.all, x) ∷ h.put } ∷ hs,
        first_steps place_of Line items (items ++ x ∷ []) views r pass h (record h { put = (length l.all, x) ∷ h.put }) hs at refl (line_put items r.whole l h is has x),
        (length l.all, put_below items r.whole l h is has, refl),
      )

  pub takes : (pass : ℕ) (v : List (Hand T)) → HasHand v → Pops IsInLine pass v (λ x w. HasTaken v x w)
  takes pass [] has x items views r at = absurd has
  takes pass (h ∷ hs) has x items views r at =
      let is = own (x ∷ items) views r pass h hs at in let l : Line (x ∷ items) r.whole = r.lawful in (
        record h { taken = (l.gone, x) ∷ h.taken } ∷ hs,
        first_steps place_of Line (x ∷ items) items views r pass h (record h { taken = (l.gone, x) ∷ h.taken }) hs at refl (line_took (x ∷ items) r.whole l h is has x items refl),
        (l.gone, taken_below (x ∷ items) r.whole l h is has, refl),
      )

  -- what all hands of a pass come to
  pub closes : (pass : ℕ) (v : List (Hand T)) → Learns IsInLine pass v (λ items. EndsLine v items)
  closes pass v items views r at = let l : Line items r.whole = r.lawful in let c = r.carried pass v at in
      let put_at : (h : Hand T) (k : ℕ) (x : T) → HoldsPart v h → HoldsPart h.put (k, x) → At l.all k x × (l.put_by k ≡ h.place) =
      λ h k x has there. l.put h.place (k, x) (subst (λ (u : Hand T). HoldsPart u.put (k, x)) (sym (c.1 h has).1) there) in
      let taken_at : (h : Hand T) (k : ℕ) (x : T) → HoldsPart v h → HoldsPart h.taken (k, x) → (k < l.gone) × At l.all k x × (l.taken_by k ≡ h.place) =
      λ h k x has there. l.taken h.place (k, x) (subst (λ (u : Hand T). HoldsPart u.taken (k, x)) (sym (c.1 h has).1) there) in
      let same : (h j : Hand T) → HoldsPart v h → HoldsPart v j → h.place ≡ j.place → h ≡ j = λ h j a b e. sym (c.1 h a).1 ∙ ap r.whole e ∙ (c.1 j b).1 in record {
        all = l.all;
        gone = l.gone;
        left = l.left;
        put = λ k x p. (put_at p.0 k x p.1 p.2).0;
        taken = λ k x p. let o = taken_at p.0 k x p.1 p.2 in (o.0, o.1);
        put_once = λ h j k x y a b p q. let o = put_at h k x a p in let o' = put_at j k y b q in (same h j a b (sym o.1 ∙ o'.1), at_same l.all k x y o.0 o'.0);
        taken_once = λ h j k x y a b p q. let o = taken_at h k x a p in let o' = taken_at j k y b q in (same h j a b (sym o.2 ∙ o'.2), at_same l.all k x y o.1 o'.1);
        falls = λ h has. subst (λ (u : Hand T). Fall u.put × Fall u.taken) (c.1 h has).1 (l.falls h.place);
        was_put = λ k x a all. let f = all (l.put_by k) (l.few_put k (at_lt l.all k x a)) in
            (f.0, f.1, subst (λ (u : Hand T). HoldsPart u.put (k, x)) (ap r.whole (sym f.2) ∙ (c.1 f.0 f.1).1) (l.was_put k x a));
        was_taken = λ k x lt a all. let f = all (l.taken_by k) (l.few_taken k lt) in
            (f.0, f.1, subst (λ (u : Hand T). HoldsPart u.taken (k, x)) (ap r.whole (sym f.2) ∙ (c.1 f.0 f.1).1) (l.was_taken k x lt a));
      }

  pub forks : (pass : ℕ) (v : List (Hand T)) → Forks IsInLine pass v (lone_of v) (rest_of v)
  forks pass v items views r at = splits_first place_of Line items views r pass v at

  pub merges : (pass : ℕ) (v : List (Hand T)) (other : ℕ) (w : List (Hand T)) → Merges IsInLine pass v other w (v ++ w) []
  merges pass v other w items views r at apart at' = joins place_of Line items views r pass v other w at apart at'

module _ (T : Type 0) where
  has_from : (k n : ℕ) (h : Hand T) → HoldsPart (hands_from k n) h → (k < suc h.place) × (empty_hand h.place ≡ h)
  has_from k zero h has = absurd has
  has_from k (suc n) h has = ⊎_elim
      (λ (e : empty_hand k ≡ h). subst (λ (q : Hand T). (k < suc q.place) × (empty_hand q.place ≡ q)) e (omega arith, refl))
      (λ (t : HoldsPart (hands_from (suc k) n) h). let r = has_from (suc k) n h t in let a = r.0 in (omega arith, r.1))
      has

  apart_from : (k n : ℕ) → AreApart (place_of {T = T}) (hands_from k n)
  apart_from k zero = tt
  apart_from k (suc n) = ((λ h has e. let a = (has_from (suc k) n h has).0 in let e' : k ≡ h.place = e in omega arith), apart_from (suc k) n)

  -- nothing was put
  empty_line : Line {T = T} [] empty_hand
  empty_line = record {
    all = [];
    gone = 0;
    within = omega arith;
    left = refl;
    put_by = λ _. 0;
    taken_by = λ _. 0;
    put = λ c x has. absurd has;
    was_put = λ k x a. absurd a;
    taken = λ c x has. absurd has;
    was_taken = λ k x lt a. absurd a;
    falls = λ c. (tt, tt);
    few_put = λ k lt. absurd (omega arith);
    few_taken = λ k lt. absurd (omega arith);
  }

  pub opens : IsInLine {T = T} [] (hands 17 ∷ [])
  opens = begins (place_of {T = T}) (Line {T = T}) [] (hands 17) empty_hand empty_line (apart_from 0 17) (λ h has. (has_from 0 17 h has).1)

  hands_left : (k : ℕ) → k < 16 → hands_from {T = T} k (17 - k) ≡ empty_hand k ∷ empty_hand (k + 1) ∷ hands_from (suc (k + 1)) (15 - k)
  hands_left k lt = ap (hands_from k) a ∙ ap (λ (n : ℕ). empty_hand k ∷ hands_from n (suc (15 - k))) b
    where
      a : 17 - k ≡ suc (suc (15 - k))
      a = omega arith

      b : suc k ≡ k + 1
      b = omega arith

  -- one place more is cut off
  pub cuts_one : (k : ℕ) (v : List (Hand T)) → k < 16 → v ≡ hands_from k (17 - k) → HasHand (rest_of v) × (lone_of v ≡ empty_hand k ∷ []) × (rest_of v ≡ hands_from (k + 1) (17 - (k + 1)))
  cuts_one k v lt is = let e = is ∙ hands_left k lt in let small : k + 1 < 17 = omega arith in (subst (λ (w : List (Hand T)). HasHand (rest_of w)) (sym e) small, ap lone_of e, ap rest_of e ∙ sym (ap (hands_from (k + 1)) n))
    where
      n : 17 - (k + 1) ≡ suc (15 - k)
      n = omega arith

  pub last_hand : (v : List (Hand T)) → v ≡ hands_from 16 (17 - 16) → v ≡ empty_hand 16 ∷ []
  last_hand v is = is

module _ {T : Type 0} where
  pub put_has_hand : (v w : List (Hand T)) (x : T) → HasPut v x w → HasHand v → HasHand w
  put_has_hand [] w x put has = absurd has
  put_has_hand (h ∷ hs) w x put has = subst HasHand (sym put.2) has

  pub take_has_hand : (v w : List (Hand T)) (x : T) → HasTaken v x w → HasHand v → HasHand w
  take_has_hand [] w x taken has = absurd has
  take_has_hand (h ∷ hs) w x taken has = subst HasHand (sym taken.2) has

  pub lone_has_hand : (v : List (Hand T)) → HasHand v → HasHand (lone_of v)
  lone_has_hand [] has = absurd has
  lone_has_hand (h ∷ hs) has = has

  pub both_have_hand : (v w : List (Hand T)) → HasHand v → HasHand (v ++ w)
  both_have_hand [] w has = absurd has
  both_have_hand (h ∷ hs) w has = has

  pub ends_next : (queue : TableId) (k : ℕ) → ends_below {T = T} queue (k + 1) ≡ ends_below queue k ++ fresh_end queue k ∷ []
  ends_next queue k = ap (ends_below queue) next
    where
      next : k + 1 ≡ suc k
      next = omega arith
