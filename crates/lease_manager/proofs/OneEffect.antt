-- A record's effects are counted one by one: each inode once.
use Rattle.std.proofs.Common.{◌≡◌, ℕ, ◌+◌, ◌-◌, ◌≤◌, ◌==◌, ◌||◌, Bool, true, false, cond, List, [], ◌∷◌, ◌++◌, length, get_or, take, drop, inl, inr, refl, sym, ◌∙◌, ap, arith}
use Rattle.std.specs.Prelude.{Option, Some}
use Rattle.std.proofs.lemmas.Bool.Decides.{eqb_tells}
use Rattle.std.proofs.lemmas.List.{take_all}
use Rattle.log_record.specs.file_graph.declared.effect.Effect.{Effect}
use Rattle.log_record.specs.file_graph.Graph.{is_among, subjects, touches}
use Rattle.log_record.specs.file_graph.Subject.{one_or_two}
use Rattle.lease_manager.specs.Words.{HasWord}
use Rattle.lease_manager.specs.Passes.{PassView, records_of}
use Rattle.lease_manager.specs.RecordCounts.{HasNoted, HasOneMore, HasUncounted, one_if}

-- ---- one more inode

-- one more is counted on each of these inodes
pub record HasMore (old : PassView) (inodes : List ℕ) (new : PassView) : Type 0 where
  pub rest : new ≡ record old { records = new.records }
  pub counts : (i : ℕ) → HasWord i → records_of new i ≡ records_of old i + one_if (is_among i inodes)

more_at : (counted here among : Bool) → (here ≡ true → among ≡ counted) → one_if among + one_if (cond counted false here) ≡ one_if (here || among)
more_at true true among same = let is : one_if among ≡ 1 = ap one_if (same refl) in omega arith
more_at false true among same = let is : one_if among ≡ 0 = ap one_if (same refl) in omega arith
more_at true false among same = omega arith
more_at false false among same = omega arith

module _ (inodes : List ℕ) (s : ℕ) (counted : Bool) (is : counted ≡ is_among s inodes) where
  more_among : (i : ℕ) → one_if (is_among i inodes) + one_if (cond counted false (s == i)) ≡ one_if (is_among i (s ∷ inodes))
  more_among i = more_at counted (s == i) (is_among i inodes) (λ here. elim (eqb_tells s i) [
    | inl same ↦ ap (λ j. is_among j inodes) (sym same.1) ∙ sym is
    | inr apart ↦ absurd (let no : true ≡ false = sym here ∙ apart.0 in cc)
  ])

  pub one_more : (old mid new : PassView) → HasMore old inodes mid → HasOneMore mid s counted new → HasMore old (s ∷ inodes) new
  one_more old mid new h one = record {
    rest = one.rest ∙ ap (λ (p : PassView). record p { records = new.records }) h.rest;
    counts = λ i w. let a = one.counts i w in let b = h.counts i w in let c = more_among i in omega arith;
  }

  -- the same where the record is counted no longer
  pub one_fewer : (old mid new : PassView) → HasMore mid inodes old → HasOneMore new s counted mid → HasMore new (s ∷ inodes) old
  one_fewer old mid new h one = record {
    rest = h.rest ∙ ap (λ (p : PassView). record p { records = old.records }) one.rest;
    counts = λ i w. let a = one.counts i w in let b = h.counts i w in let c = more_among i in omega arith;
  }

rest_back : (old new : PassView) → new ≡ record old { records = new.records } → old ≡ record new { records = old.records }
rest_back old new is = ap (λ (p : PassView). record p { records = old.records }) (sym is)

-- ---- the first of some effects, which is on two inodes

front : (es : List Effect) (e : Effect) → 1 ≤ length es → e ≡ get_or es 0 e → es ≡ e ∷ take (length es - 1) (drop 1 es)
front [] e some is = absurd (let no : ⊥ = omega (arith, some) in no)
front (x ∷ xs) e some is =
    let more : length (x ∷ xs) - 1 ≡ length xs = omega arith in
    ap (λ y. y ∷ xs) (sym is) ∙ ap (λ l. e ∷ l) (sym (take_all (length xs) xs (omega arith)) ∙ ap (λ n. take n xs) (sym more))

module _ (es : List Effect) (e : Effect) (some : 1 ≤ length es) (is : e ≡ get_or es 0 e) (first : ℕ) (second : Option ℕ) (both : subjects e ≡ one_or_two first second) (other : ℕ) (two : second ≡ Some other) where
  abbrev rest : List Effect
  rest = take (length es - 1) (drop 1 es)

  all_touched : touches es ≡ first ∷ other ∷ touches rest
  all_touched = ap touches (front es e some is) ∙ ap (λ l. l ++ touches rest) (both ∙ ap (one_or_two first) two)

  module _ (first_counted other_counted : Bool) (other_is : other_counted ≡ is_among other (touches rest)) (first_is : first_counted ≡ is_among first (other ∷ touches rest)) (old mid between new : PassView) where
    -- both are counted once, and so are those of the others
    pub two_noted : HasNoted old rest mid → HasOneMore mid other other_counted between → HasOneMore between first first_counted new → HasNoted old es new
    two_noted h a b =
        let all = one_more (other ∷ touches rest) first first_counted first_is old between new (one_more (touches rest) other other_counted other_is old mid between (record { rest = h.rest; counts = h.counts }) a) b in
        record { rest = all.rest; counts = λ i w. all.counts i w ∙ ap (λ l. records_of old i + one_if (is_among i l)) (sym all_touched) }

    pub two_uncounted : HasUncounted old rest mid → HasOneMore between other other_counted mid → HasOneMore new first first_counted between → HasUncounted old es new
    two_uncounted h a b =
        let before : HasMore mid (touches rest) old = record { rest = rest_back old mid h.rest; counts = λ i w. sym (h.counts i w) } in
        let all = one_fewer (other ∷ touches rest) first first_counted first_is old between new (one_fewer (touches rest) other other_counted other_is old mid between before a) b in
        record { rest = rest_back new old all.rest; counts = λ i w. ap (λ l. records_of new i + one_if (is_among i l)) all_touched ∙ sym (all.counts i w) }
