-- A list that is played may be split anywhere.
use Rattle.std.proofs.Common.{◌≡◌, suc, ℕ, ◌+◌, ◌≤◌, ◌<◌, List, [], ◌∷◌, ◌++◌, length, inl, inr, refl, sym, ap, ◌∙◌, subst, arith, length-append}
use Rattle.std.specs.Prelude.{slice_get}
use Rattle.std.proofs.lemmas.Bool.{cases_lt}
use Rattle.event_lists.specs.Courses.{AreMade, IsCourse, MovesOne, pace_of}
use Rattle.event_lists.specs.Plays.{IsRecovered, Leads, Plays, clocks}
use Rattle.event_lists.specs.declared.recoverable.Recoverable.{Ghosts}
use Rattle.event_lists.proofs.Joining.{plays_none, plays_on, plays_one}
use Rattle.event_lists.proofs.Joins.{no_clock_goes_back}
use Rattle.event_lists.proofs.Lists.{element, get_front, get_right}

module _ {S E O : Type 0} (g : Ghosts S E O) where
  -- Events that lead from state to state are played.
  plays_chain : (old new : S) (events : List E) (outcomes : List O) (states : ℕ → S) → AreMade (Leads g) old events outcomes new states
      → IsCourse (pace_of g.moves events) (length events) (clocks g states) → ((k : ℕ) → k ≤ length events → IsRecovered g (states k)) → Plays g old events outcomes new
  plays_chain old new [] [] states made course now = subst (λ s. Plays g s [] [] new) made.from (subst (λ s. Plays g (states 0) [] [] s) made.to (plays_none g (states 0) (now 0 (omega arith))))
  plays_chain old new [] (o ∷ outcomes) states made course now = let none = made.count in absurd (omega (arith, none))
  plays_chain old new (e ∷ events) [] states made course now = let none = made.count in absurd (omega (arith, none))
  plays_chain old new (e ∷ events) (o ∷ outcomes) states made course now =
      subst (λ s. Plays g s (e ∷ events) (o ∷ outcomes) new) made.from
      (plays_on g (states 0) (states 1) new (e ∷ []) events (o ∷ []) outcomes
      (plays_one g (states 0) (states 1) e o (made.each 0 e o refl refl) (course.one_part 0 (some (length events))) (course.in_pace 0 (some (length events)) e refl) (now 1 (one (length events))))
      (plays_chain (states 1) new events outcomes (λ k. states (suc k))
      (record {
        count = fewer (length outcomes) (length events) made.count;
        from = refl;
        to = made.to;
        each = λ k d p got got'. subst (λ i. Leads g (states (suc k)) d p (states i)) (turn k) (made.each (suc k) d p got got');
      })
      (record {
        one_part = λ k lt. subst (λ i. MovesOne (g.clock (states (suc k))) (g.clock (states i))) (turn k) (course.one_part (suc k) (more k (length events) lt));
        in_pace = λ k lt d got. subst (λ i. g.moves d (g.clock (states (suc k))) (g.clock (states i))) (turn k) (course.in_pace (suc k) (more k (length events) lt) d got);
      })
      (λ k le. now (suc k) (up k (length events) le))))
    where
      some : (n : ℕ) → 0 < suc n
      some n = omega arith

      one : (n : ℕ) → 1 ≤ suc n
      one n = omega arith

      more : (k n : ℕ) → k < n → suc k < suc n
      more k n lt = omega (arith, lt)

      up : (k n : ℕ) → k ≤ n → suc k ≤ suc n
      up k n le = omega (arith, le)

      fewer : (a b : ℕ) → suc a ≡ suc b → a ≡ b
      fewer a b is = omega (arith, is)

      turn : (k : ℕ) → suc k + 1 ≡ suc (k + 1)
      turn k = omega arith

  -- What a stop leaves in a state between two events, or behind the last one, is recovered.
  between : (first last : S) (events : List E) (outcomes : List O) (is : Plays g first events outcomes last) (k : ℕ) → k ≤ length events → IsRecovered g (is.states k)
  between first last events outcomes is k le = elim (cases_lt k (length events)) [
    | inl lt ↦ before lt
    | inr ge ↦ subst (λ s. IsRecovered g s) (sym (ap is.states (last_place k (length events) le ge) ∙ is.effects.to)) is.now
  ]
    where
      last_place : (k n : ℕ) → k ≤ n → n ≤ k → k ≡ n
      last_place k n le ge = omega (arith, le, ge)

      within : (a b k : ℕ) → a ≡ b → k < b → k < a
      within a b k same lt = omega (arith, same, lt)

      up : (a b d : ℕ) → a ≤ b → b ≤ d → a ≤ d
      up a b d x y = omega (arith, x, y)

      before : k < length events → IsRecovered g (is.states k)
      before lt c held =
          let e = element events k lt in
          let o = element outcomes k (within (length outcomes) (length events) k is.effects.count lt) in
          let next = is.effects.each k e.0 o.0 e.1 o.1 in
          next.during c (λ p part.
          let at = held p part in
          let later = no_clock_goes_back (g.clock (is.states k)) (g.clock (is.states (k + 1))) (is.course.one_part k lt) p part in
          (at.0, at.1, up at.0 (g.clock (is.states k) p) (g.clock (is.states (k + 1)) p) at.2 later, (next.past p at.0 (c p) part at.2).1 at.3))

  -- A list is played as two.
  pub splits : (first last : S) (events more : List E) (outcomes others : List O) → length outcomes ≡ length events → Plays g first (events ++ more) (outcomes ++ others) last
      → (mid : S) × Plays g first events outcomes mid × Plays g mid more others last
  splits first last events more outcomes others same is = (
    is.states n,
    plays_chain first (is.states n) events outcomes is.states made course (λ k le. now k (up k n whole le (shorter n (length more) whole long))),
    plays_chain (is.states n) last more others (λ j. is.states (n + j)) made' course' (λ j le. now (n + j) (further_at j n (length more) whole le long)),
  )
    where
      n : ℕ
      n = length events

      whole : ℕ
      whole = length (events ++ more)

      long : whole ≡ n + length more
      long = length-append events more

      shorter : (a b c : ℕ) → c ≡ a + b → a ≤ c
      shorter a b c long = omega (arith, long)

      up : (a b d : ℕ) → a ≤ b → b ≤ d → a ≤ d
      up a b d x y = omega (arith, x, y)

      before : (k a b c : ℕ) → k < a → c ≡ a + b → k < c
      before k a b c lt long = omega (arith, lt, long)

      further : (k a b c : ℕ) → k < b → c ≡ a + b → a + k < c
      further k a b c lt long = omega (arith, lt, long)

      further_at : (k a b c : ℕ) → k ≤ b → c ≡ a + b → a + k ≤ c
      further_at k a b c le long = omega (arith, le, long)

      turn : (a k : ℕ) → a + k + 1 ≡ a + (k + 1)
      turn a k = omega arith

      rest : (a b c d x y : ℕ) → x ≡ a + b → y ≡ c + d → x ≡ y → a ≡ c → b ≡ d
      rest a b c d x y one two both first = omega (arith, one, two, both, first)

      now : (k : ℕ) → k ≤ whole → IsRecovered g (is.states k)
      now = between first last (events ++ more) (outcomes ++ others) is

      made : AreMade (Leads g) first events outcomes (is.states n) is.states
      made = record { count = same; from = is.effects.from; to = refl; each = λ k e o got got'. is.effects.each k e o (get_front events more k e got) (get_front outcomes others k o got') }

      course : IsCourse (pace_of g.moves events) n (clocks g is.states)
      course =
          record {
            one_part = λ k lt. is.course.one_part k (before k n (length more) whole lt long);
            in_pace = λ k lt e got. is.course.in_pace k (before k n (length more) whole lt long) e (get_front events more k e got);
          }

      made' : AreMade (Leads g) (is.states n) more others last (λ j. is.states (n + j))
      made' =
          record {
            count = rest (length outcomes) (length others) n (length more) (length (outcomes ++ others)) whole (length-append outcomes others) long is.effects.count same;
            from = ap is.states (omega arith);
            to = ap is.states (sym long) ∙ is.effects.to;
            each = λ k e o got got'. subst (λ i. Leads g (is.states (n + k)) e o (is.states i)) (turn n k)
                (is.effects.each (n + k) e o (get_right events more k ∙ got) (ap (λ m. slice_get (outcomes ++ others) (m + k)) (sym same) ∙ get_right outcomes others k ∙ got'));
          }

      course' : IsCourse (pace_of g.moves more) (length more) (clocks g (λ j. is.states (n + j)))
      course' =
          record {
            one_part = λ k lt. subst (λ i. MovesOne (g.clock (is.states (n + k))) (g.clock (is.states i))) (turn n k) (is.course.one_part (n + k) (further k n (length more) whole lt long));
            in_pace = λ k lt e got. subst (λ i. g.moves e (g.clock (is.states (n + k))) (g.clock (is.states i))) (turn n k) (is.course.in_pace (n + k) (further k n (length more) whole lt long) e (get_right events more k ∙ got));
          }
