-- Data goes to three tiers in turn.
use Rattle.std.proofs.Common.{◌≡◌, ◌≢◌, ◌≤◌, ◌<◌, ◌+◌, ◌∙◌, inl, inr, ℕ, List, [], ◌∷◌, length, refl, sym, subst, arith}
use Rattle.std.proofs.lemmas.Bool.{cases_lt}
use Rattle.tier_device.specs.declared.media.Tier.{Tier}
use Rattle.tier_device.specs.declared.media.Tier.TheVariants.{Fast, Block, Slow}
use Rattle.tier_device.specs.AfterStop.{AtRest}
use Rattle.block_alloc.specs.declared.runs.Run.{Run}
use Rattle.area_commit.specs.DataWrite.{IsKept, WritesIn, FencesInTurn, GoesInTurn, fences_of}

-- a tier in which runs are written is fenced once
pub fence_some : (runs : List Run) → 0 < length runs → fences_of runs ≡ 1
fence_some [] some = absurd (omega (arith, some))
fence_some (run ∷ runs) some = refl

pub fence_most : (runs : List Run) → fences_of runs ≤ 1
fence_most [] = omega arith
fence_most (run ∷ runs) = omega arith

block_fast : Block ≢ Fast
block_fast e = cc

slow_fast : Slow ≢ Fast
slow_fast e = cc

slow_block : Slow ≢ Block
slow_block e = cc

-- what is at rest is kept, and so it was before
kept_at : (seen : List ℕ) (t : Tier) (m b : ℕ) (M N : ℕ → Tier → List ℕ → Type 0) → m ≡ b → ((c : List ℕ) → M b t c → c ≡ seen) → ((c : List ℕ) → N m t c → M m t c) → IsKept (N m) t
kept_at seen t m b M N same rest past c d lc ld =
    rest c (subst (λ (n : ℕ). M n t c) same (past c lc)) ∙ sym (rest d (subst (λ (n : ℕ). M n t d) same (past d ld)))

module _ (fast block slow : List Run) where
  -- no call
  pub no_turn : (a b : ℕ) (L M : ℕ → Tier → List ℕ → Type 0) → b ≤ a → ((m : ℕ) (t : Tier) (c : List ℕ) → m ≤ a → M m t c → L m t c) → GoesInTurn fast block slow a b L M
  no_turn a b L M none past = record {
    past = past;
    block_waits = λ m c lo hi most l. subst (λ (n : ℕ). L n Block c) (omega (arith, lo, hi, none)) (past m Block c (omega (arith, hi, none)) l);
    slow_waits = λ m c lo hi most l. subst (λ (n : ℕ). L n Slow c) (omega (arith, lo, hi, none)) (past m Slow c (omega (arith, hi, none)) l);
    fast_kept = λ m is below some. absurd (omega (arith, is, below, none));
    block_kept = λ m is below some. absurd (omega (arith, is, below, none));
  }

  -- reads before it
  pub turn_behind : (a b c : ℕ) (L M N : ℕ → Tier → List ℕ → Type 0) → b ≡ a → ((m : ℕ) (t : Tier) (x : List ℕ) → m ≤ a → M m t x → L m t x) → GoesInTurn fast block slow b c M N → GoesInTurn fast block slow a c L N
  turn_behind a b c L M N same past turn = record {
    past = λ m t x le l. past m t x le (turn.past m t x (omega (arith, le, same)) l);
    block_waits = λ m x lo hi most l. back Block x (turn.block_waits m x (omega (arith, lo, same)) hi (omega (arith, most, same)) l);
    slow_waits = λ m x lo hi most l. back Slow x (turn.slow_waits m x (omega (arith, lo, same)) hi (omega (arith, most, same)) l);
    fast_kept = λ m is below some. turn.fast_kept m (omega (arith, is, same)) below some;
    block_kept = λ m is below some. turn.block_kept m (omega (arith, is, same)) below some;
  }
    where
      back : (t : Tier) (x : List ℕ) → M b t x → L a t x
      back t x l = past a t x (omega arith) (subst (λ (n : ℕ). M n t x) same l)

  -- reads behind it
  pub turn_read : (a b c : ℕ) (L M N : ℕ → Tier → List ℕ → Type 0) → c ≡ b → ((m : ℕ) (t : Tier) (x : List ℕ) → m ≤ b → N m t x → M m t x) → GoesInTurn fast block slow a b L M → a ≤ b → GoesInTurn fast block slow a c L N
  turn_read a b c L M N same past turn later = record {
    past = λ m t x le l. turn.past m t x le (past m t x (omega (arith, le, later)) l);
    block_waits = λ m x lo hi most l. turn.block_waits m x lo (omega (arith, hi, same)) most (past m Block x (omega (arith, hi, same)) l);
    slow_waits = λ m x lo hi most l. turn.slow_waits m x lo (omega (arith, hi, same)) most (past m Slow x (omega (arith, hi, same)) l);
    fast_kept = λ m is below some x y lx ly.
        turn.fast_kept m is (omega (arith, below, same)) some x y (past m Fast x (omega (arith, below, same)) lx) (past m Fast y (omega (arith, below, same)) ly);
    block_kept = λ m is below some x y lx ly.
        turn.block_kept m is (omega (arith, below, same)) some x y (past m Block x (omega (arith, below, same)) lx) (past m Block y (omega (arith, below, same)) ly);
  }

  -- calls behind it, once all is written and fenced
  pub turn_then : (a b c : ℕ) (L M N : ℕ → Tier → List ℕ → Type 0) (seen : Tier → List ℕ) → b ≡ a + length fast + length block + length slow + fences_of fast + fences_of block + fences_of slow
      → (0 < length fast → AtRest seen (M b) Fast) → (0 < length block → AtRest seen (M b) Block) → ((m : ℕ) (t : Tier) (x : List ℕ) → m ≤ b → N m t x → M m t x) → GoesInTurn fast block slow a b L M → GoesInTurn fast block slow a c L N
  turn_then a b c L M N seen all fast_rests block_rests past turn = record {
    past = λ m t x le l. turn.past m t x le (past m t x (omega (arith, le, all)) l);
    block_waits = λ m x lo hi most l. turn.block_waits m x lo (omega (arith, most, all)) most (past m Block x (omega (arith, most, all)) l);
    slow_waits = λ m x lo hi most l. turn.slow_waits m x lo (omega (arith, most, all)) most (past m Slow x (omega (arith, most, all)) l);
    fast_kept = λ m is below some. kept_on Fast m (omega (arith, is, all, fence_some fast some)) (fast_rests some) (λ early. turn.fast_kept m is early some);
    block_kept = λ m is below some. kept_on Block m (omega (arith, is, all, fence_some block some)) (block_rests some) (λ early. turn.block_kept m is early some);
  }
    where
      kept_on : (t : Tier) (m : ℕ) → m ≤ b → AtRest seen (M b) t → (m < b → IsKept (M m) t) → IsKept (N m) t
      kept_on t m within rests early = elim (cases_lt m b) [
        | inl before ↦ λ x y lx ly. early before x y (past m t x within lx) (past m t y within ly)
        | inr behind ↦ kept_at (seen t) t m b M N (omega (arith, within, behind)) rests (λ x l. past m t x within l)
      ]

  -- ---- writes

  -- runs of the fast tier alone
  pub turn_fast : (a b : ℕ) (L M : ℕ → Tier → List ℕ → Type 0) → WritesIn Fast a b L M → b ≤ a + length fast → GoesInTurn fast block slow a b L M
  turn_fast a b L M one most = record {
    past = one.past;
    block_waits = λ m x lo hi until l. one.others m Block x block_fast lo hi l;
    slow_waits = λ m x lo hi until l. one.others m Slow x slow_fast lo hi l;
    fast_kept = λ m is below some. absurd (omega (arith, is, below, most));
    block_kept = λ m is below some. absurd (omega (arith, is, below, most));
  }

  -- and then those of the block tier
  pub turn_block : (a b c : ℕ) (L M N : ℕ → Tier → List ℕ → Type 0) → WritesIn Fast a b L M → b ≡ a + length fast → WritesIn Block b c M N → c ≤ b + length block → GoesInTurn fast block slow a c L N
  turn_block a b c L M N one all two most = record {
    past = λ m t x le l. one.past m t x le (two.past m t x (omega (arith, le, one.later)) l);
    block_waits = λ m x lo hi until l. one.others m Block x block_fast lo (omega (arith, until, all)) (two.past m Block x (omega (arith, until, all)) l);
    slow_waits = λ m x lo hi until l. elim (cases_lt m b) [
      | inl early ↦ one.others m Slow x slow_fast lo (omega (arith, early)) (two.past m Slow x (omega (arith, early)) l)
      | inr late ↦ one.others b Slow x slow_fast one.later (omega arith) (two.others m Slow x slow_block late hi l)
    ];
    fast_kept = λ m is below some. absurd (omega (arith, is, below, all, most));
    block_kept = λ m is below some. absurd (omega (arith, is, below, all, most));
  }

  -- and then those of the slow tier
  pub turn_slow : (a b c d : ℕ) (L M N O : ℕ → Tier → List ℕ → Type 0) → WritesIn Fast a b L M → b ≡ a + length fast → WritesIn Block b c M N → c ≡ b + length block → WritesIn Slow c d N O → d ≤ c + length slow → GoesInTurn fast block slow a d L O
  turn_slow a b c d L M N O one all two all_two three most =
      let turn = turn_block a b c L M N one all two (omega (arith, all_two)) in
      record {
        past = λ m t x le l. turn.past m t x le (three.past m t x (omega (arith, le, one.later, two.later)) l);
        block_waits = λ m x lo hi until l. turn.block_waits m x lo (omega (arith, until, all, all_two)) until (three.past m Block x (omega (arith, until, all, all_two)) l);
        slow_waits = λ m x lo hi until l. turn.slow_waits m x lo (omega (arith, until, all, all_two)) until (three.past m Slow x (omega (arith, until, all, all_two)) l);
        fast_kept = λ m is below some. absurd (omega (arith, is, below, all, all_two, most));
        block_kept = λ m is below some. absurd (omega (arith, is, below, all, all_two, most));
      }

  -- all is written, and then fenced
  pub turn_fenced : (a b c : ℕ) (L M N : ℕ → Tier → List ℕ → Type 0) → GoesInTurn fast block slow a b L M → b ≡ a + length fast + length block + length slow → FencesInTurn fast block b c M N → GoesInTurn fast block slow a c L N
  turn_fenced a b c L M N turn all fences = record {
    past = λ m t x le l. turn.past m t x le (fences.past m t x (omega (arith, le, all)) l);
    block_waits = λ m x lo hi until l. turn.block_waits m x lo (omega (arith, until, all)) until (fences.past m Block x (omega (arith, until, all)) l);
    slow_waits = λ m x lo hi until l. turn.slow_waits m x lo (omega (arith, until, all)) until (fences.past m Slow x (omega (arith, until, all)) l);
    fast_kept = λ m is below some. fences.fast_kept m (omega (arith, is, all)) below some;
    block_kept = λ m is below some. fences.block_kept m (omega (arith, is, all)) below some;
  }

-- ---- fences

module _ (fast block : List Run) where
  -- the fast tier alone
  pub fences_fast : (a b : ℕ) (L M : ℕ → Tier → List ℕ → Type 0) → WritesIn Fast a b L M → b ≤ a + fences_of fast → FencesInTurn fast block a b L M
  fences_fast a b L M one most = record {
    past = one.past;
    fast_kept = λ m is below some. absurd (omega (arith, is, below, most, fence_most fast));
    block_kept = λ m is below some. absurd (omega (arith, is, below, most));
  }

  -- and then the block tier
  pub fences_block : (a b c : ℕ) (L M N : ℕ → Tier → List ℕ → Type 0) (seen : Tier → List ℕ) → WritesIn Fast a b L M → b ≡ a + fences_of fast → (0 < length fast → AtRest seen (M b) Fast) → WritesIn Block b c M N → c ≤ b + fences_of block → FencesInTurn fast block a c L N
  fences_block a b c L M N seen one all rests two most = record {
    past = λ m t x le l. one.past m t x le (two.past m t x (omega (arith, le, all)) l);
    fast_kept = λ m is below some.
        let here : m ≡ b = omega (arith, is, all, fence_some fast some) in
        kept_at (seen Fast) Fast m b M N here (rests some) (λ x l. two.past m Fast x (omega (arith, here)) l);
    block_kept = λ m is below some. absurd (omega (arith, is, below, all, most, fence_most block));
  }

  -- and then the slow tier
  pub fences_slow : (a b c d : ℕ) (L M N O : ℕ → Tier → List ℕ → Type 0) (seen seen' : Tier → List ℕ) → WritesIn Fast a b L M → b ≡ a + fences_of fast → (0 < length fast → AtRest seen (M b) Fast) → WritesIn Block b c M N → c ≡ b + fences_of block
      → (0 < length block → AtRest seen' (N c) Block) → WritesIn Slow c d N O → FencesInTurn fast block a d L O
  fences_slow a b c d L M N O seen seen' one all rests two all_two rests_two three = record {
    past = λ m t x le l. one.past m t x le (two.past m t x (omega (arith, le, all)) (three.past m t x (omega (arith, le, all, all_two)) l));
    fast_kept = λ m is below some.
        let here : m ≡ b = omega (arith, is, all, fence_some fast some) in
        kept_at (seen Fast) Fast m b M O here (rests some) (λ x l. two.past m Fast x (omega (arith, here)) (three.past m Fast x (omega (arith, here, all_two)) l));
    block_kept = λ m is below some.
        let here : m ≡ c = omega (arith, is, all, all_two, fence_some block some) in
        kept_at (seen' Block) Block m c N O here (rests_two some) (λ x l. three.past m Block x (omega (arith, here)) l);
  }
