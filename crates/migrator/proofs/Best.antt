-- The best of the inodes so far.
use Rattle.std.proofs.Common.{◌≡◌, ◌≤◌, ◌<◌, ◌+◌, ℕ, inl, inr, arith, false, refl, sym, ap, subst, Option, Some, None, IsSome}
use Rattle.std.specs.Prelude.{nat_le, IfSome}
use Rattle.std.proofs.lemmas.Bool.{cases_lt, and_parts, leb-true, false_from_ne_true}
use Rattle.tier_device.specs.declared.media.Tier.{Tier}
use Rattle.shared_area.specs.layout.Places.{Sizes, is_inode}
use Rattle.shared_area.specs.area_reader.Store.{Store}
use Rattle.shared_area.specs.FirstRun.{file_lies, FindsRun}
use Rattle.shared_area.proofs.FirstRuns.{no_inode_lies}
use Rattle.block_alloc.specs.declared.runs.Run.{Run}
use Rattle.migrator.specs.declared.run_choice.TheConstants.{MOST_BLOCKS}
use Rattle.migrator.specs.RunChoice.{LiesIn, last_digest, ComesBefore, HasLastDigest, IsPickedAmong, IsPickedIn, FoundFile, pick_of, IsBestBelow}

past_is_none : (j : ℕ) → 1025 ≤ j → is_inode j ≡ false
past_is_none j past = false_from_ne_true (is_inode j) (λ is. let p = and_parts (nat_le 1 j) (nat_le j 1024) is in let low = leb-true j 1024 p.1 in omega (arith, low, past))

-- the file at an inode, none where it has no block in the tier
pub record IsCandidate (g : Sizes) (s : Store) (t : Tier) (i : ℕ) (x : Option FoundFile) : Type 0 where
  pub picked : IsPickedAmong g s t (λ j. j ≡ i) (pick_of x)
  pub touch : HasLastDigest g s x

module _ (g : Sizes) (s : Store) (t : Tier) where
  -- a file with its first run there, where one is found
  pub candidate_some : (i : ℕ) (run : Run) (o : Option Run) (touch : ℕ) → o ≡ Some run → FindsRun (file_lies g s i t) MOST_BLOCKS o → touch ≡ last_digest g s i → IsCandidate g s t i (Some (touch, record { inode = i; run = run }))
  candidate_some i run o touch is finds same = record {
    picked = record {
      inside = refl;
      run = subst (λ (x : Option Run). FindsRun (file_lies g s i t) MOST_BLOCKS x) is finds;
      least = λ j among lies. inr (ap (last_digest g s) (sym among), omega (arith, among));
    };
    touch = same;
  }

  not_some : (o : Option ℕ) → o ≡ None → IsSome o → ⊥
  not_some None is some = cc
  not_some (Some x) is some = cc

  nothing : (i : ℕ) (o : Option Run) → o ≡ None → FindsRun (file_lies g s i t) MOST_BLOCKS o → LiesIn g s t i → ⊥
  nothing i o is finds lies = not_some (file_lies g s i t lies.0) (subst (λ (x : Option Run). FindsRun (file_lies g s i t) MOST_BLOCKS x) is finds lies.0) lies.1

  pub candidate_none : (i : ℕ) (o : Option Run) → o ≡ None → FindsRun (file_lies g s i t) MOST_BLOCKS o → IsCandidate g s t i None
  candidate_none i o is finds = record {
    picked = λ j among lies. nothing i o is finds (subst (λ (k : ℕ). LiesIn g s t k) among lies);
    touch = tt;
  }

  here_comes_later : (i : ℕ) (best : FoundFile) → best.0 ≡ last_digest g s best.1.inode → best.0 ≤ last_digest g s i → best.1.inode < i → ComesBefore g s best.1.inode i
  here_comes_later i best is le low = elim (cases_lt (last_digest g s best.1.inode) (last_digest g s i)) [
    | inl less ↦ inl less
    | inr ge ↦ inr (omega (arith, is, le, ge), omega (arith, low))
  ]

  earlier_comes_first : (best found : FoundFile) → best.0 ≡ last_digest g s best.1.inode → found.0 ≡ last_digest g s found.1.inode → found.0 < best.0 → (j : ℕ) → ComesBefore g s best.1.inode j → ComesBefore g s found.1.inode j
  earlier_comes_first best found is_best is_found less j (inl first) = inl (omega (arith, is_best, is_found, less, first))
  earlier_comes_first best found is_best is_found less j (inr both) = (let same = both.0 in inl (omega (arith, is_best, is_found, less, same)))

  -- below one inode more
  pub best_stays : (i : ℕ) (best : Option FoundFile) → IsBestBelow g s t i best → IsCandidate g s t i None → IsBestBelow g s t (i + 1) best
  best_stays i None b c = record {
    picked = λ j lt lies. elim (cases_lt j i) [
      | inl before ↦ b.picked j before lies
      | inr ge ↦ c.picked j (omega (arith, lt, ge)) lies
    ];
    touch = tt;
  }
  best_stays i (Some x) b c = record {
    picked = record {
      inside = (let lt = b.picked.inside in omega (arith, lt));
      run = b.picked.run;
      least = λ j lt lies. elim (cases_lt j i) [
        | inl before ↦ b.picked.least j before lies
        | inr ge ↦ absurd (c.picked j (omega (arith, lt, ge)) lies)
      ];
    };
    touch = b.touch;
  }

  -- .. one that was touched no earlier, wherever it lies
  pub best_comes_first : (i : ℕ) (best : FoundFile) → IsBestBelow g s t i (Some best) → best.0 ≤ last_digest g s i → IsBestBelow g s t (i + 1) (Some best)
  best_comes_first i best b le = record {
    picked = record {
      inside = (let lt = b.picked.inside in omega (arith, lt));
      run = b.picked.run;
      least = λ j lt lies. elim (cases_lt j i) [
        | inl before ↦ b.picked.least j before lies
        | inr ge ↦ subst (λ (k : ℕ). ComesBefore g s best.1.inode k) (omega (arith, lt, ge)) (here_comes_later i best b.touch le b.picked.inside)
      ];
    };
    touch = b.touch;
  }

  -- one that was digested before it, or the first one that is found
  pub found_is_best : (i : ℕ) (best : Option FoundFile) (found : FoundFile) → IsBestBelow g s t i best → IsCandidate g s t i (Some found) → IfSome best (λ x. found.0 < x.0) → IsBestBelow g s t (i + 1) (Some found)
  found_is_best i None found b c less = record {
    picked = record {
      inside = (let here = c.picked.inside in omega (arith, here));
      run = c.picked.run;
      least = λ j lt lies. elim (cases_lt j i) [
        | inl before ↦ absurd (b.picked j before lies)
        | inr ge ↦ c.picked.least j (omega (arith, lt, ge)) lies
      ];
    };
    touch = c.touch;
  }
  found_is_best i (Some best) found b c less = record {
    picked = record {
      inside = (let here = c.picked.inside in omega (arith, here));
      run = c.picked.run;
      least = λ j lt lies. elim (cases_lt j i) [
        | inl before ↦ earlier_comes_first best found b.touch c.touch less j (b.picked.least j before lies)
        | inr ge ↦ c.picked.least j (omega (arith, lt, ge)) lies
      ];
    };
    touch = c.touch;
  }

  nobody : (j : ℕ) → j ≡ 0 → LiesIn g s t j → ⊥
  nobody j zero lies = not_some (file_lies g s j t lies.0) (no_inode_lies g s j t (ap is_inode zero) lies.0) lies.1

  nobody_behind : (j : ℕ) → 1025 ≤ j → LiesIn g s t j → ⊥
  nobody_behind j past lies = not_some (file_lies g s j t lies.0) (no_inode_lies g s j t (past_is_none j past) lies.0) lies.1

  -- no file stands below the first inode ..
  pub best_none : IsBestBelow g s t 1 None
  best_none = record { picked = λ j lt lies. nobody j (omega (arith, lt)) lies; touch = tt }

  -- .. or behind the last one
  pub best_of_all : (end : ℕ) (best : Option FoundFile) → 1025 ≤ end → IsBestBelow g s t end best → IsPickedIn g s t (pick_of best)
  best_of_all end None all b = λ j among lies. elim (cases_lt j end) [
    | inl lt ↦ b.picked j lt lies
    | inr ge ↦ nobody_behind j (omega (arith, ge, all)) lies
  ]
  best_of_all end (Some x) all b = record {
    inside = tt;
    run = b.picked.run;
    least = λ j among lies. elim (cases_lt j end) [
      | inl lt ↦ b.picked.least j lt lies
      | inr ge ↦ absurd (nobody_behind j (omega (arith, ge, all)) lies)
    ];
  }
