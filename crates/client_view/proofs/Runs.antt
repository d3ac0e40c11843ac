-- Runs of blocks as records are laid over them, block by block and record by record.
use Rattle.std.proofs.Common.{◌≡◌, ◌≢◌, ◌<◌, ◌≤◌, ◌⊎◌, inl, inr, ℕ, zero, suc, ◌+◌, false, List, [], ◌∷◌, ◌++◌, length, drop, get_or, set, Option, None, refl, ap, sym, ◌∙◌, subst, arith}
use Rattle.std.proofs.lemmas.List.{drop_all, ext_get_or, get_or-set_same, get_or-set_other}
use Rattle.std.proofs.lemmas.Bool.{cases_lt}
use Rattle.std.proofs.lemmas.Bool.Decides.{eqb_tells}
use Rattle.posix_calls.specs.declared.limits.TheConstants.{UNIT_BYTES}
use Rattle.client_plan.specs.file_graph.declared.effect.Effect.{Effect}
use Rattle.client_plan.specs.log_record.declared.format.Record.{Record}
use Rattle.client_plan.specs.call_effects.Blocks.{block_after}
use Rattle.client_view.specs.After.{block_laid, run_after, run_laid}
use Rattle.client_view.specs.RecordReach.{AreShort, AreWhole, IsReachOf, block_length, may_change}
use Rattle.client_view.specs.declared.record_reach.RecordReach.{RecordReach}
use Rattle.client_view.proofs.Steps.{from_here}

-- ---- block by block

pub as_long : (es : List Effect) (i first : ℕ) (run : List (Option (List ℕ))) → length (run_after es i first run) ≡ length run
as_long es i first [] = refl
as_long es i first (x ∷ run) = ap (λ n. suc n) (as_long es i (first + 1) run)

pub after_at : (es : List Effect) (i first : ℕ) (run : List (Option (List ℕ))) (k : ℕ) → k < length run → get_or (run_after es i first run) k None ≡ block_after es i (first + k) (get_or run k None)
after_at es i first [] k inside = absurd (omega arith)
after_at es i first (x ∷ run) zero inside = let there : first ≡ first + 0 = omega arith in ap (λ b. block_after es i b x) there
after_at es i first (x ∷ run) (suc k) inside =
    let further : first + 1 + k ≡ first + suc k = omega arith in
    after_at es i (first + 1) run k (omega arith) ∙ ap (λ b. block_after es i b (get_or run k None)) further

pub laid_length : (rs : List Record) (i first : ℕ) (run : List (Option (List ℕ))) → length (run_laid rs i first run) ≡ length run
laid_length [] i first run = refl
laid_length (r ∷ rs) i first run = laid_length rs i first (run_after r.effects i first run) ∙ as_long r.effects i first run

pub laid_at : (rs : List Record) (i first : ℕ) (run : List (Option (List ℕ))) (k : ℕ) → k < length run → get_or (run_laid rs i first run) k None ≡ block_laid rs i (first + k) (get_or run k None)
laid_at [] i first run k inside = refl
laid_at (r ∷ rs) i first run k inside =
    laid_at rs i first (run_after r.effects i first run) k (omega (arith, as_long r.effects i first run, inside))
    ∙ ap (block_laid rs i (first + k)) (after_at r.effects i first run k inside)

pub same_read : (run : List (Option (List ℕ))) (k : ℕ) (x y : Option (List ℕ)) → k < length run → get_or run k x ≡ get_or run k y
same_read [] k x y inside = absurd (omega arith)
same_read (z ∷ run) zero x y inside = refl
same_read (z ∷ run) (suc k) x y inside = same_read run k x y (omega arith)

-- ---- a run over which effects are laid from a place on

module _ (es : List Effect) (s : RecordReach) (i first : ℕ) (start : List (Option (List ℕ))) (reaches : IsReachOf es s) (short : AreShort start) where
  abbrev laid : List (Option (List ℕ))
  laid = run_after es i first start

  stays : (k : ℕ) → k < length start → may_change s i (first + k) (block_length (get_or start k None)) ≡ false → get_or start k None ≡ get_or laid k None
  stays k inside out = sym (reaches i (first + k) (get_or start k None) (short k) out) ∙ sym (after_at es i first start k inside)

  pub stays_before : (n to : ℕ) → AreWhole n start → ((k : ℕ) → k < to → (k < n) × (may_change s i (first + k) UNIT_BYTES ≡ false)) → (k : ℕ) → k < to → k < length start → get_or start k None ≡ get_or laid k None
  stays_before n to whole before k low inside = let out = before k low in stays k inside (ap (may_change s i (first + k)) (whole k out.0) ∙ out.1)

  module _ (now : List (Option (List ℕ))) (place : ℕ) (long : length now ≡ length start) (done : (k : ℕ) → k < place → k < length start → get_or now k None ≡ get_or laid k None) (left : (k : ℕ) → place ≤ k → get_or now k None ≡ get_or start k None) where
    pub all_laid : (to : ℕ) → to ≤ place → ((k n : ℕ) → to ≤ k → k < length start → may_change s i (first + k) n ≡ false) → now ≡ laid
    all_laid to past behind = ext_get_or None now laid (long ∙ sym (as_long es i first start)) (λ k inside. elim (cases_lt k place) [
      | inl low ↦ done k low (omega (arith, inside, long))
      | inr high ↦ left k high ∙ stays k (omega (arith, inside, long)) (behind k (block_length (get_or start k None)) (omega (arith, past, high)) (omega (arith, inside, long)))
    ])

    module _ (d new : Option (List ℕ)) (inside : place < length now) (acted : new ≡ block_after es i (first + place) (get_or now place d)) where
      pub done_more : (k : ℕ) → k < place + 1 → k < length start → get_or (set now place new) k None ≡ get_or laid k None
      done_more k low within = elim (eqb_tells k place) [
        | inl same ↦
            ap (λ n. get_or (set now place new) n None) same.1 ∙ get_or-set_same now place new None inside ∙ acted
            ∙ ap (block_after es i (first + place)) (same_read now place d None inside ∙ left place (omega arith))
            ∙ sym (after_at es i first start place (omega (arith, inside, long)))
            ∙ ap (λ n. get_or laid n None) (sym same.1)
        | inr other ↦ get_or-set_other now place k new None other.1 ∙ done k (below k place low other.1) within
      ]
        where
          below : (k n : ℕ) → k < n + 1 → k ≢ n → k < n
          below k n low off = grind arith

      pub left_more : (k : ℕ) → place + 1 ≤ k → get_or (set now place new) k None ≡ get_or start k None
      left_more k high = get_or-set_other now place k new None (past k place high) ∙ left k (omega (arith, high))
        where
          past : (k n : ℕ) → n + 1 ≤ k → k ≢ n
          past k n high same = absurd (omega (arith, high, same))

-- ---- how long its blocks are once one is put

module _ (now : List (Option (List ℕ))) (place : ℕ) (x d : Option (List ℕ)) (len : ℕ) (inside : place < length now) (told : len ≡ block_length (get_or (set now place x) place d)) (within : len ≤ UNIT_BYTES) where
  here : block_length (get_or (set now place x) place None) ≡ len
  here = ap block_length (get_or-set_same now place x None inside ∙ sym (get_or-set_same now place x d inside)) ∙ sym told

  pub short_more : AreShort now → AreShort (set now place x)
  short_more short k = elim (eqb_tells k place) [
    | inl same ↦ let long : block_length (get_or (set now place x) k None) ≡ len = ap (λ n. block_length (get_or (set now place x) n None)) same.1 ∙ here in omega (arith, long, within)
    | inr other ↦ subst (λ n. n ≤ UNIT_BYTES) (sym (ap block_length (get_or-set_other now place k x None other.1))) (short k)
  ]

  pub whole_more : (n next : ℕ) → AreWhole n now → ((k : ℕ) → k < next → ((k ≡ place) × (UNIT_BYTES ≤ len)) ⊎ ((k ≢ place) × (k < n))) → AreWhole next (set now place x)
  whole_more n next whole all k low = elim (all k low) [
    | inl at ↦ let long : block_length (get_or (set now place x) k None) ≡ len = ap (λ m. block_length (get_or (set now place x) m None)) at.0 ∙ here in omega (arith, long, within, at.1)
    | inr at ↦ ap block_length (get_or-set_other now place k x None at.0) ∙ whole k at.1
  ]

-- ---- record by record

pub run_joined : (rs more : List Record) (i first : ℕ) (run : List (Option (List ℕ))) → run_laid (rs ++ more) i first run ≡ run_laid more i first (run_laid rs i first run)
run_joined [] more i first run = refl
run_joined (r ∷ rs) more i first run = run_joined rs more i first (run_after r.effects i first run)

module _ (rs : List Record) (i first : ℕ) where
  pub run_more : (k : ℕ) (r : Record) → k < length rs → r ≡ get_or rs k r → (now next start : List (Option (List ℕ))) → next ≡ run_after r.effects i first now → run_laid (drop k rs) i first now ≡ run_laid rs i first start
      → run_laid (drop (k + 1) rs) i first next ≡ run_laid rs i first start
  run_more k r inside is now next start laid all =
      ap (run_laid (drop (k + 1) rs) i first) laid ∙ ap (λ (xs : List Record). run_laid xs i first now) (sym (from_here rs k r inside is)) ∙ all

  pub run_all : (k : ℕ) → length rs ≤ k → (now start : List (Option (List ℕ))) → run_laid (drop k rs) i first now ≡ run_laid rs i first start → now ≡ run_laid rs i first start
  run_all k done now start all = ap (λ (xs : List Record). run_laid xs i first now) (sym (drop_all k rs done)) ∙ all
