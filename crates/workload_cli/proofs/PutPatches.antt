-- Bytes that are put into an image, one after the other.
use Rattle.std.proofs.Common.{◌≡◌, ◌∙◌, ◌+◌, ◌<◌, ◌≤◌, ℕ, suc, List, ◌∷◌, drop, drop-cons, add-one, get_or, length, sym, ap}
use Rattle.std.proofs.lemmas.Bool.{cond-false, cond-true, le-leb, lt-leb}
use Rattle.std.specs.Prelude.{nat_le, None}
use Rattle.program_runs.specs.declared.patch.Patch.{Patch}
use Rattle.tier_device.specs.Media.{overwritten}
use Rattle.workload_cli.specs.Patches.{patched}

module _ (image : List ℕ) (ps : List Patch) (k : ℕ) (p : Patch) (at : p ≡ get_or ps k p) (within : k < length ps) where
  -- the next one stands at the front of what is left
  next_first : drop k ps ≡ p ∷ drop (k + 1) ps
  next_first = drop-cons ps k p within ∙ ap (λ (q : Patch). q ∷ drop (suc k) ps) (sym at) ∙ ap (λ (n : ℕ). p ∷ drop n ps) (sym (add-one k))

  -- it is put in
  pub one_put : (next : List ℕ) → p.at + length p.bytes ≤ length image → next ≡ overwritten image p.at p.bytes → patched image (drop k ps) ≡ patched next (drop (k + 1) ps)
  one_put next fits is =
      ap (patched image) next_first
      ∙ cond-true (nat_le (p.at + length p.bytes) (length image)) (patched (overwritten image p.at p.bytes) (drop (k + 1) ps)) None (le-leb (p.at + length p.bytes) (length image) fits)
      ∙ ap (λ (i : List ℕ). patched i (drop (k + 1) ps)) (sym is)

  -- it goes past the end
  pub none_put : length image < p.at + length p.bytes → patched image (drop k ps) ≡ None
  none_put past =
      ap (patched image) next_first ∙ cond-false (nat_le (p.at + length p.bytes) (length image)) (patched (overwritten image p.at p.bytes) (drop (k + 1) ps)) None (lt-leb (p.at + length p.bytes) (length image) past)
