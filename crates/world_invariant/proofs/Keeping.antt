-- What is so of what stands at an inode, and stays so after each record.
use Rattle.std.proofs.Common.{◌≡◌, ◌≢◌, inl, inr, ℕ, true, false, List, [], ◌∷◌, None, Option, sym, ◌∙◌, subst, ap}
use Rattle.std.proofs.lemmas.Bool.Decides.{eqb_tells}
use Rattle.call_effects.specs.file_graph.Graph.{Graph, Node, after_effects, directory_in}
use Rattle.call_effects.proofs.file_graph_lemmas.Touches.{untouched, local_by_directories, local, directories_after}
use Rattle.call_effects.specs.log_record.declared.format.Record.{Record}
use Rattle.world_invariant.specs.Logs.{after_records, is_touched, is_written, is_made, is_made_in, Along, Keeps}
use Rattle.world_invariant.proofs.Records.{either, in_first, in_rest, or_first, or_rest, alike_less}
use Rattle.world_invariant.proofs.Made.{effects_none}

module _ (IsSo : ℕ → Option Node → Type 0) where
  -- it is so after all of them
  pub through : (rs : List Record) (g : Graph) (i : ℕ) → Along (Keeps IsSo) g rs → IsSo i (g i) → IsSo i (after_records g rs i)
  through [] g i keep so = so
  through (r ∷ rs) g i keep so = through rs (after_effects g r.effects) i keep.1 (keep.0 i so)

  -- records that keep it over one graph do so over each that has the same nodes where they write
  pub keep_same : (rs : List Record) (g h : Graph) → ((i : ℕ) → is_written i rs ≡ true → g i ≡ h i) → Along (Keeps IsSo) g rs → Along (Keeps IsSo) h rs
  keep_same [] g h same keep = tt
  keep_same (r ∷ rs) g h same keep = (
    (λ i so. elim (either (is_touched i r)) [
      | inl there ↦
          let here = same i (in_first (is_touched i r) (is_written i rs) there) in
          subst (IsSo i) (local g h r.effects (λ j at. same j (in_first (is_touched j r) (is_written j rs) at)) i here) (keep.0 i (subst (IsSo i) (sym here) so))
      | inr off ↦ subst (IsSo i) (sym (untouched h r.effects i off)) so
    ]),
    keep_same rs (after_effects g r.effects) (after_effects h r.effects) (λ i e. local g h r.effects (λ j at. same j (in_first (is_touched j r) (is_written j rs) at)) i (same i (in_rest (is_touched i r) (is_written i rs) e))) keep.1,
  )

  -- and over one that has a node less, if they don't make it
  pub keep_less : (i : ℕ) (rs : List Record) (g h : Graph) → directory_in (g i) ≡ None → h i ≡ None → ((j : ℕ) → j ≢ i → h j ≡ g j) → is_made_in i rs ≡ false → Along (Keeps IsSo) g rs → Along (Keeps IsSo) h rs
  keep_less i [] g h bare gone same unmade keep = tt
  keep_less i (r ∷ rs) g h bare gone same unmade keep =
      let alike : (j : ℕ) → directory_in (h j) ≡ directory_in (g j) = alike_less i g h bare gone same in
      let still : after_effects h r.effects i ≡ None = effects_none h r.effects i gone (or_first (is_made i r.effects) (is_made_in i rs) unmade) in (
        (λ j so. elim (eqb_tells j i) [
          | inl here ↦ subst (IsSo j) (ap h here.1 ∙ gone ∙ sym still ∙ sym (ap (after_effects h r.effects) here.1)) so
          | inr off ↦ subst (IsSo j) (sym (local_by_directories h g r.effects (λ k at. alike k) j (same j off.1))) (keep.0 j (subst (IsSo j) (same j off.1) so))
        ]),
        keep_less i rs (after_effects g r.effects) (after_effects h r.effects) (sym (directories_after h g r.effects (λ k at. alike k) i (alike i)) ∙ ap directory_in still) still (λ j off. local_by_directories h g r.effects (λ k at. alike k) j (same j off)) (or_rest (is_made i r.effects) (is_made_in i rs) unmade) keep.1,
      )
