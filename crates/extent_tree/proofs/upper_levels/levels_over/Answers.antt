use Rattle.std.proofs.Common.{◌≤◌, ◌<◌, ◌∷◌, [], ◌++◌, ◌∙◌, arith, sym, ap, subst, length, append_assoc}
use Rattle.std.proofs.lemmas.List.{append-nil}
use Rattle.extent_tree.specs.Normal.{IsRising}
use Rattle.extent_tree.proofs.Summaries.{length-summaries}
use Rattle.extent_tree.proofs.Levels.{summaries-rising}
use Rattle.extent_tree.specs.Tree.{IsTree}
use Rattle.extent_tree.proofs.Trees.{level-fewer}
use Rattle.extent_tree.proofs.upper_levels.levels_over.Goals as goal

pub levels-smaller : goal.levels-smaller
levels-smaller c =
    let level = c.in_ok-level.level in
    let entries = c.in_ok-level.ensures.entries ∙ c.deref.ensures.value in
    let many : 1 < length c.levels.covers.items = omega (arith, c.levels-test.true, c.len.ensures) in
    let less = level-fewer c.args.width (length c.levels.covers.items) level c.requires.width c.in_ok-level.ensures.level many (ap length entries) in
    omega (arith, less, ap length c.in_ok-covers.ensures, length-summaries 0 level)

pub levels-preserved : goal.levels-preserved
levels-preserved c =
    let level = c.in_ok-level.level in
    let entries = c.in_ok-level.ensures.entries ∙ c.deref.ensures.value in
    record {
      rising = subst (IsRising 0 4294967295) (sym c.in_ok-covers.ensures) (summaries-rising 0 0 4294967295 level (subst (IsRising 0 4294967295) (sym entries) c.levels.invariant.rising) c.in_ok-level.ensures.level.filled);
      climbs = λ nodes is.
          let up = c.levels.invariant.climbs nodes is in
          let many : 1 < length up.0 = omega (arith, c.levels-test.true, c.len.ensures, ap length up.1, length-summaries 0 up.0) in (
            level,
            sym c.in_ok-covers.ensures,
            λ higher tree.
                subst (IsTree c.args.width nodes) (sym (ap (λ l. l ++ higher) c.in_ok-push.ensures.items ∙ append_assoc c.levels.inner.items (level ∷ []) higher))
                (up.2 (level ∷ higher) (many, entries ∙ sym up.1, c.in_ok-level.ensures.level, c.in_ok-level.ensures.needed, tree)),
          );
    }

pub returns : goal.returns
returns c nodes is =
    let up = c.levels.invariant.climbs nodes is in
    let one : length up.0 ≤ 1 = omega (arith, c.levels-test.false, c.len.ensures, ap length up.1, length-summaries 0 up.0) in
    subst (IsTree c.args.width nodes) (append-nil c.levels.inner.items) (up.2 [] one)
