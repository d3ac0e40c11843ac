use Rattle.std.proofs.Common.{◌≡◌, ◌∙◌, ◌+◌, [], ◌∷◌, arith, length, ap, sym, subst}
use Rattle.std.specs.FinMap as fin
use Rattle.std.proofs.lemmas.List.{length-append}
use Rattle.graph_change.specs.Change.{Patches}
use Rattle.graph_change.specs.View.{patch_of, patches_of}
use Rattle.graph_change.proofs.Changed.{SetDown, one_set, popped}
use Rattle.graph_change.proofs.changed_blocks.set_blocks.Goals as goal

pub last-preserved : goal.last-preserved
last-preserved c =
    let first = c.args.first in
    let all = c.args.changed.items in
    let left = c.pop.new.self.items in
    let old = patches_of c.args.blocks.now in
    let now = patches_of c.last.blocks in
    let items = c.in-Some.ensures.items in
    let down = popped all c.last.changed.items left c.in-Some.new ([], []) items c.last.invariant.left c.last.invariant.most in
    let less = down.1 in
    let long : length c.last.changed.items ≡ length left + 1 = ap length items ∙ length-append left (c.in-Some.new ∷ []) in
    let put =
    c.set_block.ensures
    ∙ ap (λ n. fin.insert now (first + n) (patch_of c.in-Some.new)) (c.len.ensures ∙ c.pop.new.self.ok.0)
    ∙ ap (λ x. fin.insert now (first + length left) (patch_of x)) down.2 in (record {
      left = down.0;
      most = omega (arith, less);
      set = subst (λ (ps : Patches). SetDown first (length left) all old ps) (sym put) (one_set first (length left) all old now less (subst (λ n. SetDown first n all old now) long c.last.invariant.set));
    })
