use Rattle.std.proofs.Common.{◌≡◌, ℕ, ◌+◌, ◌^◌, ◌<◌, List, ◌∷◌, subst, sym, ◌∙◌, arith}
use Rattle.std.specs.Ordering.{nat_cmp}
use Rattle.std.specs.BTreeMap.{get}
use Rattle.file_graph.specs.Graph.{Node}
use Rattle.file_graph.specs.Plain.{units_at}
use Rattle.file_graph.proofs.Charges.{Counted, IsLow, none_counted, one_counted, all_counted, one_fits}
use Rattle.file_graph.proofs.plain.charge_of.Goals as goal

pub loop-inode-init : goal.loop-inode-init
loop-inode-init c =
    subst (λ (es : List (ℕ × Node)). Counted (get nat_cmp c.args.nodes.now) 0 es) (sym (c.into_iter-inode-iterator.ensures.into_iter_gives ∙ c.iter-inode-items.ensures.rest))
    (none_counted c.args.nodes.now c.iter-inode-items.ensures.ordered)

pub overflow_add-units : goal.overflow_add-units
overflow_add-units c =
    let low : IsLow c.loop-inode.units ((c.in-Some.inode.now, c.in-Some.node.now) ∷ c.next.new.self) = subst (IsLow c.loop-inode.units) c.in-Some.ensures.steps c.loop-inode.invariant.low in
    let is : c.units_at-units.result ≡ units_at c.in-Some.inode.now c.in-Some.node.now = c.units_at-units.ensures.units in
    let small : units_at c.in-Some.inode.now c.in-Some.node.now < 2 ^ 53 = omega (arith, is, c.units_at-units.ensures.small) in
    let fits = one_fits c.loop-inode.units (c.in-Some.inode.now, c.in-Some.node.now) c.next.new.self low (omega (arith, c.loop-inode.auto.units-fits)) small in
    omega (arith, is, fits)

pub loop-inode-preserved : goal.loop-inode-preserved
loop-inode-preserved c =
    let before = subst (Counted (get nat_cmp c.args.nodes.now) c.loop-inode.units) c.in-Some.ensures.steps c.loop-inode.invariant in
    let is : c.units_at-units.result ≡ units_at c.in-Some.inode.now c.in-Some.node.now = c.units_at-units.ensures.units in
    let small : units_at c.in-Some.inode.now c.in-Some.node.now < 2 ^ 53 = omega (arith, is, c.units_at-units.ensures.small) in
    subst (λ (n : ℕ). Counted (get nat_cmp c.args.nodes.now) (c.loop-inode.units + n) c.next.new.self) (sym is) (one_counted (get nat_cmp c.args.nodes.now) c.loop-inode.units (c.in-Some.inode.now, c.in-Some.node.now) c.next.new.self before small)

pub returns : goal.returns
returns c = all_counted (get nat_cmp c.args.nodes.now) c.loop-inode.units (subst (Counted (get nat_cmp c.args.nodes.now) c.loop-inode.units) c.in-None.ensures.steps.0 c.loop-inode.invariant)
