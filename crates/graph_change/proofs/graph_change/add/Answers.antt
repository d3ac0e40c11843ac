use Rattle.std.proofs.Common.{rules, ◌≡◌, ℕ, true, Some, None, sym, ap, ◌∙◌}
use Rattle.std.specs.Prelude.{is_some, not, option_map}
use Rattle.std.specs.Ordering.{nat_cmp}
use Rattle.std.specs.BTreeMap.{BTreeMap, get}
use Rattle.std.specs.FinMap as fin
use Rattle.graph_change.specs.Net.{Kept}
use Rattle.graph_change.specs.Change.{subject, change_after, change_at, new_change}
use Rattle.graph_change.specs.Memory.{takes_memory, takes_memory_among}
use Rattle.graph_change.specs.declared.node_change.NodeChange.{NodeChange}
use Rattle.file_graph.specs.declared.effect.Effect.{Effect}
use Rattle.graph_change.specs.View.{change_of, nodes_of}
use Rattle.graph_change.proofs.Making.{on_err}
use Rattle.graph_change.proofs.Maps.{put_over, put_new, put_same, value_at, was_there}
use Rattle.graph_change.proofs.Touched.{or_left, or_right}
use Rattle.std.proofs.lemmas.Result.{on_ok_weaker, on_err_weaker}
use Rattle.graph_change.proofs.graph_change.add.Goals as goal

pub returns-in-Some-clause-change : goal.returns-in-Some-clause-change
returns-in-Some-clause-change c =
    let e = c.args.effect.now in
    let old = c.args.nodes.now in
    on_ok_weaker c.add.result
    (λ (added : change_of c.add.new.self ≡ change_after e (change_of c.in-Some.node.now)).
    put_over change_of (change_after e) old (c.get_mut.follows.lender c.add.new.self) c.args.inode c.in-Some.node.now c.add.new.self (new_change Kept)
    (sym c.in-Some.ensures.value) added (c.get_mut.follows.holds c.add.new.self).3
    ∙ ap (λ i. fin.insert (nodes_of old) i (change_after e (change_at (nodes_of old) i))) c.requires)
    c.add.ensures.change

pub returns-clause-change : goal.returns-clause-change
returns-clause-change c =
    let e = c.args.effect.now in
    let old = c.args.nodes.now in
    put_new change_of (change_after e) old c.insert.new.self c.args.inode c.add-2.new.self (new_change Kept)
    (search rules) (c.in_ok-add.ensures.change ∙ ap (change_after e) c.new-node.ensures) (search rules)
    ∙ ap (λ i. fin.insert (nodes_of old) i (change_after e (change_at (nodes_of old) i))) c.requires

pub returns-in-Some-clause-refused : goal.returns-in-Some-clause-refused
returns-in-Some-clause-refused c =
    on_err_weaker c.add.result
    (λ (same : change_of c.add.new.self ≡ change_of c.in-Some.node.now).
    put_same change_of c.args.nodes.now (c.get_mut.follows.lender c.add.new.self) c.args.inode c.in-Some.node.now c.add.new.self (sym c.in-Some.ensures.value) same (c.get_mut.follows.holds c.add.new.self).3)
    c.add.ensures.refused

pub returns-in-Some-clause-memory : goal.returns-in-Some-clause-memory
returns-in-Some-clause-memory c =
    let e = c.args.effect.now in
    let old = nodes_of c.args.nodes.now in
    on_err_weaker c.add.result
    (λ (takes : takes_memory e (change_of c.in-Some.node.now) ≡ true).
    or_right (not (fin.contains_key old (subject e))) (takes_memory e (change_at old (subject e)))
    (ap (takes_memory e) (ap (change_at old) (sym c.requires) ∙ was_there change_of c.args.nodes.now c.args.inode (Some c.in-Some.node.now) (new_change Kept) (sym c.in-Some.ensures.value)) ∙ takes))
    c.add.ensures.memory

-- the first effect on an inode
first_takes : (e : Effect) (nodes : BTreeMap ℕ NodeChange) (i : ℕ) → i ≡ subject e → get nat_cmp nodes i ≡ None → takes_memory_among e (nodes_of nodes) ≡ true
first_takes e nodes i is none =
    or_left (not (fin.contains_key (nodes_of nodes) (subject e))) (takes_memory e (change_at (nodes_of nodes) (subject e)))
    (ap (λ k. not (fin.contains_key (nodes_of nodes) k)) (sym is) ∙ ap (λ o. not (is_some o)) (value_at change_of nodes i ∙ ap (option_map change_of) none))

pub returns-in_err-add-clause-memory : goal.returns-in_err-add-clause-memory
returns-in_err-add-clause-memory c = on_err c.from_residual.result (first_takes c.args.effect.now c.args.nodes.now c.args.inode c.requires (search rules))

pub returns-in_err-insert-clause-memory : goal.returns-in_err-insert-clause-memory
returns-in_err-insert-clause-memory c = on_err c.from_residual-in_err-insert.result (first_takes c.args.effect.now c.args.nodes.now c.args.inode c.requires (search rules))
