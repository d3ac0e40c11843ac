use Rattle.std.proofs.Common.{◌≡◌, ◌∙◌, ◌<◌, ◌≤◌, List, ℕ, get_or, length, ap, subst, sym}
use Rattle.posix_calls.specs.Tree.{Tree}
use Rattle.posix_calls.specs.Resolve.{child, resolve}
use Rattle.workload_cli.specs.OfSystem.{tree_in}
use Rattle.workload_cli.specs.AnswerText.{IsNoFile}
use Rattle.workload_cli.proofs.Looked.{looked_on, same_tree}
use Rattle.workload_cli.proofs.Walks.{exits, no_file_on, walk_done, walk_ends, walk_next}
use Rattle.workload_cli.proofs.area_view.walk.Goals as goal

pub returns-in_err-inode-clause-none : goal.returns-in_err-inode-clause-none
returns-in_err-inode-clause-none g c =
    let m = g.M.Media in
    let inv = c.loop-name.invariant in
    let t = tree_in m c.args.system.now.system.kernel in
    let mid = c.loop-name.system.system in
    let eq = c.names-name-items.ensures.names in
    let x = c.name-item.result in
    let at = subst (λ (l : List (List ℕ)). x ≡ get_or l c.loop-name.name-index x) eq c.name-item.is in
    let within = subst (λ (l : List (List ℕ)). c.loop-name.name-index < length l) eq c.loop-name-test.true in
    let same = same_tree m c.args.system.now.system mid inv.looked in
    exits (IsNoFile (resolve t c.args.path.now) c.args.system.now.system.kernel.area.failed c.child.new.system.system.kernel.area.failed) c.from_residual.result c.from_residual.ensures.1
    (no_file_on (child (tree_in m mid.kernel c.loop-name.inode) c.as_slice.result.now) (resolve t c.args.path.now) c.args.system.now.system.kernel.area.failed mid.kernel.area.failed c.child.new.system.system.kernel.area.failed c.in_err-inode.field-0.0
    (λ e is. walk_ends t c.args.path.now c.loop-name.name-index c.loop-name.inode x (resolve t c.args.path.now) at within inv.leads e (ap (λ (u : Tree). child (u c.loop-name.inode) x) (sym same) ∙ ap (child (tree_in m mid.kernel c.loop-name.inode)) (sym c.as_slice.ensures.bytes) ∙ is))
    inv.failed c.in_err-inode.ensures.none)

pub loop-name-preserved : goal.loop-name-preserved
loop-name-preserved g c =
    let m = g.M.Media in
    let inv = c.loop-name.invariant in
    let t = tree_in m c.args.system.now.system.kernel in
    let mid = c.loop-name.system.system in
    let eq = c.names-name-items.ensures.names in
    let x = c.name-item.result in
    let at = subst (λ (l : List (List ℕ)). x ≡ get_or l c.loop-name.name-index x) eq c.name-item.is in
    let within = subst (λ (l : List (List ℕ)). c.loop-name.name-index < length l) eq c.loop-name-test.true in
    let same = same_tree m c.args.system.now.system mid inv.looked in
    record {
      looked = looked_on m c.args.system.now.system mid c.child.new.system.system inv.looked c.in_ok-inode.ensures.looks;
      failed = c.in_ok-inode.ensures.going.1 ∙ sym c.in_ok-inode.ensures.going.0 ∙ inv.failed;
      leads = walk_next t c.args.path.now c.loop-name.name-index c.loop-name.inode x (resolve t c.args.path.now) at within inv.leads c.in_ok-inode.inode (ap (λ (u : Tree). child (u c.loop-name.inode) x) (sym same) ∙ ap (child (tree_in m mid.kernel c.loop-name.inode)) (sym c.as_slice.ensures.bytes) ∙ c.in_ok-inode.ensures.child);
    }

pub returns-clause-inode : goal.returns-clause-inode
returns-clause-inode g c =
    let m = g.M.Media in
    let inv = c.loop-name.invariant in
    let t = tree_in m c.args.system.now.system.kernel in
    let past = subst (λ (l : List (List ℕ)). length l ≤ c.loop-name.name-index) c.names-name-items.ensures.names c.loop-name-test.false in
    walk_done t c.args.path.now c.loop-name.name-index c.loop-name.inode (resolve t c.args.path.now) past inv.leads
