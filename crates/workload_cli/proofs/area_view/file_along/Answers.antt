use Rattle.std.proofs.Common.{◌≡◌, ◌∙◌, ℕ, Bool, ap, subst, sym}
use Rattle.std.specs.Prelude.{Result, Ok, IfErr, IfOk}
use Rattle.posix_calls.specs.Resolve.{then_from}
use Rattle.posix_calls.specs.Tree.{Tree}
use Rattle.posix_calls.specs.declared.errno.Errno.{Errno}
use Rattle.workload_cli.specs.OfSystem.{tree_in}
use Rattle.workload_cli.specs.Paths.{unless_directory}
use Rattle.workload_cli.specs.AnswerText.{IsNoFile}
use Rattle.workload_cli.proofs.Looked.{same_tree}
use Rattle.workload_cli.proofs.area_view.file_along.Goals as goal

pub returns-clause-file : goal.returns-clause-file
returns-clause-file g c =
    let m = g.M.Media in
    let t = tree_in m c.args.system.now.system.kernel in
    let i = c.in_ok-inode.inode in
    let same = same_tree m c.args.system.now.system c.walk.new.system.system c.in_ok-inode.ensures.looks in
    let eq = ap (then_from (λ (i : ℕ). unless_directory (t i) i)) c.in_ok-inode.ensures.inode ∙ ap (λ (u : Tree). unless_directory (u i) i) (sym same) in
    subst (λ (x : Result ℕ Errno). IfOk c.file_itself.result (λ i. x ≡ Ok i)) (sym eq) c.file_itself.ensures.file

pub returns-clause-none : goal.returns-clause-none
returns-clause-none g c =
    let m = g.M.Media in
    let t = tree_in m c.args.system.now.system.kernel in
    let i = c.in_ok-inode.inode in
    let new = c.file_itself.new.system.system.kernel.area.failed in
    let same = same_tree m c.args.system.now.system c.walk.new.system.system c.in_ok-inode.ensures.looks in
    let eq = ap (then_from (λ (i : ℕ). unless_directory (t i) i)) c.in_ok-inode.ensures.inode ∙ ap (λ (u : Tree). unless_directory (u i) i) (sym same) in
    subst (λ (x : Result ℕ Errno). IfErr c.file_itself.result (IsNoFile x c.args.system.now.system.kernel.area.failed new)) (sym eq)
    (subst (λ (b : Bool). IfErr c.file_itself.result (IsNoFile (unless_directory (tree_in m c.walk.new.system.system.kernel i) i) b new)) c.in_ok-inode.ensures.going c.file_itself.ensures.none)
