use Rattle.std.proofs.Common.{◌∙◌, ap, sym, inr, Some}
use Rattle.std.proofs.lemmas.Result.{err_from_is_err_and, IfOk-weaker}
use Rattle.mount_nodes.proofs.PathLemmas.{root_path_of, unnamed_path, named_path}
use Rattle.mount_nodes.proofs.paths.path_of.Goals as goal

pub returns-then-id-eq-ROOT_NODE-clause-path : goal.returns-then-id-eq-ROOT_NODE-clause-path
returns-then-id-eq-ROOT_NODE-clause-path c =
    let root = root_path_of c.args.nodes.now c.args.id c.if-id-eq-ROOT_NODE.true in
    IfOk-weaker c.root_path.result _ _ (λ x e. root ∙ ap Some (sym e)) c.root_path.ensures.path

pub returns-in_err-known-clause-unknown : goal.returns-in_err-known-clause-unknown
returns-in_err-known-clause-unknown c =
    let p = err_from_is_err_and c.from_residual.result c.from_residual.ensures.1 in
    rw (p.1, p.2) (inr (unnamed_path _ _ c.if-id-eq-ROOT_NODE.false c.in_err-known.ensures.unknown.1))

pub returns-clause-path : goal.returns-clause-path
returns-clause-path c =
    let known = named_path c.args.nodes.now c.args.id c.in_ok-known.known.now c.if-id-eq-ROOT_NODE.false c.in_ok-known.ensures.name in
    let bytes = c.as_slice.ensures.bytes in
    rw (known, ← bytes) c.path_below.ensures.path

pub returns-clause-unknown : goal.returns-clause-unknown
returns-clause-unknown c =
    let known = named_path c.args.nodes.now c.args.id c.in_ok-known.known.now c.if-id-eq-ROOT_NODE.false c.in_ok-known.ensures.name in
    let bytes = c.as_slice.ensures.bytes in
    rw (known, ← bytes) c.path_below.ensures.unknown
