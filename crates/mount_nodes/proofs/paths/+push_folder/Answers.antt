use Rattle.std.proofs.Common.{◌≡◌, ◌++◌, ◌∷◌, ◌∙◌, ap, inl, inr, refl}
use Rattle.std.proofs.lemmas.List.{append-nil}
use Rattle.std.proofs.lemmas.Result.{err_from_is_err_and}
use Rattle.mount_nodes.proofs.PathLemmas.{no_folder, root_folder, unnamed_folder, named_folder, named_behind}
use Rattle.mount_nodes.proofs.paths.+push_folder.Goals as goal

pub returns-then-limit-eq0-clause-unknown : goal.returns-then-limit-eq0-clause-unknown
returns-then-limit-eq0-clause-unknown t c = inr (no_folder _ _ _ c.if-limit-eq0.true)

pub returns-then-folder-eq-ROOT_NODE-clause-path :
    goal.returns-then-folder-eq-ROOT_NODE-clause-path
returns-then-folder-eq-ROOT_NODE-clause-path t c =
    rw (root_folder c.args.limit c.args.nodes.now c.args.folder c.if-limit-eq0.false c.if-folder-eq-ROOT_NODE.true, append-nil) refl

pub returns-in_err-known-clause-unknown : goal.returns-in_err-known-clause-unknown
returns-in_err-known-clause-unknown t c =
    let p = err_from_is_err_and c.from_residual.result c.from_residual.ensures.1 in
    rw (p.1, p.2) (inr (unnamed_folder _ _ _ c.if-folder-eq-ROOT_NODE.false c.in_err-known.ensures.unknown.1))

pub returns-in_err-push_folder-clause-unknown : goal.returns-in_err-push_folder-clause-unknown
returns-in_err-push_folder-clause-unknown t c =
    let p = err_from_is_err_and c.from_residual-in_err-push_folder.result c.from_residual-in_err-push_folder.ensures.1 in
    let known = named_folder c.args.limit c.args.nodes.now c.args.folder c.in_ok-known.known.now c.if-limit-eq0.false c.if-folder-eq-ROOT_NODE.false c.in_ok-known.ensures.name in
    rw (p.1, p.2) (elim c.in_err-push_folder.ensures.unknown [ inl memory ↦ inl memory | inr none ↦ inr (rw (known, none) refl) ])

pub returns-clause-path : goal.returns-clause-path
returns-clause-path t c =
    let known = named_folder c.args.limit c.args.nodes.now c.args.folder c.in_ok-known.known.now c.if-limit-eq0.false c.if-folder-eq-ROOT_NODE.false c.in_ok-known.ensures.name in
    let e : c.push_name.new.path.items ≡ c.push_folder.new.path.items ++ 47 ∷ c.in_ok-known.known.now.name = c.in_ok-push_name.ensures ∙ ap (λ x. c.push_folder.new.path.items ++ 47 ∷ x) c.as_slice.ensures.bytes in
    rw known (named_behind _ _ _ _ _ c.in_ok-push_folder.ensures.path e)
