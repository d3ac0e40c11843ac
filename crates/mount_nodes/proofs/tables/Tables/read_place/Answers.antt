use Rattle.std.proofs.Common.{◌≡◌, ◌∙◌, inl, inr}
use Rattle.std.proofs.lemmas.Result.{err_from_is_err_and}
use Rattle.mount_nodes.proofs.PathLemmas.{name_has_no_path, name_has_path, no_name}
use Rattle.mount_nodes.proofs.tables.Tables.read_place.Goals as goal

pub returns-in_err-name-clause-unknown : goal.returns-in_err-name-clause-unknown
returns-in_err-name-clause-unknown c =
    let p = err_from_is_err_and c.from_residual.result c.from_residual.ensures.1 in
    rw (p.1, p.2) (elim c.in_err-name.ensures.refused [ inl memory ↦ inl memory | inr bad ↦ inr (no_name c.args.self.now.nodes c.args.folder c.args.bytes.now bad) ])

pub returns-in_err-path-clause-unknown : goal.returns-in_err-path-clause-unknown
returns-in_err-path-clause-unknown c =
    let same : c.as_slice.result.now ≡ c.args.bytes.now = c.as_slice.ensures.bytes ∙ c.in_ok-name.ensures.name.0 in
    let p = err_from_is_err_and c.from_residual-in_err-path.result c.from_residual-in_err-path.ensures.1 in
    rw (p.1, p.2) (elim c.in_err-path.ensures.unknown [ inl memory ↦ inl memory | inr none ↦ inr (name_has_no_path _ _ _ _ c.in_ok-name.ensures.name.1 same none) ])

pub returns-clause-place : goal.returns-clause-place
returns-clause-place c =
    let same : c.as_slice.result.now ≡ c.args.bytes.now = c.as_slice.ensures.bytes ∙ c.in_ok-name.ensures.name.0 in
    (c.in_ok-name.ensures.name.0, name_has_path c.args.self.now.nodes c.args.folder c.args.bytes.now c.as_slice.result.now _ c.in_ok-name.ensures.name.1 same c.in_ok-path.ensures.path)
