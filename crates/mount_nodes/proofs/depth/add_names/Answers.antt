use Rattle.std.proofs.Common.{inl, inr, sym}
use Rattle.std.proofs.lemmas.Result.{err_from_is_err_and}
use Rattle.mount_nodes.proofs.depth.add_names.Goals as goal

pub returns-in_err-below : goal.returns-in_err-below
returns-in_err-below c =
    let p = err_from_is_err_and c.from_residual.result c.from_residual.ensures.1 in
    rw (p.1, p.2) (elim c.in_err-below.ensures [
      | inl memory ↦ inl memory
      | inr long ↦ inr (_, (c.loop-name.name-index, c.loop-name-test.true, sym c.name-item.is), long.0, long.1)
    ])
