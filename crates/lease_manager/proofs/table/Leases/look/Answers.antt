use Rattle.std.proofs.Common.{ℕ, ◌<◌, arith, sym, ap, ◌∙◌, subst}
use Rattle.lease_manager.specs.Passes.{PassView}
use Rattle.lease_manager.specs.Parts.{own_part, other_parts}
use Rattle.lease_manager.proofs.Steps.{sees_at}
use Rattle.lease_manager.proofs.table.Leases.look.Goals as goal

pub load-requires : goal.load-requires
load-requires c =
    let i = c.pass.invariant in
    let wide = c.words.ensures.1 in
    let inode = c.requires.inode in
    let word = c.lease_word.ensures in
    let me = c.pass.inside.seat.me in (
      ap (λ (p : PassView). p.table) c.pass.view_is ∙ c.requires.table ∙ sym c.words.ensures.0,
      omega arith,
      sees_at _ _ _ me (own_part me.0) (other_parts me.0) i.0 (omega arith) (subst (λ (k : ℕ). k < 8) (sym i.2) i.3),
    )
