use Rattle.std.proofs.Common.{arith, sym, ap, ◌∙◌}
use Rattle.lease_manager.specs.Passes.{PassView}
use Rattle.lease_manager.specs.Parts.{own_part, other_parts}
use Rattle.lease_manager.proofs.Steps.{hears_at}
use Rattle.lease_manager.proofs.table.Leases.asked_back.Goals as goal

pub swap-requires : goal.swap-requires
swap-requires c =
    let i = c.pass.invariant in
    let wide = c.words.ensures.1 in
    let small = i.3 in
    let within = c.requires.row in
    let word = c.word_of_row-word.ensures in
    let me = c.pass.inside.seat.me in (
      ap (λ (p : PassView). p.table) c.pass.view_is ∙ c.requires.table ∙ sym c.words.ensures.0,
      omega arith,
      hears_at _ _ _ me (own_part me.0) (other_parts me.0) i.0 (omega arith) (omega arith) (let at = i.2 in (omega arith, omega arith)),
    )
