use Rattle.std.proofs.Common.{arith, sym, ap, ◌∙◌}
use Rattle.lease_manager.specs.Passes.{PassView}
use Rattle.lease_manager.specs.Parts.{own_part, other_parts}
use Rattle.lease_manager.proofs.Steps.{asks_at}
use Rattle.lease_manager.proofs.table.Leases.ask_back.Goals as goal

pub fetch_or-requires : goal.fetch_or-requires
fetch_or-requires c =
    let i = c.pass.invariant in
    let wide = c.words.ensures.1 in
    let inode = c.requires.inode in
    let client = c.requires.client in
    let word = c.word_of_asking-word.ensures in
    let me = c.pass.inside.seat.me in (
      ap (λ (p : PassView). p.table) c.pass.view_is ∙ c.requires.table ∙ sym c.words.ensures.0,
      omega arith,
      asks_at _ _ _ me (own_part me.0) (other_parts me.0) i.0 c.bit_of_asking-bit.result (omega arith) (omega arith),
    )
