use Rattle.std.proofs.Common.{ℕ, ◌+◌, ◌^◌, ◌<◌, arith, length, sym, ap, ◌∙◌, subst}
use Rattle.std.proofs.lemmas.Nat.Bits.{bit_at-zero}
use Rattle.lease_manager.specs.Marks.{read_mark, write_mark}
use Rattle.lease_manager.specs.Passes.{PassView, lease_of}
use Rattle.lease_manager.specs.Parts.{mode_at, own_part, other_parts}
use Rattle.lease_manager.proofs.Steps.{takes_at}
use Rattle.lease_manager.proofs.table.Leases.take_write.Goals as goal

pub compare_exchange-found-requires : goal.compare_exchange-found-requires
compare_exchange-found-requires c =
    let i = c.pass.invariant in
    let wide = c.words-shared.ensures.1 in
    let inode = c.requires.inode in
    let word = c.lease_word-word.ensures in
    let me = c.pass.inside.seat.me in
    let free = ap (mode_at (own_part me.0)) word ∙ ap (λ (p : PassView). lease_of p c.args.ino) c.pass.view_is ∙ c.requires.free in (
      ap (λ (p : PassView). p.table) c.pass.view_is ∙ c.requires.table ∙ sym c.words-shared.ensures.0,
      omega arith,
      takes_at _ _ _ me (own_part me.0) (other_parts me.0) i.0 0 c.bit-write.result (omega arith) (subst (λ (k : ℕ). k < 8) (sym i.2) i.3) (ap length i.4 ∙ i.5)
          (c.bit-write.ensures ∙ ap (λ (k : ℕ). 2 ^ (8 + k)) (sym i.2))
          (bit_at-zero _ ∙ sym (ap read_mark free)) (ap write_mark free) (λ b _. bit_at-zero b),
    )
