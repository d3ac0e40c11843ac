use Rattle.std.proofs.Common.{◌∙◌, inl, inr, refl, sym, arith}
use Rattle.std.proofs.lemmas.Bool.{true≢false}
use Rattle.inode_plan.specs.area_reader.declared.error.AreaError.TheVariants.{DeviceFault, NotMapped, NoBlock, Memory}
use Rattle.relocation.proofs.Ending.{memory_fault, mapped_fault, block_fault, err_same}
use Rattle.inode_plan.specs.area_reader.Store.{disk}
use Rattle.relocation.proofs.Planned.{few_calls}
use Rattle.relocation.proofs.Pooled.{same_self}
use Rattle.relocation.proofs.tier_move.relocate.Goals as goal

-- ---- where a device has failed

pub returns-then-has_failed-clause-any_moment : goal.returns-then-has_failed-clause-any_moment
returns-then-has_failed-clause-any_moment g c going = absurd (true≢false (sym c.if-has_failed.true ∙ c.has_failed.ensures ∙ going))

pub returns-then-has_failed-clause-not_mapped : goal.returns-then-has_failed-clause-not_mapped
returns-then-has_failed-clause-not_mapped g c is = absurd (mapped_fault (sym (err_same DeviceFault NotMapped is)))

pub returns-then-has_failed-clause-no_block : goal.returns-then-has_failed-clause-no_block
returns-then-has_failed-clause-no_block g c is = absurd (block_fault (sym (err_same DeviceFault NoBlock is)))

pub returns-then-has_failed-clause-memory : goal.returns-then-has_failed-clause-memory
returns-then-has_failed-clause-memory g c is = absurd (memory_fault (sym (err_same DeviceFault Memory is)))

pub returns-then-has_failed-clause-unmoved : goal.returns-then-has_failed-clause-unmoved
returns-then-has_failed-clause-unmoved g c other = absurd (other refl)

pub returns-then-has_failed-clause-same : goal.returns-then-has_failed-clause-same
returns-then-has_failed-clause-same g c = same_self c.args.pools.now

pub returns-then-has_failed-clause-fault : goal.returns-then-has_failed-clause-fault
returns-then-has_failed-clause-fault g c is = (sym c.has_failed.ensures ∙ c.if-has_failed.true, inl (sym c.has_failed.ensures ∙ c.if-has_failed.true))

pub returns-then-has_failed-clause-stays_failed : goal.returns-then-has_failed-clause-stays_failed
returns-then-has_failed-clause-stays_failed g c was = (refl, refl, refl)

-- ---- where none has

pub move_found-requires-clause-going : goal.move_found-requires-clause-going
move_found-requires-clause-going g c = sym c.has_failed.ensures ∙ c.if-has_failed.false

pub move_found-requires-clause-settled : goal.move_found-requires-clause-settled
move_found-requires-clause-settled g c = c.requires (sym c.has_failed.ensures ∙ c.if-has_failed.false)

pub returns-clause-any_moment : goal.returns-clause-any_moment
returns-clause-any_moment g c going = c.move_found.ensures.ends.any_moment

pub returns-clause-fault : goal.returns-clause-fault
returns-clause-fault g c is = (let fault = c.move_found.ensures.ends.fault is in (fault.0, inr fault.1))

pub returns-clause-stays_failed : goal.returns-clause-stays_failed
returns-clause-stays_failed g c was = absurd (true≢false (sym was ∙ sym c.has_failed.ensures ∙ c.if-has_failed.false))

pub returns-clause-moved : goal.returns-clause-moved
returns-clause-moved g c = c.move_found.ensures.ends.moved

pub returns-clause-settled : goal.returns-clause-settled
returns-clause-settled g c = c.move_found.ensures.ends.settled

pub returns-clause-unmoved : goal.returns-clause-unmoved
returns-clause-unmoved g c = c.move_found.ensures.ends.unmoved

pub returns-clause-quiet : goal.returns-clause-quiet
returns-clause-quiet g c = c.move_found.ensures.ends.quiet

pub returns-clause-at_most : goal.returns-clause-at_most
returns-clause-at_most g c =
    let old = c.args.journal.now in
    few_calls old.geometry (disk g.M.Media old) c.args.to c.args.run.count (g.M.Media.moment old.media) (g.M.Media.moment c.move_found.new.journal.media) c.move_found.ensures.ends.few

pub returns-clause-few : goal.returns-clause-few
returns-clause-few g c = c.move_found.ensures.ends.few

pub returns-then-has_failed-clause-few : goal.returns-then-has_failed-clause-few
returns-then-has_failed-clause-few g c = inl (omega arith)
