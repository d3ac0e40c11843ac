use Rattle.std.proofs.Common.{◌∙◌, ◌<◌, ℕ, length, inl, inr, refl, sym, subst, arith}
use Rattle.std.proofs.lemmas.Bool.{true≢false}
use Rattle.area_reader.specs.graph_change.View.{changes_of}
use Rattle.area_reader.specs.Store.{disk}
use Rattle.change_plan.specs.area_commit.Value.{free_data}
use Rattle.area_reader.specs.declared.error.AreaError.TheVariants.{DeviceFault, NoBlock}
use Rattle.shared_area.proofs.Ending.{block_fault, err_same}
use Rattle.shared_area.proofs.Pooled.{same_self}
use Rattle.shared_area.proofs.change_apply.apply.Goals as goal

-- ---- where a device has failed

pub returns-then-has_failed-clause-any_moment : goal.returns-then-has_failed-clause-any_moment
returns-then-has_failed-clause-any_moment g c going = absurd (true≢false (sym c.if-has_failed.true ∙ c.has_failed.ensures ∙ going))

pub returns-then-has_failed-clause-settled : goal.returns-then-has_failed-clause-settled
returns-then-has_failed-clause-settled g c going = absurd (true≢false (sym c.if-has_failed.true ∙ c.has_failed.ensures ∙ going))

pub returns-then-has_failed-clause-no_block : goal.returns-then-has_failed-clause-no_block
returns-then-has_failed-clause-no_block g c is = absurd (block_fault (sym (err_same DeviceFault NoBlock is)))

pub returns-then-has_failed-clause-unmoved : goal.returns-then-has_failed-clause-unmoved
returns-then-has_failed-clause-unmoved g c other = absurd (other refl)

pub returns-then-has_failed-clause-same : goal.returns-then-has_failed-clause-same
returns-then-has_failed-clause-same g c = same_self c.args.pools.now

pub returns-then-has_failed-clause-fault : goal.returns-then-has_failed-clause-fault
returns-then-has_failed-clause-fault g c is = (sym c.has_failed.ensures ∙ c.if-has_failed.true, inl (sym c.has_failed.ensures ∙ c.if-has_failed.true))

pub returns-then-has_failed-clause-stays_failed : goal.returns-then-has_failed-clause-stays_failed
returns-then-has_failed-clause-stays_failed g c was = (refl, refl, refl)

pub returns-then-has_failed-clause-at_most : goal.returns-then-has_failed-clause-at_most
returns-then-has_failed-clause-at_most g c = inl (omega arith)

-- ---- where none has

pub apply_read-requires-clause-going : goal.apply_read-requires-clause-going
apply_read-requires-clause-going g c = sym c.has_failed.ensures ∙ c.if-has_failed.false

pub apply_read-requires-clause-settled : goal.apply_read-requires-clause-settled
apply_read-requires-clause-settled g c = c.requires.settled (sym c.has_failed.ensures ∙ c.if-has_failed.false)

pub apply_read-requires-clause-can : goal.apply_read-requires-clause-can
apply_read-requires-clause-can g c =
    let going = sym c.has_failed.ensures ∙ c.if-has_failed.false in
    record { bounded = c.requires.bounded; tidy = c.requires.tidy; entries = c.requires.entries going; images = c.requires.images; units = c.requires.units going; fits = c.requires.fits }

pub returns-clause-any_moment : goal.returns-clause-any_moment
returns-clause-any_moment g c going = c.apply_read.ensures.ends.any_moment

pub returns-clause-no_block : goal.returns-clause-no_block
returns-clause-no_block g c is =
    let old = c.args.journal.now in
    let few = c.apply_read.ensures.few is in
    let bs = c.wanted_blocks_are_written.ensures old.geometry (disk g.M.Media old) (changes_of c.args.change.now) few.0 few.1 c.requires.bounded c.requires.tidy in
    (bs.0, bs.1, subst (λ (n : ℕ). length (free_data c.args.pools.now) < n) (sym bs.2) few.2)

pub returns-clause-fault : goal.returns-clause-fault
returns-clause-fault g c is = (let fault = c.apply_read.ensures.ends.fault is in (fault.0, inr fault.1))

pub returns-clause-stays_failed : goal.returns-clause-stays_failed
returns-clause-stays_failed g c was = absurd (true≢false (sym was ∙ sym c.has_failed.ensures ∙ c.if-has_failed.false))

pub returns-clause-applied : goal.returns-clause-applied
returns-clause-applied g c = c.apply_read.ensures.ends.applied

pub returns-clause-settled : goal.returns-clause-settled
returns-clause-settled g c = c.apply_read.ensures.ends.settled

pub returns-clause-unmoved : goal.returns-clause-unmoved
returns-clause-unmoved g c = c.apply_read.ensures.ends.unmoved

pub returns-clause-quiet : goal.returns-clause-quiet
returns-clause-quiet g c = c.apply_read.ensures.ends.quiet

pub returns-clause-at_most : goal.returns-clause-at_most
returns-clause-at_most g c = c.apply_read.ensures.ends.at_most

pub returns-clause-only : goal.returns-clause-only
returns-clause-only g c = c.apply_read.ensures.ends.only
