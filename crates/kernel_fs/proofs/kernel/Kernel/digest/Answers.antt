use Rattle.std.proofs.Common.{◌∙◌, ℕ, ◌≤◌, ◌+◌, refl, sym, subst, take, arith, drop, length, ◌<◌, ◌-◌, List}
use Rattle.migrator.specs.area_reader.Store.{disk, graph}
use Rattle.digester.specs.SealedLog.{SealedView, StandsAtMark, undone}
use Rattle.world_invariant.specs.file_graph.Units.{charge}
use Rattle.migrator.specs.layout.Places.{Sizes}
use Rattle.kernel_fs.specs.Book.{units_of, out_of, Accounts, IsBookOf}
use Rattle.world_invariant.specs.Logs.{units_in}
use Rattle.kernel_fs.specs.Inodes.{has}
use Rattle.kernel_fs.specs.RegionAccept.{HasAsManyWaiting, BeginsAtMark}
use Rattle.kernel_fs.specs.KernelView.{KernelView}
use Rattle.kernel_fs.specs.MachineState.{IsKernelOf}
use Rattle.kernel_fs.proofs.Digested.{digested_kernel}
use Rattle.kernel_fs.proofs.ChunkSteps.{charge_moved, fewer_units, never_told, nodes_moved}
use Rattle.std.specs.Prelude.{Ok, Err}
use Rattle.std.proofs.lemmas.Bool.{false≢true}
use Rattle.digester.specs.DigestStep.{DigestsOrStays}
use Rattle.kernel_fs.specs.declared.chunk_digest.Digestion.TheVariants.{Digested, NotNext, NotAccepted}
use Rattle.kernel_fs.specs.KernelAnswers.{Answers, kernel_answer}
use Rattle.kernel_fs.proofs.Answered.{answered}
use Rattle.kernel_fs.proofs.DigestAnswers.{another, none, refused}
use Rattle.kernel_fs.proofs.Generations.{named_after, own_generation}
use Rattle.kernel_fs.proofs.Runs.{Inside, digest_refused, goes_on, region_of, told_region}
use Rattle.kernel_fs.specs.Run as entry
use Rattle.kernel_fs.proofs.SealedRecords.{next}
use Rattle.std.proofs.lemmas.List.{length-drop}
use Rattle.kernel_fs.proofs.kernel.Kernel.digest.Goals as goal

pub returns-clause-step : goal.returns-clause-step
returns-clause-step g c = λ yes m is.
    let device = g.M.Media in
    let x = c.args.log.now in
    let n = c.args.chunk.now.count in
    let new = c.digest_at_mark.new in
    let own = subst (λ (v : KernelView _). IsKernelOf device v m) (sym c.self.view_is) is in
    let accepted = c.has_as_many_waiting.ensures.0 c.if-not-has_as_many_waiting.false in
    let at = subst (λ (z : SealedView). StandsAtMark z (disk device new.area)) c.in-Ok.ensures.done c.in-Ok.ensures.at_mark in
    digested_kernel x c.invariant.ensures c.requires.some device c.self.inside.area new.area c.self.inside.book new.book m n own accepted c.in-Ok.ensures.digested at c.in-Ok.ensures.digests.geometry (c.in-Ok.ensures.book m own.book)

pub returns-clause-booked : goal.returns-clause-booked
returns-clause-booked g c = λ yes m is. c.in-Ok.ensures.book m (subst (λ (v : KernelView _). IsBookOf v.book m) (sym c.self.view_is) is)

pub returns-clause-law : goal.returns-clause-law
returns-clause-law g c =
    let device = g.M.Media in
    let x = c.args.log.now in
    let n = c.args.chunk.now.count in
    let old = c.self.inside.area in
    let new = c.digest_at_mark.new in
    let fewer : units_in (take n (undone x)) ≤ units_in (undone x) = fewer_units n (undone x) in
    subst (λ (v : KernelView _). units_in (undone x) ≤ units_of v.book x.client → charge (graph v.area.geometry (disk device v.area)) + out_of v.book ≤ v.area.geometry.units → charge (graph new.area.geometry (disk device new.area)) + out_of new.book ≤ new.area.geometry.units) c.self.view_is
    (λ units fits. subst (λ (s : Sizes). charge (graph new.area.geometry (disk device new.area)) + out_of new.book ≤ s.units) (sym c.in-Ok.ensures.digests.geometry)
    (c.in-Ok.ensures.law (charge (graph old.geometry (disk device old))) (charge (graph new.area.geometry (disk device new.area))) old.geometry.units (omega (arith, fewer, units)) (charge_moved device old new.area x n c.in-Ok.ensures.digests.geometry c.in-Ok.ensures.digested) fits))

pub returns-in-Err-clause-never_bad : goal.returns-in-Err-clause-never_bad
returns-in-Err-clause-never_bad g c = λ m s place is runs region stands told.
    let own = subst (λ (v : KernelView _). IsKernelOf g.M.Media v m) (sym c.self.view_is) is in
    never_told g.M.Media c.self.inside.area c.self.inside.book c.args.log.now m s c.args.chunk.now.count place c.in-Err.error c.invariant.ensures own runs region stands (cc told) c.in-Err.ensures.bad

pub returns-then-not-begins_at_mark-clause-any_moment : goal.returns-then-not-begins_at_mark-clause-any_moment
returns-then-not-begins_at_mark-clause-any_moment g c = λ going begins _.
    absurd (false≢true (sym c.if-not-begins_at_mark.true ∙ c.begins_at_mark.ensures.1 (subst (λ (v : KernelView _). BeginsAtMark c.args.log.now c.args.chunk.now (disk g.M.Media v.area)) (sym c.self.view_is) begins)))

pub returns-then-not-begins_at_mark-clause-answers : goal.returns-then-not-begins_at_mark-clause-answers
returns-then-not-begins_at_mark-clause-answers g c =
    let m = g.M.Media in
    let going : _ = sym c.has_failed.ensures ∙ c.if-has_failed.false in
    let area = c.self.inside.area in
    let book = c.self.inside.book in
    subst (λ (v : KernelView _). Answers v.area.failed v v (kernel_answer (Ok NotNext)) (DigestsOrStays m v.area v.area)) c.self.view_is
    (answered (DigestsOrStays m) area area book book (record { area = area; book = book; opening = c.self.inside.began }) refl (Ok NotNext) going (none m area NotNext going))

pub returns-then-not-has_as_many_waiting-clause-any_moment : goal.returns-then-not-has_as_many_waiting-clause-any_moment
returns-then-not-has_as_many_waiting-clause-any_moment g c = λ going begins many.
    absurd (false≢true (sym c.if-not-has_as_many_waiting.true ∙ c.has_as_many_waiting.ensures.1 (subst (λ (v : KernelView _). HasAsManyWaiting v.book c.args.log.now) (sym c.self.view_is) many)))

pub returns-then-not-has_as_many_waiting-clause-answers : goal.returns-then-not-has_as_many_waiting-clause-answers
returns-then-not-has_as_many_waiting-clause-answers g c =
    let m = g.M.Media in
    let going : _ = sym c.has_failed.ensures ∙ c.if-has_failed.false in
    let area = c.self.inside.area in
    let book = c.self.inside.book in
    subst (λ (v : KernelView _). Answers v.area.failed v v (kernel_answer (Ok NotAccepted)) (DigestsOrStays m v.area v.area)) c.self.view_is
    (answered (DigestsOrStays m) area area book book (record { area = area; book = book; opening = c.self.inside.began }) refl (Ok NotAccepted) going (none m area NotAccepted going))

pub returns-in-Err-clause-answers : goal.returns-in-Err-clause-answers
returns-in-Err-clause-answers g c =
    let m = g.M.Media in
    let going : _ = sym c.has_failed.ensures ∙ c.if-has_failed.false in
    answered (DigestsOrStays m) c.self.inside.area c.digest_at_mark.new.area c.self.inside.book c.digest_at_mark.new.book c.args.self.now c.self.view_is (Err c.in-Err.error) going
    (refused m c.self.inside.area c.digest_at_mark.new.area c.in-Err.error c.in-Err.ensures.digests)

pub returns-clause-answers : goal.returns-clause-answers
returns-clause-answers g c =
    let m = g.M.Media in
    let going : _ = sym c.has_failed.ensures ∙ c.if-has_failed.false in
    answered (DigestsOrStays m) c.self.inside.area c.digest_at_mark.new.area c.self.inside.book c.digest_at_mark.new.book c.args.self.now c.self.view_is (Ok Digested) going
    (another m c.self.inside.area c.digest_at_mark.new.area tt Digested c.in-Ok.ensures.digests)

pub invariant_of-self : goal.invariant_of-self
invariant_of-self g c = λ still.
    let going : _ = sym c.has_failed.ensures ∙ c.if-has_failed.false in
    let inside = c.self.invariant going in
    let m = g.M.Media in
    let new = c.digest_at_mark.new in
    let same = c.in-Err.ensures.refused in
    let stays = digest_refused m c.self.inside.began (has c.self.inside.nodes) c.self.inside.book c.self.inside.area new.area c.in-Err.error c.in-Err.ensures.digests still inside in
    subst (λ (b : Accounts). Inside m c.self.inside.began (has new.nodes) b new.area) (sym same.0)
    (subst (λ (set : List ℕ). Inside m c.self.inside.began (has set) c.self.inside.book new.area) (sym same.1) stays)

pub invariant_of-self-2 : goal.invariant_of-self-2
invariant_of-self-2 g c = λ still.
    let going : _ = sym c.has_failed.ensures ∙ c.if-has_failed.false in
    let inside = c.self.invariant going in
    let device = g.M.Media in
    let x = c.args.log.now in
    let n = c.args.chunk.now.count in
    let old = c.self.inside.area in
    let book = c.self.inside.book in
    let new = c.digest_at_mark.new in
    let done = c.in-Ok.ensures.digested in
    let same = c.in-Ok.ensures.digests.geometry in
    let accepted = c.has_as_many_waiting.ensures.0 c.if-not-has_as_many_waiting.false in
    let begins = c.begins_at_mark.ensures.0 c.if-not-begins_at_mark.false in
    let at = subst (λ (z : SealedView). StandsAtMark z (disk device new.area)) c.in-Ok.ensures.done c.in-Ok.ensures.at_mark in
    let left : 0 < length (undone x) = (let few = c.requires.some in let long = length-drop x.done x.records in omega (arith, few, long)) in (
      nodes_moved device old new.area x n same done (has c.self.inside.nodes) (has new.nodes) c.in-Ok.ensures.nodes inside.0,
      goes_on device c.self.inside.began old new.area book new.book
          (λ r. entry.Digest x.client x.generation (region_of x ((r.machine.kernel.accounts x.client).mark - x.done)) (take n (undone x)) (drop n (undone x)))
          (λ r is named. let m = r.machine in (
            (
              next x m (region_of x ((m.kernel.accounts x.client).mark - x.done)) (told_region x c.invariant.ensures c.requires.some device old book m is begins.1) c.invariant.ensures book n is.book accepted (done.run.some left) done.run.within,
              sym (named x.client c.invariant.ensures.client ∙ own_generation x c.requires.some (disk device old) begins.1),
            ),
            digested_kernel x c.invariant.ensures c.requires.some device old new.area book new.book m n is accepted done at same (c.in-Ok.ensures.book m is.book),
            named_after x c.invariant.ensures c.requires.some device old new.area book m n is accepted done at r.generations named,
          )) inside.1,
    )

pub returns-then-not-has_as_many_waiting-clause-stale : goal.returns-then-not-has_as_many_waiting-clause-stale
returns-then-not-has_as_many_waiting-clause-stale g c = λ stale. absurd (false≢true (sym stale ∙ (c.begins_at_mark.ensures.0 c.if-not-begins_at_mark.false).0))

pub returns-then-not-has_as_many_waiting-clause-another_mark : goal.returns-then-not-has_as_many_waiting-clause-another_mark
returns-then-not-has_as_many_waiting-clause-another_mark g c = λ other. absurd (other (subst (λ (v : KernelView _). StandsAtMark c.args.log.now (disk g.M.Media v.area)) c.self.view_is (c.begins_at_mark.ensures.0 c.if-not-begins_at_mark.false).1))

pub returns-clause-stale : goal.returns-clause-stale
returns-clause-stale g c = λ stale. absurd (false≢true (sym stale ∙ (c.begins_at_mark.ensures.0 c.if-not-begins_at_mark.false).0))

pub returns-clause-another_mark : goal.returns-clause-another_mark
returns-clause-another_mark g c = λ other. absurd (other (subst (λ (v : KernelView _). StandsAtMark c.args.log.now (disk g.M.Media v.area)) c.self.view_is (c.begins_at_mark.ensures.0 c.if-not-begins_at_mark.false).1))
