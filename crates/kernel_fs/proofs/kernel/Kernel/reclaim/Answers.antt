use Rattle.std.proofs.Common.{◌≡◌, false, refl, ◌∙◌, sym, subst}
use Rattle.std.specs.Prelude.{Ok, Err}
use Rattle.migrator.specs.area_reader.Store.{disk, graph}
use Rattle.migrator.specs.batch_journal.Course.{Unmoved}
use Rattle.world_invariant.specs.Logs.{IsNameless}
use Rattle.kernel_fs.specs.KernelAnswers.{Answers, kernel_answer}
use Rattle.kernel_fs.specs.Reclaim.{IsUnused, ReclaimsOrStays, StaysOrReclaims}
use Rattle.kernel_fs.specs.declared.error.ReclaimError.TheVariants as errors
use Rattle.kernel_fs.proofs.Dropping.{still_open}
use Rattle.kernel_fs.proofs.Answered.{answered}
use Rattle.kernel_fs.proofs.Reclaimed.{in_use_no_fault, no_file, nothing_stays}
use Rattle.kernel_fs.specs.Inodes.{has}
use Rattle.kernel_fs.specs.KernelView.{KernelView}
use Rattle.kernel_fs.specs.MachineState.{IsKernelOf}
use Rattle.kernel_fs.proofs.DropSteps.{may_reclaim, reclaimed_kernel, reclaimed_nodes}
use Rattle.kernel_fs.proofs.Generations.{still_named}
use Rattle.kernel_fs.proofs.Runs.{goes_on, reclaim_refused}
use Rattle.kernel_fs.specs.Run as entry
use Rattle.kernel_fs.proofs.kernel.Kernel.reclaim.Goals as goal

pub returns-clause-step : goal.returns-clause-step
returns-clause-step g c = λ m is.
    let own = subst (λ (v : KernelView _). IsKernelOf g.M.Media v m) (sym c.self.view_is) is in
    reclaimed_kernel g.M.Media c.self.inside.area c.drop_nameless.new.area c.args.inode c.in-Ok.ensures.stays.geometry c.in-Ok.ensures.dropped c.self.inside.book m own

pub returns-clause-can : goal.returns-clause-can
returns-clause-can g c = λ m is.
    let own = subst (λ (v : KernelView _). IsKernelOf g.M.Media v m) (sym c.self.view_is) is in
    may_reclaim g.M.Media c.self.inside.area c.self.inside.book m c.args.inode (c.in-Ok.ensures.was, sym c.is_pinned.ensures ∙ c.if-is_pinned.false) own

pub returns-then-is_pinned-clause-any_moment : goal.returns-then-is_pinned-clause-any_moment
returns-then-is_pinned-clause-any_moment g c =
    let m = g.M.Media in
    let going : _ = sym c.has_failed.ensures ∙ c.if-has_failed.false in
    let area = c.self.inside.area in
    subst (λ (v : KernelView _). v.area.failed ≡ false → StaysOrReclaims v.area.geometry (disk m v.area) c.args.inode (m.moment v.area.media) (m.moment v.area.media) (m.left v.area.media) (m.left v.area.media)) c.self.view_is
    (λ _. still_open area.geometry (disk m area) c.args.inode (m.moment area.media) (m.left area.media) (m.moment area.media) (m.seen area.media) (m.seen area.media) (m.left area.media)
    (record { clock = refl; reads = λ t. refl; past = λ n t x le l. l; kept = λ n t x le l. l }) (c.left_now.ensures.same going) (c.left_now.ensures.loose going))

pub returns-then-is_pinned-clause-answers : goal.returns-then-is_pinned-clause-answers
returns-then-is_pinned-clause-answers g c =
    let m = g.M.Media in
    let going : _ = sym c.has_failed.ensures ∙ c.if-has_failed.false in
    let area = c.self.inside.area in
    let book = c.self.inside.book in
    subst (λ (v : KernelView _). Answers v.area.failed v v (kernel_answer (Err errors.InUse)) (ReclaimsOrStays m v.area v.area)) c.self.view_is
    (answered (ReclaimsOrStays m) area area book book (record { area = area; book = book; opening = c.self.inside.began }) refl (Err errors.InUse) going (nothing_stays m area errors.InUse in_use_no_fault going))

-- ---- where nothing is there

pub returns-then-not-contains-clause-any_moment : goal.returns-then-not-contains-clause-any_moment
returns-then-not-contains-clause-any_moment g c =
    let m = g.M.Media in
    let going : _ = sym c.has_failed.ensures ∙ c.if-has_failed.false in
    let area = c.self.inside.area in
    subst (λ (v : KernelView _). v.area.failed ≡ false → StaysOrReclaims v.area.geometry (disk m v.area) c.args.inode (m.moment v.area.media) (m.moment v.area.media) (m.left v.area.media) (m.left v.area.media)) c.self.view_is
    (λ _. still_open area.geometry (disk m area) c.args.inode (m.moment area.media) (m.left area.media) (m.moment area.media) (m.seen area.media) (m.seen area.media) (m.left area.media)
    (record { clock = refl; reads = λ t. refl; past = λ n t x le l. l; kept = λ n t x le l. l }) (c.left_now.ensures.same going) (c.left_now.ensures.loose going))

pub returns-then-not-contains-clause-answers : goal.returns-then-not-contains-clause-answers
returns-then-not-contains-clause-answers g c =
    let m = g.M.Media in
    let going : _ = sym c.has_failed.ensures ∙ c.if-has_failed.false in
    let area = c.self.inside.area in
    let book = c.self.inside.book in
    subst (λ (v : KernelView _). Answers v.area.failed v v (kernel_answer (Err errors.InUse)) (ReclaimsOrStays m v.area v.area)) c.self.view_is
    (answered (ReclaimsOrStays m) area area book book (record { area = area; book = book; opening = c.self.inside.began }) refl (Err errors.InUse) going (nothing_stays m area errors.InUse in_use_no_fault going))

pub returns-then-not-contains-clause-in_use : goal.returns-then-not-contains-clause-in_use
returns-then-not-contains-clause-in_use g c = λ is.
    let going : _ = sym c.has_failed.ensures ∙ c.if-has_failed.false in
    let absent = sym c.contains.ensures ∙ c.if-not-contains.true in
    subst (λ (v : KernelView _). IsUnused (graph v.area.geometry (disk g.M.Media v.area)) v.book c.args.inode → ⊥) c.self.view_is
    (λ unused. no_file (graph c.self.inside.area.geometry (disk g.M.Media c.self.inside.area) c.args.inode) unused.0 (sym ((c.self.invariant going).0 c.args.inode) ∙ absent))

-- ---- where it was refused

pub invariant_of-self : goal.invariant_of-self
invariant_of-self g c = λ still.
    let going : _ = sym c.has_failed.ensures ∙ c.if-has_failed.false in
    let inside = c.self.invariant going in
    let m = g.M.Media in
    reclaim_refused m c.self.inside.began (has c.self.inside.nodes) c.self.inside.book c.self.inside.area c.drop_nameless.new.area c.in-Err.error c.in-Err.ensures.stays still inside

pub returns-in-Err-clause-in_use : goal.returns-in-Err-clause-in_use
returns-in-Err-clause-in_use g c = λ is.
    subst (λ (v : KernelView _). IsUnused (graph v.area.geometry (disk g.M.Media v.area)) v.book c.args.inode → ⊥) c.self.view_is
    (λ unused. c.in-Err.ensures.in_use (cc is) unused.0)

pub returns-in-Err-clause-untouched : goal.returns-in-Err-clause-untouched
returns-in-Err-clause-untouched g c =
    let m = g.M.Media in
    let new = c.drop_nameless.new.area in
    subst (λ (v : KernelView _). (IsUnused (graph v.area.geometry (disk m v.area)) v.book c.args.inode → ⊥) → Unmoved (m.moment v.area.media) (m.moment new.media) (m.seen v.area.media) (m.seen new.media) (m.left v.area.media) (m.left new.media)) c.self.view_is
    (λ unless. c.in-Err.ensures.untouched (λ nameless. unless (nameless, sym c.is_pinned.ensures ∙ c.if-is_pinned.false)))

pub returns-in-Err-clause-memory : goal.returns-in-Err-clause-memory
returns-in-Err-clause-memory g c = λ is.
    let device = g.M.Media in
    subst (λ (v : KernelView _). IsNameless (graph v.area.geometry (disk device v.area) c.args.inode)) c.self.view_is
    (c.in-Err.ensures.memory (cc is))

pub returns-in-Err-clause-answers : goal.returns-in-Err-clause-answers
returns-in-Err-clause-answers g c =
    let m = g.M.Media in
    let going : _ = sym c.has_failed.ensures ∙ c.if-has_failed.false in
    answered (ReclaimsOrStays m) c.self.inside.area c.drop_nameless.new.area c.self.inside.book c.self.inside.book c.args.self.now c.self.view_is (Err c.in-Err.error) going c.in-Err.ensures.stays

-- ---- where it was dropped

pub invariant_of-self-2 : goal.invariant_of-self-2
invariant_of-self-2 g c = λ still.
    let going : _ = sym c.has_failed.ensures ∙ c.if-has_failed.false in
    let inside = c.self.invariant going in
    let device = g.M.Media in
    let old = c.self.inside.area in
    let new = c.drop_nameless.new.area in
    let book = c.self.inside.book in
    let geometry = c.in-Ok.ensures.stays.geometry in (
      reclaimed_nodes device old new c.args.inode geometry c.in-Ok.ensures.dropped (has c.self.inside.nodes) (has c.remove.new.self) c.remove.ensures inside.0,
      goes_on device c.self.inside.began old new book book (λ r. entry.Reclaim c.args.inode) (λ r is named. let m = r.machine in (
        may_reclaim device old book m c.args.inode (c.in-Ok.ensures.was, sym c.is_pinned.ensures ∙ c.if-is_pinned.false) is,
        reclaimed_kernel device old new c.args.inode geometry c.in-Ok.ensures.dropped book m is,
        still_named (disk device old) (disk device new) r.generations c.in-Ok.ensures.dropped.same_marks named,
      )) inside.1,
    )

pub returns-clause-answers : goal.returns-clause-answers
returns-clause-answers g c =
    let m = g.M.Media in
    let going : _ = sym c.has_failed.ensures ∙ c.if-has_failed.false in
    answered (ReclaimsOrStays m) c.self.inside.area c.drop_nameless.new.area c.self.inside.book c.self.inside.book c.args.self.now c.self.view_is (Ok tt) going c.in-Ok.ensures.stays
