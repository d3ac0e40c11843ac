use Rattle.std.proofs.Common.{ℕ, sym, ap, subst}
use Rattle.std.specs.Prelude.{Err}
use Rattle.std.proofs.lemmas.Result.{err_from_is_err_and}
use Rattle.inode_plan.specs.layout.declared.slot.Slot.{Slot}
use Rattle.inode_plan.specs.layout.Places.{Sizes, IsAllowed}
use Rattle.inode_plan.specs.extent_tree.Map.{TierRuns}
use Rattle.inode_plan.specs.area_reader.Store.{Store, disk}
use Rattle.inode_plan.specs.area_commit.PlanOutcome.{IsCarriedOut}
use Rattle.inode_plan.proofs.area_commit_lemmas.Course.{Rests}
use Rattle.relocation.specs.RunMove.{IsSettled, IsMovedStore}
use Rattle.relocation.proofs.Ending.{moved_for, ends_done, ends_undone}
use Rattle.relocation.proofs.Planned.{plan_calls}
use Rattle.relocation.proofs.Pooled.{settled_undone}
use Rattle.relocation.proofs.run_move.write_move.Goals as goal

pub carry_out-requires-clause-plan : goal.carry_out-requires-clause-plan
carry_out-requires-clause-plan g c =
    let old = c.args.journal.now in
    let p = c.requires.plan.4 in
    let xs : ℕ → Slot = λ _. p.slot in
    let ms : ℕ → TierRuns = λ _. p.map in
    (xs, ms, c.move_is_planned.ensures old.geometry (disk g.M.Media old) c.requires.plan.0 c.requires.plan.3 p.file p.slot p.map c.args.plan p.is_plan)

pub returns-clause-ends : goal.returns-clause-ends
returns-clause-ends g c i first count to p =
    let m = g.M.Media in
    let old = c.args.journal.now in
    let new = c.carry_out.new.journal in
    let pools = c.carry_out.new.pools in
    let s : Store = disk m old in
    let allowed : IsAllowed old.geometry = subst IsAllowed c.geometry.ensures c.units-units.ensures.allowed in
    let done : (x : Store) → IsCarriedOut old.geometry s c.args.plan x → IsMovedStore old.geometry s i first count to x = moved_for c.carried_out_move_moves.ensures old.geometry s i first count to c.args.plan allowed c.requires.opens p in
    let settled : IsSettled old.geometry (m.seen new.media) (m.left new.media (m.moment new.media)) pools = record {
      opens = (done (disk m new) c.in_ok-carry_out.ensures.done).opens;
      rests = c.in_ok-carry_out.ensures.rests;
      ranges = c.in_ok-carry_out.ensures.ranges;
      free = c.in_ok-carry_out.ensures.free;
    } in
    ends_done m g.met.M.Media.sized i first count to old new c.args.plan done c.carry_out.ensures.any_moment tt pools (plan_calls old.geometry s i first count to c.args.plan p (m.moment old.media) (m.moment new.media) c.carry_out.ensures.at_most) c.in_ok-carry_out.ensures.done
    (subst (λ (h : Sizes). IsSettled h (m.seen new.media) (m.left new.media (m.moment new.media)) pools) (sym c.carry_out.ensures.geometry) settled) (c.in_ok-carry_out.ensures.going, c.in_ok-carry_out.ensures.quiet) c.carry_out.ensures.geometry

pub returns-in_err-carry_out-clause-ends : goal.returns-in_err-carry_out-clause-ends
returns-in_err-carry_out-clause-ends g c =
    let m = g.M.Media in
    let old = c.args.journal.now in
    let new = c.carry_out.new.journal in
    let pools = c.carry_out.new.pools in
    let s : Store = disk m old in
    let allowed : IsAllowed old.geometry = subst IsAllowed c.geometry.ensures c.units-units.ensures.allowed in
    let rests : Rests m old.geometry old.media = record { sizes = c.left_now.ensures.sizes c.requires.going; journal = c.left_now.ensures.journal c.requires.going; rest = c.requires.rests } in
    let ready = c.requires.pools in
    let before : IsSettled old.geometry (m.seen old.media) (m.left old.media (m.moment old.media)) ready.before = record { opens = c.requires.opens; rests = c.requires.rests; ranges = ready.ranges; free = ready.free } in
    let settled = settled_undone old.geometry (m.seen old.media) (m.left old.media (m.moment old.media)) ready.before c.args.pools.now pools c.args.plan.taken ready.took c.in_err-carry_out.ensures.undone before in
    let out = c.in_err-carry_out.ensures in
    let exit = err_from_is_err_and c.from_residual.result c.from_residual.ensures.1 in
    rw (exit.1, exit.2) (λ i first count to p.
    let done : (x : Store) → IsCarriedOut old.geometry s c.args.plan x → IsMovedStore old.geometry s i first count to x = moved_for c.carried_out_move_moves.ensures old.geometry s i first count to c.args.plan allowed c.requires.opens p in
    ends_undone m g.met.M.Media.sized i first count to old new c.args.plan done c.carry_out.ensures.any_moment pools c.in_err-carry_out.field-0.0 (plan_calls old.geometry s i first count to c.args.plan p (m.moment old.media) (m.moment new.media) c.carry_out.ensures.at_most) out.only
    (λ is. out.fault (ap Err is)) (λ is. out.memory (ap Err is)) c.carry_out.ensures.geometry c.carry_out.ensures.faults c.carry_out.ensures.one_fault c.requires.going rests settled)
