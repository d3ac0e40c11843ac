use Rattle.std.proofs.Common.{◌≡◌, ℕ, true, false, Some, None, sym, ap, subst}
use Rattle.std.specs.Prelude.{IfSome, unwrap_or}
use Rattle.std.proofs.lemmas.Bool.{cond-false}
use Rattle.std.proofs.lemmas.Result.{IfOk-weaker, IfErr-weaker}
use Rattle.inode_plan.specs.layout.Places.{Sizes, is_inode}
use Rattle.inode_plan.specs.layout.Slot.{slot_of, fits_slot}
use Rattle.inode_plan.specs.layout.declared.slot.Slot.{Slot}
use Rattle.inode_plan.specs.layout.declared.slot.Slot.TheVariants as slots
use Rattle.inode_plan.specs.area_reader.Store.{Store, disk, slot, slot_read, slot_bytes}
use Rattle.inode_plan.specs.area_reader.Format.{IsOpenable}
use Rattle.inode_plan.proofs.area_reader_lemmas.Looked.{carried, carried_back, looks_on}
use Rattle.inode_plan.proofs.area_reader_lemmas.Parts.{slot_as}
use Rattle.inode_plan.proofs.area_reader_lemmas.Shown.{slot_limits}
use Rattle.relocation.specs.MovableFile.{IsMovableRun, IsWithinFile}
use Rattle.relocation.specs.TierMove.{CanMove}
use Rattle.relocation.proofs.MovableRuns.{movable_within, no_file}
use Rattle.relocation.proofs.run_search.find_run.Goals as goal

free_slot : (g : Sizes) (s : Store) (i : ℕ) → is_inode i ≡ false → slot g s i ≡ slots.Free
unfolding slot_read
free_slot g s i none = ap (λ o. unwrap_or o slots.Free) (cond-false (is_inode i) (slot_of g (slot_bytes s i)) None none)

pub returns-then-not-is_inode-clause-none : goal.returns-then-not-is_inode-clause-none
returns-then-not-is_inode-clause-none g c is can =
    let old = c.args.journal.now in
    let s : Store = disk g.M.Media old in
    no_file old.geometry s c.args.run.inode c.args.run.first c.args.run.count c.args.to (free_slot old.geometry s c.args.run.inode (sym c.if-not-is_inode.ensures)) can

pub run_of-requires : goal.run_of-requires
run_of-requires g c = (slot_limits c.args.journal.now.geometry c.in_ok-slot.slot c.in_ok-slot.ensures.fits).few

pub find_in-requires : goal.find_in-requires
find_in-requires g c =
    let m = g.M.Media in
    let old = c.args.journal.now in
    let new = c.read_slot.new.journal in
    let looks = c.in_ok-slot.ensures.looks in
    let x = c.in_ok-slot.slot in
    let run = c.in-Some.its in
    record {
      number = sym c.if-not-is_inode.ensures;
      fits = subst (λ (h : Sizes). fits_slot h x ≡ true) (sym looks.geometry) c.in_ok-slot.ensures.fits;
      slot_is = carried m (λ h s. slot_read h s c.args.run.inode ≡ Some x) old new _ looks c.in_ok-slot.ensures.slot;
      within = subst (λ n. IsWithinFile x run.first n) (sym c.in-Some.ensures.count) (subst (λ n. IsWithinFile x n c.args.run.count) (sym c.in-Some.ensures.first) c.in-Some.ensures.within);
      opens = carried m IsOpenable old new _ looks (c.requires looks.going.0);
    }

pub returns-in-None-clause-none : goal.returns-in-None-clause-none
returns-in-None-clause-none g c is can =
    let old = c.args.journal.now in
    let s : Store = disk g.M.Media old in
    c.in-None.ensures.none
    (subst (λ (x : Slot). IsWithinFile x c.args.run.first c.args.run.count) (slot_as old.geometry s c.args.run.inode c.in_ok-slot.slot c.in_ok-slot.ensures.slot) (movable_within old.geometry s c.args.run.inode c.args.run.first c.args.run.count c.args.to can))

pub returns-in-Some-clause-found : goal.returns-in-Some-clause-found
returns-in-Some-clause-found g c =
    let m = g.M.Media in
    let old = c.args.journal.now in
    let new = c.read_slot.new.journal in
    let s : Store = disk m old in
    let run = c.in-Some.its in
    IfOk-weaker c.find_in.result _ _ (λ o found.
    let here = carried_back m (λ h s. IfSome o (IsMovableRun h s c.args.run.inode run.first run.count c.args.to)) old new _ c.in_ok-slot.ensures.looks found in
    subst (λ n. IfSome o (IsMovableRun old.geometry s c.args.run.inode c.args.run.first n c.args.to)) c.in-Some.ensures.count (subst (λ n. IfSome o (IsMovableRun old.geometry s c.args.run.inode n run.count c.args.to)) c.in-Some.ensures.first here))
    c.find_in.ensures.found

pub returns-in-Some-clause-none : goal.returns-in-Some-clause-none
returns-in-Some-clause-none g c =
    let m = g.M.Media in
    let old = c.args.journal.now in
    let new = c.read_slot.new.journal in
    let s : Store = disk m old in
    let run = c.in-Some.its in
    IfOk-weaker c.find_in.result _ _ (λ o refused none can.
    let same : CanMove old.geometry s c.args.run.inode run.first run.count c.args.to = subst (λ n. CanMove old.geometry s c.args.run.inode run.first n c.args.to) (sym c.in-Some.ensures.count) (subst (λ n. CanMove old.geometry s c.args.run.inode n c.args.run.count c.args.to) (sym c.in-Some.ensures.first) can) in
    refused none (carried m (λ h s. CanMove h s c.args.run.inode run.first run.count c.args.to) old new _ c.in_ok-slot.ensures.looks same))
    c.find_in.ensures.none

pub returns-in-Some-clause-memory : goal.returns-in-Some-clause-memory
returns-in-Some-clause-memory g c =
    IfErr-weaker c.find_in.result _ _ (λ e only is. record { file = c.in_ok-slot.slot; slot_is = c.in_ok-slot.ensures.slot; within = c.in-Some.ensures.within })
    c.find_in.ensures.only

pub returns-in-Some-clause-looks : goal.returns-in-Some-clause-looks
returns-in-Some-clause-looks g c = looks_on g.M.Media c.args.journal.now c.read_slot.new.journal c.find_in.new.journal c.in_ok-slot.slot c.find_in.result c.in_ok-slot.ensures.looks c.find_in.ensures.looks
