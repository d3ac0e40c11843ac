use Rattle.std.proofs.Common.{◌≡◌, ◌≤◌, ℕ, true, sym, subst}
use Rattle.inode_plan.specs.file_graph.Graph.{Graph}
use Rattle.inode_plan.specs.file_graph.Units.{charge}
use Rattle.inode_plan.specs.layout.declared.slot.Slot.{Slot}
use Rattle.inode_plan.specs.extent_tree.Map.{TierRuns}
use Rattle.inode_plan.proofs.area_reader_lemmas.Parts.{slot_as}
use Rattle.inode_plan.specs.area_commit.InodeMove.{StaysInode}
use Rattle.inode_plan.specs.area_commit.Plan.{is_changed}
use Rattle.relocation.proofs.Fitting.{is_fit}
use Rattle.relocation.proofs.Using.{changed_is, changed_here}
use Rattle.relocation.proofs.Storing.{is_planned, written_moved, run_lies_lowest, area_moved}
use Rattle.relocation.proofs.laws.carried_out_move_moves.Goals as goal

pub returns : goal.returns
returns c g s i to f x m plan new allowed opens p out =
    let planned = is_planned g s i to f x m plan p in
    let xs : ℕ → Slot = λ _. x in
    let ms : ℕ → TierRuns = λ _. m in
    let anew = c.carried_out_inodes_are_written_anew.ensures g s xs ms plan new opens.spelled planned out in
    let moved : (j : ℕ) → is_changed plan.slots.items j ≡ true → StaysInode g s new j x m = λ j its. subst (λ n. StaysInode g s new n x m) (changed_is g s i to f x m plan p j its) (written_moved g s i to f x m plan p new out) in
    let law = c.moved_store_spells_the_same_graph.ensures in
    let same = law.same_graph g (is_changed plan.slots.items) xs ms s new allowed opens.spelled anew moved in
    let rewrites = law.rewrites g (is_changed plan.slots.items) xs ms s new allowed opens.spelled anew moved in
    let written = anew.written i (changed_here g s i to f x m plan p) in
    let fit = is_fit g s i to f x m plan p in
    let read = c.written_inode_is_read.ensures in
    record {
      opens = record {
        spelled = law.spelled g (is_changed plan.slots.items) xs ms s new allowed opens.spelled anew moved;
        units = subst (λ (h : Graph). charge h ≤ g.units) (sym same) opens.units;
      };
      same_graph = same;
      same_marks = c.carried_out_marks.ensures.kept g s plan new out p.marks;
      lowest = run_lies_lowest g s i to f x m plan p new out (λ t k. read.places g new i x m allowed p.file.number fit written t k);
      moved = area_moved g s i to f x m plan p new out (λ t k. read.places g new i x m allowed p.file.number fit written t k) (slot_as g new i x (read.slot_is g new i x m allowed p.file.number fit written)) (λ u other. c.rewritten_inodes_are_spelled.ensures.uses_stay g (is_changed plan.slots.items) s new rewrites u other);
    }
