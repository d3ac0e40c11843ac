use Rattle.std.proofs.Common.{◌≡◌, ◌<◌, ◌≤◌, ◌+◌, ◌-◌, ◌*◌, ℕ}
use Rattle.area_reader.specs.Store.{disk, graph}
use Rattle.posix_calls.specs.Tree.{sum_up_to}
use Rattle.batch_journal.specs.file_graph.Graph.{cost}
use Rattle.batch_journal.specs.layout.declared.places.TheConstants.{FILE_BLOCKS}
use Rattle.area_reader.specs.Format.{SpellsInode}
use Rattle.area_reader.specs.Looks.{Looks, call_answer}
use Rattle.area_reader.specs.MediumUse.{MarksUses}
use Rattle.area_reader.proofs.area.read_area.Given as goal

abbrev pub invariant-inodes : goal.invariant-inodes
invariant-inodes g l =
    let m = g.M.Media in
    record {
      looks : Looks m l.fn.journal l.journal call_answer;
      total : l.units ≡ sum_up_to (l.inode - 1) (λ i. cost (graph l.fn.journal.geometry (disk m l.fn.journal) i));
      few : l.units ≤ (FILE_BLOCKS + 1) * (l.inode - 1);
      marks : MarksUses l.fn.journal.geometry (disk m l.fn.journal) l.inode l.used;
      spelled : (i : ℕ) → 1 ≤ i → i < l.inode → SpellsInode l.fn.journal.geometry (disk m l.fn.journal) i;
    }
