use Rattle.std.proofs.Common.{◌≡◌, ◌*◌}
use Rattle.std.specs.Prelude.{min}
use Rattle.area_reader.specs.tree_blocks.Inode.{entry_at, named_entries}
use Rattle.area_reader.specs.Store.{disk, logical_block}
use Rattle.area_reader.specs.Looks.{Looks, call_answer}
use Rattle.shared_area.proofs.directory_read.read_entries.Given as goal

abbrev pub invariant-parts : goal.invariant-parts
invariant-parts g l =
    let m = g.M.Media in
    record {
      looks : Looks m l.fn.journal l.journal call_answer;
      put : l.map ≡ named_entries (entry_at (logical_block l.fn.journal.geometry (disk m l.fn.journal) l.directory.inode)) (min l.directory.entries (56 * l.number));
    }
