use Rattle.area_reader.specs.layout.Places.{Sizes, IsAllowed}
use Rattle.area_reader.specs.Store.{Store}
use Rattle.area_commit.proofs.Anew.{anew}
use Rattle.area_commit.proofs.Swapped.{UsesAreRead, exchanged, lost_given}
use Rattle.area_commit.proofs.laws.carried_out_blocks_are_exchanged.Goals as goal

pub returns : goal.returns
returns c =
    let read : (g : Sizes) (new : Store) → IsAllowed g → UsesAreRead g new = λ g new allowed i x m number fit written. c.written_inode_is_read.ensures.uses g new i x m allowed number fit written in
    let marks = c.marks_are_read.ensures in
    record {
      exchanged = λ g s x m plan new allowed spelled planned done. exchanged g s x m plan new spelled planned (anew g s x m plan planned new done spelled marks) (read g new allowed);
      lost = λ g s x m plan new t k allowed spelled planned done. lost_given g s x m plan new spelled planned (anew g s x m plan planned new done spelled marks) (read g new allowed) t k;
    }
