use Rattle.std.proofs.Common.{ap, subst}
use Rattle.std.specs.Prelude.{is_some, IsSome}
use Rattle.area_commit.proofs.rewrite_laws.written_inode_is_spelled.Goals as goal

pub returns : goal.returns
returns c g s i x m allowed number fit written consistent =
    let read = c.written_inode_is_read.ensures in
    record {
      slot = ap is_some (read.slot_is g s i x m allowed number fit written);
      extents = λ t. ap is_some (read.extents g s i x m allowed number fit written t);
      once = λ t u k here there. fit.once t u k (subst IsSome (read.places g s i x m allowed number fit written t k) here) (subst IsSome (read.places g s i x m allowed number fit written u k) there);
      consistent = consistent;
    }
