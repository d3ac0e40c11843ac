use Rattle.std.proofs.Common.{◌≡◌, ℕ, ap, inl, inr}
use Rattle.std.proofs.lemmas.Bool.{cases_Bool}
use Rattle.area_reader.specs.tree_blocks.Inode.{node_of}
use Rattle.area_reader.specs.Store.{inode}
use Rattle.area_commit.proofs.inode_laws.moved_inodes_are_the_same_graph.Goals as goal

pub returns : goal.returns
returns c g rewritten old new is alike =
    let same : (i : ℕ) → node_of (inode g new i) ≡ node_of (inode g old i) = λ i. elim (cases_Bool (rewritten i)) [
      | inl its ↦ c.alike_inodes_are_one_node.ensures.node (inode g old i) (inode g new i) (alike i its)
      | inr other ↦ ap node_of (c.rewritten_inodes_are_spelled.ensures.others g rewritten old new is i other)
    ] in
    λ p i. same i p
