use Rattle.std.proofs.Common.{◌≤◌, inl, inr, sym, subst}
use Rattle.area_reader.specs.file_graph.Graph.{Graph}
use Rattle.area_reader.specs.file_graph.Units.{charge}
use Rattle.area_reader.specs.Store.{store_of}
use Rattle.area_commit.proofs.laws.moments_open.Goals as goal

pub returns : goal.returns
returns c =
    let same = c.free_blocks_are_not_read.ensures in
    record {
      opens = λ g s plan content opens done at. elim at.store [
        | inl loose ↦ record { spelled = same.spelled g s (store_of content) loose opens.spelled; units = subst (λ (x : Graph). charge x ≤ g.units) (sym (same.graph g s (store_of content) loose)) opens.units }
        | inr out ↦ done (store_of content) out
      ];
      same = λ g s plan content at. elim at.store [
        | inl loose ↦ inl (same.graph g s (store_of content) loose, same.marks g s (store_of content) loose)
        | inr out ↦ inr out
      ];
    }
