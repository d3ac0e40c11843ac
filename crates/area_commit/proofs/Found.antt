-- A small change finds its blocks.
use Rattle.std.proofs.Common.{◌≤◌, ◌<◌, ◌+◌, ℕ, length, inl, inr, ◌⊎◌, arith}
use Rattle.area_reader.specs.file_graph.Units.{charge}
use Rattle.area_reader.specs.layout.Places.{Sizes}
use Rattle.area_reader.specs.Store.{Store, graph}
use Rattle.area_reader.specs.Format.{IsSpelled, KeepsUnits}
use Rattle.area_commit.specs.Value.{PoolsView, free_data, AreFree}
use Rattle.area_commit.proofs.DataRoom.{data_unused}
use Rattle.area_commit.proofs.NodeRoom.{nodes_spare}

pub growing_found : (g : Sizes) (s : Store) (p : PoolsView) (nodes blocks : ℕ) → IsSpelled g s → KeepsUnits g s → AreFree g s p → nodes ≤ 2048 → charge (graph g s) + blocks ≤ g.units + 512 → (length p.nodes.free < nodes) ⊎ (length (free_data p) < blocks) → ⊥
growing_found g s p nodes blocks spelled keeps free few room (inl want) = let spare : 2048 ≤ length p.nodes.free = nodes_spare g s p spelled keeps free in omega (arith, few, want, spare)
growing_found g s p nodes blocks spelled keeps free few room (inr want) = let unused : g.units + 512 ≤ length (free_data p) + charge (graph g s) = data_unused g s p spelled free in omega (arith, room, want, unused)

pub spare_found : (g : Sizes) (s : Store) (p : PoolsView) (nodes blocks : ℕ) → IsSpelled g s → KeepsUnits g s → AreFree g s p → nodes ≤ 2048 → blocks ≤ 512 → (length p.nodes.free < nodes) ⊎ (length (free_data p) < blocks) → ⊥
spare_found g s p nodes blocks spelled keeps free few small want = let units : charge (graph g s) ≤ g.units = keeps in growing_found g s p nodes blocks spelled keeps free few (omega (arith, units, small)) want
