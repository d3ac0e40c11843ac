pub mod EffectCounts
pub mod Records
pub mod RunChange
pub mod Weight
pub mod Within
-- Handed on to the crates above, which list only the highest of what they name.
pub use Rattle.graph_change.specs as graph_change
