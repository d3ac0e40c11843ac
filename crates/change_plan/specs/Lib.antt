pub mod FileLayout
pub mod Part
pub mod Parts
pub mod PlanAddition
pub mod First
pub mod Directory
pub mod DirectoryChange
pub mod FreedRuns
pub mod File
pub mod FileStart
pub mod FileSteps
pub mod Next
pub mod BlockDemand
pub mod ReadSlots
-- Handed on to the crates above, which list only the highest of what they name.
pub use Rattle.inode_plan.specs.area_commit
pub use Rattle.inode_plan.specs as inode_plan
