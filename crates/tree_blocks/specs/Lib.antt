pub mod After
pub mod Directory
pub mod FileBlock
pub mod Inode
pub mod InodeRewrite
pub mod BlockMarks
-- Handed on to the crates above, which list only the highest of what they name.
pub use Rattle.graph_change.specs as graph_change
