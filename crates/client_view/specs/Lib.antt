pub mod KnowledgeChanges
pub mod KnowledgeTables
pub mod AfterRecord
pub mod Preparation
pub mod BlockPut
pub mod After
pub mod RecordLists
pub mod RecordReach
-- Handed on to the crates above, which list only the highest of what they name.
pub use Rattle.client_plan.specs as client_plan
pub use Rattle.record_validation.specs as record_validation
