pub mod Grow
pub mod CallLogs
pub mod HeldLaws
pub mod Rows
