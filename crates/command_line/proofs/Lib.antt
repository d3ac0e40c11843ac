mod OptionReads
mod OptionSources
mod OptionTables
mod WordsFaults
pub mod Asking
