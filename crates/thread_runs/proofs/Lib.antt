pub mod SharedTable
