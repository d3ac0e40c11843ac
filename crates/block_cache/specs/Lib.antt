pub mod CacheList
pub mod Entries
pub mod Spans
