pub mod DeathWords
pub mod FirstPath
pub mod RunOptions
pub mod StopWords
