pub mod MovableFile
pub mod TierMove
pub mod RunMove
pub mod MovedFile
