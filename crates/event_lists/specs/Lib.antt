pub mod Courses
pub mod EachStop
pub mod Outcome
pub mod Plays
pub mod FencedMedia
pub mod GatedDraft
