pub mod Joining
pub mod Joins
pub mod Lists
pub mod Splitting
mod CourseCases
mod DraftCourses
mod DraftRefusals
mod DraftStops
mod FencedStops
