pub mod Asking
pub mod Courses
pub mod Ends
pub mod Lacks
pub mod Outcomes
mod Parted
pub mod WriteLogged
pub mod RecordLengths
pub mod Room
pub mod RootAlone
pub mod Serving
pub mod Spelled
pub mod Stepping
pub mod Whole
pub mod WriteAsked
-- Handed on to the crates above, which list only the highest of what they name.
pub use Rattle.call_effects.proofs as call_effects_lemmas
