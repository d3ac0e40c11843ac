pub mod Alike
pub mod Goods
pub mod Rises
pub mod Row
pub mod Searched
pub mod Shown
pub mod Steps
pub mod Taken
pub mod Touched
-- Handed on to the crates above, which list only the highest of what they name.
pub use Rattle.call_effects.proofs as call_effects_lemmas
pub use Rattle.call_effects.proofs.log_record_lemmas
