-- What may be left of a run that was stopped, as it is said below.
pub use Rattle.posix_calls.specs.Outcome.{AreSomeOf, IsOutcome, Unfinished}
