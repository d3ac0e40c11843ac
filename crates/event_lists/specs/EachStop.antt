-- A course of a list of events that keeps a promise at each of its places, by readings of the clocks alone.
use Rattle.std.specs.Prelude.{◌≡◌, ℕ, ◌≤◌}
use Rattle.event_lists.specs.Courses.{IsCourse, LeftAt, LeftOf, Pace, Reading, WorldContent}

-- There is a course from the first reading to the last, and whatever a stop may have left at a place of it has P of that place.
pub record EachStop (pace : Pace) (left : LeftOf) (n : ℕ) (first last : Reading) (P : ℕ → WorldContent → Type 0) : Type 0 where
  pub course : ℕ → Reading
  pub from : course 0 ≡ first
  pub to : course n ≡ last
  pub is_course : IsCourse pace n course
  pub each : (k : ℕ) (c : WorldContent) → k ≤ n → LeftAt left n course k c → P k c
