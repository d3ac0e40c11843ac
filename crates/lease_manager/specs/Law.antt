-- The rule of the table.
use Rattle.std.specs.Prelude.{◌≡◌, ℕ, ◌<◌, ◌≤◌, List, length, slice_index}
use Rattle.atomic_table.specs.Table.{State, Me}
use Rattle.lease_manager.specs.declared.view.Part.{Part}
use Rattle.lease_manager.specs.Marks.{Shows}
use Rattle.lease_manager.specs.History.{Entry, steps_by, unheard, IsHistory}
use Rattle.lease_manager.specs.Parts.{place_of, mode_at}
use Rattle.seat_book.specs.Book.{IsBooked}

-- the table as plain data: its words, and the parts that each seat carries
abbrev pub TableState : Type 0
TableState = State (Unit {0}) (List Part)

-- a seat as plain data: the parts that it carries, and no slots
abbrev pub SeatState : Type 0
SeatState = Me (Unit {0}) (List Part)

-- each lease word shows how all clients stand to its inode
abbrev pub LeaseLaw : List ℕ → (ℕ → Part) → Type 0
LeaseLaw words whole = (i : ℕ) → i < 1024 → Shows (slice_index words i) (λ c. mode_at (whole c) i)

-- There is one history of all steps, in which each part lists the steps of its client, and each asked word has what was asked since it was last heard
pub record HistoryLaw (words : List ℕ) (whole : ℕ → Part) : Type 0 where
  pub history : List Entry
  pub legal : IsHistory history
  pub listed : (c : ℕ) → steps_by c history ≡ (whole c).events
  pub waiting : (w : ℕ) → 1024 ≤ w → w < 1152 → slice_index words w ≡ unheard w history

-- all laws of the words and of the parts. None knows of seats
pub record Law (words : List ℕ) (whole : ℕ → Part) : Type 0 where
  pub wide : length words ≡ 1152
  pub leases : LeaseLaw words whole
  pub steps : HistoryLaw words whole

-- the law holds of the words and of what all seats carry
abbrev pub IsRuled : TableState → Type 0
IsRuled s = IsBooked place_of Law s.words s.views
