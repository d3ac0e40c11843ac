-- The mark that media keep of a client, beside the numbers of the kernel's machine. The media count by the region: a generation, and how many of that region's records are digested; with the last of
-- them the mark moves to the next generation, and to none. The machine counts all records of a client, for ever.
use Rattle.std.specs.Prelude.{◌≡◌, ◌≢◌, ℕ, ◌+◌, ◌≤◌, true, List, length}
use Rattle.posix_calls.specs.Operations.{is_client}
use Rattle.world_invariant.specs.log_record.declared.format.Record.{Record}
use Rattle.world_invariant.specs.Machine.{Machine, Sealed}

-- By the mark of the media so many records of the region are digested, where so many were ever digested, and accepted.
pub record IsMarkOf (done mark accepted : ℕ) : Type 0 where
  pub counted : done ≤ mark
  -- while none is waiting, the mark stands before a region
  pub between : accepted ≡ mark → done ≡ 0

-- so it is of each client
abbrev pub AreMarksOf : (ℕ → ℕ) → Machine → Type 0
AreMarksOf done m = (c : ℕ) → is_client c ≡ true → IsMarkOf (done c) (m.kernel.accounts c).mark (m.accepted c)

-- A sealed region is the one whose records are waiting, where so many of them are digested: it was accepted behind all before it, and has those and the ones that are waiting.
pub record IsWaiting (s : Sealed) (done waiting mark : ℕ) : Type 0 where
  pub behind : mark + waiting ≡ s.past + length s.records
  pub many : length s.records ≡ done + waiting

-- The marks after some of a client's records are digested: its own moves behind them, or to the next generation, and to none, with the last one that was waiting; those of the others stay.
pub record AreMarksAfter (before after : ℕ → ℕ) (c waiting : ℕ) (rs : List Record) : Type 0 where
  pub others : (d : ℕ) → is_client d ≡ true → d ≢ c → after d ≡ before d
  pub some : length rs ≢ waiting → after c ≡ before c + length rs
  pub all : length rs ≡ waiting → after c ≡ 0
