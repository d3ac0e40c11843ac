-- What a client asks of others: who shows a mark that bars it from a lease is to give the inode back.
use Rattle.std.specs.Prelude.{◌≡◌, ◌==◌, ◌&&◌, ◌||◌, not, if◌then◌else◌, ◌+◌, ℕ, zero, suc, Bool, List}
use Rattle.std.specs.Int.{bit_at}
use Rattle.tier_device.specs.declared.media.Media.{Ghosts}
use Rattle.libfs.specs.client_plan.declared.need.Mode.{Mode}
use Rattle.libfs.specs.client_plan.declared.need.Need.{Need}
use Rattle.libfs.specs.client_plan.declared.need.Need.TheVariants as needs
use Rattle.libfs.specs.lease_manager.Passes.{client_of, with_event}
use Rattle.libfs.specs.lease_manager.Words.{asked_bit, asked_word}
use Rattle.libfs.specs.lease_manager.declared.view.Event.TheVariants.{Asked}
use Rattle.libfs.specs.LeaseCalls.{ShowsBar, refused_pass}
use Rattle.libfs.specs.View.{ClientView}
use Rattle.strata_threads.specs.HeardQuestions.{row_of}
use Rattle.strata_threads.specs.RegionHandover.{HasListened}

-- whether a lease word shows a mark of the client at that place, to read or to write
abbrev pub shows_mark : ℕ → ℕ → Bool
shows_mark place word = (bit_at word place == 1) || (bit_at word (8 + place) == 1)

module _ {M : Type 0} where
  -- It was refused a lease of an inode by that word of it, which showed another client's mark.
  abbrev pub IsBarred : ClientView M → ℕ → ℕ → ClientView M → Type 0
  IsBarred old i word new = (mode : Mode) × ShowsBar mode old.pass.part.place word × (new ≡ record old { pass = refused_pass old.pass i mode word })

  -- the client, once it asked the one at a place for an inode
  abbrev pub with_question : ClientView M → ℕ → ℕ → ClientView M
  with_question v i place = record v { pass = with_event v.pass (Asked (asked_word (place + 1) (row_of i)) (asked_bit i)) }

  -- the client, once it asked that one, if the word shows a mark of it and it is not client `own`
  abbrev pub with_question_for : ClientView M → ℕ → ℕ → ℕ → ℕ → ClientView M
  with_question_for v own i word place = if shows_mark place word && not (place + 1 == own) then with_question v i place else v

  -- the client, once it asked so at the first places
  abbrev pub with_questions : ℕ → ClientView M → ℕ → ℕ → ClientView M
  with_questions zero v i word = v
  with_questions (suc n) v i word = with_question_for (with_questions n v i word) (client_of v.pass) i word n

module _ {M : Type 0} (device : Ghosts M) where
  -- It was refused a lease of an inode by a word of it, asked each other client whose mark that showed, and listened.
  abbrev pub HasAskedHolders : ℕ → ClientView M → List ℕ → ClientView M → List ℕ → Type 0
  HasAskedHolders i old asked new left = (refused : ClientView M) × (word : ℕ) × IsBarred old i word refused × HasListened device 16 (with_questions 8 refused i word) asked new left

  -- In the turn that was waited for that need it asked who holds the lease, and listened; where its region was away it listened alone.
  abbrev pub HasAskedFor : Need → ClientView M → List ℕ → ClientView M → List ℕ → Type 0
  HasAskedFor (needs.Lease i mode) old asked new left = HasAskedHolders i old asked new left
  HasAskedFor needs.Room old asked new left = HasListened device 16 old asked new left
  HasAskedFor _ old asked new left = ⊥
