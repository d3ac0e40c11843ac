-- An area and regions of which a world is made.
use Rattle.std.specs.Prelude.{◌≡◌, ◌⊎◌, ℕ, ◌+◌, ◌++◌, ◌/◌, ◌%◌, true, false, List, [], ◌∷◌, length, slice_get, Some, None}
use Rattle.std.specs.List.{AllZip}
use Rattle.atomic_table.specs.Seated.{TableId}
use Rattle.tier_device.specs.declared.media.Media.{Ghosts}
use Rattle.tier_device.specs.Media.{Rose}
use Rattle.interleavings.specs.update_log.View.{HasSize, RegionView}
use Rattle.interleavings.specs.batch_journal.View.{JournalView}
use Rattle.interleavings.specs.layout.declared.marks.Marks.{Marks}
use Rattle.interleavings.specs.area_reader.Store.{disk, graph, marks}
use Rattle.interleavings.specs.call_effects.ClosedGraph.{nobody}
use Rattle.interleavings.specs.call_effects.Wholes.{IsSound}
use Rattle.interleavings.specs.event_steps.Refusals.{no_refusals}
use Rattle.interleavings.specs.digester.MarkMoves.{mark_of}
use Rattle.posix_calls.specs.Operations.{is_client}
use Rattle.interleavings.specs.lease_manager.Passes.{PassView, fresh}
use Rattle.interleavings.specs.client_log.Steps.{IsOpened}
use Rattle.interleavings.specs.libfs.NewClient.{IsBlank, IsNew}
use Rattle.interleavings.specs.libfs.declared.life.Life.TheVariants as lives
use Rattle.interleavings.specs.event_steps.View.{SeatView}
use Rattle.area_recovery.specs.declared.error.RecoveryError.{RecoveryError}
use Rattle.area_recovery.specs.declared.error.RecoveryError.TheVariants.{DeviceFault}
use Rattle.area_recovery.specs.FaultOrMemory.{IsFaultOrMemory}
use Rattle.area_recovery.specs.Regions.{REGIONS, IsUntouched}
use Rattle.area_recovery.specs.Silent.{IsWiped, wiped_name}

-- the generation of the mark of the client at a place among the eight
abbrev pub generation_at : Marks → ℕ → ℕ
generation_at v place = (mark_of v (place + 1)).generation

-- each pass is that of the client at its place, and holds nothing
abbrev pub AreFresh : TableId → List PassView → Type 0
AreFresh table passes = (k : ℕ) (p : PassView) → slice_get passes k ≡ Some p → p ≡ fresh table k

module _ {M : Type 0} (device : Ghosts M) where
  -- of the medium of each region nothing has changed but the count of failed calls
  abbrev pub AreOnlyRead : List (RegionView M) → List (RegionView M) → Type 0
  AreOnlyRead old new = AllZip (λ v w. IsUntouched device v.media w.media) old new

  -- the regions of clients, each wiped to the generation of its client's mark or to the next
  abbrev pub AreWipedTo : Marks → List (RegionView M) → Type 0
  AreWipedTo v regions = (k : ℕ) (r : RegionView M) → slice_get regions k ≡ Some r → IsWiped device (wiped_name (generation_at v (k / 2)) (k % 2)) r

  -- The seat of the client of a pass, as it is opened at a generation over its two regions: that of even generations and that of odd ones.
  pub record IsOpenedSeat (pass : PassView) (g : ℕ) (regions : RegionView M × RegionView M) (s : SeatView M) : Type 0 where
    pub pass_is : s.client.pass ≡ pass
    pub home : s.away ≡ None
    pub alive : s.life ≡ lives.Alive
    pub unrefused : s.refused ≡ no_refusals
    pub new : IsNew s.client.pass s.client.log s.client
    pub blank : IsBlank device s.client.log
    pub opened : IsOpened device g regions s.client.log

  -- The seats of the clients from a place on, each opened at its mark over the next two regions, with a pass of that table which holds nothing.
  abbrev pub AreOpenedSeats : TableId → Marks → ℕ → List (RegionView M) → List (SeatView M) → Type 0
  AreOpenedSeats table v place [] [] = Unit {0}
  AreOpenedSeats table v place (even ∷ odd ∷ rs) (s ∷ ss) = IsOpenedSeat (fresh table place) (generation_at v place) (even, odd) s × AreOpenedSeats table v (place + 1) rs ss
  AreOpenedSeats table v place _ _ = ⊥

  -- The last two regions are taken, wiped to this generation and the next, and the seat of the client of a pass is opened over them.
  pub record SeatsLast (pass : PassView) (g : ℕ) (old new : List (RegionView M)) (s : SeatView M) : Type 0 where
    pub even : RegionView M
    pub odd : RegionView M
    pub taken : old ≡ new ++ even ∷ odd ∷ []
    pub seated : IsOpenedSeat pass g (even, odd) s

  -- The last two regions were read at most and are given back, refused for this cause.
  pub record RefusesSeat (error : RecoveryError) (old new : List (RegionView M)) : Type 0 where
    pub front : List (RegionView M)
    pub even : RegionView M
    pub odd : RegionView M
    pub even_back : RegionView M
    pub odd_back : RegionView M
    pub was : old ≡ front ++ even ∷ odd ∷ []
    pub is : new ≡ front ++ even_back ∷ odd_back ∷ []
    pub even_read : IsUntouched device even.media even_back.media
    pub odd_read : IsUntouched device odd.media odd_back.media
    pub fault : error ≡ DeviceFault → Rose (device.faults even.media) (device.faults even_back.media) ⊎ Rose (device.faults odd.media) (device.faults odd_back.media)
    pub only : IsFaultOrMemory error
