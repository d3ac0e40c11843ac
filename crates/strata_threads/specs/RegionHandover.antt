-- How a region goes from thread to thread: each step puts it at an end of a queue, or takes it there, and no other one moves.
use Rattle.std.specs.Prelude.{◌≡◌, ◌⊎◌, ◌-◌, ◌≤◌, ℕ, List, Option, None, Some, length, slice_get, slice_set}
use Rattle.handoff.specs.Ends.{EndView}
use Rattle.handoff.specs.Line.{EndsLine, HasPut, HasTaken}
use Rattle.tier_device.specs.declared.media.Media.{Ghosts}
use Rattle.libfs.specs.client_log.Calls.{IsOnlyRead}
use Rattle.libfs.specs.client_log.Steps.{CanBeSealed}
use Rattle.libfs.specs.RegionSeal.{HasSealed, HasTakenBack, MayTakeBack}
use Rattle.libfs.specs.SealedRegion.{SealedRegionView}
use Rattle.libfs.specs.View.{ClientView}
use Rattle.strata_threads.specs.HeardQuestions.{HasAnsweredRows}
use Rattle.strata_threads.specs.LeaseReturn.{TakesNoLease}

module _ {T : Type 0} where
  -- it was put at this end
  abbrev pub HasSent : EndView T → T → EndView T → Type 0
  HasSent old x new = (new.queue ≡ old.queue) × HasPut old.hands x new.hands

  -- at the end of this place, and the others are as they were
  abbrev pub HasSentAt : List (EndView T) → ℕ → T → List (EndView T) → Type 0
  HasSentAt old k x new = (before : EndView T) × (after : EndView T) × (slice_get old k ≡ Some before) × HasSent before x after × (new ≡ slice_set old k after)

  -- It was put at this end, or is kept; not both.
  abbrev pub HasSentOrKept : EndView T → T → EndView T → Option T → Type 0
  HasSentOrKept old x new kept = (HasSent old x new × (kept ≡ None)) ⊎ ((new.queue ≡ old.queue) × (new.hands ≡ old.hands) × (kept ≡ Some x))

  -- It was taken at this end, as the first of its queue; or that was empty at one moment, and nothing has changed.
  abbrev pub HasLookedAt : EndView T → Option T → EndView T → Type 0
  HasLookedAt old None new = ((items : List T) × (length items ≡ 0) × EndsLine old.hands items) × (new.hands ≡ old.hands)
  HasLookedAt old (Some x) new = HasTaken old.hands x new.hands

module _ {M : Type 0} (device : Ghosts M) where
  -- A client got its region: it took it back, exactly where it may, or sent it to the workers once more or keeps it.
  abbrev pub HasReceived : ClientView M → EndView (SealedRegionView M) → SealedRegionView M → ClientView M → EndView (SealedRegionView M) → Option (SealedRegionView M) → Type 0
  HasReceived old tasks x new after kept = (MayTakeBack device old x × HasTakenBack device old x new × (after ≡ tasks) × (kept ≡ None)) ⊎ ((MayTakeBack device old x → ⊥) × (new ≡ old) × HasSentOrKept tasks x after kept)

  -- It took the first region of the queue back to it, and got that; or that queue was empty at one moment, and nothing has changed.
  abbrev pub HasLookedForRegion : ClientView M → EndView (SealedRegionView M) → EndView (SealedRegionView M) → ClientView M → EndView (SealedRegionView M) → EndView (SealedRegionView M) → Option (SealedRegionView M) → Type 0
  HasLookedForRegion old tasks returns new after back kept = (((items : List (SealedRegionView M)) × (length items ≡ 0) × EndsLine returns.hands items) × (back.hands ≡ returns.hands) × (new ≡ old) × (after ≡ tasks) × (kept ≡ None))
      ⊎ ((x : SealedRegionView M) × HasTaken returns.hands x back.hands × HasReceived old tasks x new after kept)

  -- A client handed its current region over: it was sealed, and sent to the workers or kept.
  abbrev pub HasHandedOver : ClientView M → EndView (SealedRegionView M) → ClientView M → EndView (SealedRegionView M) → Option (SealedRegionView M) → Type 0
  HasHandedOver old tasks new after kept = (x : SealedRegionView M) × HasSealed device old x new × HasSentOrKept tasks x after kept

  -- It did so, or nothing has changed, where a region is kept already or the current one can't be sealed.
  abbrev pub HandsOver : Option (SealedRegionView M) → ClientView M → EndView (SealedRegionView M) → ClientView M → EndView (SealedRegionView M) → Option (SealedRegionView M) → Type 0
  HandsOver before old tasks new after kept = HasHandedOver old tasks new after kept ⊎ ((before ≡ None → CanBeSealed device old.log → ⊥) × (new ≡ old) × (after ≡ tasks) × (kept ≡ before))

  -- Of the client alone: a region of it, digested whole, is back, or nothing has changed; its current region is sealed, or nothing has changed.
  abbrev pub HasComeBack : ClientView M → ClientView M → Type 0
  HasComeBack old new = (new ≡ old) ⊎ ((x : SealedRegionView M) × MayTakeBack device old x × HasTakenBack device old x new)

  abbrev pub HasSealedOrNot : ClientView M → ClientView M → Type 0
  HasSealedOrNot old new = (new ≡ old) ⊎ ((x : SealedRegionView M) × HasSealed device old x new)

  -- A client listened to the first rows: a region may have come back, then it heard them and gave what is asked of them, and took no lease, then the current region may have been sealed.
  abbrev pub HasListened : ℕ → ClientView M → List ℕ → ClientView M → List ℕ → Type 0
  HasListened rows old asked new left = (back : ClientView M) × (given : ClientView M) × HasComeBack old back × TakesNoLease back given × HasAnsweredRows rows back asked given left × HasSealedOrNot given new

  -- A worker had a region: it is the same one, which was at most read, and no fewer of its records are digested.
  pub record IsWorkedOn (old new : SealedRegionView M) : Type 0 where
    pub region : IsOnlyRead device old.region new.region
    pub more : old.done ≤ new.done
    pub rest : new ≡ record old { region = new.region; read = new.read; accepted = new.accepted; done = new.done }

  -- One region was taken, and the same one, digested or not, put at the end of the queue to its client.
  abbrev pub HasReturned : (tasks after : EndView (SealedRegionView M)) → (returns sent : List (EndView (SealedRegionView M))) → Type 0
  HasReturned tasks after returns sent = (taken : SealedRegionView M) × (back : SealedRegionView M) × HasTaken tasks.hands taken after.hands × IsWorkedOn taken back × HasSentAt returns (back.client - 1) back sent
