-- A region that was put at the end of one place of a row of ends; and one that its client got.
use Rattle.std.proofs.Common.{◌≡◌, ◌<◌, ℕ, List, Option, Some, length, refl, sym, inl, inr, ⊎_elim, subst, slice_index_or, slice_set}
use Rattle.std.proofs.lemmas.Option.{slice_get_read}
use Rattle.handoff.specs.Ends.{EndView}
use Rattle.tier_device.specs.declared.media.Media.{Ghosts}
use Rattle.libfs.specs.SealedRegion.{SealedRegionView}
use Rattle.libfs.specs.View.{ClientView}
use Rattle.handoff.specs.Line.{HasTaken}
use Rattle.strata_threads.specs.RegionHandover.{HasComeBack, HasLookedAt, HasLookedForRegion, HasReceived, HasSent, HasSentAt}

pub sent_at : {T : Type 0} (old : List (EndView T)) (k i : ℕ) (x : T) (before after : EndView T) → i ≡ k → i < length old → before ≡ slice_index_or old i before → HasSent before x after → HasSentAt old k x (slice_set old i after)
sent_at old k i x before after is low at sent = subst (λ (j : ℕ). HasSentAt old j x (slice_set old i after)) is (before, after, slice_get_read old (length old) i before refl low at, sent, refl)

-- of the client alone: it took the region back, or is as it was
pub comes_back : {M : Type 0} (device : Ghosts M) (old : ClientView M) (tasks : EndView (SealedRegionView M)) (x : SealedRegionView M) (new : ClientView M) (after : EndView (SealedRegionView M)) (kept : Option (SealedRegionView M))
    → HasReceived device old tasks x new after kept → HasComeBack device old new
comes_back device old tasks x new after kept has = ⊎_elim (λ taken. inr (x, taken.0, taken.1)) (λ refused. inl refused.1) has

-- a look at the queue back took a region, and that was received
pub looks_and_receives : {M : Type 0} (device : Ghosts M) (old new : ClientView M) (tasks between after : EndView (SealedRegionView M)) (returns looked back : EndView (SealedRegionView M)) (o : Option (SealedRegionView M)) (x : SealedRegionView M) (kept : Option (SealedRegionView M))
    → o ≡ Some x → HasLookedAt returns o looked → between ≡ tasks → back ≡ looked → HasReceived device old between x new after kept → HasLookedForRegion device old tasks returns new after back kept
looks_and_receives {M} device old new tasks between after returns looked back o x kept is took same stays has = inr (
  x,
  subst (λ (e : EndView (SealedRegionView M)). HasTaken returns.hands x e.hands) (sym stays) (subst (λ (p : Option (SealedRegionView M)). HasLookedAt returns p looked) is took),
  subst (λ (e : EndView (SealedRegionView M)). HasReceived device old e x new after kept) same has,
)
