-- After a move what is in memory is true of the media, and what a stop leaves can be opened.
use Rattle.std.proofs.Common.{◌≡◌, ◌≢◌, ◌≤◌, ◌<◌, ◌+◌, ◌⊎◌, ◌∙◌, ℕ, List, Bool, true, false, refl, sym, ap, inl, inr}
use Rattle.std.specs.Prelude.{Result, Ok, Err, OnOk, IfErr, IsErrOf}
use Rattle.std.proofs.lemmas.Bool.{cases_Bool, true≢false}
use Rattle.tier_device.specs.declared.media.Media.{Ghosts}
use Rattle.tier_device.specs.declared.media.Tier.{Tier}
use Rattle.tier_device.specs.Media.{Rose}
use Rattle.record_validation.specs.file_graph.Units.{charge}
use Rattle.area_reader.specs.layout.declared.marks.Marks.{Marks}
use Rattle.area_reader.specs.layout.Places.{Sizes}
use Rattle.area_reader.specs.batch_journal.View.{JournalView}
use Rattle.area_reader.proofs.batch_journal_lemmas.Courses.{tiers_same}
use Rattle.area_reader.specs.Store.{Store, disk, store_of, graph, marks}
use Rattle.area_reader.specs.Format.{IsOpenable}
use Rattle.area_reader.proofs.Frames.{loose_graph, loose_marks}
use Rattle.change_plan.specs.area_commit.Value.{PoolsView}
use Rattle.relocation.specs.TierMove.{IsMoved}
use Rattle.area_reader.specs.declared.error.AreaError.{AreaError}
use Rattle.area_reader.specs.declared.error.AreaError.TheVariants.{DeviceFault, Damaged, NotMapped, NoBlock, Memory}
use Rattle.relocation.specs.RunMove.{LieInLowest, IsSettled, IsMovedStore, Moves, StaysStill}
use Rattle.shared_area.specs.Ready.{IsReady, HasFree}
use Rattle.shared_area.specs.TierMoves.{HasTooFew, HasEnough, StaysOpen, MovesOrStays}
use Rattle.shared_area.proofs.Ready.{keeps_opens}

-- what a stop leaves at each moment
pub stays_open : (g : Sizes) (s : Store) (i first count : ℕ) (to : Tier) (before now : ℕ) (old new : ℕ → Tier → List ℕ → Type 0) → IsOpenable g s → Moves g s i first count to before now old new → StaysOpen g s i first count to before now old new
stays_open g s i first count to before now old new opens moves = record {
  later = moves.later;
  past = moves.past;
  kept = moves.kept;
  any_moment = λ m content lo hi l. (let at = moves.any_moment m content lo hi l in elim at.store [
    | inl loose ↦ record {
      same = record {
        volume = at.volume;
        opens = keeps_opens g s (store_of content) opens loose;
        same_graph = loose_graph g s (store_of content) loose;
        same_marks = loose_marks g s (store_of content) loose;
      };
      run = inl loose;
    }
    | inr moved ↦ record {
      same = record { volume = at.volume; opens = moved.opens; same_graph = moved.same_graph; same_marks = moved.same_marks };
      run = inr moved.moved;
    }
  ]);
}

-- ---- what is told of a move that is done

module _ (g : Sizes) (s : Store) (i first count : ℕ) (to : Tier) (new : Store) where
  pub ok_moved : (r : Result (Unit {0}) AreaError) → OnOk r (IsMovedStore g s i first count to new) → OnOk r (IsMoved g s new i first count to)
  ok_moved (Ok x) is = is.moved
  ok_moved (Err e) is = tt

  pub ok_lowest : (r : Result (Unit {0}) AreaError) → OnOk r (IsMovedStore g s i first count to new) → OnOk r (LieInLowest g s new i first count to)
  ok_lowest (Ok u) moved = moved.lowest
  ok_lowest (Err e) moved = tt

  pub ok_graph : (r : Result (Unit {0}) AreaError) → OnOk r (IsMovedStore g s i first count to new) → OnOk r (graph g new ≡ graph g s)
  ok_graph (Ok x) is = is.same_graph
  ok_graph (Err e) is = tt

  pub ok_marks : (r : Result (Unit {0}) AreaError) → OnOk r (IsMovedStore g s i first count to new) → OnOk r (marks new ≡ marks s)
  ok_marks (Ok x) is = is.same_marks
  ok_marks (Err e) is = tt

-- ---- how many blocks are free, of media of which no device has failed

ok_fault : (x : Unit {0}) → Ok x ≡ Err DeviceFault → ⊥
ok_fault x is = cc

few_fault : (r : Result (Unit {0}) AreaError) → r ≡ Err NoBlock → r ≡ Err DeviceFault → ⊥
few_fault r few fault = cc

module _ (failed : Bool) (g : Sizes) (s : Store) (t : Tier) (n count : ℕ) (free : failed ≡ false → HasFree g s t n) (C : Type 0) where
  pub ok_enough : (r : Result (Unit {0}) AreaError) → (failed ≡ true → r ≡ Err DeviceFault) → OnOk r (C × (count ≤ n)) → OnOk r (C × HasEnough g s t count)
  ok_enough (Ok x) stays is = elim (cases_Bool failed) [ inl was ↦ absurd (ok_fault x (stays was)) | inr going ↦ (is.0, (n, free going, is.1)) ]
  ok_enough (Err e) stays is = tt

  pub err_few : (r : Result (Unit {0}) AreaError) → (failed ≡ true → r ≡ Err DeviceFault) → (r ≡ Err NoBlock → C × (n < count)) → r ≡ Err NoBlock → C × HasTooFew g s t count
  err_few r stays few short = elim (cases_Bool failed) [ inl was ↦ absurd (few_fault r short (stays was)) | inr going ↦ ((few short).0, (n, free going, (few short).1)) ]

module _ {M : Type 0} (device : Ghosts M) where
  -- no device has failed before a call behind which none has
  was_going : (old new : JournalView M) → (old.failed ≡ true → new ≡ old) → new.failed ≡ false → old.failed ≡ false
  was_going old new stays going = elim (cases_Bool old.failed) [
    | inl was ↦ absurd (true≢false (sym was ∙ sym (ap (λ (v : JournalView M). v.failed) (stays was)) ∙ going))
    | inr still ↦ still
  ]

  -- settled media with the graph and the marks from before
  same_ready : (old new : JournalView M) (pools pools' : PoolsView) (told : Marks) (units : ℕ) → new.geometry ≡ old.geometry
      → graph old.geometry (disk device new) ≡ graph old.geometry (disk device old) → marks (disk device new) ≡ marks (disk device old)
      → IsReady old.geometry (device.seen old.media) (device.left old.media (device.moment old.media)) pools told units → IsSettled new.geometry (device.seen new.media) (device.left new.media (device.moment new.media)) pools'
      → IsReady new.geometry (device.seen new.media) (device.left new.media (device.moment new.media)) pools' told units
  same_ready old new pools pools' told units geometry same_graph same_marks ready settled = record {
    opens = settled.opens;
    rests = settled.rests;
    ranges = settled.ranges;
    free = settled.free;
    marked = same_marks ∙ ready.marked;
    charged = ready.charged ∙ sym (ap charge (ap (λ (g : Sizes). graph g (disk device new)) geometry ∙ same_graph));
  }

  -- the graph and the marks of the store are as they were
  abbrev SameStore : JournalView M → JournalView M → Type 0
  SameStore old new = (graph old.geometry (disk device new) ≡ graph old.geometry (disk device old)) × (marks (disk device new) ≡ marks (disk device old))

  unmoved_store : (old new : JournalView M) → StaysStill device old new → SameStore old new
  unmoved_store old new is =
      let store : disk device new ≡ disk device old = ap store_of (tiers_same (device.seen old.media) (device.seen new.media) is.still.reads) in
      (ap (graph old.geometry) store, ap marks store)

  same_store : (old new : JournalView M) (r : Result (Unit {0}) AreaError) (i first count : ℕ) (to : Tier) → new.failed ≡ false
      → OnOk r (IsMovedStore old.geometry (disk device old) i first count to (disk device new)) → IfErr r (λ e. e ≢ DeviceFault → StaysStill device old new)
      → (IsErrOf r DeviceFault → new.failed ≡ true) → SameStore old new
  same_store old new (Ok x) i first count to going moved still fault = (moved.same_graph, moved.same_marks)
  same_store old new (Err DeviceFault) i first count to going moved still fault = absurd (true≢false (sym (fault refl) ∙ going))
  same_store old new (Err (Damaged part block)) i first count to going moved still fault = unmoved_store old new (still (λ e. cc))
  same_store old new (Err NotMapped) i first count to going moved still fault = unmoved_store old new (still (λ e. cc))
  same_store old new (Err NoBlock) i first count to going moved still fault = unmoved_store old new (still (λ e. cc))
  same_store old new (Err Memory) i first count to going moved still fault = unmoved_store old new (still (λ e. cc))

  -- what is in memory stays true
  pub ready_moved : (old new : JournalView M) (r : Result (Unit {0}) AreaError) (pools pools' : PoolsView) (told : Marks) (units i first count : ℕ) (to : Tier)
      → OnOk r (IsMovedStore old.geometry (disk device old) i first count to (disk device new)) → IfErr r (λ e. e ≢ DeviceFault → StaysStill device old new)
      → (IsErrOf r DeviceFault → new.failed ≡ true) → (new.failed ≡ false → IsSettled new.geometry (device.seen new.media) (device.left new.media (device.moment new.media)) pools') → (old.failed ≡ true → new ≡ old)
      → new.geometry ≡ old.geometry → (old.failed ≡ false → IsReady old.geometry (device.seen old.media) (device.left old.media (device.moment old.media)) pools told units)
      → new.failed ≡ false → IsReady new.geometry (device.seen new.media) (device.left new.media (device.moment new.media)) pools' told units
  ready_moved old new r pools pools' told units i first count to moved still fault settled stays geometry ready going =
      let same = same_store old new r i first count to going moved still fault in
      same_ready old new pools pools' told units geometry same.0 same.1 (ready (was_going old new stays going)) (settled going)

  pub moves_or_stays : (old new : JournalView M) (r : Result (Unit {0}) AreaError) → IfErr r (λ e. e ≢ DeviceFault → StaysStill device old new)
      → (IsErrOf r DeviceFault → (new.failed ≡ true) × ((old.failed ≡ true) ⊎ Rose (device.faults old.media) (device.faults new.media))) → (old.failed ≡ true → (r ≡ Err DeviceFault) × (new ≡ old))
      → OnOk r ((new.failed ≡ false) × (device.faults new.media ≡ device.faults old.media)) → new.geometry ≡ old.geometry → device.faults old.media ≤ device.faults new.media → device.faults new.media ≤ device.faults old.media + 1
      → MovesOrStays device old new r
  moves_or_stays old new r still fault stays quiet geometry more one = ends r still fault stays quiet
    where
      was : StaysStill device old new → (old.failed ≡ true → new ≡ old) → (device.faults new.media ≡ device.faults old.media) × (old.failed ≡ false) × (new.failed ≡ false)
      was is stays = (is.quiet, was_going old new stays is.going, is.going)

      ends : (r : Result (Unit {0}) AreaError) → IfErr r (λ e. e ≢ DeviceFault → StaysStill device old new)
          → (IsErrOf r DeviceFault → (new.failed ≡ true) × ((old.failed ≡ true) ⊎ Rose (device.faults old.media) (device.faults new.media))) → (old.failed ≡ true → (r ≡ Err DeviceFault) × (new ≡ old))
          → OnOk r ((new.failed ≡ false) × (device.faults new.media ≡ device.faults old.media)) → MovesOrStays device old new r
      ends (Ok x) still fault stays quiet = record {
        unmoved = tt;
        geometry = geometry;
        more_faults = more;
        one_fault = one;
        quiet = quiet.1;
        going = (was_going old new (λ failed. (stays failed).1) quiet.0, quiet.0);
        quiet_refused = tt;
        stays_failed = stays;
        fault = fault;
      }
      ends (Err e) still fault stays quiet = record {
        unmoved = λ other. (still other).still;
        geometry = geometry;
        more_faults = more;
        one_fault = one;
        quiet = tt;
        going = tt;
        quiet_refused = λ other. was (still other) (λ failed. (stays failed).1);
        stays_failed = stays;
        fault = fault;
      }
