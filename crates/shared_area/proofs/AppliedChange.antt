-- After a change what is in memory is true of the media, and what a stop leaves can be opened.
use Rattle.std.proofs.Common.{◌≡◌, ◌≢◌, ◌≤◌, ◌<◌, ◌+◌, ◌⊎◌, ◌∙◌, ℕ, List, ◌++◌, true, false, length, refl, sym, ap, inl, inr, arith}
use Rattle.std.specs.Prelude.{Result, Ok, Err, OnOk, IfErr, IsErrOf}
use Rattle.std.proofs.lemmas.Bool.{true≢false}
use Rattle.std.proofs.lemmas.List.{length-append, length-map}
use Rattle.tier_device.specs.declared.media.Media.{Ghosts}
use Rattle.tier_device.specs.declared.media.Tier.{Tier}
use Rattle.tier_device.specs.declared.media.Tier.TheVariants.{Fast, Block, Slow}
use Rattle.tier_device.specs.Media.{Rose}
use Rattle.record_validation.specs.file_graph.Units.{charge}
use Rattle.area_reader.specs.graph_change.Change.{Changes}
use Rattle.area_reader.specs.layout.declared.marks.Marks.{Marks}
use Rattle.area_reader.specs.layout.Places.{Sizes}
use Rattle.area_reader.specs.batch_journal.Course.{Unmoved}
use Rattle.area_reader.specs.batch_journal.View.{JournalView}
use Rattle.area_reader.proofs.batch_journal_lemmas.Courses.{tiers_same}
use Rattle.area_reader.specs.declared.error.AreaError.{AreaError}
use Rattle.area_reader.specs.Refusals.{IsChangeRefusal}
use Rattle.area_reader.specs.Store.{Store, disk, store_of, graph, marks}
use Rattle.area_reader.specs.Format.{IsOpenable}
use Rattle.area_reader.proofs.Frames.{loose_graph, loose_marks}
use Rattle.change_plan.specs.area_commit.Value.{PoolsView, free_data, on_tier, AreInOrder, HasRanges, AreFree}
use Rattle.change_plan.specs.area_commit.StableState.{IsSettled, StaysStill}
use Rattle.shared_area.specs.ChangeApply.{IsAppliedStore, MakesFewCalls, Applies, EndsChange}
use Rattle.area_reader.specs.declared.error.AreaError.TheVariants.{DeviceFault}
use Rattle.shared_area.specs.Ready.{IsReady}
use Rattle.shared_area.specs.GraphUpdate.{HasTooFewData, StaysOrChanges, AppliesOrStays}
use Rattle.shared_area.proofs.Counts.{data_count}
use Rattle.shared_area.proofs.Ready.{keeps_opens}

-- what a stop leaves at each moment
pub stays_or_changes : (g : Sizes) (s : Store) (cs : Changes) (v : Marks) (before now : ℕ) (old new : ℕ → Tier → List ℕ → Type 0) → IsOpenable g s → Applies g s cs v before now old new → StaysOrChanges g s cs v before now old new
stays_or_changes g s cs v before now old new opens applies = record {
  later = applies.later;
  past = applies.past;
  kept = applies.kept;
  any_moment = λ m content lo hi l. (let at = applies.any_moment m content lo hi l in record {
    volume = at.volume;
    store = elim at.store [
      | inl loose ↦ inl (record { volume = at.volume; opens = keeps_opens g s (store_of content) opens loose; same_graph = loose_graph g s (store_of content) loose; same_marks = loose_marks g s (store_of content) loose }, loose)
      | inr made ↦ inr made
    ];
  });
}

-- ---- how many data blocks are free

free_long : (p : PoolsView) → length (free_data p) ≡ length p.fast.free + length p.block.free + length p.slow.free
free_long p =
    let a = length-append (on_tier Fast p.fast.free) (on_tier Block p.block.free ++ on_tier Slow p.slow.free) in
    let b = length-append (on_tier Block p.block.free) (on_tier Slow p.slow.free) in
    let x = length-map {B = Tier × ℕ} p.fast.free (λ (k : ℕ). (Fast, k)) in
    let y = length-map {B = Tier × ℕ} p.block.free (λ (k : ℕ). (Block, k)) in
    let z = length-map {B = Tier × ℕ} p.slow.free (λ (k : ℕ). (Slow, k)) in
    omega (arith, a, b, x, y, z)

pub too_few_data : (g : Sizes) (s : Store) (p : PoolsView) (count : ℕ) → HasRanges g p → AreFree g s p → AreInOrder p → length (free_data p) < count → HasTooFewData g s count
too_few_data g s p count ranges free order few = (
  length p.fast.free,
  length p.block.free,
  length p.slow.free,
  data_count g s p ranges free order (length p.fast.free) Fast refl,
  data_count g s p ranges free order (length p.block.free) Block refl,
  data_count g s p ranges free order (length p.slow.free) Slow refl,
  (let all = free_long p in omega (arith, all, few)),
)

-- ---- a change that was made, or was not

module _ {M : Type 0} (device : Ghosts M)
    (sized : (x : M) (n : ℕ) (t : Tier) (c : List ℕ) → n ≤ device.moment x → device.left x n t c → length c ≡ length (device.seen x t)) where
  abbrev StillAt : JournalView M → JournalView M → Type 0
  StillAt old new = Unmoved (device.moment old.media) (device.moment new.media) (device.seen old.media) (device.seen new.media) (device.left old.media) (device.left new.media)

  module _ (cs : Changes) (v : Marks) where
    abbrev AppliesTo : JournalView M → JournalView M → Type 0
    AppliesTo old new = Applies old.geometry (disk device old) cs v (device.moment old.media) (device.moment new.media) (device.left old.media) (device.left new.media)

    abbrev EndsAt : JournalView M → JournalView M → PoolsView → Result (Unit {0}) AreaError → Type 0
    EndsAt old new pools r = EndsChange device cs v old new pools r

    failed_now : {A B C : Type 0} → A × (B ⊎ C) → (B → ⊥) → A × C
    failed_now p never = (p.0, elim p.1 [ inl b ↦ absurd (never b) | inr c ↦ c ])

    abbrev MakesFew : JournalView M → JournalView M → Type 0
    MakesFew old new = MakesFewCalls old.geometry (disk device old) cs (device.moment old.media) (device.moment new.media) (device.left old.media) (device.left new.media)

    store_still : (mid new : JournalView M) → StillAt mid new → disk device new ≡ disk device mid
    store_still mid new still = ap store_of (tiers_same (device.seen mid.media) (device.seen new.media) still.reads)

    -- what a change tells of media of which no device had failed
    pub ends_of : (old new : JournalView M) (pools : PoolsView) (r : Result (Unit {0}) AreaError) → old.failed ≡ false → (old.failed ≡ false → AppliesTo old new) → OnOk r (IsAppliedStore old.geometry (disk device old) cs v (disk device new))
        → (new.failed ≡ false → IsSettled new.geometry (device.seen new.media) (device.left new.media (device.moment new.media)) pools) → IfErr r IsChangeRefusal → IfErr r (λ e. e ≢ DeviceFault → StaysStill device old new)
        → (IsErrOf r DeviceFault → (new.failed ≡ true) × ((old.failed ≡ true) ⊎ Rose (device.faults old.media) (device.faults new.media))) → OnOk r ((new.failed ≡ false) × (device.faults new.media ≡ device.faults old.media))
        → new.geometry ≡ old.geometry → device.faults old.media ≤ device.faults new.media → device.faults new.media ≤ device.faults old.media + 1 → MakesFew old new → EndsAt old new pools r
    ends_of old new pools r going applies applied settled only unmoved fault quiet geometry more one few = record {
      any_moment = applies going;
      applied = applied;
      settled = settled;
      only = only;
      unmoved = unmoved;
      fault = λ is. failed_now (fault is) (λ was. true≢false (sym was ∙ going));
      quiet = quiet;
      geometry = geometry;
      more_faults = more;
      one_fault = one;
      at_most = few;
    }

    -- ---- what is in memory

    graph_on : (old mid : JournalView M) → StillAt old mid → mid.geometry ≡ old.geometry → graph mid.geometry (disk device mid) ≡ graph old.geometry (disk device old)
    graph_on old mid still geometry = ap (λ (g : Sizes). graph g (disk device mid)) geometry ∙ ap (graph old.geometry) (store_still old mid still)

    charge_on : (old mid : JournalView M) (units : ℕ) → StillAt old mid → mid.geometry ≡ old.geometry → units ≡ charge (graph old.geometry (disk device old)) → units ≡ charge (graph mid.geometry (disk device mid))
    charge_on old mid units still geometry is = is ∙ sym (ap charge (graph_on old mid still geometry))

    -- the change is made
    pub ready_made : (old new : JournalView M) (pools : PoolsView) (units : ℕ) (u : Unit {0}) → EndsAt old new pools (Ok u) → units ≡ charge (graph new.geometry (disk device new)) → IsReady new.geometry (device.seen new.media) (device.left new.media (device.moment new.media)) pools v units
    ready_made old new pools units u ends is = (let settled = ends.settled ends.quiet.0 in record { opens = settled.opens; rests = settled.rests; ranges = settled.ranges; free = settled.free; marked = ends.applied.new_marks; charged = is })

    -- or it is not
    pub ready_refused : (old new : JournalView M) (pools pools' : PoolsView) (told : Marks) (units : ℕ) (e : AreaError) → IsReady old.geometry (device.seen old.media) (device.left old.media (device.moment old.media)) pools told units → EndsAt old new pools' (Err e) → new.failed ≡ false → IsReady new.geometry (device.seen new.media) (device.left new.media (device.moment new.media)) pools' told units
    ready_refused old new pools pools' told units e ready ends going =
        let settled = ends.settled going in
        let other : e ≢ DeviceFault = λ is. true≢false (sym (ends.fault (ap Err is)).0 ∙ going) in
        let still = (ends.unmoved other).still in
        record {
          opens = settled.opens;
          rests = settled.rests;
          ranges = settled.ranges;
          free = settled.free;
          marked = ap marks (store_still old new still) ∙ ready.marked;
          charged = charge_on old new units still ends.geometry ready.charged;
        }

    pub applies_or_stays : (old new : JournalView M) (pools : PoolsView) (r : Result (Unit {0}) AreaError) → old.failed ≡ false → EndsAt old new pools r → AppliesOrStays device old new r
    applies_or_stays old new pools (Ok u) going ends = record {
      unmoved = tt;
      geometry = ends.geometry;
      more_faults = ends.more_faults;
      one_fault = ends.one_fault;
      quiet = ends.quiet.1;
      going = (going, ends.quiet.0);
      quiet_refused = tt;
      stays_failed = λ was. absurd (true≢false (sym was ∙ going));
      fault = λ is. (let f = ends.fault is in (f.0, inr f.1));
    }
    applies_or_stays old new pools (Err e) going ends = record {
      unmoved = λ other. (ends.unmoved other).still;
      geometry = ends.geometry;
      more_faults = ends.more_faults;
      one_fault = ends.one_fault;
      quiet = tt;
      going = tt;
      quiet_refused = λ other. (let is = ends.unmoved other in (is.quiet, going, is.going));
      stays_failed = λ was. absurd (true≢false (sym was ∙ going));
      fault = λ is. (let f = ends.fault is in (f.0, inr f.1));
    }

  -- an area that has failed
  pub failed_stays : (old : JournalView M) → old.failed ≡ true → AppliesOrStays device old old (Err DeviceFault)
  failed_stays old was = record {
    unmoved = λ other. absurd (other refl);
    geometry = refl;
    more_faults = omega arith;
    one_fault = omega arith;
    quiet = tt;
    going = tt;
    quiet_refused = λ other. absurd (other refl);
    stays_failed = λ _. (refl, refl);
    fault = λ _. (was, inl was);
  }
