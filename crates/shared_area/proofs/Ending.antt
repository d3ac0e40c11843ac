-- How a change ends.
use Rattle.std.proofs.Common.{◌≡◌, ◌≢◌, ◌≤◌, ◌⊎◌, inl, inr, ◌+◌, ◌∙◌, ℕ, List, length, true, false, refl, sym, ap, subst, arith}
use Rattle.std.specs.Prelude.{Result, Ok, Err, OnErr, IfErr, IsErrOf}
use Rattle.std.proofs.lemmas.Bool.{true≢false}
use Rattle.tier_device.specs.declared.media.Media.{Ghosts}
use Rattle.tier_device.specs.declared.media.Tier.{Tier}
use Rattle.tier_device.specs.declared.media.Tier.TheVariants.{Fast}
use Rattle.tier_device.specs.Media.{Rose}
use Rattle.area_reader.specs.graph_change.Change.{Changes}
use Rattle.area_reader.specs.layout.declared.marks.Marks.{Marks}
use Rattle.area_reader.specs.layout.Places.{Sizes}
use Rattle.area_reader.specs.batch_journal.Course.{Unmoved}
use Rattle.area_reader.specs.batch_journal.View.{JournalView}
use Rattle.area_reader.proofs.batch_journal_lemmas.Courses.{left_before, tiers_same, unmoved_on}
use Rattle.area_reader.specs.declared.error.AreaError.{AreaError}
use Rattle.area_reader.specs.declared.error.AreaError.TheVariants as errors
use Rattle.area_reader.specs.Refusals.{IsChangeRefusal}
use Rattle.area_reader.specs.Store.{Store, disk, store_of}
use Rattle.area_reader.specs.Format.{IsOpenable}
use Rattle.area_reader.specs.Looks.{Looks}
use Rattle.change_plan.specs.area_commit.Value.{PoolsView, HasRanges, AreFree}
use Rattle.change_plan.specs.area_commit.declared.plan.Rewrite.{Rewrite}
use Rattle.change_plan.specs.area_commit.PlanOutcome.{IsCarriedOut, AllOrNothing}
use Rattle.change_plan.specs.area_commit.StableState.{IsSettled, StaysStill}
use Rattle.change_plan.proofs.area_commit_lemmas.Course.{Rests}
use Rattle.change_plan.proofs.area_commit_lemmas.Moments.{rest_loose}
use Rattle.shared_area.specs.ChangeApply.{IsAppliedStore, IsAppliedOrNot, MakesFewCalls, Applies, EndsChange}
use Rattle.shared_area.specs.Errors.{IsForced}
use Rattle.shared_area.proofs.Calls.{few_behind}

-- ---- answers

-- refusals that differ
pub memory_fault : errors.Memory ≢ errors.DeviceFault
memory_fault e = cc

pub memory_block : errors.Memory ≢ errors.NoBlock
memory_block e = cc

pub block_fault : errors.NoBlock ≢ errors.DeviceFault
block_fault e = cc

pub block_memory : errors.NoBlock ≢ errors.Memory
block_memory e = cc

pub err_same : {R : Type 0} (e f : AreaError) → IsErrOf {T = R} {E = AreaError} (Err e) f → e ≡ f
err_same e f is = cc

pub ok_no_err : {R : Type 0} (u : R) (f : AreaError) → IsErrOf {T = R} {E = AreaError} (Ok u) f → ⊥
ok_no_err u f is = cc

pub err_with : {A B R : Type 0} (r : Result R AreaError) → (A → B) → OnErr r A → OnErr r B
err_with (Ok u) f a = tt
err_with (Err e) f a = f a

-- a device fault, or a want of memory, is no want of blocks
pub forced_block : {R : Type 0} (r : Result R AreaError) → IfErr r IsForced → IsErrOf r errors.NoBlock → ⊥
forced_block (Ok u) only is = ok_no_err u errors.NoBlock is
forced_block (Err e) only is = elim only [
  | inl failed ↦ block_fault (sym (err_same e errors.NoBlock is) ∙ failed)
  | inr full ↦ block_memory (sym (err_same e errors.NoBlock is) ∙ full)
]

pub forced_change : (e : AreaError) → IsForced e → IsChangeRefusal e
forced_change e (inl fault) = subst IsChangeRefusal (sym fault) tt
forced_change e (inr full) = subst IsChangeRefusal (sym full) tt

-- ---- courses

module _ {M : Type 0} (device : Ghosts M)
    (sized : (x : M) (n : ℕ) (t : Tier) (c : List ℕ) → n ≤ device.moment x → device.left x n t c → length c ≡ length (device.seen x t)) where
  -- The media are settled.
  abbrev pub SettledAt : JournalView M → PoolsView → Type 0
  SettledAt j pools = IsSettled j.geometry (device.seen j.media) (device.left j.media (device.moment j.media)) pools

  -- Nothing was written.
  abbrev pub StillAt : JournalView M → JournalView M → Type 0
  StillAt old new = Unmoved (device.moment old.media) (device.moment new.media) (device.seen old.media) (device.seen new.media) (device.left old.media) (device.left new.media)

  pub still_self : (j : JournalView M) → StillAt j j
  still_self j = record { clock = refl; reads = λ t. refl; past = λ m t c le l. l; kept = λ m t c le l. l }

  pub settled_still : (old new : JournalView M) (pools : PoolsView) → StillAt old new → new.geometry ≡ old.geometry → SettledAt old pools → SettledAt new pools
  settled_still old new pools still geometry settled =
      let same : disk device new ≡ disk device old = ap store_of (tiers_same (device.seen old.media) (device.seen new.media) still.reads) in
      record {
        opens = subst (λ (g : Sizes). IsOpenable g (disk device new)) (sym geometry) (subst (IsOpenable old.geometry) (sym same) settled.opens);
        rests = λ t c l. settled.rests t c (left_before still t c l) ∙ sym (still.reads t);
        ranges = subst (λ (g : Sizes). HasRanges g pools) (sym geometry) settled.ranges;
        free = subst (λ (g : Sizes). AreFree g (disk device new) pools) (sym geometry) (subst (λ (s : Store). AreFree old.geometry s pools) (sym same) settled.free);
      }

  module _ (cs : Changes) (v : Marks) where
    -- what a change may leave, from one journal to another
    abbrev AppliesTo : JournalView M → JournalView M → Type 0
    AppliesTo old new = Applies old.geometry (disk device old) cs v (device.moment old.media) (device.moment new.media) (device.left old.media) (device.left new.media)

    -- how many calls it makes
    abbrev MakesFew : JournalView M → JournalView M → Type 0
    MakesFew old new = MakesFewCalls old.geometry (disk device old) cs (device.moment old.media) (device.moment new.media) (device.left old.media) (device.left new.media)

    abbrev EndsAt : {R : Type 0} → JournalView M → JournalView M → PoolsView → Result R AreaError → Type 0
    EndsAt old new pools r = EndsChange device cs v old new pools r

    back : (old new : JournalView M) → StillAt old new → (m : ℕ) → device.moment old.media ≤ m → m ≤ device.moment new.media → (t : Tier) (c : List ℕ) → device.left new.media m t c → device.left old.media (device.moment old.media) t c
    back old new still m lo hi t c l = subst (λ (n : ℕ). device.left old.media n t c) (omega (arith, lo, hi, still.clock)) (still.past m t c (omega (arith, hi, still.clock)) l)

    applies_still : (old new : JournalView M) → Rests device old.geometry old.media → StillAt old new → AppliesTo old new
    applies_still old new rests still = record {
      later = omega (arith, still.clock);
      past = still.past;
      kept = still.kept;
      any_moment = λ m content lo hi l. record {
        volume = record {
          sizes = λ t. sized old.media (device.moment old.media) t (content t) (omega arith) (back old new still m lo hi t (content t) (l t)) ∙ rests.sizes t;
          journal = rests.journal (content Fast) (back old new still m lo hi Fast (content Fast) (l Fast));
        };
        store = inl (λ t. rest_loose old.geometry (device.seen old.media) (device.left old.media (device.moment old.media)) rests.rest t (content t) (back old new still m lo hi t (content t) (l t)));
      };
    }

    none_still : (old new : JournalView M) → StillAt old new → MakesFew old new
    none_still old new still = inl (omega (arith, still.clock))

    -- ---- refusals

    ends_fault : {R : Type 0} (old new : JournalView M) (pools : PoolsView) → AppliesTo old new → (new.failed ≡ true) × Rose (device.faults old.media) (device.faults new.media) → new.geometry ≡ old.geometry → device.faults old.media ≤ device.faults new.media → device.faults new.media ≤ device.faults old.media + 1 → MakesFew old new → EndsAt {R = R} old new pools (Err errors.DeviceFault)
    ends_fault old new pools applies fault geometry more one few = record {
      any_moment = applies;
      applied = tt;
      settled = λ going. absurd (true≢false (sym fault.0 ∙ going));
      only = tt;
      unmoved = λ other. absurd (other refl);
      fault = λ is. fault;
      quiet = tt;
      geometry = geometry;
      more_faults = more;
      one_fault = one;
      at_most = few;
    }

    pub ends_refused : {R : Type 0} (old new : JournalView M) (pools : PoolsView) (e : AreaError) → IsChangeRefusal e → e ≢ errors.DeviceFault → Rests device old.geometry old.media → StillAt old new → new.geometry ≡ old.geometry → new.failed ≡ false → device.faults new.media ≡ device.faults old.media
        → SettledAt old pools → EndsAt {R = R} old new pools (Err e)
    ends_refused old new pools e change other rests still geometry going quiet settled = record {
      any_moment = applies_still old new rests still;
      applied = tt;
      settled = λ g. settled_still old new pools still geometry settled;
      only = change;
      unmoved = λ o. record { still = still; going = going; quiet = quiet };
      fault = λ is. absurd (other (err_same e errors.DeviceFault is));
      quiet = tt;
      geometry = geometry;
      more_faults = omega (arith, quiet);
      one_fault = omega (arith, quiet);
      at_most = none_still old new still;
    }

    failed_now : {A B C : Type 0} → A × (B ⊎ C) → (B → ⊥) → A × C
    failed_now p never = (p.0, elim p.1 [ inl b ↦ absurd (never b) | inr c ↦ c ])

    -- what a reader was refused for
    pub ends_told : {T R : Type 0} (old new : JournalView M) (pools : PoolsView) (e : AreaError) → IsForced e → Looks {T = T} device old new (Err e) → old.failed ≡ false → Rests device old.geometry old.media → SettledAt old pools → EndsAt {R = R} old new pools (Err e)
    ends_told {T = T} {R = R} old new pools e (inl is) looks going rests settled =
        let failed : Looks {T = T} device old new (Err errors.DeviceFault) = subst (λ (x : AreaError). Looks {T = T} device old new (Err x)) is looks in
        subst (λ (x : AreaError). EndsAt {R = R} old new pools (Err x)) (sym is) (
        ends_fault old new pools (applies_still old new rests looks.unmoved) (failed_now (failed.fault refl) (λ was. true≢false (sym was ∙ going))) looks.geometry looks.more_faults looks.one_fault (none_still old new looks.unmoved)
        )
    ends_told {T = T} {R = R} old new pools e (inr is) looks going rests settled =
        let full : Looks {T = T} device old new (Err errors.Memory) = subst (λ (x : AreaError). Looks {T = T} device old new (Err x)) is looks in
        let q = full.quiet_refused memory_fault in
        subst (λ (x : AreaError). EndsAt {R = R} old new pools (Err x)) (sym is) (ends_refused old new pools errors.Memory tt memory_fault rests looks.unmoved looks.geometry q.2 q.0 settled)

    -- ---- reads, and then a change

    applies_on : (old mid new : JournalView M) → StillAt old mid → mid.geometry ≡ old.geometry → AppliesTo mid new → AppliesTo old new
    applies_on old mid new still geometry applies = record {
      later = omega (arith, still.clock, applies.later);
      past = λ m t c le l. still.past m t c le (applies.past m t c (omega (arith, le, still.clock)) l);
      kept = λ m t c le l. applies.kept m t c (omega (arith, le, still.clock)) (still.kept m t c le l);
      any_moment = λ m content lo hi l.
          let same : disk device mid ≡ disk device old = ap store_of (tiers_same (device.seen old.media) (device.seen mid.media) still.reads) in
          subst (λ (g : Sizes). IsAppliedOrNot g (disk device old) cs v content) geometry (
          subst (λ (s : Store). IsAppliedOrNot mid.geometry s cs v content) same (applies.any_moment m content (omega (arith, lo, still.clock)) hi l)
          );
    }

    applied_on : (old mid new : JournalView M) → StillAt old mid → mid.geometry ≡ old.geometry → IsAppliedStore mid.geometry (disk device mid) cs v (disk device new) → IsAppliedStore old.geometry (disk device old) cs v (disk device new)
    applied_on old mid new still geometry applied =
        let same : disk device mid ≡ disk device old = ap store_of (tiers_same (device.seen old.media) (device.seen mid.media) still.reads) in
        subst (λ (g : Sizes). IsAppliedStore g (disk device old) cs v (disk device new)) geometry (
        subst (λ (s : Store). IsAppliedStore mid.geometry s cs v (disk device new)) same applied
        )

    still_on : (old mid new : JournalView M) → StillAt old mid → device.faults mid.media ≡ device.faults old.media → StaysStill device mid new → StaysStill device old new
    still_on old mid new still quiet stays = record { still = unmoved_on still stays.still; going = stays.going; quiet = stays.quiet ∙ quiet }

    few_on : (old mid new : JournalView M) → StillAt old mid → mid.geometry ≡ old.geometry → MakesFew mid new → MakesFew old new
    few_on old mid new still geometry few =
        let same : disk device mid ≡ disk device old = ap store_of (tiers_same (device.seen old.media) (device.seen mid.media) still.reads) in
        subst (λ (g : Sizes). MakesFewCalls g (disk device old) cs (device.moment old.media) (device.moment new.media) (device.left old.media) (device.left new.media)) geometry (
        subst (λ (s : Store). MakesFewCalls mid.geometry s cs (device.moment old.media) (device.moment new.media) (device.left old.media) (device.left new.media)) same (
        few_behind mid.geometry (disk device mid) cs (device.moment old.media) (device.moment mid.media) (device.moment new.media) (device.left old.media) (device.left mid.media) (device.left new.media) still.clock still.past few
        ))

    pub ends_on : {R : Type 0} (old mid new : JournalView M) (pools : PoolsView) (r : Result R AreaError) → StillAt old mid → mid.geometry ≡ old.geometry → device.faults mid.media ≡ device.faults old.media → EndsAt mid new pools r → EndsAt old new pools r
    ends_on old mid new pools (Ok u) still geometry quiet ends = record {
      any_moment = applies_on old mid new still geometry ends.any_moment;
      applied = applied_on old mid new still geometry ends.applied;
      settled = ends.settled;
      only = tt;
      unmoved = tt;
      fault = λ is. absurd (ok_no_err u errors.DeviceFault is);
      quiet = (ends.quiet.0, ends.quiet.1 ∙ quiet);
      geometry = ends.geometry ∙ geometry;
      more_faults = (let more = ends.more_faults in omega (arith, more, quiet));
      one_fault = (let one = ends.one_fault in omega (arith, one, quiet));
      at_most = few_on old mid new still geometry ends.at_most;
    }
    ends_on old mid new pools (Err e) still geometry quiet ends = record {
      any_moment = applies_on old mid new still geometry ends.any_moment;
      applied = tt;
      settled = ends.settled;
      only = ends.only;
      unmoved = λ other. still_on old mid new still quiet (ends.unmoved other);
      fault = λ is. (let f = ends.fault is in (f.0, subst (λ (n : ℕ). Rose n (device.faults new.media)) quiet f.1));
      quiet = tt;
      geometry = ends.geometry ∙ geometry;
      more_faults = (let more = ends.more_faults in omega (arith, more, quiet));
      one_fault = (let one = ends.one_fault in omega (arith, one, quiet));
      at_most = few_on old mid new still geometry ends.at_most;
    }

    -- ---- what is answered is another value

    pub ends_ok : {R Q : Type 0} (old new : JournalView M) (pools : PoolsView) (x : R) (y : Q) → EndsAt old new pools (Ok x) → EndsAt old new pools (Ok y)
    ends_ok old new pools x y ends = record {
      any_moment = ends.any_moment;
      applied = ends.applied;
      settled = ends.settled;
      only = tt;
      unmoved = tt;
      fault = λ is. absurd (ok_no_err y errors.DeviceFault is);
      quiet = ends.quiet;
      geometry = ends.geometry;
      more_faults = ends.more_faults;
      one_fault = ends.one_fault;
      at_most = ends.at_most;
    }

    pub ends_err : {R Q : Type 0} (old new : JournalView M) (pools : PoolsView) (e : AreaError) → EndsAt {R = R} old new pools (Err e) → EndsAt {R = Q} old new pools (Err e)
    ends_err old new pools e ends = record {
      any_moment = ends.any_moment;
      applied = tt;
      settled = ends.settled;
      only = ends.only;
      unmoved = ends.unmoved;
      fault = λ is. ends.fault (ap Err (err_same e errors.DeviceFault is));
      quiet = tt;
      geometry = ends.geometry;
      more_faults = ends.more_faults;
      one_fault = ends.one_fault;
      at_most = ends.at_most;
    }

    -- ---- a plan that is carried out

    module _ (old new : JournalView M) (plan : Rewrite) (done : (store : Store) → IsCarriedOut old.geometry (disk device old) plan store → IsAppliedStore old.geometry (disk device old) cs v store)
        (all : AllOrNothing old.geometry (disk device old) plan (device.moment old.media) (device.moment new.media) (device.left old.media) (device.left new.media)) (few : MakesFew old new) where
      applies_all : AppliesTo old new
      applies_all = record {
        later = all.later;
        past = all.past;
        kept = all.kept;
        any_moment = λ m content lo hi l.
            let at = all.any_moment m content lo hi l in
            record { volume = at.volume; store = elim at.store [ inl loose ↦ inl loose | inr out ↦ inr (done (store_of content) out) ] };
      }

      pub ends_done : (u : Unit {0}) (pools : PoolsView) → IsCarriedOut old.geometry (disk device old) plan (disk device new) → SettledAt new pools → (new.failed ≡ false) × (device.faults new.media ≡ device.faults old.media) → new.geometry ≡ old.geometry → EndsAt old new pools (Ok u)
      ends_done u pools out settled quiet geometry = record {
        any_moment = applies_all;
        applied = done (disk device new) out;
        settled = λ g. settled;
        only = tt;
        unmoved = tt;
        fault = λ is. absurd (ok_no_err u errors.DeviceFault is);
        quiet = quiet;
        geometry = geometry;
        more_faults = (let q = quiet.1 in omega (arith, q));
        one_fault = (let q = quiet.1 in omega (arith, q));
        at_most = few;
      }

      pub ends_undone : (pools : PoolsView) (e : AreaError) → IsForced e → (e ≡ errors.DeviceFault → (new.failed ≡ true) × Rose (device.faults old.media) (device.faults new.media)) → (e ≡ errors.Memory → Looks {T = Unit {0}} device old new (Err e)) → new.geometry ≡ old.geometry → device.faults old.media ≤ device.faults new.media
          → device.faults new.media ≤ device.faults old.media + 1 → old.failed ≡ false → Rests device old.geometry old.media → SettledAt old pools → EndsAt {R = Unit {0}} old new pools (Err e)
      ends_undone pools e (inl is) fault memory geometry more one going rests settled = subst (λ (x : AreaError). EndsAt {R = Unit {0}} old new pools (Err x)) (sym is) (ends_fault old new pools applies_all (fault is) geometry more one few)
      ends_undone pools e (inr is) fault memory geometry more one going rests settled = ends_told old new pools e (inr is) (memory is) going rests settled
