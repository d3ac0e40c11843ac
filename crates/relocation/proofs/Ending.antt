-- How a move ends.
use Rattle.std.proofs.Common.{◌≡◌, ◌≢◌, ◌≤◌, ◌⊎◌, inl, inr, ◌+◌, ◌∙◌, ℕ, List, length, true, false, refl, sym, ap, subst, arith}
use Rattle.std.specs.Prelude.{Result, Ok, Err, OnOk, OnErr, IfErr, IsErrOf}
use Rattle.std.proofs.lemmas.Bool.{true≢false}
use Rattle.tier_device.specs.declared.media.Media.{Ghosts}
use Rattle.tier_device.specs.declared.media.Tier.{Tier}
use Rattle.tier_device.specs.declared.media.Tier.TheVariants.{Fast}
use Rattle.tier_device.specs.Media.{Rose}
use Rattle.inode_plan.specs.layout.declared.slot.Slot.{Slot}
use Rattle.inode_plan.specs.layout.Places.{Sizes, IsAllowed}
use Rattle.inode_plan.specs.batch_journal.Course.{Unmoved}
use Rattle.inode_plan.specs.batch_journal.View.{JournalView}
use Rattle.inode_plan.proofs.batch_journal_lemmas.Courses.{left_before, tiers_same, unmoved_on}
use Rattle.inode_plan.specs.area_reader.Store.{Store, disk, store_of}
use Rattle.inode_plan.specs.area_reader.Format.{IsOpenable}
use Rattle.inode_plan.specs.area_reader.Damage.{OnDamage}
use Rattle.inode_plan.specs.area_reader.Looks.{Looks}
use Rattle.inode_plan.specs.area_reader.Refusals.{IsMoveRefusal, IsChangeRefusal}
use Rattle.inode_plan.specs.extent_tree.Map.{TierRuns}
use Rattle.inode_plan.specs.area_commit.Value.{PoolsView, HasRanges, AreFree}
use Rattle.inode_plan.specs.area_reader.declared.error.AreaError.{AreaError}
use Rattle.inode_plan.specs.area_reader.declared.error.AreaError.TheVariants as errors
use Rattle.inode_plan.specs.area_commit.declared.plan.Rewrite.{Rewrite}
use Rattle.inode_plan.specs.area_commit.PlanOutcome.{IsCarriedOut, AllOrNothing}
use Rattle.inode_plan.proofs.area_commit_lemmas.Course.{Rests}
use Rattle.inode_plan.proofs.area_commit_lemmas.Moments.{rest_loose}
use Rattle.relocation.specs.declared.run_search.MovableRun.{MovableRun}
use Rattle.relocation.specs.MovedFile.{IsMovePlan, IsPlanOfMove}
use Rattle.relocation.specs.RunMove.{AreLowestFree, IsSettled, IsMovedStore, IsMovedOrNot, Moves, MovesInFewCalls, StaysStill, EndsMove}

-- ---- answers

-- refusals that differ
pub memory_fault : errors.Memory ≢ errors.DeviceFault
memory_fault e = cc

pub memory_block : errors.Memory ≢ errors.NoBlock
memory_block e = cc

pub mapped_fault : errors.NotMapped ≢ errors.DeviceFault
mapped_fault e = cc

pub mapped_memory : errors.NotMapped ≢ errors.Memory
mapped_memory e = cc

pub mapped_block : errors.NotMapped ≢ errors.NoBlock
mapped_block e = cc

pub block_fault : errors.NoBlock ≢ errors.DeviceFault
block_fault e = cc

pub block_memory : errors.NoBlock ≢ errors.Memory
block_memory e = cc

pub err_same : (e f : AreaError) → IsErrOf {T = Unit {0}} {E = AreaError} (Err e) f → e ≡ f
err_same e f is = cc

pub ok_no_err : (u : Unit {0}) (f : AreaError) → IsErrOf {T = Unit {0}} {E = AreaError} (Ok u) f → ⊥
ok_no_err u f is = cc

-- a fact holds under Ok, or a refusal
pub on_ok : {A : Type 0} (r : Result (Unit {0}) AreaError) → A → OnOk r A
on_ok (Ok u) a = a
on_ok (Err e) a = tt

pub ok_with : {A B : Type 0} (r : Result (Unit {0}) AreaError) → (A → B) → OnOk r A → OnOk r B
ok_with (Ok u) f a = f a
ok_with (Err e) f a = tt

pub err_with : {A B : Type 0} (r : Result (Unit {0}) AreaError) → (A → B) → OnErr r A → OnErr r B
err_with (Ok u) f a = tt
err_with (Err e) f a = f a

-- a refusal that a device or a want of memory causes
abbrev pub IsForced : AreaError → Type 0
IsForced e = (e ≡ errors.DeviceFault) ⊎ (e ≡ errors.Memory)

pub forced_only : (r : Result (Unit {0}) AreaError) (f : AreaError) → IfErr r IsForced → f ≢ errors.DeviceFault → f ≢ errors.Memory → IsErrOf r f → ⊥
forced_only (Ok u) f only fault memory is = ok_no_err u f is
forced_only (Err e) f only fault memory is = elim only [
  | inl failed ↦ fault (sym (err_same e f is) ∙ failed)
  | inr full ↦ memory (sym (err_same e f is) ∙ full)
]

pub forced_change : (r : Result (Unit {0}) AreaError) → IfErr r IsForced → IfErr r IsChangeRefusal
forced_change (Ok u) only = tt
forced_change (Err e) (inl fault) = subst IsChangeRefusal (sym fault) tt
forced_change (Err e) (inr full) = subst IsChangeRefusal (sym full) tt

pub never_mapped : (r : Result (Unit {0}) AreaError) → IfErr r IsChangeRefusal → IsErrOf r errors.NotMapped → ⊥
never_mapped (Ok u) only is = ok_no_err u errors.NotMapped is
never_mapped (Err e) only is = subst IsChangeRefusal (err_same e errors.NotMapped is) only

pub change_move : (r : Result (Unit {0}) AreaError) → IfErr r IsChangeRefusal → IfErr r IsMoveRefusal
change_move (Ok u) only = tt
change_move (Err errors.DeviceFault) only = tt
change_move (Err (errors.Damaged w b)) only = only
change_move (Err errors.NoBlock) only = tt
change_move (Err errors.NotMapped) only = tt
change_move (Err errors.Memory) only = tt

-- a refusal of a reader that finds no damage
pub sound_forced : (e : AreaError) → OnDamage e (λ _ _. ⊥) → IsForced e
sound_forced errors.DeviceFault sound = inl refl
sound_forced (errors.Damaged w b) sound = absurd sound
sound_forced errors.NoBlock sound = absurd sound
sound_forced errors.NotMapped sound = absurd sound
sound_forced errors.Memory sound = inr refl

-- ---- a plan that is carried out

-- What is known of the plan of a move.
abbrev pub CarriedOutMoves : Type 0
CarriedOutMoves = (g : Sizes) (s : Store) (i : ℕ) (to : Tier) (f : MovableRun) (x : Slot) (m : TierRuns) (plan : Rewrite) (new : Store) → IsAllowed g → IsOpenable g s → IsMovePlan g s i to f x m plan → IsCarriedOut g s plan new → IsMovedStore g s i f.run.first f.run.count to new

pub moved_for : CarriedOutMoves → (g : Sizes) (s : Store) (i first count : ℕ) (to : Tier) (plan : Rewrite) → IsAllowed g → IsOpenable g s → IsPlanOfMove g s i first count to plan → (new : Store) → IsCarriedOut g s plan new → IsMovedStore g s i first count to new
moved_for law g s i first count to plan allowed opens p new out =
    subst (λ (n : ℕ). IsMovedStore g s i first n to new) p.count_is (subst (λ (n : ℕ). IsMovedStore g s i n p.file.run.count to new) p.first_is (law g s i to p.file p.slot p.map plan new allowed opens p.is_plan out))

-- ---- courses

module _ {M : Type 0} (device : Ghosts M)
    (sized : (x : M) (n : ℕ) (t : Tier) (c : List ℕ) → n ≤ device.moment x → device.left x n t c → length c ≡ length (device.seen x t)) where
  -- The media are settled.
  abbrev pub SettledAt : JournalView M → PoolsView → Type 0
  SettledAt j pools = IsSettled j.geometry (device.seen j.media) (device.left j.media (device.moment j.media)) pools

  -- Nothing was written.
  abbrev pub StillAt : JournalView M → JournalView M → Type 0
  StillAt old new = Unmoved (device.moment old.media) (device.moment new.media) (device.seen old.media) (device.seen new.media) (device.left old.media) (device.left new.media)

  pub still_self : (j : JournalView M) → StillAt j j
  still_self j = record { clock = refl; reads = λ t. refl; past = λ m t c le l. l; kept = λ m t c le l. l }

  pub settled_still : (old new : JournalView M) (pools : PoolsView) → StillAt old new → new.geometry ≡ old.geometry → SettledAt old pools → SettledAt new pools
  settled_still old new pools still geometry settled =
      let same : disk device new ≡ disk device old = ap store_of (tiers_same (device.seen old.media) (device.seen new.media) still.reads) in
      record {
        opens = subst (λ (g : Sizes). IsOpenable g (disk device new)) (sym geometry) (subst (IsOpenable old.geometry) (sym same) settled.opens);
        rests = λ t c l. settled.rests t c (left_before still t c l) ∙ sym (still.reads t);
        ranges = subst (λ (g : Sizes). HasRanges g pools) (sym geometry) settled.ranges;
        free = subst (λ (g : Sizes). AreFree g (disk device new) pools) (sym geometry) (subst (λ (s : Store). AreFree old.geometry s pools) (sym same) settled.free);
      }

  module _ (i first count : ℕ) (to : Tier) where
    -- what a move may leave, from one journal to another
    abbrev MovesTo : JournalView M → JournalView M → Type 0
    MovesTo old new = Moves old.geometry (disk device old) i first count to (device.moment old.media) (device.moment new.media) (device.left old.media) (device.left new.media)

    -- how many calls there are between them
    abbrev FewTo : JournalView M → JournalView M → Type 0
    FewTo old new = MovesInFewCalls old.geometry (disk device old) to count (device.moment old.media) (device.moment new.media)

    few_still : (old new : JournalView M) → StillAt old new → FewTo old new
    few_still old new still = inl (let clock = still.clock in omega (arith, clock))

    few_on : (old mid new : JournalView M) → StillAt old mid → mid.geometry ≡ old.geometry → FewTo mid new → FewTo old new
    few_on old mid new still geometry (inl none) = inl (let clock = still.clock in omega (arith, none, clock))
    few_on old mid new still geometry (inr some) = inr (record {
      runs = some.runs;
      lowest = subst (λ (g : Sizes). AreLowestFree g (disk device old) to count some.runs) geometry (subst (λ (s : Store). AreLowestFree mid.geometry s to count some.runs) (ap store_of (tiers_same (device.seen old.media) (device.seen mid.media) still.reads)) some.lowest);
      few = (let few = some.few in let clock = still.clock in omega (arith, few, clock));
    })

    abbrev EndsAt : JournalView M → JournalView M → PoolsView → Result (Unit {0}) AreaError → Type 0
    EndsAt old new pools r = EndsMove device i first count to old new pools r

    back : (old new : JournalView M) → StillAt old new → (m : ℕ) → device.moment old.media ≤ m → m ≤ device.moment new.media → (t : Tier) (c : List ℕ) → device.left new.media m t c → device.left old.media (device.moment old.media) t c
    back old new still m lo hi t c l = subst (λ (n : ℕ). device.left old.media n t c) (omega (arith, lo, hi, still.clock)) (still.past m t c (omega (arith, hi, still.clock)) l)

    moves_still : (old new : JournalView M) → Rests device old.geometry old.media → StillAt old new → MovesTo old new
    moves_still old new rests still = record {
      later = omega (arith, still.clock);
      past = still.past;
      kept = still.kept;
      any_moment = λ m content lo hi l. record {
        volume = record {
          sizes = λ t. sized old.media (device.moment old.media) t (content t) (omega arith) (back old new still m lo hi t (content t) (l t)) ∙ rests.sizes t;
          journal = rests.journal (content Fast) (back old new still m lo hi Fast (content Fast) (l Fast));
        };
        store = inl (λ t. rest_loose old.geometry (device.seen old.media) (device.left old.media (device.moment old.media)) rests.rest t (content t) (back old new still m lo hi t (content t) (l t)));
      };
    }

    -- ---- refusals

    pub ends_fault : (old new : JournalView M) (pools : PoolsView) → MovesTo old new → FewTo old new → (new.failed ≡ true) × Rose (device.faults old.media) (device.faults new.media) → new.geometry ≡ old.geometry → device.faults old.media ≤ device.faults new.media → device.faults new.media ≤ device.faults old.media + 1
        → EndsAt old new pools (Err errors.DeviceFault)
    ends_fault old new pools moves few fault geometry more one = record {
      any_moment = moves;
      moved = tt;
      settled = λ going. absurd (true≢false (sym fault.0 ∙ going));
      unmoved = λ other. absurd (other refl);
      fault = λ is. fault;
      quiet = tt;
      geometry = geometry;
      more_faults = more;
      one_fault = one;
      few = few;
    }

    pub ends_refused : (old new : JournalView M) (pools : PoolsView) (e : AreaError) → e ≢ errors.DeviceFault → Rests device old.geometry old.media → StillAt old new → new.geometry ≡ old.geometry → new.failed ≡ false → device.faults new.media ≡ device.faults old.media
        → SettledAt old pools → EndsAt old new pools (Err e)
    ends_refused old new pools e other rests still geometry going quiet settled = record {
      any_moment = moves_still old new rests still;
      moved = tt;
      settled = λ g. settled_still old new pools still geometry settled;
      unmoved = λ o. record { still = still; going = going; quiet = quiet };
      fault = λ is. absurd (other (err_same e errors.DeviceFault is));
      quiet = tt;
      geometry = geometry;
      more_faults = omega (arith, quiet);
      one_fault = omega (arith, quiet);
      few = few_still old new still;
    }

    failed_now : {A B C : Type 0} → A × (B ⊎ C) → (B → ⊥) → A × C
    failed_now p never = (p.0, elim p.1 [ inl b ↦ absurd (never b) | inr c ↦ c ])

    -- what a reader was refused for
    pub ends_told : {T : Type 0} (old new : JournalView M) (pools : PoolsView) (e : AreaError) → IsForced e → Looks {T = T} device old new (Err e) → old.failed ≡ false → Rests device old.geometry old.media → SettledAt old pools → EndsAt old new pools (Err e)
    ends_told {T = T} old new pools e (inl is) looks going rests settled =
        let failed : Looks {T = T} device old new (Err errors.DeviceFault) = subst (λ (x : AreaError). Looks {T = T} device old new (Err x)) is looks in
        subst (λ (x : AreaError). EndsAt old new pools (Err x)) (sym is) (
        ends_fault old new pools (moves_still old new rests looks.unmoved) (few_still old new looks.unmoved) (failed_now (failed.fault refl) (λ was. true≢false (sym was ∙ going))) looks.geometry looks.more_faults looks.one_fault
        )
    ends_told {T = T} old new pools e (inr is) looks going rests settled =
        let full : Looks {T = T} device old new (Err errors.Memory) = subst (λ (x : AreaError). Looks {T = T} device old new (Err x)) is looks in
        let q = full.quiet_refused memory_fault in
        subst (λ (x : AreaError). EndsAt old new pools (Err x)) (sym is) (ends_refused old new pools errors.Memory memory_fault rests looks.unmoved looks.geometry q.2 q.0 settled)

    -- ---- reads, and then a move

    moves_on : (old mid new : JournalView M) → StillAt old mid → mid.geometry ≡ old.geometry → MovesTo mid new → MovesTo old new
    moves_on old mid new still geometry moves = record {
      later = omega (arith, still.clock, moves.later);
      past = λ m t c le l. still.past m t c le (moves.past m t c (omega (arith, le, still.clock)) l);
      kept = λ m t c le l. moves.kept m t c (omega (arith, le, still.clock)) (still.kept m t c le l);
      any_moment = λ m content lo hi l.
          let same : disk device mid ≡ disk device old = ap store_of (tiers_same (device.seen old.media) (device.seen mid.media) still.reads) in
          subst (λ (g : Sizes). IsMovedOrNot g (disk device old) i first count to content) geometry (
          subst (λ (s : Store). IsMovedOrNot mid.geometry s i first count to content) same (moves.any_moment m content (omega (arith, lo, still.clock)) hi l)
          );
    }

    moved_on : (old mid new : JournalView M) → StillAt old mid → mid.geometry ≡ old.geometry → IsMovedStore mid.geometry (disk device mid) i first count to (disk device new) → IsMovedStore old.geometry (disk device old) i first count to (disk device new)
    moved_on old mid new still geometry moved =
        let same : disk device mid ≡ disk device old = ap store_of (tiers_same (device.seen old.media) (device.seen mid.media) still.reads) in
        subst (λ (g : Sizes). IsMovedStore g (disk device old) i first count to (disk device new)) geometry (
        subst (λ (s : Store). IsMovedStore mid.geometry s i first count to (disk device new)) same moved
        )

    still_on : (old mid new : JournalView M) → StillAt old mid → device.faults mid.media ≡ device.faults old.media → StaysStill device mid new → StaysStill device old new
    still_on old mid new still quiet stays = record { still = unmoved_on still stays.still; going = stays.going; quiet = stays.quiet ∙ quiet }

    pub ends_on : (old mid new : JournalView M) (pools : PoolsView) (r : Result (Unit {0}) AreaError) → StillAt old mid → mid.geometry ≡ old.geometry → device.faults mid.media ≡ device.faults old.media → EndsAt mid new pools r → EndsAt old new pools r
    ends_on old mid new pools (Ok u) still geometry quiet ends = record {
      any_moment = moves_on old mid new still geometry ends.any_moment;
      moved = moved_on old mid new still geometry ends.moved;
      settled = ends.settled;
      unmoved = tt;
      fault = λ is. absurd (ok_no_err u errors.DeviceFault is);
      quiet = (ends.quiet.0, ends.quiet.1 ∙ quiet);
      geometry = ends.geometry ∙ geometry;
      more_faults = (let more = ends.more_faults in omega (arith, more, quiet));
      one_fault = (let one = ends.one_fault in omega (arith, one, quiet));
      few = few_on old mid new still geometry ends.few;
    }
    ends_on old mid new pools (Err e) still geometry quiet ends = record {
      any_moment = moves_on old mid new still geometry ends.any_moment;
      moved = tt;
      settled = ends.settled;
      unmoved = λ other. still_on old mid new still quiet (ends.unmoved other);
      fault = λ is. (let f = ends.fault is in (f.0, subst (λ (n : ℕ). Rose n (device.faults new.media)) quiet f.1));
      quiet = tt;
      geometry = ends.geometry ∙ geometry;
      more_faults = (let more = ends.more_faults in omega (arith, more, quiet));
      one_fault = (let one = ends.one_fault in omega (arith, one, quiet));
      few = few_on old mid new still geometry ends.few;
    }

    -- ---- a plan that is carried out

    module _ (old new : JournalView M) (plan : Rewrite) (done : (store : Store) → IsCarriedOut old.geometry (disk device old) plan store → IsMovedStore old.geometry (disk device old) i first count to store)
        (all : AllOrNothing old.geometry (disk device old) plan (device.moment old.media) (device.moment new.media) (device.left old.media) (device.left new.media)) where
      moves_all : MovesTo old new
      moves_all = record {
        later = all.later;
        past = all.past;
        kept = all.kept;
        any_moment = λ m content lo hi l.
            let at = all.any_moment m content lo hi l in
            record { volume = at.volume; store = elim at.store [ inl loose ↦ inl loose | inr out ↦ inr (done (store_of content) out) ] };
      }

      pub ends_done : (u : Unit {0}) (pools : PoolsView) → FewTo old new → IsCarriedOut old.geometry (disk device old) plan (disk device new) → SettledAt new pools → (new.failed ≡ false) × (device.faults new.media ≡ device.faults old.media) → new.geometry ≡ old.geometry → EndsAt old new pools (Ok u)
      ends_done u pools few out settled quiet geometry = record {
        any_moment = moves_all;
        moved = done (disk device new) out;
        settled = λ g. settled;
        unmoved = tt;
        fault = λ is. absurd (ok_no_err u errors.DeviceFault is);
        quiet = quiet;
        geometry = geometry;
        more_faults = (let q = quiet.1 in omega (arith, q));
        one_fault = (let q = quiet.1 in omega (arith, q));
        few = few;
      }

      pub ends_undone : (pools : PoolsView) (e : AreaError) → FewTo old new → IsForced e → (e ≡ errors.DeviceFault → (new.failed ≡ true) × Rose (device.faults old.media) (device.faults new.media)) → (e ≡ errors.Memory → Looks {T = Unit {0}} device old new (Err e)) → new.geometry ≡ old.geometry → device.faults old.media ≤ device.faults new.media
          → device.faults new.media ≤ device.faults old.media + 1 → old.failed ≡ false → Rests device old.geometry old.media → SettledAt old pools → EndsAt old new pools (Err e)
      ends_undone pools e few (inl is) fault memory geometry more one going rests settled = subst (λ (x : AreaError). EndsAt old new pools (Err x)) (sym is) (ends_fault old new pools moves_all few (fault is) geometry more one)
      ends_undone pools e few (inr is) fault memory geometry more one going rests settled = ends_told old new pools e (inr is) (memory is) going rests settled
