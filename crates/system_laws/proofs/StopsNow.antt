-- Whatever a stop leaves now of a system that stands for a world is recovered to its tree.
use Rattle.std.proofs.Common.{◌≡◌, ◌≢◌, ◌⊎◌, inl, ℕ, ◌%◌, ◌<◌, ◌≤◌, Bool, true, false, List, [], length, Option, Some, None, refl, ap, sym, ◌∙◌, subst, arith}
use Rattle.std.specs.Prelude.{IfSome, is_some}
use Rattle.std.proofs.lemmas.Bool.{false≢true}
use Rattle.tier_device.specs.declared.media.Media.{Ghosts}
use Rattle.tier_device.specs.declared.media.Tier.{Tier}
use Rattle.tier_device.specs.declared.media.Tier.TheVariants.{Fast, Block, Slow}
use Rattle.tier_device.specs.AfterStop.{Left}
use Rattle.posix_calls.specs.Tree.{State}
use Rattle.posix_calls.specs.Operations.{is_client}
use Rattle.posix_calls.specs.Outcome.{IsOutcome}
use Rattle.event_steps.specs.layout.declared.marks.Marks.{Marks}
use Rattle.event_steps.specs.client_log.Counts.{AreLeft}
use Rattle.event_steps.specs.client_log.Regions.{CountsNothing}
use Rattle.event_steps.specs.update_log.RecordCounts.{next_generation, records_in}
use Rattle.event_steps.specs.update_log.View.{HasSize, RegionView}
use Rattle.event_steps.specs.world_invariant.World.{World, world_state}
use Rattle.event_steps.specs.libfs.SealedRegion.{SealedRegionView}
use Rattle.event_steps.specs.Sound.{IsSeated}
use Rattle.event_steps.specs.Stops.{LeavesSealed, SeatLeaves}
use Rattle.event_steps.specs.View.{HasSeat, SeatView, SystemView}
use Rattle.event_lists.specs.Courses.{Content, LeftBetween, WorldContent, part_of}
use Rattle.event_lists.specs.Plays.{StopsNow}
use Rattle.system_laws.specs.Leaves.{SystemLeaves}
use Rattle.system_laws.specs.Parts.{region_beside, region_of}
use Rattle.system_laws.specs.Clocks.{clocks_of, left_of}
use Rattle.system_laws.specs.Relation.{Cut, IsWorld, IsWorldOf, SpellsAfter, SpellsShared}
use Rattle.system_laws.specs.Steps.{recoverable}
use Rattle.recovery_laws.specs.Contents.{regions_in, stored_state}
use Rattle.system_laws.specs.WorldTree.{world_tree}
use Rattle.system_laws.specs.WorldView.{WorldView, calls_of}
use Rattle.system_laws.proofs.PartMedia.{IsLeftNow, current_region, each_left, other_region, part_is, region_left}
use Rattle.system_laws.proofs.StopLogs.{HoldsSealed, HoldsSeat}
use Rattle.system_laws.proofs.Stops.{Holds, can_recover, is_outcome}

-- what is left of a medium is as long as what is read
abbrev pub IsSized : {M : Type 0} → Ghosts M → Type 0
IsSized {M} device = (m : M) (n : ℕ) (t : Tier) (content : List ℕ) → n ≤ device.moment m → device.left m n t content → length content ≡ length (device.seen m t)

-- two generations that follow each other have each its region
next_is_beside : (g : ℕ) → next_generation g % 2 ≢ g % 2
next_is_beside g same = omega (arith, same)

last_is_beside : (a g : ℕ) → next_generation a ≡ g → a % 2 ≢ g % 2
last_is_beside a g next same = omega (arith, next, same)

is_remainder : (g : ℕ) → g % 2 < 2
is_remainder g = omega arith

some_of : {A : Type 0} (x y : A) → Some x ≡ Some y → x ≡ y
some_of x y is = cc

module _ {M : Type 0} (device : Ghosts M) (sized : IsSized device) where
  size_left : (m : M) (content : Content) → Left (device.left m) (device.moment m) content → HasSize (device.seen m) → HasSize content
  size_left m content left size =
      let now : device.moment m ≤ device.moment m = omega arith in
      record {
        fast = sized m (device.moment m) Fast (content Fast) now (left Fast) ∙ size.fast;
        block = sized m (device.moment m) Block (content Block) now (left Block) ∙ size.block;
        slow = sized m (device.moment m) Slow (content Slow) now (left Slow) ∙ size.slow;
      }

-- ---- one client's regions

module _ {M : Type 0} (device : Ghosts M) (s : SeatView M) (regions : ℕ → List ℕ) (leaves : SeatLeaves device s)
    (left : (r : ℕ) → r < 2 → device.left (region_of s r).media (device.moment (region_of s r).media) Fast (regions r)) where
  left_in : (r : ℕ) (region : RegionView M) → r < 2 → region_of s r ≡ region → device.left region.media (device.moment region.media) Fast (regions r)
  left_in r region low is = subst (λ (x : RegionView M). device.left x.media (device.moment x.media) Fast (regions r)) is (left r low)

  other_left : (o : RegionView M) → s.client.log.other ≡ Some o → device.left o.media (device.moment o.media) Fast (regions (next_generation s.client.log.generation % 2))
  other_left o is = left_in (next_generation s.client.log.generation % 2) o (is_remainder (next_generation s.client.log.generation))
      (other_region s (next_generation s.client.log.generation % 2) (next_is_beside s.client.log.generation) ∙ ap (λ (x : Option (RegionView M)). region_beside s.client.log.current x s.away) is)

  are_left : AreLeft device s.client.log s.client.log regions
  are_left = record {
    current = (device.moment s.client.log.current.media, omega arith, omega arith, left_in (s.client.log.generation % 2) s.client.log.current (is_remainder s.client.log.generation) (current_region s));
    other = λ o n was is. (device.moment n.media, subst (λ (x : RegionView M). device.moment x.media ≤ device.moment n.media) (some_of n o (sym is ∙ was)) (omega arith), omega arith, other_left n is);
  }

  nothing_beside : (o : Option (RegionView M)) → s.client.log.other ≡ o → IfSome o (CountsNothing device (next_generation s.client.log.generation)) → is_some o ≡ true → records_in regions (next_generation s.client.log.generation) ≡ []
  nothing_beside None is none here = absurd (false≢true here)
  nothing_beside (Some o) is none here = none (regions (next_generation s.client.log.generation % 2)) (other_left o is)

  sealed_left : (a : Option (SealedRegionView M)) → s.away ≡ a → IsSeated device s.client a → IfSome a (LeavesSealed device) → IfSome a (HoldsSealed device regions)
  sealed_left None is seated away = tt
  sealed_left (Some a) is seated away =
      let there : device.left a.region.media (device.moment a.region.media) Fast (regions (a.generation % 2)) =
      left_in (a.generation % 2) a.region (is_remainder a.generation)
      (other_region s (a.generation % 2) (last_is_beside a.generation s.client.log.generation seated.before)
      ∙ ap (λ (x : Option (RegionView M)). region_beside s.client.log.current x s.away) seated.gone
      ∙ ap (λ (x : Option (SealedRegionView M)). region_beside s.client.log.current None x) is) in
      record { names = away.names (regions (a.generation % 2)) there; records_are = away.records_are (regions (a.generation % 2)) there }

  pub seat_holds : HoldsSeat device regions s.client s.away
  seat_holds = record {
    counts = leaves.counts regions are_left;
    beside = nothing_beside s.client.log.other refl leaves.beside;
    away_is = sealed_left s.away refl leaves.seated leaves.away;
  }

-- ---- part by part, by what is left of each now

module _ {M : Type 0} (device : Ghosts M) (v : WorldView M) (w : World) (accepted : ℕ → ℕ) (shared_marks : Marks) (cut : Cut) (is : IsWorldOf device v w accepted shared_marks cut) where
  -- the shared medium spells the world's graph and the marks, or what the cut makes of them
  pub shared_spells : SystemLeaves device v.system → (content : Content) → IsLeftNow device v.system 0 content
      → SpellsShared v.system.kernel.area.geometry w.kernel.shared shared_marks content ⊎ SpellsAfter v.system.kernel.area.geometry w shared_marks cut content
  shared_spells leaves content left = by v.system.kernel.area.failed refl
    where
      by : (failed : Bool) → v.system.kernel.area.failed ≡ failed → SpellsShared v.system.kernel.area.geometry w.kernel.shared shared_marks content ⊎ SpellsAfter v.system.kernel.area.geometry w shared_marks cut content
      by true failed = is.stopped failed content left
      by false going =
          let opened = leaves.kernel going content left in
          let stands = is.going going in
          inl (record { volume = opened.volume; opens = opened.opens; graph_is = opened.same_graph ∙ sym stands.0.shared; marks_are = opened.same_marks ∙ stands.1 })

  -- a region has its size
  pub region_sized : IsSized device → (c r : ℕ) (content : Content) → is_client c ≡ true → r < 2 → IsLeftNow device v.system (part_of c r) content → HasSize content
  region_sized sized c r content is_c low left =
      let s = is.sizes c r is_c low in
      size_left device sized (region_of s.0 r).media content (region_left device v.system c r s.0 content is_c low s.1 left) s.2

-- and a client's two hold what counts for it
pub client_holds : {M : Type 0} (device : Ghosts M) (w : SystemView M) → SystemLeaves device w → (content : WorldContent) (c : ℕ) → is_client c ≡ true → ((r : ℕ) → r < 2 → IsLeftNow device w (part_of c r) (content (part_of c r)))
    → HasSeat w c (λ s. HoldsSeat device (regions_in content c) s.client s.away)
client_holds device w leaves content c is_c left =
    let s = leaves.clients c is_c in
    (s.0, s.1, seat_holds device s.0 (regions_in content c) s.2 (λ r low. region_left device w c r s.0 (content (part_of c r)) is_c low s.1 (left r low) Fast))

pub each_seated : {M : Type 0} (device : Ghosts M) (w : SystemView M) → SystemLeaves device w → (c : ℕ) → is_client c ≡ true → HasSeat w c (λ s. IsSeated device s.client s.away)
each_seated device w leaves c is_c = let s = leaves.clients c is_c in (s.0, s.1, s.2.seated)

-- ---- the whole

module _ {M : Type 0} (device : Ghosts M) (v : WorldView M) (w : World) (accepted : ℕ → ℕ) (shared_marks : Marks) (at_cut : Cut) (is : IsWorldOf device v w accepted shared_marks at_cut) (tree_is : world_tree device v ≡ world_state w) where
  -- what holds of the world's parts, or is at some cut, is recovered to the tree, settled, with some of the calls that are not answered
  pub held_is_recovered : (cut : Cut) (c : WorldContent) → Holds device v w shared_marks cut c → StopsNow (recoverable device) v c
  held_is_recovered cut c holds = record {
    can = can_recover device v w accepted shared_marks at_cut cut c is holds;
    outcome = subst (λ (t : State). IsOutcome t [] (calls_of v) (stored_state v.system.kernel.area.geometry c)) (sym tree_is) (is_outcome device v w accepted shared_marks at_cut cut c is holds);
  }

  -- so is whatever is left now
  pub stops_now : IsSized device → SystemLeaves device v.system → (c : WorldContent) → LeftBetween (left_of device v.system) (clocks_of device v.system) (clocks_of device v.system) c → StopsNow (recoverable device) v c
  stops_now sized leaves c left =
      let each = each_left device v.system c left in
      held_is_recovered at_cut c (record {
        shared = shared_spells device v w accepted shared_marks at_cut is leaves (c 0) (each 0 (omega arith));
        sizes = λ d r is_d low. region_sized device v w accepted shared_marks at_cut is sized d r (c (part_of d r)) is_d low (each (part_of d r) (part_is d r is_d low));
        seated = each_seated device v.system leaves;
        clients = λ d is_d. client_holds device v.system leaves c d is_d (λ r low. each (part_of d r) (part_is d r is_d low));
      })

-- of any world that the system stands for, where its tree is the system's
pub world_stops_now : {M : Type 0} (device : Ghosts M) → IsSized device
    → ((v : WorldView M) (w : World) (accepted : ℕ → ℕ) (shared_marks : Marks) (cut : Cut) → IsWorldOf device v w accepted shared_marks cut → SystemLeaves device v.system → world_tree device v ≡ world_state w)
    → (v : WorldView M) → IsWorld device v → SystemLeaves device v.system → (c : WorldContent) → LeftBetween (left_of device v.system) (clocks_of device v.system) (clocks_of device v.system) c → StopsNow (recoverable device) v c
world_stops_now device sized tree_is v stands leaves c left =
    stops_now device v stands.world stands.accepted stands.shared_marks stands.cut stands.is (tree_is v stands.world stands.accepted stands.shared_marks stands.cut stands.is leaves) sized leaves c left
