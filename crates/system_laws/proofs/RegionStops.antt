-- What a stop leaves of all parts within an event that moves a region of one client: the world still holds it.
use Rattle.std.proofs.Common.{◌≡◌, ◌≢◌, ◌⊎◌, inl, inr, ℕ, ◌-◌, ◌%◌, ◌<◌, ◌≤◌, true, List, [], length, Option, Some, None, refl, ap, sym, ◌∙◌, subst, arith}
use Rattle.std.specs.Prelude.{IfSome, is_some, slice_set}
use Rattle.std.proofs.lemmas.Bool.{false≢true}
use Rattle.std.proofs.lemmas.Bool.Decides.{eqb_tells}
use Rattle.tier_device.specs.declared.media.Media.{Ghosts}
use Rattle.tier_device.specs.declared.media.Tier.{Tier}
use Rattle.tier_device.specs.declared.media.Tier.TheVariants.{Fast, Block, Slow}
use Rattle.tier_device.specs.AfterStop.{Left}
use Rattle.tier_device.specs.StopsSince.{LeftSince}
use Rattle.tier_device.specs.Media.{Keeps}
use Rattle.posix_calls.specs.Operations.{is_client}
use Rattle.posix_calls.specs.Run.{Run}
use Rattle.posix_calls.specs.declared.call.Call.{Call}
use Rattle.event_steps.specs.layout.declared.marks.Marks.{Marks}
use Rattle.event_steps.specs.update_log.RecordCounts.{next_generation, records_in}
use Rattle.event_steps.specs.update_log.View.{HasSize, RegionView}
use Rattle.event_steps.specs.client_log.Counts.{AreLeft}
use Rattle.event_steps.specs.client_log.Regions.{CountsNothing}
use Rattle.event_steps.specs.libfs.SealedRegion.{SealedRegionView}
use Rattle.event_steps.specs.libfs.View.{ClientView}
use Rattle.event_steps.specs.world_invariant.World.{World, world_state}
use Rattle.event_steps.specs.Calls.{CountsOn}
use Rattle.event_steps.specs.Sound.{IsSeated}
use Rattle.event_steps.specs.Stops.{LeavesSealed, SeatLeaves}
use Rattle.event_steps.specs.View.{HasSeat, SeatView, SystemView, seat_of}
use Rattle.event_steps.specs.declared.event.Event.{Event}
use Rattle.event_steps.specs.declared.outcome.Outcome.{Outcome}
use Rattle.event_steps.proofs.world_invariant_lemmas.Records.{either}
use Rattle.event_lists.specs.Courses.{Content, LeftBetween, WorldContent, part_of}
use Rattle.system_laws.specs.Leaves.{SystemLeaves}
use Rattle.system_laws.specs.Moves.{EventMoves, MovesRegion}
use Rattle.system_laws.specs.News.{news}
use Rattle.system_laws.specs.Parts.{medium_of, region_beside, region_of}
use Rattle.system_laws.specs.Clocks.{clocks_of, left_of}
use Rattle.system_laws.specs.Relation.{Cut, IsWorldOf, SpellsAfter, SpellsShared}
use Rattle.recovery_laws.specs.Contents.{regions_in}
use Rattle.system_laws.specs.Steps.{IsBegunIn, IsStep}
use Rattle.system_laws.specs.WorldView.{WorldView, calls_of}
use Rattle.system_laws.proofs.Given.{Given}
use Rattle.system_laws.proofs.PartMedia.{current_region, other_region}
use Rattle.system_laws.proofs.RegionMoves.{PartMoves, left_beside, medium_at, part_low, region_moves, region_step}
use Rattle.system_laws.proofs.Seats.{at_least, seat_beside, seat_there}
use Rattle.system_laws.proofs.StopLogs.{HoldsSealed, HoldsSeat}
use Rattle.system_laws.proofs.Stops.{Holds}
use Rattle.system_laws.proofs.StopsNow.{held_is_recovered}
use Rattle.system_laws.proofs.WorldMoves.{StandsAs, Stood, run_of}

-- ---- where a client's regions are

pub other_remainder : (g : ℕ) → next_generation g % 2 ≢ g % 2
other_remainder g is = omega (arith, is)

pub low_remainder : (g : ℕ) → g % 2 < 2
low_remainder g = omega arith

pub one_of_two : (g r : ℕ) → r < 2 → r ≢ g % 2 → r ≡ next_generation g % 2
one_of_two g r low off = omega (arith, low, off)

module _ {M : Type 0} where
  pub at_remainder : (s : SeatView M) (r : ℕ) → s.client.log.generation % 2 ≡ r → region_of s r ≡ s.client.log.current
  at_remainder s r is = ap (region_of s) (sym is) ∙ current_region s

  pub current_at : (s : SeatView M) → region_of s (s.client.log.generation % 2) ≡ s.client.log.current
  current_at s = current_region s

  pub beside_at : (s : SeatView M) (r : ℕ) → s.client.log.generation % 2 ≢ r → region_of s r ≡ region_beside s.client.log.current s.client.log.other s.away
  beside_at s r off = other_region s r (λ is. off (sym is))

  pub other_at : (s : SeatView M) (r : ℕ) (o : RegionView M) → s.client.log.generation % 2 ≢ r → s.client.log.other ≡ Some o → region_of s r ≡ o
  other_at s r o off is = beside_at s r off ∙ ap (λ (x : Option (RegionView M)). region_beside s.client.log.current x s.away) is

  pub away_at : (s : SeatView M) (r : ℕ) (a : SealedRegionView M) → s.client.log.generation % 2 ≢ r → s.client.log.other ≡ None → s.away ≡ Some a → region_of s r ≡ a.region
  away_at s r a off gone is = beside_at s r off
      ∙ ap (λ (x : Option (RegionView M)). region_beside s.client.log.current x s.away) gone
      ∙ ap (λ (x : Option (SealedRegionView M)). region_beside s.client.log.current None x) is

zero_is_not : (c r : ℕ) → is_client c ≡ true → 0 ≢ part_of c r
zero_is_not c r is_c is = let low = at_least c is_c in omega (arith, low, is)

-- a seat's region that is not moved is where it was
beside_same : {M : Type 0} (device : Ghosts M) (v : ClientView M) (a b : RegionView M) (o : Option (RegionView M)) (away : Option (SealedRegionView M)) → v.log.other ≡ o → IsSeated device v away → region_beside a o away ≡ region_beside b o away
beside_same device v a b (Some r) away is seated = refl
beside_same device v a b None (Some w) is seated = refl
beside_same device v a b None None is seated = absurd (false≢true (sym (ap is_some is) ∙ seated))

pub beside_stays : {M : Type 0} (device : Ghosts M) (s x : SeatView M) → IsSeated device s.client s.away → x.client.log.generation ≡ s.client.log.generation → x.client.log.other ≡ s.client.log.other → x.away ≡ s.away
    → (q : ℕ) → s.client.log.generation % 2 ≢ q → region_of x q ≡ region_of s q
beside_stays {M = M} device s x seated same other away q off =
    beside_at x q (λ e. off (sym (ap (λ (n : ℕ). n % 2) same) ∙ e))
    ∙ ap (λ (o : Option (RegionView M)). region_beside x.client.log.current o x.away) other
    ∙ ap (λ (a : Option (SealedRegionView M)). region_beside x.client.log.current s.client.log.other a) away
    ∙ beside_same device s.client x.client.log.current s.client.log.current s.client.log.other s.away refl seated
    ∙ sym (beside_at s q off)

-- ---- lengths

size_as : (seen content : Content) → ((t : Tier) → length (content t) ≡ length (seen t)) → HasSize seen → HasSize content
size_as seen content same is = record { fast = same Fast ∙ is.fast; block = same Block ∙ is.block; slow = same Slow ∙ is.slow }

-- ---- what is left of a client's regions

module _ {M : Type 0} (device : Ghosts M) where
  -- at some moment of an event each of the two regions may be left so
  abbrev pub RegionsLeft : SeatView M → SeatView M → (ℕ → List ℕ) → Type 0
  RegionsLeft s x regions = (q : ℕ) → q < 2 → LeftSince (device.left (region_of x q).media) (device.moment (region_of x q).media) (device.moment (region_of s q).media) Fast (regions q)

  pub left_as : (regions : ℕ → List ℕ) (q : ℕ) (o n o' n' : RegionView M) → o ≡ o' → n ≡ n' → LeftSince (device.left n.media) (device.moment n.media) (device.moment o.media) Fast (regions q)
      → LeftSince (device.left n'.media) (device.moment n'.media) (device.moment o'.media) Fast (regions q)
  left_as regions q o n o' n' old new left =
      subst (λ (y : RegionView M). LeftSince (device.left n'.media) (device.moment n'.media) (device.moment y.media) Fast (regions q)) old
      (subst (λ (y : RegionView M). LeftSince (device.left y.media) (device.moment y.media) (device.moment o.media) Fast (regions q)) new left)

  -- what is left of a region that is at its moment still
  pub left_at_rest : (m : M) (c : List ℕ) → LeftSince (device.left m) (device.moment m) (device.moment m) Fast c → device.left m (device.moment m) Fast c
  left_at_rest m c left = subst (λ (n : ℕ). device.left m n Fast c) (meet left.0 (device.moment m) left.1 left.2) left.3
    where
      meet : (k n : ℕ) → n ≤ k → k ≤ n → k ≡ n
      meet k n low high = omega (arith, low, high)

  are_left : (s x : SeatView M) (regions : ℕ → List ℕ) → x.client.log.generation ≡ s.client.log.generation → RegionsLeft s x regions → AreLeft device s.client.log x.client.log regions
  are_left s x regions same left =
      let g = s.client.log.generation in
      record {
        current = left_as regions (g % 2) (region_of s (g % 2)) (region_of x (g % 2)) s.client.log.current x.client.log.current (current_at s) (at_remainder x (g % 2) (ap (λ (n : ℕ). n % 2) same)) (left (g % 2) (low_remainder g));
        other = λ o n was is. left_as regions (next_generation g % 2) (region_of s (next_generation g % 2)) (region_of x (next_generation g % 2)) o n
            (other_at s (next_generation g % 2) o (λ e. other_remainder g (sym e)) was)
            (other_at x (next_generation g % 2) n (λ e. other_remainder g (sym e ∙ ap (λ (n : ℕ). n % 2) same)) is)
            (left (next_generation g % 2) (low_remainder (next_generation g)));
      }

  away_left : (s x : SeatView M) (regions : ℕ → List ℕ) (away : Option (SealedRegionView M)) → s.away ≡ away → IsSeated device s.client away → IfSome away (LeavesSealed device) → x.client.log.generation ≡ s.client.log.generation → (s.client.log.other ≡ None → x.client.log.other ≡ None) → x.away ≡ s.away
      → RegionsLeft s x regions → IfSome away (HoldsSealed device regions)
  away_left s x regions None was seated leaves same gone away left = tt
  away_left s x regions (Some a) was seated leaves same gone away left =
      let g = s.client.log.generation in
      let off : g % 2 ≢ a.generation % 2 = λ e. other_remainder a.generation (ap (λ (n : ℕ). n % 2) seated.before ∙ e) in
      let off_then : x.client.log.generation % 2 ≢ a.generation % 2 = λ e. off (sym (ap (λ (n : ℕ). n % 2) same) ∙ e) in
      let now : device.left a.region.media (device.moment a.region.media) Fast (regions (a.generation % 2)) = left_at_rest a.region.media (regions (a.generation % 2))
      (left_as regions (a.generation % 2) (region_of s (a.generation % 2)) (region_of x (a.generation % 2)) a.region a.region
      (away_at s (a.generation % 2) a off seated.gone was) (away_at x (a.generation % 2) a off_then (gone seated.gone) (away ∙ was)) (left (a.generation % 2) (low_remainder a.generation))) in
      record { names = leaves.names (regions (a.generation % 2)) now; records_are = leaves.records_are (regions (a.generation % 2)) now }

  -- Within a device call on a region of a client's log the client's records count, with the begun one or without.
  pub seat_during : (s x : SeatView M) → SeatLeaves device s → CountsOn device s.client x.client → x.client.log.generation ≡ s.client.log.generation → x.away ≡ s.away
      → (s.client.log.other ≡ None → x.client.log.other ≡ None)
      → ((regions : ℕ → List ℕ) → RegionsLeft s x regions → is_some s.client.log.other ≡ true → records_in regions (next_generation s.client.log.generation) ≡ [])
      → (regions : ℕ → List ℕ) → RegionsLeft s x regions → HoldsSeat device regions s.client s.away
  seat_during s x leaves counts same away gone beside regions left = record {
    counts = counts regions (are_left s x regions same left);
    beside = λ here. beside regions left here;
    away_is = away_left s x regions s.away refl leaves.seated leaves.away same gone away left;
  }

  -- in a region that is here and is not moved nothing counts under the next generation
  pub none_beside : (s x : SeatView M) → SeatLeaves device s → x.client.log.generation ≡ s.client.log.generation → x.client.log.other ≡ s.client.log.other
      → (regions : ℕ → List ℕ) → RegionsLeft s x regions → is_some s.client.log.other ≡ true → records_in regions (next_generation s.client.log.generation) ≡ []
  none_beside s x leaves same other regions left here = by s.client.log.other refl leaves.beside here
    where
      by : (o : Option (RegionView M)) → s.client.log.other ≡ o → IfSome o (CountsNothing device (next_generation s.client.log.generation)) → is_some o ≡ true → records_in regions (next_generation s.client.log.generation) ≡ []
      by None was none here = absurd (false≢true here)
      by (Some r) was none here = none (regions (next_generation s.client.log.generation % 2)) (left_at_rest r.media (regions (next_generation s.client.log.generation % 2))
          (left_as regions (next_generation s.client.log.generation % 2) (region_of s (next_generation s.client.log.generation % 2)) (region_of x (next_generation s.client.log.generation % 2)) r r
          (other_at s (next_generation s.client.log.generation % 2) r (λ e. other_remainder s.client.log.generation (sym e)) was)
          (other_at x (next_generation s.client.log.generation % 2) r (λ e. other_remainder s.client.log.generation (sym e ∙ ap (λ (n : ℕ). n % 2) same)) (other ∙ was))
          (left (next_generation s.client.log.generation % 2) (low_remainder (next_generation s.client.log.generation)))))

  -- what is left of the regions of a seat that stays
  seat_still : (s : SeatView M) → SeatLeaves device s → (regions : ℕ → List ℕ) → RegionsLeft s s regions → HoldsSeat device regions s.client s.away
  seat_still s leaves = seat_during s s leaves leaves.counts refl refl (λ e. e) (none_beside s s leaves refl refl)

  -- what is left of the parts of a client's two regions
  regions_left : (old new : SystemView M) (d : ℕ) (s x : SeatView M) (c : WorldContent) → is_client d ≡ true → seat_of old d ≡ Some s → seat_of new d ≡ Some x
      → LeftBetween (left_of device new) (clocks_of device old) (clocks_of device new) c → RegionsLeft s x (regions_in c d)
  regions_left old new d s x c is_d was is left = λ q small.
      let at = left (part_of d q) (part_low d q is_d small) in
      subst (λ (m : M). LeftSince (device.left (region_of x q).media) (device.moment (region_of x q).media) (device.moment m) Fast (regions_in c d q)) (medium_at old d q s is_d small was)
      (subst (λ (m : M). LeftSince (device.left m) (device.moment m) (device.moment (medium_of old (part_of d q))) Fast (regions_in c d q)) (medium_at new d q x is_d small is)
      (at.0, at.1, at.2, at.3 Fast))

  -- what is left of the shared medium while it does not move
  pub shared_now : (v : WorldView M) (w : World) (accepted : ℕ → ℕ) (marks : Marks) (cut : Cut) → IsWorldOf device v w accepted marks cut → SystemLeaves device v.system
      → (content : Content) → Left (device.left v.system.kernel.area.media) (device.moment v.system.kernel.area.media) content
      → SpellsShared v.system.kernel.area.geometry w.kernel.shared marks content ⊎ SpellsAfter v.system.kernel.area.geometry w marks cut content
  shared_now v w accepted marks cut is leaves content left = elim (either v.system.kernel.area.failed) [
    | inl failed ↦ is.stopped failed content left
    | inr going ↦
        let opens = leaves.kernel going content left in
        let stands = is.going going in
        inl (record { volume = opens.volume; opens = opens.opens; graph_is = opens.same_graph ∙ sym stands.0.shared; marks_are = opens.same_marks ∙ stands.1 })
  ]

  -- ---- the whole

  module _ (seen_now : (m : M) (t : Tier) → device.left m (device.moment m) t (device.seen m t))
      (sized : (m : M) (k : ℕ) (t : Tier) (c : List ℕ) → k ≤ device.moment m → device.left m k t c → length c ≡ length (device.seen m t)) where
    pub size_kept : (old new : M) → Keeps (device.moment old) (device.moment new) (device.left old) (device.left new) → HasSize (device.seen old) → HasSize (device.seen new)
    size_kept old new past = size_as (device.seen old) (device.seen new) (λ t. sym (sized new (device.moment old) t (device.seen old t) past.later (past.keeps (device.moment old) t (device.seen old t) (omega arith) (seen_now old t))))

    module _ (v : WorldView M) (w : World) (accepted : ℕ → ℕ) (marks : Marks) (cut : Cut) (is : IsWorldOf device v w accepted marks cut) (leaves : SystemLeaves device v.system) where
      size_of : (d q : ℕ) → is_client d ≡ true → q < 2 → HasSize (device.seen (medium_of v.system (part_of d q)))
      size_of d q is_d small = let s = is.sizes d q is_d small in subst (λ (m : M). HasSize (device.seen m)) (sym (medium_at v.system d q s.0 is_d small s.1)) s.2

      size_then : (new : SystemView M) (part : ℕ) → PartMoves device v.system new part → (d q : ℕ) → is_client d ≡ true → q < 2 → HasSize (device.seen (medium_of new (part_of d q)))
      size_then new part moves d q is_d small = elim (eqb_tells (part_of d q) part) [
        | inl here ↦ subst (λ (p : ℕ). HasSize (device.seen (medium_of new p))) (sym here.1) (size_kept (medium_of v.system part) (medium_of new part) moves.past (subst (λ (p : ℕ). HasSize (device.seen (medium_of v.system p))) here.1 (size_of d q is_d small)))
        | inr other ↦ subst (λ (m : M). HasSize (device.seen m)) (sym (moves.others (part_of d q) (part_low d q is_d small) other.1)) (size_of d q is_d small)
      ]

      -- What a stop leaves of all parts while a region of one client moves the world still holds, where it holds what is left of that client's regions.
      pub holds_during : (new : SystemView M) (c r : ℕ) (s x : SeatView M) → is_client c ≡ true → seat_of v.system c ≡ Some s → new.seats ≡ slice_set v.system.seats (c - 1) x
          → PartMoves device v.system new (part_of c r)
          → ((regions : ℕ → List ℕ) → RegionsLeft s x regions → HoldsSeat device regions s.client s.away)
          → (content : WorldContent) → LeftBetween (left_of device new) (clocks_of device v.system) (clocks_of device new) content → Holds device v w marks cut content
      holds_during new c r s x is_c there seats moves own content left = record {
        shared = shared_now v w accepted marks cut is leaves (content 0) (left_beside device v.system new (part_of c r) moves content left 0 (omega arith) (zero_is_not c r is_c));
        sizes = λ d q is_d small.
            let at = left (part_of d q) (part_low d q is_d small) in
            size_as (device.seen (medium_of new (part_of d q))) (content (part_of d q)) (λ t. sized (medium_of new (part_of d q)) at.0 t (content (part_of d q) t) at.2 (at.3 t)) (size_then new (part_of c r) moves d q is_d small);
        seated = λ d is_d. let t = leaves.clients d is_d in (t.0, t.1, t.2.seated);
        clients = λ d is_d.
            let t = leaves.clients d is_d in
            elim (eqb_tells d c) [
              | inl same ↦ subst (λ (e : ℕ). HasSeat v.system e (λ y. HoldsSeat device (regions_in content e) y.client y.away)) (sym same.1)
                  (s, there, own (regions_in content c) (regions_left v.system new c s x content is_c there (seat_there v.system new c s x there seats) left))
              | inr off ↦ (t.0, t.1, seat_still t.0 t.2 (regions_in content d) (regions_left v.system new d t.0 t.0 content is_d t.1 (seat_beside v.system new c d x is_c is_d off.1 seats ∙ t.1) left))
            ];
      }

    -- the size of a client's regions stays as one of them moves
    pub sizes_stay : (s x : SeatView M) (r : ℕ) → ((q : ℕ) → q < 2 → q ≢ r → (region_of x q).media ≡ (region_of s q).media)
        → Keeps (device.moment (region_of s r).media) (device.moment (region_of x r).media) (device.left (region_of s r).media) (device.left (region_of x r).media)
        → (q : ℕ) → q < 2 → HasSize (device.seen (region_of s q).media) → HasSize (device.seen (region_of x q).media)
    sizes_stay s x r same past q small is = elim (eqb_tells q r) [
      | inl here ↦ subst (λ (k : ℕ). HasSize (device.seen (region_of x k).media)) (sym here.1) (size_kept (region_of s r).media (region_of x r).media past (subst (λ (k : ℕ). HasSize (device.seen (region_of s k).media)) here.1 is))
      | inr other ↦ subst (λ (m : M). HasSize (device.seen m)) (sym (same q small other.1)) is
    ]

    -- An event that moves one region of a client is a step where the systems stand for worlds between which what it acknowledges leads, and where what is left of the client's regions on its way is held.
    pub region_world : Given device → (v : WorldView M) (new : SystemView M) (c r : ℕ) (s x : SeatView M) (calls : List (Option Call)) (e : Event) (o : Outcome) (z then : Stood)
        → IsBegunIn device v new → StandsAs device v z → StandsAs device (record { system = new; calls = calls }) then
        → is_client c ≡ true → r < 2 → seat_of v.system c ≡ Some s → new.kernel ≡ v.system.kernel → new.seats ≡ slice_set v.system.seats (c - 1) x
        → ((q : ℕ) → q < 2 → q ≢ r → (region_of x q).media ≡ (region_of s q).media)
        → Keeps (device.moment (region_of s r).media) (device.moment (region_of x r).media) (device.left (region_of s r).media) (device.left (region_of x r).media)
        → ((regions : ℕ → List ℕ) → RegionsLeft s x regions → HoldsSeat device regions s.client s.away)
        → (MovesRegion c (clocks_of device v.system) (clocks_of device new) → EventMoves e (clocks_of device v.system) (clocks_of device new))
        → Run (world_state z.world) (news (calls_of v) e o).turns (world_state then.world)
        → calls_of (record { system = new; calls = calls }) ≡ (news (calls_of v) e o).calls
        → IsStep device v e o (record { system = new; calls = calls })
    region_world given v new c r s x calls e o z then begun is is_then is_c small there kernel seats same past own may run acknowledged =
        let moves = region_moves device v.system new c r s x is_c small there (ap (λ k. k.area.media) kernel) seats same past in
        let tree = given.tree_is v z.world z.accepted z.marks z.cut is begun.leaves in
        region_step device v new c r calls e o small moves (ap (λ k. k.area.geometry) kernel) may
        (record { world = then.world; accepted = then.accepted; shared_marks = then.marks; cut = then.cut; is = is_then })
        (run_of device given v new calls e o z then begun is is_then run)
        acknowledged
        (λ content left. held_is_recovered device v z.world z.accepted z.marks z.cut is tree z.cut content (holds_during v z.world z.accepted z.marks z.cut is begun.leaves new c r s x is_c there seats moves own content left))
