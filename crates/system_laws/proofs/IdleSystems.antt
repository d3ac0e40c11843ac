-- A system that nobody uses stands for a world that is idle.
use Rattle.std.proofs.Common.{◌≡◌, ℕ, ◌-◌, ◌+◌, ◌%◌, ◌==◌, cond, Bool, true, false, List, [], Option, Some, None, refl, ap, sym, ◌∙◌, subst, arith}
use Rattle.std.specs.Prelude.{nat_le, ◌&&◌, get_or, length}
use Rattle.std.proofs.lemmas.List.{get_or-replicate}
use Rattle.std.proofs.lemmas.Bool.{and_parts, false≢true}
use Rattle.std.proofs.lemmas.Bool.Decides.{nat_tests}
use Rattle.tier_device.specs.declared.media.Media.{Ghosts}
use Rattle.tier_device.specs.declared.media.Tier.TheVariants as tiers
use Rattle.posix_calls.specs.Operations.{is_client}
use Rattle.posix_calls.specs.declared.call.Call.{Call}
use Rattle.event_steps.specs.file_graph.Graph.{is_among}
use Rattle.event_steps.specs.layout.declared.marks.Mark.{Mark}
use Rattle.event_steps.specs.layout.declared.marks.Marks.{Marks}
use Rattle.event_steps.specs.area_reader.Store.{disk, graph}
use Rattle.event_steps.specs.file_graph.Numbers.{is_inode}
use Rattle.event_steps.specs.lease_manager.PassLeases.{is_reading, is_writing}
use Rattle.event_steps.specs.lease_manager.Passes.{PassView, lease_of}
use Rattle.event_steps.specs.lease_manager.Words.{HasWord}
use Rattle.event_steps.specs.lease_manager.declared.view.LeaseMode.{LeaseMode}
use Rattle.event_steps.specs.lease_manager.declared.view.LeaseMode.TheVariants.{Free}
use Rattle.event_steps.specs.digester.MarkMoves.{mark_of}
use Rattle.event_steps.specs.kernel_fs.MachineState.{StandBeforeRegions}
use Rattle.event_steps.specs.client_log.Calls.{IsOnlyRead}
use Rattle.event_steps.specs.client_log.HasTurn.{HasTurn, region_at}
use Rattle.event_steps.specs.client_log.Regions.{in_turn}
use Rattle.event_steps.specs.client_log.Turns.{place_of, turn_of}
use Rattle.event_steps.specs.libfs.declared.begun_record.Begun.{Begun}
use Rattle.event_steps.specs.update_log.View.{HasSize, RegionView}
use Rattle.event_steps.specs.world_invariant.FormatWorld.{idle_account, idle_client, idle_world, knows_nothing}
use Rattle.event_steps.specs.libfs.ClientHoldings.{known_to}
use Rattle.event_steps.specs.libfs.SealedRegion.{SealedRegionView}
use Rattle.event_steps.specs.world_invariant.World as world
use Rattle.event_steps.specs.View.{SeatView, SystemView, done_of}
use Rattle.event_steps.proofs.world_invariant_lemmas.Idle.{idle_holds}
use Rattle.event_steps.proofs.world_invariant_lemmas.Owners.{is_high, is_low}
use Rattle.event_steps.proofs.file_graph_lemmas.Fields.{some_is}
use Rattle.recovery_laws.specs.Contents.{mark_by}
use Rattle.system_laws.specs.Idle.{IsIdleSeat, IsIdleSystem}
use Rattle.system_laws.specs.KeptCalls.{no_calls}
use Rattle.system_laws.specs.Parts.{region_beside, region_of}
use Rattle.system_laws.specs.Relation.{IsBegunAs, IsClientOf, IsWorld, IsWorldOf, StandsMarked, accepted_of, first_generation, held_of}
use Rattle.system_laws.specs.Relation as cuts
use Rattle.system_laws.specs.WorldView.{calls_of}
use Rattle.system_laws.proofs.Statuses.{alive_status}

-- an inode's number has a lease word
word_of : (i : ℕ) → is_inode i ≡ true → HasWord i
word_of i is = let parts = and_parts (nat_le 1 i) (nat_le i 1024) is in let low = parts.0 in let high = parts.1 in (grind (arith, nat_tests, low), grind (arith, nat_tests, high))

-- a pass that holds no lease holds nothing
pub none_held : (says : LeaseMode → Bool) → says Free ≡ false → (p : PassView) → ((i : ℕ) → HasWord i → lease_of p i ≡ Free) → (i : ℕ) → (is_inode i && says (lease_of p i)) ≡ false
none_held says not_free p free i = by_inode (is_inode i) (λ is. free i (word_of i is))
  where
    by_inode : (b : Bool) → (b ≡ true → lease_of p i ≡ Free) → (b && says (lease_of p i)) ≡ false
    by_inode true is = ap says (is refl) ∙ not_free
    by_inode false is = refl

module _ {M : Type 0} (device : Ghosts M) where
  -- the world of a system
  abbrev pub world_idle : SystemView M → world.World
  world_idle v = idle_world v.kernel.area.geometry.units (graph v.kernel.area.geometry (disk device v.kernel.area))

  -- no client has a call
  nothing_called : (v : SystemView M) (c : ℕ) → is_client c ≡ true → calls_of (record { system = v; calls = no_calls }) c ≡ None
  nothing_called v c is_c = let from = is_low c is_c in let to = is_high c is_c in ap (λ b. cond b (get_or no_calls (c - 1) None) None) is_c ∙ get_or-replicate 8 (c - 1) None None (omega (arith, from, to))

  -- what the seat's client knows is nothing
  knows_idle : (m : Mark) (c : ℕ) (s : SeatView M) → IsIdleSeat device m c s → knows_nothing c ≡ known_to s.client
  knows_idle m c s h = λ t. record {
    client = (sym (h.new.client ∙ h.number)) t;
    own = λ n. (sym (h.new.own n)) t;
    copies = λ i. (sym (h.new.copies i)) t;
    blocks = λ i b. (sym (h.new.blocks i b)) t;
    granted = λ i. (sym (h.new.granted i)) t;
  }

  -- its log is the one of such a client
  turn_idle : (m : Mark) (c : ℕ) (s : SeatView M) → IsIdleSeat device m c s → HasTurn (turn_of device s.client.log) (idle_client c 0)
  turn_idle m c s h = record {
    current = sym h.blank.none;
    other = sym (ap (λ (o : Option (RegionView M)). region_at (place_of o s.client.log.clean)) h.opened.other_is ∙ ap (λ b. region_at (place_of (Some h.opened.beside) b)) h.opened.is_clean);
    is_ready = sym h.opened.is_ready;
    begun = sym h.blank.idle;
  }

  -- it is a client that uses nothing
  idle_part : (m : Mark) (c : ℕ) (s : SeatView M) (call : Option Call) → call ≡ None → IsIdleSeat device m c s → IsClientOf device s call (idle_client c 0)
  idle_part m c s call none h = record {
    knows = knows_idle m c s h;
    turn = turn_idle m c s h;
    sealed = sym h.new.sealed;
    begun = subst (λ (b : Option Begun). IsBegunAs call b None) (sym h.new.begun) (refl, none);
    reads_are = λ i. sym (none_held is_reading refl s.client.pass h.free i);
    writes_are = λ i. sym (none_held is_writing refl s.client.pass h.free i);
    spare = sym h.new.spare;
    pins = λ i. sym (ap (λ (pins : List ℕ). is_among i pins) h.new.pins);
    status = sym (alive_status s.life s.client.log.failed h.alive h.opened.unfailed);
  }

  -- and stands at its mark
  idle_mark : (m : Mark) (c : ℕ) (s : SeatView M) → IsIdleSeat device m c s → StandsMarked m s (idle_account 0) 0 (idle_client c 0)
  idle_mark m c s h = record {
    mark = λ t. record { generation = (sym (ap (λ (a : Option (SealedRegionView M)). first_generation s.client.log.generation a) h.home ∙ h.opened.generation_is)) t; done = (h.before ∙ sym (ap (λ (a : Option (SealedRegionView M)). done_of a) h.home)) t };
    digested = sym (ap (λ (a : Option (SealedRegionView M)). 0 + done_of a) h.home);
    accepts = sym (ap (λ (a : Option (SealedRegionView M)). 0 + accepted_of a []) h.home);
    held = λ i written. absurd (false≢true written);
  }

  -- both regions are as long as they were when the log was opened over them
  read_size : (old new : RegionView M) → IsOnlyRead device old new → HasSize (device.seen old.media) → HasSize (device.seen new.media)
  read_size old new read has = record {
    fast = ap length (read.same_seen tiers.Fast) ∙ has.fast;
    block = ap length (read.same_seen tiers.Block) ∙ has.block;
    slow = ap length (read.same_seen tiers.Slow) ∙ has.slow;
  }

  turned_size : (g : ℕ) (regions : RegionView M × RegionView M) → HasSize (device.seen regions.0.media) → HasSize (device.seen regions.1.media)
      → HasSize (device.seen (in_turn g regions).0.media) × HasSize (device.seen (in_turn g regions).1.media)
  turned_size g regions even odd = by_turn (g % 2 == 0)
    where
      by_turn : (b : Bool) → HasSize (device.seen (cond b regions (regions.1, regions.0)).0.media) × HasSize (device.seen (cond b regions (regions.1, regions.0)).1.media)
      by_turn true = (even, odd)
      by_turn false = (odd, even)

  idle_sizes : (m : Mark) (c : ℕ) (s : SeatView M) (r : ℕ) → IsIdleSeat device m c s → HasSize (device.seen (region_of s r).media)
  idle_sizes m c s r h = by_turn (s.client.log.generation % 2 == r)
    where
      turned : HasSize (device.seen (in_turn m.generation h.regions).0.media) × HasSize (device.seen (in_turn m.generation h.regions).1.media)
      turned = turned_size m.generation h.regions h.even_size h.odd_size

      current : HasSize (device.seen s.client.log.current.media)
      current = read_size (in_turn m.generation h.regions).0 s.client.log.current h.opened.current_read turned.0

      beside : HasSize (device.seen (region_beside s.client.log.current s.client.log.other s.away).media)
      beside = subst (λ (o : Option (RegionView M)). HasSize (device.seen (region_beside s.client.log.current o s.away).media)) (sym h.opened.other_is) (read_size (in_turn m.generation h.regions).1 h.opened.beside h.opened.other_read turned.1)

      by_turn : (b : Bool) → HasSize (device.seen (cond b s.client.log.current (region_beside s.client.log.current s.client.log.other s.away)).media)
      by_turn true = current
      by_turn false = beside

  -- the mark of each client stands before a region
  stand_before : (v : SystemView M) (shared_marks : Marks) → IsIdleSystem device v shared_marks → StandBeforeRegions (disk device v.kernel.area)
  stand_before v shared_marks h other is c is_c = ap (λ (m : Marks). (mark_of m c).done) (some_is other shared_marks (sym is ∙ h.kernel.marks_are)) ∙ (h.seats c is_c).2.before

  pub idle_stands : (v : SystemView M) (shared_marks : Marks) → IsIdleSystem device v shared_marks → IsWorld device (record { system = v; calls = no_calls })
  idle_stands v shared_marks h =
      let k = h.kernel in
      let opened = k.opened (λ c. 0) (stand_before v shared_marks h) in
      record {
        world = world_idle v;
        accepted = λ c. 0;
        shared_marks = shared_marks;
        cut = cuts.Nothing;
        is = record {
          coherent = idle_holds v.kernel.area.geometry.units (graph v.kernel.area.geometry (disk device v.kernel.area)) k.paid k.sound k.within;
          eight = refl;
          book = opened.book;
          capacity = refl;
          going = λ _. (opened, k.marks_are);
          stopped = λ failed content left. absurd (false≢true (sym k.going ∙ failed));
          sizes = λ c r is_c low. let at = h.seats c is_c in (at.0, at.1, idle_sizes (mark_by (Some shared_marks) c) c at.0 r at.2);
          clients = λ c is_c. let at = h.seats c is_c in (at.0, at.1, idle_part (mark_by (Some shared_marks) c) c at.0 (calls_of (record { system = v; calls = no_calls }) c) (nothing_called v c is_c) at.2);
          marked = λ c is_c. let at = h.seats c is_c in (at.0, at.1, idle_mark (mark_by (Some shared_marks) c) c at.0 at.2);
        };
      }
