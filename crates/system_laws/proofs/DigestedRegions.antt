-- The next records of a region that is away are digested: it is read and accepted first, and taken back behind its last record.
use Rattle.std.proofs.Common.{◌≡◌, ◌≢◌, inl, inr, ℕ, ◌+◌, ◌-◌, ◌%◌, ◌<◌, ◌≤◌, cond, Bool, true, false, List, [], length, Option, Some, None, refl, ap, sym, ◌∙◌, subst, arith}
use Rattle.std.specs.Prelude.{slice_set, IfOk, Result, Ok, Err}
use Rattle.std.proofs.lemmas.Bool.{false≢true}
use Rattle.std.proofs.lemmas.Bool.Decides.{eqb_tells}
use Rattle.tier_device.specs.declared.media.Media.{Ghosts}
use Rattle.tier_device.specs.declared.media.Tier.TheVariants.{Fast}
use Rattle.posix_calls.specs.Operations.{is_client}
use Rattle.event_steps.specs.area_reader.Store.{disk, graph, marks, store_of}
use Rattle.event_steps.specs.batch_journal.View.{JournalView}
use Rattle.event_steps.specs.kernel_fs.Book.{Accounts, IsBookOf, waiting_of}
use Rattle.event_steps.specs.kernel_fs.KernelAnswers.{kernel_answer}
use Rattle.event_steps.specs.kernel_fs.KernelView.{KernelView}
use Rattle.event_steps.specs.kernel_fs.MachineState.{IsKernelOf}
use Rattle.event_steps.specs.kernel_fs.RegionAccept.{HasAsManyWaiting}
use Rattle.event_steps.specs.kernel_fs.declared.chunk_digest.Digestion.{Digestion}
use Rattle.event_steps.specs.kernel_fs.declared.chunk_digest.Digestion.TheVariants as digestion
use Rattle.event_steps.specs.kernel_fs.declared.error.KernelError.{KernelError}
use Rattle.event_steps.specs.kernel_fs.declared.error.KernelError.TheVariants as why
use Rattle.event_steps.specs.digester.DigestStep.{DigestsOrStays, IsDigested}
use Rattle.event_steps.specs.digester.MarkMoves.{mark_after}
use Rattle.event_steps.specs.digester.SealedLog.{StandsAtMark}
use Rattle.event_steps.specs.digester.declared.error.DigestError.{DigestError}
use Rattle.event_steps.specs.digester.declared.error.DigestError.TheVariants as digests
use Rattle.event_steps.specs.layout.Places.{Sizes}
use Rattle.event_steps.specs.layout.declared.marks.Marks.{Marks}
use Rattle.event_steps.specs.layout.declared.places.TheConstants.{MARKS_BLOCK}
use Rattle.event_steps.specs.file_graph.Graph.{Graph, is_among}
use Rattle.event_steps.specs.log_record.declared.format.Record.{Record}
use Rattle.event_steps.specs.update_log.View.{RegionView, records_of}
use Rattle.event_steps.specs.client_log.HasTurn.{region_at}
use Rattle.event_steps.specs.client_log.Turns.{place_of}
use Rattle.event_steps.specs.call_effects.Knowledge.{Knowledge}
use Rattle.event_steps.specs.libfs.RegionSeal.{HasTakenBack, without_blocks_of}
use Rattle.event_steps.specs.libfs.SealedRegion.{SealedRegionView, log_of}
use Rattle.event_steps.specs.world_invariant.ClientSteps.{with_client}
use Rattle.event_steps.specs.world_invariant.Invariant.{IsCoherent}
use Rattle.event_steps.specs.world_invariant.KernelSteps.{CanDigest}
use Rattle.event_steps.specs.world_invariant.Logs.{after_records}
use Rattle.event_steps.specs.world_invariant.Machine.{IsRunning, account_after, digest}
use Rattle.event_steps.specs.world_invariant.World.{Account, Client, World, moved_world, world_state}
use Rattle.event_steps.specs.world_invariant.World as world
use Rattle.event_steps.specs.shared_area.UnchangedMedia.{Stays}
use Rattle.event_steps.specs.Effects.{MakesAt}
use Rattle.event_steps.specs.Regions.{DigestsNext, IsAskedToDigest, IsDigestedOn, IsNotAcceptable, IsNotAccepted, IsNotPrepared, IsPutAway, IsPutBy, digest_outcome}
use Rattle.event_steps.specs.Sound.{IsAwayFrom, number_of}
use Rattle.event_steps.specs.Turns.{CanPlay}
use Rattle.event_steps.specs.View.{SeatView, SystemView, seat_of}
use Rattle.event_steps.specs.declared.event.Event.TheVariants.{Digest}
use Rattle.event_steps.specs.declared.outcome.Outcome.{Outcome}
use Rattle.event_steps.specs.declared.outcome.Outcome.TheVariants as outcomes
use Rattle.event_steps.specs.declared.outcome.Refusal.TheVariants as refusals
use Rattle.event_steps.proofs.world_invariant_lemmas.Digests.{digested_holds, digested_tree}
use Rattle.event_steps.proofs.world_invariant_lemmas.Records.{either}
use Rattle.event_lists.specs.Courses.{MovesOnly, PARTS, Reading}
use Rattle.system_laws.specs.Moves.{Stand}
use Rattle.system_laws.specs.Parts.{medium_of, region_of}
use Rattle.system_laws.specs.Clocks.{clocks_of}
use Rattle.system_laws.specs.Relation.{Cut, IsClientOf, SpellsAfter, SpellsShared, StandsMarked, machine_of}
use Rattle.system_laws.specs.Relation as cuts
use Rattle.recovery_laws.specs.Contents.{mark_by}
use Rattle.system_laws.specs.Steps.{IsBegunIn, IsStep}
use Rattle.system_laws.specs.WorldView.{WorldView, calls_of}
use Rattle.system_laws.proofs.AcceptedRegions.{Accepted, accepted, seat_then, unaccepted_then}
use Rattle.system_laws.proofs.AwayRegions.{MediumStays, all_stay, client_away, parts_stay, read_stays, same_medium, same_regions, shared_world, size_stays, unmoved_medium, with_away}
use Rattle.system_laws.proofs.ClientMoves.{StandsFor, client_moves, kernel_stands, with_part}
use Rattle.system_laws.proofs.DigestedChunks.{as_many, at_mark, can_digest, few, first, first_long, marks_new, mark_moves, marks_then, not_all, all_done, rest, stands_at_mark, stays_or_after, whose_log}
use Rattle.system_laws.proofs.EventRefusals.{bad}
use Rattle.system_laws.proofs.Given.{Given}
use Rattle.system_laws.proofs.GoodRegions.{is_region, marked_within, region, region_stands}
use Rattle.system_laws.proofs.KernelMoves.{SpellsOrAfter}
use Rattle.system_laws.proofs.OwnSeat.{client_at, leaves_at, marked_at, number_at}
use Rattle.system_laws.proofs.Seats.{client_is}
use Rattle.system_laws.proofs.Seated.{same_world}
use Rattle.system_laws.proofs.SharedStays.{StaysFrom}
use Rattle.system_laws.proofs.RegionStops.{away_at, current_at, other_at}
use Rattle.system_laws.proofs.StopMarks.{mark_stays}
use Rattle.system_laws.proofs.TakenBack.{back_client, taken_holds, taken_tree}
use Rattle.system_laws.proofs.StopsNow.{IsSized}
use Rattle.system_laws.proofs.WorldMoves.{StandsAs, Stood, still_world}

moves_none : (a b : Reading) → Stand a b → MovesOnly 0 a b
moves_none a b stand = record { later = subst (λ (n : ℕ). a 0 ≤ n) (sym (stand 0 (omega arith))) (omega arith); others = λ p low off. stand p low }

-- a region whose records are not all digested is put back
put_back : {M : Type 0} (device : Ghosts M) (s : SeatView M) (e : SealedRegionView M) (x : SeatView M) → IsPutAway device s e x → e.done ≢ length (records_of device e.region) → x ≡ with_away s e
put_back device s e x put off = elim (eqb_tells e.done (length (records_of device e.region))) [
  | inl all ↦ absurd (off all.1)
  | inr part ↦ subst (λ (t : Bool). IsPutBy t device s e x) part.0 put
]

not_ok : {answer : Result Digestion (KernelError DigestError)} (e : KernelError DigestError) → answer ≡ Err e → answer ≢ Ok digestion.Digested
not_ok e is ok = absurd (let clash : Err e ≡ Ok digestion.Digested = sym is ∙ ok in cc)

-- ---- what the kernel stands for

module _ {M : Type 0} (device : Ghosts M) (k : KernelView M) (w : World) (accepted : ℕ → ℕ) (shared_marks : Marks) (cut : Cut) (stands : StandsFor device k w accepted shared_marks cut) (after : KernelView M) (book : after.book ≡ k.book) (geometry : after.area.geometry ≡ k.area.geometry) where
  book_then : IsBookOf after.book (machine_of w accepted)
  book_then = subst (λ (b : Accounts). IsBookOf b (machine_of w accepted)) (sym book) stands.book

  capacity_then : w.kernel.capacity ≡ after.area.geometry.units
  capacity_then = stands.capacity ∙ ap (λ (g : Sizes). g.units) (sym geometry)

  -- where its media were only read it stands for what it stood for
  unmoved_stands : k.area.failed ≡ false → after.area.failed ≡ false → MediumStays device k.area.media after.area.media → StandsFor device after w accepted shared_marks cut
  unmoved_stands going going_then stays =
      let had = stands.going going in
      let same : disk device after.area ≡ disk device k.area = λ i. store_of (λ t. stays.reads t i) in
      record {
        book = book_then;
        capacity = capacity_then;
        going = λ _. (
          record {
            shared = had.0.shared ∙ (λ i. graph (sym geometry i) (sym same i));
            capacity = capacity_then;
            book = book_then;
            marks = (had.0.marks.0, ap marks same ∙ had.0.marks.1, had.0.marks.2);
          },
          ap marks same ∙ had.1,
        );
        stopped = λ failed. absurd (false≢true (sym going_then ∙ failed));
      }

-- ---- the event

module _ {M : Type 0} (device : Ghosts M) (sized : IsSized device) (given : Given device)
    (v : WorldView M) (c : ℕ) (o : Outcome) (new : SystemView M) (begun : IsBegunIn device v new) (turn : CanPlay device v.system (Digest c)) (makes : MakesAt device v.system c (Digest c) o new) where
  abbrev k : KernelView M
  k = v.system.kernel

  abbrev w : World
  w = begun.stands.world

  abbrev z : Stood
  z = record { world = w; accepted = begun.stands.accepted; marks = begun.stands.shared_marks; cut = begun.stands.cut }

  abbrev made : IsDigestedOn device k makes.seat o makes.seat_then new.kernel
  made = makes.makes

  abbrev a : SealedRegionView M
  a = made.away

  abbrev s : SeatView M
  s = with_away makes.seat a

  abbrev p : Client
  p = w.clients c

  is_c : is_client c ≡ true
  is_c = client_is c turn.0

  there : seat_of v.system c ≡ Some s
  there = makes.was ∙ (λ i. Some (record makes.seat { away = made.was_away i }))

  seated : IsAwayFrom device s.client a
  seated = (leaves_at device v c s is_c there begun.leaves).seated

  number : number_of s ≡ c
  number = number_at device v c s is_c there begun.leaves

  own : IsClientOf device s (calls_of v c) p
  own = client_at device v c s is_c there z begun.stands.is

  mark : StandsMarked (mark_by (Some z.marks) c) s (w.kernel.accounts c) (z.accepted c) p
  mark = marked_at device v c s is_c there z begun.stands.is

  stands : StandsFor device k w z.accepted z.marks z.cut
  stands = kernel_stands device v w z.accepted z.marks z.cut begun.stands.is

  each : (d : ℕ) → is_client d ≡ true → d ≢ c → (t : SeatView M) × (seat_of v.system d ≡ Some t)
  each d is_d off = let t = begun.leaves.clients d is_d in (t.0, t.1)

  seats_are : (x : SeatView M) → makes.seat_then ≡ x → new.seats ≡ slice_set v.system.seats (c - 1) x
  seats_are x is = makes.seats ∙ ap (λ (y : SeatView M). slice_set v.system.seats (c - 1) y) is

  beside : (x : SeatView M) → makes.seat_then ≡ x → ((r : ℕ) → r < 2 → MediumStays device (region_of s r).media (region_of x r).media) → (q : ℕ) → q < PARTS → q ≢ 0 → MediumStays device (medium_of v.system q) (medium_of new q)
  beside x is stays = parts_stay device v.system new c s x is_c there (seats_are x is) each stays

  -- ---- the region stays away

  module _ (b : SealedRegionView M) (x_is : makes.seat_then ≡ with_away s b) (accepted_then : ℕ → ℕ) (cut_then : Cut) (others : (d : ℕ) → d ≢ c → accepted_then d ≡ z.accepted d) (kernel : StandsFor device new.kernel w accepted_then z.marks cut_then)
      (marked : StandsMarked (mark_by (Some z.marks) c) (with_away s b) (w.kernel.accounts c) (accepted_then c) p) (stays : (r : ℕ) → r < 2 → MediumStays device (region_of s r).media (region_of (with_away s b) r).media) where
    abbrev then : Stood
    then = record { world = with_client w c p; accepted = accepted_then; marks = z.marks; cut = cut_then }

    away_then : StandsAs device (record { system = new; calls = v.calls }) then
    away_then = client_moves device v w z.accepted z.marks z.cut new v.calls c s (with_away s b) w.kernel.shared (w.kernel.accounts c) p accepted_then z.marks cut_then
        begun.stands.is is_c there (seats_are (with_away s b) x_is) (subst IsCoherent (sym (same_world w c)) begun.stands.is.coherent) begun.stands.is.eight (λ d off. refl)
        (with_part device new.kernel w accepted_then z.marks cut_then c p (inl (refl, refl)) kernel)
        (λ r small. size_stays device (region_of s r).media (region_of (with_away s b) r).media (stays r small))
        (client_away device s (Some b) (calls_of v c) p own) marked (λ d is_d off. (refl, others d off))

    -- and no part has moved
    stays_away : MediumStays device k.area.media new.kernel.area.media → new.kernel.area.geometry ≡ k.area.geometry → IsStep device v (Digest c) o (record { system = new; calls = v.calls })
    stays_away shared geometry =
        still_world device given v new v.calls (Digest c) o z then begun begun.stands.is away_then geometry
        (all_stay device v.system new shared (beside (with_away s b) x_is stays)) (moves_none (clocks_of device v.system) (clocks_of device new)) (ap world_state (same_world w c)) refl

    -- or the shared medium has, and a device of it has failed
    fails_away : StaysFrom device k new.kernel (SpellsOrAfter k.area.geometry w z.marks cut_then) → new.kernel.area.geometry ≡ k.area.geometry → IsStep device v (Digest c) o (record { system = new; calls = v.calls })
    fails_away shared geometry =
        shared_world device given sized v new v.calls (Digest c) o z then cut_then begun begun.stands.is away_then shared geometry (beside (with_away s b) x_is stays) (λ m. m) (ap world_state (same_world w c)) refl

  -- ---- it was not accepted

  not_accepted : IsNotAccepted device k makes.seat a o makes.seat_then new.kernel → IsStep device v (Digest c) o (record { system = new; calls = v.calls })
  not_accepted h = stays_away h.away h.rest z.accepted z.cut (λ d off. refl) (subst (λ (q : KernelView M). StandsFor device q w z.accepted z.marks z.cut) (sym h.kernel) stands)
      (unaccepted_then device s a k c z (calls_of v c) is_c seated number stands own mark h.away h.read h.unaccepted h.none) (read_stays device s a seated h.away h.read.read)
      (same_medium device k.area.media new.kernel.area.media (ap (λ (q : KernelView M). q.area.media) h.kernel)) (ap (λ (q : KernelView M). q.area.geometry) h.kernel)

  -- ---- it is accepted, and the chunk was not prepared

  abbrev IsMid : SealedRegionView M → KernelView M → Type 0
  IsMid b between = Accepted device s a k c z (calls_of v c) is_c seated number stands own mark b between

  area_stays : (between : KernelView M) → between.area ≡ k.area → MediumStays device k.area.media between.area.media
  area_stays between same = same_medium device k.area.media between.area.media (ap (λ (area : JournalView M). area.media) same)

  not_prepared : IsNotPrepared device k makes.seat a o makes.seat_then new.kernel → IsStep device v (Digest c) o (record { system = new; calls = v.calls })
  not_prepared h =
      let mid : IsMid h.away new.kernel = accepted device s a k c z (calls_of v c) is_c seated number stands own mark h.away new.kernel h.accepted in
      stays_away h.away h.rest mid.accepted z.cut mid.others mid.stands mid.marked mid.stays (area_stays new.kernel mid.area) (ap (λ (area : JournalView M). area.geometry) mid.area)

  -- ---- the kernel was asked

  module _ (h : IsAskedToDigest device k makes.seat a o makes.seat_then new.kernel) where
    abbrev b : SealedRegionView M
    b = h.away

    abbrev between : KernelView M
    between = h.between

    mid : IsMid b between
    mid = accepted device s a k c z (calls_of v c) is_c seated number stands own mark b between h.accepted

    geometry_between : between.area.geometry ≡ k.area.geometry
    geometry_between = ap (λ (area : JournalView M). area.geometry) mid.area

    -- nothing is digested
    module _ (same : log_of device h.away_then ≡ log_of device b) where
      same_away : h.away_then ≡ b
      same_away = h.same ∙ (λ i. record b { done = (ap (λ y. y.done) same) i })

      not_all_done : h.away_then.done ≢ length (records_of device h.away_then.region)
      not_all_done all =
          let left : b.done < length (records_of device b.region) = subst (λ rs. b.done < length rs) (sym mid.seat.records) mid.seat.some in
          let left_then : h.away_then.done < length (records_of device h.away_then.region) = subst (λ (y : SealedRegionView M). y.done < length (records_of device y.region)) (sym same_away) left in
          omega (arith, all, left_then)

      x_stays : makes.seat_then ≡ with_away s b
      x_stays = put_back device makes.seat h.away_then makes.seat_then h.put not_all_done ∙ ap (with_away makes.seat) same_away

      -- and the shared medium was only read
      nothing_digested : StandsFor device new.kernel w mid.accepted z.marks z.cut → MediumStays device between.area.media new.kernel.area.media → new.kernel.area.geometry ≡ between.area.geometry → IsStep device v (Digest c) o (record { system = new; calls = v.calls })
      nothing_digested kernel read geometry = stays_away b x_stays mid.accepted z.cut mid.others kernel mid.marked mid.stays
          (subst (λ (m : M). MediumStays device m new.kernel.area.media) (ap (λ (area : JournalView M). area.media) mid.area) read) (geometry ∙ geometry_between)

      as_it_was : new.kernel ≡ between → IsStep device v (Digest c) o (record { system = new; calls = v.calls })
      as_it_was kernel = nothing_digested (subst (λ (q : KernelView M). StandsFor device q w mid.accepted z.marks z.cut) (sym kernel) mid.stands)
          (same_medium device between.area.media new.kernel.area.media (ap (λ (q : KernelView M). q.area.media) kernel)) (ap (λ (q : KernelView M). q.area.geometry) kernel)

    -- ---- as many records as a batch takes

    abbrev d : DigestsNext device between (log_of device b) h.count h.answer (log_of device h.away_then) new.kernel
    d = h.digests

    abbrev firsts : List Record
    firsts = first device s b between c w mid.accepted z.marks z.cut (calls_of v c) is_c mid.seat number mid.stands own mid.marked mid.is_accepted h.count d.run

    abbrev rests : List Record
    rests = rest device s b between c w mid.accepted z.marks z.cut (calls_of v c) is_c mid.seat number mid.stands own mid.marked mid.is_accepted h.count d.run

    can : CanDigest w c firsts rests
    can = can_digest device s b between c w mid.accepted z.marks z.cut (calls_of v c) is_c mid.seat number mid.stands own mid.marked mid.is_accepted h.count d.run

    firsts_long : length firsts ≡ h.count
    firsts_long = first_long device s b between c w mid.accepted z.marks z.cut (calls_of v c) is_c mid.seat number mid.stands own mid.marked mid.is_accepted h.count d.run

    fit : b.done + h.count ≤ length p.sealed
    fit = few device s b between c w mid.accepted z.marks z.cut (calls_of v c) is_c mid.seat number mid.stands own mid.marked mid.is_accepted h.count d.run

    abbrev chunk : Cut
    chunk = cuts.Digest c firsts rests

    -- its log stands at the mark, and as many records are waiting as it has undigested
    stands_there : between.area.failed ≡ false → StandsAtMark (log_of device b) (disk device between.area)
    stands_there going = at_mark device s b between c w mid.accepted z.marks z.cut (calls_of v c) is_c mid.seat number mid.stands own mid.marked mid.is_accepted h.count d.run going

    waits_there : HasAsManyWaiting between.book (log_of device b)
    waits_there = as_many device s b between c w mid.accepted z.marks z.cut (calls_of v c) is_c mid.seat number mid.stands own mid.marked mid.is_accepted h.count d.run

    -- At each moment the shared medium spells the graph and the marks from before, or those behind the chunk.
    module _ (going : between.area.failed ≡ false) where
      from_between : StaysFrom device between new.kernel (SpellsOrAfter between.area.geometry w z.marks chunk)
      from_between = stays_or_after device s b between c w mid.accepted z.marks z.cut (calls_of v c) is_c mid.seat number mid.stands own mid.marked mid.is_accepted h.count d.run going new.kernel
          (d.any_moment going (stands_there going) waits_there)

      from_old : StaysFrom device k new.kernel (SpellsOrAfter k.area.geometry w z.marks chunk)
      from_old = subst (λ (area : JournalView M). Stays (SpellsOrAfter area.geometry w z.marks chunk) (device.moment area.media) (device.moment new.kernel.area.media) (device.left area.media) (device.left new.kernel.area.media)) mid.area from_between

      -- a device failed
      fault : log_of device h.away_then ≡ log_of device b → new.kernel.book ≡ between.book → new.kernel.area.geometry ≡ between.area.geometry → new.kernel.area.failed ≡ true → IsStep device v (Digest c) o (record { system = new; calls = v.calls })
      fault same book geometry failed =
          let kernel : StandsFor device new.kernel w mid.accepted z.marks chunk = record {
            book = book_then device between w mid.accepted z.marks z.cut mid.stands new.kernel book geometry;
            capacity = capacity_then device between w mid.accepted z.marks z.cut mid.stands new.kernel book geometry;
            going = λ not. absurd (false≢true (sym not ∙ failed));
            stopped = λ is content left. subst (λ (g : Sizes). SpellsOrAfter g w z.marks chunk content) (sym geometry) (from_between.any_moment (device.moment new.kernel.area.media) content from_between.later (omega arith) left);
          } in
          fails_away b (x_stays same) mid.accepted chunk mid.others kernel mid.marked mid.stays from_old (geometry ∙ geometry_between)

      -- it is digested
      module _ (is : h.answer ≡ Ok digestion.Digested) (geometry : new.kernel.area.geometry ≡ between.area.geometry) (going_then : new.kernel.area.failed ≡ false) where
        dg : IsDigested between.area.geometry (disk device between.area) (log_of device b) h.count (disk device new.kernel.area)
        dg = d.digested is

        abbrev marks_new_are : Marks
        marks_new_are = marks_then device s b between c w mid.accepted z.marks z.cut (calls_of v c) is_c mid.seat number mid.stands own mid.marked mid.is_accepted h.count d.run

        spelled : marks (disk device new.kernel.area) ≡ Some marks_new_are
        spelled = marks_new device s b between c w mid.accepted z.marks z.cut (calls_of v c) is_c mid.seat number mid.stands own mid.marked mid.is_accepted h.count d.run going (disk device new.kernel.area) dg

        moved : mark_by (Some marks_new_are) c ≡ mark_after b.generation (b.done + h.count) (length p.sealed)
        moved = mark_moves device s b between c w mid.accepted z.marks z.cut (calls_of v c) is_c mid.seat number mid.stands own mid.marked mid.is_accepted h.count d.run (disk device new.kernel.area Fast MARKS_BLOCK) spelled

        others_stay : (e : ℕ) → is_client e ≡ true → e ≢ c → (mark_by (Some marks_new_are) e ≡ mark_by (Some z.marks) e) × (mid.accepted e ≡ z.accepted e)
        others_stay e is_e off = (mark_stays z.marks c (length firsts) p.sealed e is_c is_e off, mid.others e off)

        done_is : h.away_then.done ≡ b.done + h.count
        done_is = ap (λ y. y.done) (d.done is)

        abbrev shared_now : Graph
        shared_now = after_records w.kernel.shared firsts

        abbrev account_now : Account
        account_now = account_after (w.kernel.accounts c) firsts

        machine : IsKernelOf device new.kernel (digest (machine_of w mid.accepted) c firsts)
        machine = subst (λ (e : ℕ). IsKernelOf device new.kernel (digest (machine_of w mid.accepted) e firsts))
            (whose_log device s b between c w mid.accepted z.marks z.cut (calls_of v c) is_c mid.seat number mid.stands own mid.marked mid.is_accepted h.count d.run)
            (d.step is (machine_of w mid.accepted) (mid.stands.going going).0)

        kernel_then : (q : Client) → StandsFor device new.kernel (moved_world w c shared_now account_now q) mid.accepted marks_new_are z.cut
        kernel_then q = record {
          book = machine.book;
          capacity = mid.stands.capacity ∙ ap (λ (g : Sizes). g.units) (sym geometry);
          going = λ _. (machine, spelled);
          stopped = λ failed. absurd (false≢true (sym going_then ∙ failed));
        }

        -- the client's regions
        region_is : h.away_then.region ≡ b.region
        region_is = ap (λ (y : SealedRegionView M). y.region) h.same

        still_there : (r : ℕ) → r < 2 → region_of (with_away s h.away_then) r ≡ region_of (with_away s b) r
        still_there = same_regions device s a seated b h.away_then region_is

        records_long : length (records_of device h.away_then.region) ≡ length p.sealed
        records_long = ap (λ (y : RegionView M). length (records_of device y)) region_is ∙ ap (λ (rs : List Record). length rs) (mid.seat.records ∙ sym own.sealed)

        -- what a step to a system that stands for this world is
        digests_to : (x : SeatView M) (q : Client) → makes.seat_then ≡ x → StandsAs device (record { system = new; calls = v.calls }) (record { world = moved_world w c shared_now account_now q; accepted = mid.accepted; marks = marks_new_are; cut = z.cut })
            → ((r : ℕ) → r < 2 → MediumStays device (region_of s r).media (region_of x r).media) → world_state (moved_world w c shared_now account_now q) ≡ world_state w → IsStep device v (Digest c) o (record { system = new; calls = v.calls })
        digests_to x q x_is then stays tree =
            shared_world device given sized v new v.calls (Digest c) o z (record { world = moved_world w c shared_now account_now q; accepted = mid.accepted; marks = marks_new_are; cut = z.cut }) chunk begun begun.stands.is then from_old (geometry ∙ geometry_between) (beside x x_is stays) (λ m. m) tree refl

        -- ---- some are left

        module _ (off : h.away_then.done ≢ length (records_of device h.away_then.region)) where
          abbrev x_part : SeatView M
          x_part = with_away s h.away_then

          part_low : b.done + h.count < length p.sealed
          part_low = let apart : b.done + h.count ≢ length p.sealed = λ all. off (done_is ∙ all ∙ sym records_long) in let most = fit in omega (arith, most, apart)

          part_stays : (r : ℕ) → r < 2 → MediumStays device (region_of s r).media (region_of x_part r).media
          part_stays r small = subst (λ (y : RegionView M). MediumStays device (region_of s r).media y.media) (sym (still_there r small)) (mid.stays r small)

          part_marked : StandsMarked (mark_by (Some marks_new_are) c) x_part account_now (mid.accepted c) p
          part_marked = record {
            mark = moved ∙ not_all b.generation (b.done + h.count) (length p.sealed) part_low ∙ (λ i. record { generation = (sym (ap (λ (y : SealedRegionView M). y.generation) h.same)) i; done = (sym done_is) i });
            digested = (let at = mid.marked.digested in let long = firsts_long in let done = done_is in omega (arith, at, long, done));
            accepts = mid.marked.accepts ∙ ap (λ (t : Bool). p.past + cond t (length p.sealed) 0) (sym (ap (λ (y : SealedRegionView M). y.accepted) h.same));
            held = λ i written. ap (is_among i) (ap (λ (y : SealedRegionView M). y.held) h.same) ∙ mid.marked.held i written;
          }

          part : IsStep device v (Digest c) o (record { system = new; calls = v.calls })
          part =
              let x_is : makes.seat_then ≡ x_part = put_back device makes.seat h.away_then makes.seat_then h.put off in
              digests_to x_part p x_is
              (client_moves device v w z.accepted z.marks z.cut new v.calls c s x_part shared_now account_now p mid.accepted marks_new_are z.cut
              begun.stands.is is_c there (seats_are x_part x_is) (digested_holds w c firsts rests begun.stands.is.coherent can) begun.stands.is.eight (λ e apart. refl) (kernel_then p)
              (λ r small. size_stays device (region_of s r).media (region_of x_part r).media (part_stays r small))
              (client_away device s (Some h.away_then) (calls_of v c) p own) part_marked others_stay)
              part_stays (digested_tree w c firsts rests begun.stands.is.coherent can)

        -- ---- the last ones

        module _ (all : h.away_then.done ≡ length (records_of device h.away_then.region)) (back : HasTakenBack device makes.seat.client h.away_then makes.seat_then.client) (rest_is : makes.seat_then ≡ record makes.seat { client = makes.seat_then.client; away = None }) where
          -- the client that has its region back
          abbrev x_back : SeatView M
          x_back = record s {
            client = record s.client { pass = record s.client.pass { records = makes.seat_then.client.pass.records }; log = record s.client.log { other = Some h.away_then.region; clean = false }; copies = makes.seat_then.client.copies; sealed = [] };
            away = None;
          }

          x_is : makes.seat_then ≡ x_back
          x_is = rest_is ∙ (λ i. record s {
            client = (back.rest ∙ (λ j. record s.client { pass = back.cleaned.rest j; log = back.log j; copies = makes.seat_then.client.copies; sealed = back.none j })) i;
            away = None;
          })

          abbrev q : Client
          q = back_client p account_now.mark s.client.sealed

          -- all that it sealed is digested
          all_are : (w.kernel.accounts c).mark + length firsts ≡ p.past + length p.sealed
          all_are = let at = mid.marked.digested in let long = firsts_long in let done = done_is in let end = all in let many = records_long in omega (arith, at, long, done, end, many)

          was_away : p.other ≡ world.Away
          was_away = own.turn.other ∙ ap (λ (y : Option (RegionView M)). region_at (place_of y s.client.log.clean)) seated.gone

          back_stays : (r : ℕ) → r < 2 → MediumStays device (region_of s r).media (region_of x_back r).media
          back_stays r small =
              let same : region_of x_back r ≡ region_of (with_away s h.away_then) r = elim (eqb_tells (s.client.log.generation % 2) r) [
                | inl here ↦ ap (region_of x_back) (sym here.1) ∙ current_at x_back ∙ sym (ap (region_of (with_away s h.away_then)) (sym here.1) ∙ current_at (with_away s h.away_then))
                | inr other ↦ other_at x_back r h.away_then.region other.1 refl ∙ sym (away_at (with_away s h.away_then) r h.away_then other.1 seated.gone refl)
              ] in
              subst (λ (y : RegionView M). MediumStays device (region_of s r).media y.media) (sym (same ∙ still_there r small)) (mid.stays r small)

          back_is : IsClientOf device x_back (calls_of v c) q
          back_is = record {
            knows = ap (λ (y : Knowledge). without_blocks_of y s.client.sealed) own.knows ∙ sym back.knows_then;
            turn = record { current = own.turn.current; other = refl; is_ready = own.turn.is_ready; begun = own.turn.begun };
            sealed = refl;
            begun = own.begun;
            reads_are = own.reads_are;
            writes_are = own.writes_are;
            spare = own.spare;
            pins = own.pins;
            status = own.status;
          }

          back_marked : StandsMarked (mark_by (Some marks_new_are) c) x_back account_now (mid.accepted c) q
          back_marked = record {
            mark = moved ∙ all_done b.generation (b.done + h.count) (length p.sealed) (sym done_is ∙ all ∙ records_long) ∙ ap (λ (n : ℕ). record { generation = n; done = 0 }) mid.seat.before;
            digested = omega arith;
            accepts = (let at : mid.accepted c ≡ p.past + length p.sealed = mid.marked.accepts ∙ ap (λ (t : Bool). p.past + cond t (length p.sealed) 0) mid.is_accepted in let end = all_are in omega (arith, at, end));
            held = λ i written. absurd (false≢true written);
          }

          taken : IsStep device v (Digest c) o (record { system = new; calls = v.calls })
          taken = digests_to x_back q x_is
              (client_moves device v w z.accepted z.marks z.cut new v.calls c s x_back shared_now account_now q mid.accepted marks_new_are z.cut
              begun.stands.is is_c there (seats_are x_back x_is) (taken_holds w c firsts rests s.client.sealed begun.stands.is.coherent can was_away all_are) begun.stands.is.eight (λ e apart. refl) (kernel_then q)
              (λ r small. size_stays device (region_of s r).media (region_of x_back r).media (back_stays r small))
              back_is back_marked others_stay)
              back_stays (taken_tree w c firsts rests s.client.sealed begun.stands.is.coherent can was_away all_are)

        digested_there : IsStep device v (Digest c) o (record { system = new; calls = v.calls })
        digested_there = elim (eqb_tells h.away_then.done (length (records_of device h.away_then.region))) [
          | inl all ↦ let back = subst (λ (t : Bool). IsPutBy t device makes.seat h.away_then makes.seat_then) all.0 h.put in taken all.1 back.0 back.1
          | inr part_is ↦ part part_is.1
        ]

      by : (r : Result Digestion DigestError) → h.answer ≡ kernel_answer r → DigestsOrStays device between.area new.kernel.area r → IsStep device v (Digest c) o (record { system = new; calls = v.calls })
      by (Ok digestion.Digested) is ends = digested_there is ends.geometry ends.going.1
      by (Ok digestion.NotNext) is ends = as_it_was (d.stays (λ e. absurd (let clash : Ok digestion.NotNext ≡ Ok digestion.Digested = sym is ∙ e in cc))).0 (subst (λ y. IfOk y (λ e. e ≢ digestion.Digested → new.kernel ≡ between)) is d.unasked (λ e. absurd (cc e)))
      by (Ok digestion.NotAccepted) is ends = as_it_was (d.stays (λ e. absurd (let clash : Ok digestion.NotAccepted ≡ Ok digestion.Digested = sym is ∙ e in cc))).0 (subst (λ y. IfOk y (λ e. e ≢ digestion.Digested → new.kernel ≡ between)) is d.unasked (λ e. absurd (cc e)))
      by (Err digests.DeviceFault) is ends = let same = d.stays (not_ok (why.Refused digests.DeviceFault) is) in fault same.0 same.1 ends.geometry (ends.fault refl).0
      by (Err (digests.BadLog place)) is ends =
          let same = d.stays (not_ok (why.Refused (digests.BadLog place)) is) in
          let quiet = ends.quiet_refused (λ e. absurd (cc e)) in
          let read = unmoved_medium device between.area.media new.kernel.area.media (ends.unmoved (λ e. absurd (cc e))) in
          nothing_digested same.0 (unmoved_stands device between w mid.accepted z.marks z.cut mid.stands new.kernel same.1 ends.geometry going quiet.2 read) read ends.geometry
      by (Err digests.Memory) is ends =
          let same = d.stays (not_ok (why.Refused digests.Memory) is) in
          let quiet = ends.quiet_refused (λ e. absurd (cc e)) in
          let read = unmoved_medium device between.area.media new.kernel.area.media (ends.unmoved (λ e. absurd (cc e))) in
          nothing_digested same.0 (unmoved_stands device between w mid.accepted z.marks z.cut mid.stands new.kernel same.1 ends.geometry going quiet.2 read) read ends.geometry

    answered : IsStep device v (Digest c) o (record { system = new; calls = v.calls })
    answered = elim (either between.area.failed) [
      | inl failed ↦ let before = d.answers.failed failed in as_it_was (d.stays (not_ok why.Failed before.0)).0 before.1
      | inr going ↦ let r = d.answers.going going in by going r.0 r.1 r.2
    ]

    -- ---- and it is not refused for a bad log

    going_unless : h.answer ≢ Err why.Failed → between.area.failed ≡ false
    going_unless not = elim (either between.area.failed) [
      | inl failed ↦ absurd (not (d.answers.failed failed).0)
      | inr going ↦ going
    ]

    -- what was digested of each client was accepted
    within : (e : ℕ) → is_client e ≡ true → (w.kernel.accounts e).mark ≤ mid.accepted e
    within e is_e = elim (eqb_tells e c) [
      | inl same ↦ subst (λ (n : ℕ). (w.kernel.accounts n).mark ≤ mid.accepted n) (sym same.1) (marked_within device (with_away s b) (mark_by (Some z.marks) c) (w.kernel.accounts c) (mid.accepted c) p own.sealed mid.seat mid.marked)
      | inr off ↦
          let t = begun.leaves.clients e is_e in
          let other = client_at device v e t.0 is_e t.1 z begun.stands.is in
          subst (λ (n : ℕ). (w.kernel.accounts e).mark ≤ n) (sym (mid.others e off.1))
          (marked_within device t.0 (mark_by (Some z.marks) e) (w.kernel.accounts e) (z.accepted e) (w.clients e) other.sealed t.2.seated (marked_at device v e t.0 is_e t.1 z begun.stands.is))
    ]

    runs : IsRunning (machine_of w mid.accepted)
    runs = record { booked = begun.stands.is.coherent.booked; accepted = within }

    asked_well : (r : Result Digestion (KernelError DigestError)) → h.answer ≡ r → digest_outcome r ≢ bad
    asked_well (Ok digestion.Digested) is told = absurd (cc told)
    asked_well (Ok digestion.NotNext) is told = d.not_next is (stands_there (going_unless (λ e. absurd (let clash : Ok digestion.NotNext ≡ Err why.Failed = sym is ∙ e in cc))))
    asked_well (Ok digestion.NotAccepted) is told = (d.not_accepted is).1 waits_there
    asked_well (Err why.Failed) is told = absurd (cc told)
    asked_well (Err (why.Refused digests.DeviceFault)) is told = absurd (cc told)
    asked_well (Err (why.Refused (digests.BadLog place))) is told =
        let going = going_unless (λ e. absurd (let clash : Err (why.Refused (digests.BadLog place)) ≡ Err why.Failed = sym is ∙ e in cc)) in
        d.never_bad (machine_of w mid.accepted) (region device s b c w (mid.accepted c) (mark_by (Some z.marks) c) (calls_of v c) is_c mid.seat number begun.stands.is.coherent own mid.marked) place (mid.stands.going going).0 runs
        (is_region device s b c w (mid.accepted c) (mark_by (Some z.marks) c) (calls_of v c) is_c mid.seat number begun.stands.is.coherent own mid.marked)
        (region_stands device s b c w (mid.accepted c) (mark_by (Some z.marks) c) (calls_of v c) is_c mid.seat number begun.stands.is.coherent own mid.marked) is
    asked_well (Err (why.Refused digests.Memory)) is told = absurd (cc told)

  -- a region that the kernel has not accepted stands at its client's mark, and no record of its client is waiting
  acceptable : (h : IsNotAccepted device k makes.seat a o makes.seat_then new.kernel) → IsNotAcceptable device k (log_of device h.away) → ⊥
  acceptable h not =
      let seat : IsAwayFrom device s.client h.away = seat_then device s a k c z (calls_of v c) is_c seated number stands own mark h.away h.read (λ _. not.none) in
      let marked = unaccepted_then device s a k c z (calls_of v c) is_c seated number stands own mark h.away h.read h.unaccepted h.none in
      let account = (stands.book c is_c).waiting in
      let accepts : z.accepted c ≡ p.past + 0 = marked.accepts ∙ ap (λ (t : Bool). p.past + cond t (length p.sealed) 0) h.none in
      let digested : (w.kernel.accounts c).mark ≡ p.past + h.away.done = marked.digested in
      let none : h.away.done ≡ 0 = not.none in
      not.stands (stands_at_mark device s h.away k c w z.accepted z.marks z.cut (calls_of v c) seat number stands own marked not.going)
      (ap (waiting_of k.book) (seat.client ∙ number) ∙ omega (arith, account, accepts, digested, none))

  unaccepted_well : (h : IsNotAccepted device k makes.seat a o makes.seat_then new.kernel) → o ≢ bad
  unaccepted_well h is =
      let both : outcomes.Refused h.why ≡ bad = sym h.told ∙ is in
      let why_is : h.why ≡ refusals.BadLog = cc in
      elim h.only [
        | inl unread ↦ elim unread [
          | inl memory ↦ absurd (let clash : refusals.Memory ≡ refusals.BadLog = sym memory ∙ why_is in cc)
          | inr fault ↦ absurd (let clash : refusals.DeviceFault ≡ refusals.BadLog = sym fault.0 ∙ why_is in cc)
        ]
        | inr asked ↦ elim asked [
          | inl failed ↦ absurd (let clash : refusals.KernelFailed ≡ refusals.BadLog = sym failed.0 ∙ why_is in cc)
          | inr not ↦ acceptable h not.1
        ]
      ]

  pub never_bad : o ≢ bad
  never_bad is = elim made.came [
    | inl none ↦ unaccepted_well none is
    | inr came ↦ elim came [
      | inl none ↦ absurd (let clash : outcomes.Refused refusals.Memory ≡ bad = sym none.told ∙ is in cc)
      | inr asked ↦ asked_well asked asked.answer refl (sym asked.told ∙ is)
    ]
  ]

  -- ---- what the event comes to

  pub digested : IsStep device v (Digest c) o (record { system = new; calls = v.calls })
  digested = elim made.came [
    | inl none ↦ not_accepted none
    | inr came ↦ elim came [
      | inl none ↦ not_prepared none
      | inr asked ↦ answered asked
    ]
  ]
