-- A client fetches a copy, and blocks of a file.
use Rattle.std.proofs.Common.{◌≡◌, ◌≢◌, inl, inr, ℕ, ◌-◌, ◌==◌, ◌||◌, ◌&&◌, cond, Bool, true, false, List, ◌++◌, drop, Option, Some, None, Ok, Err, refl, ap, sym, ◌∙◌, subst, arith}
use Rattle.std.specs.Prelude.{Result, OnErr, OnOk, option_map, slice_set}
use Rattle.std.proofs.lemmas.Bool.Decides.{nat_tests}
use Rattle.tier_device.specs.declared.media.Media.{Ghosts}
use Rattle.posix_calls.specs.Operations.{is_client}
use Rattle.posix_calls.specs.Tree.{Own}
use Rattle.posix_calls.specs.declared.call.Call.{Call}
use Rattle.event_steps.specs.area_reader.Store.{disk}
use Rattle.event_steps.specs.call_effects.Knowledge.{Agrees, IsPlanned, Knowledge, with_copy}
use Rattle.event_steps.specs.call_effects.NodeView.{NodeView, view_at, view_of_node}
use Rattle.event_steps.specs.kernel_fs.MachineState.{IsMarkIn}
use Rattle.event_steps.specs.digester.MarkMoves.{mark_of}
use Rattle.event_steps.specs.layout.declared.marks.Mark.{Mark}
use Rattle.event_steps.specs.layout.declared.marks.Marks.{Marks}
use Rattle.event_steps.specs.lease_manager.PassLeases.{is_reading, is_writing, reads, writes}
use Rattle.event_steps.specs.lease_manager.Passes.{client_of, lease_of}
use Rattle.event_steps.specs.lease_manager.Words.{HasWord}
use Rattle.event_steps.specs.lease_manager.declared.view.LeaseMode.{LeaseMode}
use Rattle.event_steps.specs.lease_manager.declared.view.LeaseMode.TheVariants.{Free, Reading, Trying, Writing}
use Rattle.event_steps.specs.libfs.ClientHoldings.{known_to}
use Rattle.event_steps.specs.libfs.NeedService.{GetsNode, HasFetched, HasLooked, records_behind, shared_by}
use Rattle.event_steps.specs.libfs.View.{ClientView}
use Rattle.event_steps.specs.client_log.View.{current_records}
use Rattle.event_steps.specs.libfs.declared.begun_record.Begun.{Begun}
use Rattle.event_steps.specs.libfs.declared.denial.Denied.{Denied}
use Rattle.event_steps.specs.file_graph.Graph.{Graph, Node, is_among}
use Rattle.event_steps.specs.file_graph.Numbers.{is_inode}
use Rattle.event_steps.specs.log_record.declared.format.Record.{Record}
use Rattle.event_steps.specs.world_invariant.ClientParts.{IsSoundPart}
use Rattle.event_steps.specs.world_invariant.ClientSteps.{with_client}
use Rattle.event_steps.specs.world_invariant.Invariant.{IsCoherent}
use Rattle.event_steps.specs.world_invariant.World.{Account, Client, World, has_lease, log_of, held_descriptors, undigested_records, whole_graph, world_state}
use Rattle.event_steps.specs.world_invariant.World as world
use Rattle.event_steps.specs.Effects.{MakesAt}
use Rattle.event_steps.specs.KernelRequests.{AnswersFetch, HasAsked, HasNoneMeanwhile}
use Rattle.event_steps.specs.Outcomes.{noted_refusals}
use Rattle.event_steps.specs.Sound.{IsSeated}
use Rattle.event_steps.specs.Stops.{SeatLeaves}
use Rattle.event_steps.specs.Turns.{CanPlay, IsHeld}
use Rattle.event_steps.specs.View.{SeatView, SystemView, seat_of}
use Rattle.event_steps.specs.declared.event.Event.TheVariants.{Fetch}
use Rattle.event_steps.specs.declared.outcome.Outcome.{Outcome}
use Rattle.event_steps.specs.client_view.KnowledgeTables.{block_by, size_known}
use Rattle.event_steps.specs.world_invariant.LeaseSteps.{CanFetch, own_view}
use Rattle.event_steps.specs.world_invariant.Logs.{is_written}
use Rattle.event_steps.proofs.world_invariant_lemmas.Begins.{tree_same}
use Rattle.event_steps.proofs.world_invariant_lemmas.Fetches.{fetched_holds, fetched_tree}
use Rattle.event_steps.proofs.world_invariant_lemmas.Moved.{after_less, before_less, booked_same, quiet}
use Rattle.event_steps.proofs.world_invariant_lemmas.Records.{records_stay}
use Rattle.system_laws.specs.Leaves.{IsSettledAt}
use Rattle.system_laws.specs.Relation.{Cut, IsBegunAs, IsClientOf, IsWorldOf, StandsMarked}
use Rattle.system_laws.specs.Steps.{IsBegunIn, IsStep}
use Rattle.recovery_laws.specs.Contents.{mark_by}
use Rattle.system_laws.specs.WorldTree.{away_records}
use Rattle.system_laws.specs.WorldView.{WorldView, calls_of}
use Rattle.system_laws.proofs.FailedKernel.{refused_step}
use Rattle.system_laws.proofs.FailedRequests.{OfCopy, failed_request}
use Rattle.system_laws.proofs.Given.{Given}
use Rattle.system_laws.proofs.LeasesGiven.{clean_log}
use Rattle.system_laws.proofs.Looked.{looked_step}
use Rattle.system_laws.proofs.MarkPlaces.{behind_mark, mark_now, not_away}
use Rattle.system_laws.proofs.OwnSeat.{of_seat, turn_at}
use Rattle.system_laws.proofs.Refills.{known_part}
use Rattle.system_laws.proofs.Seated.{own_mark, own_part, same_world}
use Rattle.system_laws.proofs.Seats.{client_is}
use Rattle.system_laws.proofs.Supplies.{client_with, supplied}

-- ---- a client's records behind its mark

module _ {M : Type 0} (device : Ghosts M) (s : SeatView M) (g : Graph) (a : Account) (c accepted : ℕ) (call : Option Call) (p : Client) (m : Mark) (of : IsClientOf device s call p) (marked : StandsMarked m s a accepted p) (seated : IsSeated device s.client s.away) (stands : IsSoundPart g a c p) where
  -- the records of the region that is away are those that it keeps
  kept_records : away_records device s.away ≡ s.client.sealed
  kept_records = elim (s.away) as (λ o. IsSeated device s.client o → away_records device o ≡ s.client.sealed) [
    | None ↦ λ here. sym (sym of.sealed ∙ stands.marked.none (λ away. not_away s.client.log.other s.client.log.clean here (sym of.turn.other ∙ away)))
    | Some x ↦ λ from. from.records
  ] seated

  -- they are those that its account has as not digested
  pub behind_stood : records_behind device s.client m ≡ undigested_records a p
  behind_stood =
      ap (λ (rs : List Record). cond (m.generation == s.client.log.generation) (drop m.done (current_records device s.client.log)) (drop m.done rs ++ current_records device s.client.log)) (sym kept_records)
      ∙ behind_mark device s a p call seated of m (mark_now device s a p call seated of m g c accepted marked stands)

-- ---- what a client knows

-- with other copies and blocks of what it holds, which agree with the whole, and by which its begun call is planned
module _ (w : World) (c : ℕ) (h : IsCoherent w) (is_c : is_client c ≡ true) (k : Knowledge) (client : k.client ≡ (w.clients c).knows.client) (own : k.own ≡ (w.clients c).knows.own) (granted : k.granted ≡ (w.clients c).knows.granted)
    (agrees : Agrees k (whole_graph w) (held_descriptors w)) (copies : (i : ℕ) (copy : Option NodeView) → k.copies i ≡ Some copy → has_lease (w.clients c) i ≡ true) (blocks : (i b : ℕ) (bytes : List ℕ) → k.blocks i b ≡ Some bytes → has_lease (w.clients c) i ≡ true)
    (pending : (b : world.Begun) → (w.clients c).begun ≡ Some b → IsPlanned k b.call b.new b.operation b.change.effects) where
  abbrev knower : Client
  knower = record (w.clients c) { knows = k }

  pub known_holds : IsCoherent (with_client w c knower)
  known_holds =
      let s = h.stands c is_c in
      quiet w c w.kernel.shared (w.kernel.accounts c) knower h is_c refl refl own (booked_same w c knower h is_c)
      (record {
        number = client ∙ s.number;
        rests = record { closed = λ e n. ap (λ (o : Own). o n) own ∙ s.rests.closed e n; idle = s.rests.idle };
        marked = s.marked;
        starts = s.starts;
        logged = s.logged;
        units = s.units;
        numbered = record {
          made = s.numbered.made;
          once = s.numbered.once;
          granted = λ i e. s.numbered.granted i (sym (ap (λ (f : ℕ → Bool). f i) granted) ∙ e);
          unused = λ i e. s.numbered.unused i (sym (ap (λ (f : ℕ → Bool). f i) granted) ∙ e);
        };
        leased = record { copies = copies; blocks = blocks };
        pinned = record { opened = λ n o e. s.pinned.opened n o (sym (ap (λ (f : Own). f n) own) ∙ e); booked = s.pinned.booked };
        pending = λ b e. let q = s.pending b e in record { planned = pending b e; some = q.some; pinned = q.pinned };
      })
      (before_less w c knower h is_c (λ i e. e)) (after_less w c knower h is_c (λ i e. e)) agrees

  pub known_tree : world_state (with_client w c knower) ≡ world_state w
  known_tree = tree_same w c w.kernel.shared (w.kernel.accounts c) knower refl refl own

-- ---- what is held

word_is : (i : ℕ) → HasWord i → is_inode i ≡ true
word_is i word = grind (arith, nat_tests, word.0, word.1)

held_for : (mode : LeaseMode) (b : Bool) → b ≡ true → mode ≢ Free → mode ≢ Trying → ((b && is_reading mode) || (b && is_writing mode)) ≡ true
held_for Free b is free settled = absurd (free refl)
held_for Reading b is free settled = ap (λ t. (t && true) || (t && false)) is
held_for Writing b is free settled = ap (λ t. (t && false) || (t && true)) is
held_for Trying b is free settled = absurd (settled refl)

pub held_is : {M : Type 0} (p : Client) (s : SeatView M) (i : ℕ) → p.reads i ≡ reads s.client.pass i → p.writes i ≡ writes s.client.pass i → IsHeld s.client i → lease_of s.client.pass i ≢ Trying → has_lease p i ≡ true
held_is p s i for_reading for_writing held settled = ap (λ t. t || p.writes i) for_reading ∙ ap (λ t. reads s.client.pass i || t) for_writing ∙ held_for (lease_of s.client.pass i) (is_inode i) (word_is i held.0) held.1 settled

-- ---- a copy

module _ {M : Type 0} (device : Ghosts M) (v : WorldView M) (w : World) (accepted : ℕ → ℕ) (shared_marks : Marks) (cut : Cut) (c : ℕ) (s : SeatView M) (is : IsWorldOf device v w accepted shared_marks cut) (is_c : is_client c ≡ true) (there : seat_of v.system c ≡ Some s) where
  -- its records behind the mark that the kernel's medium has of it
  pub behind_its_mark : SeatLeaves device s → client_of s.client.pass ≡ c → v.system.kernel.area.failed ≡ false → (mark : Mark) → IsMarkIn (disk device v.system.kernel.area) (client_of s.client.pass) mark → records_behind device s.client mark ≡ log_of w c
  behind_its_mark left number going mark of =
      let one : of.0 ≡ shared_marks = same_marks (sym of.1 ∙ (is.going going).1) in
      let same : mark ≡ mark_by (Some shared_marks) c = of.2 ∙ ap (mark_of of.0) number ∙ ap (λ (x : Marks). mark_of x c) one in
      behind_stood device s w.kernel.shared (w.kernel.accounts c) c (accepted c) (calls_of v c) (w.clients c) mark (own_part device v w accepted shared_marks cut c s is is_c there)
      (subst (λ (m : Mark). StandsMarked m s (w.kernel.accounts c) (accepted c) (w.clients c)) (sym same) (own_mark device v w accepted shared_marks cut c s is is_c there)) left.seated (is.coherent.stands c is_c)
    where
      same_marks : {x y : Marks} → Some x ≡ Some y → x ≡ y
      same_marks e = cc

  -- what its pass holds it holds in the world
  pub leased_is : (i : ℕ) → IsSettledAt v.system c i → IsHeld s.client i → has_lease (w.clients c) i ≡ true
  leased_is i settled held =
      let own = own_part device v w accepted shared_marks cut c s is is_c there in
      held_is (w.clients c) s i (own.reads_are i) (own.writes_are i) held (of_seat device v c s is_c there (λ y. lease_of y.client.pass i ≢ Trying) (settled is_c held.0))

  -- with its own copies, spare units and pins it is the client that it was
  pub same_part : client_with (w.clients c) s.client ≡ w.clients c
  same_part = let own = own_part device v w accepted shared_marks cut c s is is_c there in known_part (w.clients c) s.client (w.clients c).knows (w.clients c).spare (sym own.knows) (sym own.spare) own.pins

module _ {M : Type 0} (device : Ghosts M) where
  pub fetched : Given device → (v : WorldView M) (c i : ℕ) (o : Outcome) (new : SystemView M)
      → IsBegunIn device v new → CanPlay device v.system (Fetch c i) → MakesAt device v.system c (Fetch c i) o new → IsSettledAt v.system c i → IsStep device v (Fetch c i) o (record { system = new; calls = v.calls })
  fetched given v c i o new begun turn makes settled = elim makes.makes [ inl none ↦ meanwhile none | inr got ↦ by_failed v.system.kernel.area.failed refl got ]
    where
      meanwhile : HasNoneMeanwhile v.system.kernel makes.seat o makes.seat_then new.kernel → IsStep device v (Fetch c i) o (record { system = new; calls = v.calls })
      meanwhile none = refused_step device given v new c makes.seat makes.seat.refused (Fetch c i) o begun (client_is c turn.0) makes.was none.kernel (makes.seats ∙ ap (λ (y : SeatView M). slice_set v.system.seats (c - 1) y) none.same) refl (λ stand. stand)

      -- nothing of the client changes
      stays : (answer : Result (Unit {0}) Denied) → v.system.kernel.area.failed ≡ false → HasAsked makes.seat answer o makes.seat_then → makes.seat_then.client ≡ makes.seat.client → HasLooked device v.system.kernel new.kernel answer → IsStep device v (Fetch c i) o (record { system = new; calls = v.calls })
      stays answer going asks same looked =
          let is = begun.stands.is in
          let w = begun.stands.world in
          let s = makes.seat in
          let is_c = client_is c turn.0 in
          let part = same_part device v w begun.stands.accepted begun.stands.shared_marks begun.stands.cut c s is is_c makes.was in
          looked_step device given v new c s makes.seat_then (Fetch c i) o begun is_c makes.was makes.seats (λ stand. stand) refl s.client (noted_refusals answer s.refused) (w.clients c) answer
          (asks.rest ∙ ap (λ (x : ClientView M). record s { client = x; refused = noted_refusals answer s.refused }) same) going looked part
          (subst IsCoherent (sym (same_world w c)) is.coherent) (ap world_state (same_world w c))

      -- what no record of its own touches the client gets as the whole has it
      gets : (x : Unit {0}) → v.system.kernel.area.failed ≡ false → makes.seat.client.begun ≡ None → HasAsked makes.seat (Ok x) o makes.seat_then → GetsNode device device v.system.kernel makes.seat.client i makes.seat_then.client → HasLooked device v.system.kernel new.kernel (Ok x)
          → IsStep device v (Fetch c i) o (record { system = new; calls = v.calls })
      gets x going idle asks got looked =
          let is = begun.stands.is in
          let w = begun.stands.world in
          let s = makes.seat in
          let is_c = client_is c turn.0 in
          let own = own_part device v w begun.stands.accepted begun.stands.shared_marks begun.stands.cut c s is is_c makes.was in
          let held = (turn_at device v c makes.seat is_c makes.was (Fetch c i) turn.1).1 in
          let leased = leased_is device v w begun.stands.accepted begun.stands.shared_marks begun.stands.cut c s is is_c makes.was i settled held in
          let none = (subst (λ (b : Option Begun). IsBegunAs (calls_of v c) b (w.clients c).begun) idle own.begun).0 in
          let can : CanFetch w c i = record {
            client = is_c;
            leased = leased;
            missing = inl none;
            clear = λ gone b. ap (λ (k : Knowledge). k.blocks i b) own.knows ∙ ap (λ (copy : Option (Option NodeView)). block_by (size_known copy) s.client.copies.blocks i b) got.none;
          } in
          let clean : is_written i (log_of w c) ≡ false = clean_log device s.client (w.clients c).sealed (w.clients c).current i ((w.kernel.accounts c).mark - (w.clients c).past) own.sealed own.turn.current got.untouched in
          let was = (is.going going).0 in
          let more : Knowledge = with_copy (w.clients c).knows i (view_at (own_view w c) i) in
          let knows : known_to makes.seat_then.client ≡ more =
          got.knows_then
          ∙ ap (λ (k : Knowledge). with_copy k i (view_at (shared_by device v.system.kernel) i)) (sym own.knows)
          ∙ ap (λ (g : Graph). with_copy (w.clients c).knows i (view_at g i)) (sym was.shared)
          ∙ ap (λ (n : Option Node). with_copy (w.clients c).knows i (option_map view_of_node n)) (sym (records_stay w.kernel.shared (log_of w c) i clean)) in
          looked_step device given v new c s makes.seat_then (Fetch c i) o begun is_c makes.was makes.seats (λ stand. stand) refl makes.seat_then.client s.refused
          (record (w.clients c) { knows = more }) (Ok x)
          (asks.rest ∙ ap (λ (y : ClientView M). record s { client = y; refused = s.refused }) (got.rest ∙ ap (λ (y : ClientView M). supplied s.client y) (sym got.rest))) going looked
          (known_part (w.clients c) makes.seat_then.client more (w.clients c).spare knows
          (ap (λ (y : ClientView M). y.spare) got.rest ∙ sym own.spare) (λ j. own.pins j ∙ ap (λ (y : ClientView M). is_among j y.pins) (sym got.rest)))
          (fetched_holds w c i is.coherent can) (fetched_tree w c i is.coherent can)

      by_answer : (answer : Result (Unit {0}) Denied) → v.system.kernel.area.failed ≡ false → makes.seat.client.begun ≡ None → HasAsked makes.seat answer o makes.seat_then → OnOk answer (HasFetched device device v.system.kernel makes.seat.client i makes.seat_then.client)
          → OnErr answer (makes.seat_then.client ≡ makes.seat.client) → HasLooked device v.system.kernel new.kernel answer → IsStep device v (Fetch c i) o (record { system = new; calls = v.calls })
      by_answer (Err why) going idle asks got same looked = stays (Err why) going asks same looked
      by_answer (Ok x) going idle asks got same looked = elim got [ inl kept ↦ stays (Ok x) going asks kept.same looked | inr node ↦ gets x going idle asks node looked ]

      by_failed : (b : Bool) → v.system.kernel.area.failed ≡ b → AnswersFetch device v.system.kernel makes.seat i o makes.seat_then new.kernel → IsStep device v (Fetch c i) o (record { system = new; calls = v.calls })
      by_failed true failed got = failed_request device given v c (Fetch c i) o new begun turn makes (OfCopy i) failed
      by_failed false going got = by_answer got.answer going got.idle got.asks got.fetched got.refused got.kernel
