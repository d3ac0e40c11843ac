-- A client fetches blocks of a file.
use Rattle.std.proofs.Common.{◌≡◌, ◌⊎◌, inl, inr, ℕ, ◌-◌, Bool, true, false, List, Option, Some, refl, ap, sym, ◌∙◌, subst}
use Rattle.std.specs.Prelude.{slice_set}
use Rattle.tier_device.specs.declared.media.Media.{Ghosts}
use Rattle.posix_calls.specs.Operations.{is_client}
use Rattle.event_steps.specs.area_reader.Store.{disk}
use Rattle.event_steps.specs.call_effects.Blocks.{block_of, range_by}
use Rattle.event_steps.specs.call_effects.Knowledge.{IsPlanned, Knowledge, part_of}
use Rattle.event_steps.specs.kernel_fs.MachineState.{IsMarkIn}
use Rattle.event_steps.specs.digester.MarkMoves.{mark_of}
use Rattle.event_steps.specs.layout.declared.marks.Mark.{Mark}
use Rattle.event_steps.specs.lease_manager.Passes.{client_of}
use Rattle.event_steps.specs.libfs.ClientHoldings.{known_to}
use Rattle.event_steps.specs.libfs.NeedService.{shared_by}
use Rattle.event_steps.specs.libfs.View.{ClientView}
use Rattle.event_steps.specs.file_graph.Graph.{Graph, file_bytes, is_among}
use Rattle.event_steps.specs.log_record.declared.format.Record.{Record}
use Rattle.event_steps.specs.world_invariant.ClientSteps.{with_client}
use Rattle.event_steps.specs.world_invariant.Invariant.{IsCoherent}
use Rattle.event_steps.specs.world_invariant.World.{World, has_lease, held_descriptors, log_of, whole_graph, world_state}
use Rattle.event_steps.specs.world_invariant.World as world
use Rattle.event_steps.specs.Effects.{MakesAt}
use Rattle.event_steps.specs.KernelRequests.{GetsBlocks, HasNoSuchBlocks}
use Rattle.event_steps.specs.Outcomes.{noted_refusals}
use Rattle.event_steps.specs.Turns.{CanPlay}
use Rattle.event_steps.specs.View.{SeatView, SystemView}
use Rattle.event_steps.specs.declared.event.Event.TheVariants.{Blocks}
use Rattle.event_steps.specs.declared.outcome.Outcome.{Outcome}
use Rattle.event_steps.specs.client_view.After.{block_laid, bytes_at}
use Rattle.event_steps.specs.client_view.BlockPut.{IsBlockLong}
use Rattle.event_steps.proofs.client_view_lemmas.Laid.{block_is}
use Rattle.event_steps.proofs.world_invariant_lemmas.Bytes.{same_call, same_effects}
use Rattle.event_steps.proofs.world_invariant_lemmas.Fetches.{view_is}
use Rattle.system_laws.specs.Leaves.{IsSettledAt}
use Rattle.system_laws.specs.Steps.{IsBegunIn, IsStep}
use Rattle.system_laws.specs.WorldView.{WorldView}
use Rattle.system_laws.proofs.FailedKernel.{refused_step}
use Rattle.system_laws.proofs.FailedRequests.{OfBlocks, failed_request}
use Rattle.system_laws.proofs.FetchedCopies.{behind_its_mark, known_holds, known_tree, leased_is}
use Rattle.system_laws.proofs.Given.{Given}
use Rattle.system_laws.proofs.KnownBlocks.{HasMoreOf, IsBlockOfFile, more_agrees}
use Rattle.system_laws.proofs.Looked.{looked_step}
use Rattle.system_laws.proofs.OwnSeat.{leaves_at, number_at, turn_at}
use Rattle.system_laws.proofs.Refills.{known_part}
use Rattle.system_laws.proofs.Seated.{own_part}
use Rattle.system_laws.proofs.Seats.{client_is}
use Rattle.system_laws.proofs.Supplies.{supplied}

-- It knows no block that it knew not before but of this file: the kernel's, with its own records laid over it, as long as its copy of the file tells.
abbrev pub HasLaid : World → ℕ → ℕ → (ℕ → ℕ → Option (List ℕ)) → Type 0
HasLaid w c i blocks = (j b : ℕ) (bytes : List ℕ) → blocks j b ≡ Some bytes
    → ((w.clients c).knows.blocks j b ≡ Some bytes) ⊎ ((j ≡ i) × (block_laid (log_of w c) i b (Some (block_of b (bytes_at w.kernel.shared i))) ≡ Some bytes) × IsBlockLong (w.clients c).knows i b bytes)

module _ (w : World) (c i : ℕ) (h : IsCoherent w) (is_c : is_client c ≡ true) (leased : has_lease (w.clients c) i ≡ true) (blocks : ℕ → ℕ → Option (List ℕ)) (laid : HasLaid w c i blocks) where
  abbrev knew : Knowledge
  knew = (w.clients c).knows

  -- they are those of the file in the whole, where it stands
  of_file : (b : ℕ) (bytes : List ℕ) → block_laid (log_of w c) i b (Some (block_of b (bytes_at w.kernel.shared i))) ≡ Some bytes → IsBlockOfFile (whole_graph w) i b bytes
  of_file b bytes is content there =
      let both : Some bytes ≡ Some (block_of b content) = sym is ∙ block_is w.kernel.shared (log_of w c) i b content (sym (ap file_bytes (view_is w c i h is_c leased)) ∙ there) in
      cc

  more_of : HasMoreOf knew (whole_graph w) i blocks
  more_of j b bytes is = elim (laid j b bytes is) [ inl was ↦ inl was | inr put ↦ inr (put.0, put.2, of_file b bytes put.1) ]

  held_block : (j b : ℕ) (bytes : List ℕ) → blocks j b ≡ Some bytes → has_lease (w.clients c) j ≡ true
  held_block j b bytes is = elim (laid j b bytes is) [ inl was ↦ (h.stands c is_c).leased.blocks j b bytes was | inr put ↦ ap (has_lease (w.clients c)) put.0 ∙ leased ]

  still_planned : (b : world.Begun) → (w.clients c).begun ≡ Some b → IsPlanned (record knew { blocks = blocks }) b.call b.new b.operation b.change.effects
  still_planned b is =
      let y = (h.stands c is_c).pending b is in
      record {
        comes = same_call (part_of knew) (λ j at count. range_by (blocks j) at count) knew.own b.call b.new b.operation b.change.effects y.planned.comes y.planned.effects y.some;
        effects = same_effects (part_of knew) (λ j at count. range_by (blocks j) at count) b.new b.operation b.change.effects y.planned.effects;
        number = y.planned.number;
      }

  pub laid_holds : IsCoherent (with_client w c (record (w.clients c) { knows = record knew { blocks = blocks } }))
  laid_holds = known_holds w c h is_c (record knew { blocks = blocks }) refl refl refl (more_agrees knew (whole_graph w) (held_descriptors w) (h.agrees c is_c) i blocks more_of) (h.stands c is_c).leased.copies held_block still_planned

  pub laid_tree : world_state (with_client w c (record (w.clients c) { knows = record knew { blocks = blocks } })) ≡ world_state w
  laid_tree = known_tree w c h is_c (record knew { blocks = blocks }) refl refl refl (more_agrees knew (whole_graph w) (held_descriptors w) (h.agrees c is_c) i blocks more_of) (h.stands c is_c).leased.copies held_block still_planned

module _ {M : Type 0} (device : Ghosts M) where
  pub blocks_fetched : Given device → (v : WorldView M) (c i first count : ℕ) (o : Outcome) (new : SystemView M)
      → IsBegunIn device v new → CanPlay device v.system (Blocks c i first count) → MakesAt device v.system c (Blocks c i first count) o new → IsSettledAt v.system c i → IsStep device v (Blocks c i first count) o (record { system = new; calls = v.calls })
  blocks_fetched given v c i first count o new begun turn makes settled = elim makes.makes [ inl none ↦ nowhere none | inr got ↦ by_failed v.system.kernel.area.failed refl got ]
    where
      nowhere : HasNoSuchBlocks v.system.kernel makes.seat first count o makes.seat_then new.kernel → IsStep device v (Blocks c i first count) o (record { system = new; calls = v.calls })
      nowhere none = refused_step device given v new c makes.seat makes.seat.refused (Blocks c i first count) o begun (client_is c turn.0) makes.was none.kernel (makes.seats ∙ ap (λ (y : SeatView M). slice_set v.system.seats (c - 1) y) none.same) refl (λ stand. stand)

      by_failed : (b : Bool) → v.system.kernel.area.failed ≡ b → GetsBlocks device v.system.kernel makes.seat i first count o makes.seat_then new.kernel → IsStep device v (Blocks c i first count) o (record { system = new; calls = v.calls })
      by_failed true failed got = failed_request device given v c (Blocks c i first count) o new begun turn makes (OfBlocks i first count) failed
      by_failed false going got =
          let is = begun.stands.is in
          let w = begun.stands.world in
          let s = makes.seat in
          let is_c = client_is c turn.0 in
          let own = own_part device v w begun.stands.accepted begun.stands.shared_marks begun.stands.cut c s is is_c makes.was in
          let number = number_at device v c s is_c makes.was begun.leaves in
          let held = (turn_at device v c makes.seat is_c makes.was (Blocks c i first count) turn.1).1 in
          let leased = leased_is device v w begun.stands.accepted begun.stands.shared_marks begun.stands.cut c s is is_c makes.was i settled held in
          let was = is.going going in
          let mark : Mark = mark_of begun.stands.shared_marks (client_of s.client.pass) in
          let is_mark : IsMarkIn (disk device v.system.kernel.area) (client_of s.client.pass) mark = (begun.stands.shared_marks, was.1, refl) in
          let records = behind_its_mark device v w begun.stands.accepted begun.stands.shared_marks begun.stands.cut c s is is_c makes.was (leaves_at device v c s is_c makes.was begun.leaves) number going mark is_mark in
          let then = (known_to makes.seat_then.client).blocks in
          let laid : HasLaid w c i then = λ j b bytes there. elim (got.fetched.no_more mark is_mark j b bytes there) [
            | inl known ↦ inl (ap (λ (k : Knowledge). k.blocks j b) own.knows ∙ known)
            | inr put ↦ inr (
              put.0,
              ap (λ (g : Graph). block_laid (log_of w c) i b (Some (block_of b (bytes_at g i)))) was.0.shared
                  ∙ ap (λ (rs : List Record). block_laid rs i b (Some (block_of b (bytes_at (shared_by device v.system.kernel) i)))) (sym records)
                  ∙ put.3,
              subst (λ (k : Knowledge). IsBlockLong k i b bytes) (sym own.knows) put.4,
            )
          ] in
          let knows : known_to makes.seat_then.client ≡ record (w.clients c).knows { blocks = then } =
          subst (λ (y : ClientView M). known_to y ≡ record (known_to s.client) { blocks = (known_to y).blocks }) (sym got.fetched.rest) refl ∙ ap (λ (k : Knowledge). record k { blocks = then }) (sym own.knows) in
          looked_step device given v new c s makes.seat_then (Blocks c i first count) o begun is_c makes.was makes.seats (λ stand. stand) refl makes.seat_then.client (noted_refusals got.answer s.refused)
          (record (w.clients c) { knows = record (w.clients c).knows { blocks = then } }) got.answer
          (got.asks.rest ∙ ap (λ (y : ClientView M). record s { client = y; refused = noted_refusals got.answer s.refused }) (got.fetched.rest ∙ ap (λ (y : ClientView M). supplied s.client y) (sym got.fetched.rest))) going got.kernel
          (known_part (w.clients c) makes.seat_then.client (record (w.clients c).knows { blocks = then }) (w.clients c).spare knows
          (ap (λ (y : ClientView M). y.spare) got.fetched.rest ∙ sym own.spare) (λ j. own.pins j ∙ ap (λ (y : ClientView M). is_among j y.pins) (sym got.fetched.rest)))
          (laid_holds w c i is.coherent is_c leased then laid) (laid_tree w c i is.coherent is_c leased then laid)
