-- What a client is supplied with, or gives back: its copies, spare units and pins, and its account.
use Rattle.std.proofs.Common.{◌≡◌, ℕ, ◌-◌, Bool, true, Some, refl}
use Rattle.std.specs.Prelude.{slice_set}
use Rattle.tier_device.specs.declared.media.Media.{Ghosts}
use Rattle.posix_calls.specs.Operations.{is_client}
use Rattle.event_steps.specs.libfs.ClientHoldings.{known_to}
use Rattle.event_steps.specs.libfs.View.{ClientView}
use Rattle.event_steps.specs.file_graph.Graph.{is_among}
use Rattle.event_steps.specs.world_invariant.Invariant.{IsCoherent}
use Rattle.event_steps.specs.world_invariant.World.{Account, Client, moved_world, world_state}
use Rattle.event_steps.specs.View.{SeatView, SystemView, seat_of}
use Rattle.event_steps.specs.declared.event.Event.{Event}
use Rattle.event_steps.specs.declared.outcome.Outcome.{Outcome}
use Rattle.event_steps.specs.declared.refusals.Refusals.{Refusals}
use Rattle.event_lists.specs.Courses.{no_news}
use Rattle.system_laws.specs.Moves.{EventMoves, Stand}
use Rattle.system_laws.specs.News.{news}
use Rattle.system_laws.specs.Clocks.{clocks_of}
use Rattle.system_laws.specs.Relation.{Cut}
use Rattle.system_laws.specs.Steps.{IsBegunIn, IsStep}
use Rattle.system_laws.specs.WorldView.{WorldView, calls_of}
use Rattle.system_laws.proofs.Asked.{IsKernelThen, IsOnlyRead, asked_step}
use Rattle.system_laws.proofs.Given.{Given}
use Rattle.system_laws.proofs.Seated.{own_mark, own_part}

-- the client with what another one has of copies, spare units and pins
abbrev pub supplied : {M : Type 0} → ClientView M → ClientView M → ClientView M
supplied old x = record old { copies = x.copies; spare = x.spare; pins = x.pins }

abbrev pub seat_with : {M : Type 0} → SeatView M → ClientView M → Refusals → SeatView M
seat_with s x r = record s { client = supplied s.client x; refused = r }

-- the client of the world with it
abbrev pub client_with : {M : Type 0} → Client → ClientView M → Client
client_with p x = record p { knows = known_to x; spare = x.spare; pins = λ i. is_among i x.pins }

-- another account, with the same mark
abbrev pub account_with : Account → ℕ → (ℕ → Bool) → (ℕ → Bool) → Account
account_with a units numbers pins = record a { units = units; numbers = numbers; pins = pins }

module _ {M : Type 0} (device : Ghosts M) (given : Given device) (v : WorldView M) (new : SystemView M) (c : ℕ) (s : SeatView M) (e : Event) (o : Outcome) (begun : IsBegunIn device v new) (is_c : is_client c ≡ true) (there : seat_of v.system c ≡ Some s)
    (moves : Stand (clocks_of device v.system) (clocks_of device new) → EventMoves e (clocks_of device v.system) (clocks_of device new)) (quiet : news (calls_of v) e o ≡ no_news (calls_of v)) where
  -- The client has this now, and the kernel's medium was only read.
  pub supplied_step : (x : ClientView M) (r : Refusals) (units : ℕ) (numbers pins : ℕ → Bool) (then : Cut)
      → new.seats ≡ slice_set v.system.seats (c - 1) (seat_with s x r)
      → new.kernel.area.geometry ≡ v.system.kernel.area.geometry
      → IsOnlyRead device v.system.kernel.area.media new.kernel.area.media
      → IsKernelThen device new.kernel (moved_world begun.stands.world c begun.stands.world.kernel.shared (account_with (begun.stands.world.kernel.accounts c) units numbers pins) (client_with (begun.stands.world.clients c) x)) begun.stands.accepted begun.stands.shared_marks then
      → IsCoherent (moved_world begun.stands.world c begun.stands.world.kernel.shared (account_with (begun.stands.world.kernel.accounts c) units numbers pins) (client_with (begun.stands.world.clients c) x))
      → world_state (moved_world begun.stands.world c begun.stands.world.kernel.shared (account_with (begun.stands.world.kernel.accounts c) units numbers pins) (client_with (begun.stands.world.clients c) x)) ≡ world_state begun.stands.world
      → IsStep device v e o (record { system = new; calls = v.calls })
  supplied_step x r units numbers pins then seats geometry read kernel coherent tree =
      let is = begun.stands.is in
      let w = begun.stands.world in
      let own = own_part device v w begun.stands.accepted begun.stands.shared_marks begun.stands.cut c s is is_c there in
      let mark = own_mark device v w begun.stands.accepted begun.stands.shared_marks begun.stands.cut c s is is_c there in
      asked_step device given v new c s (seat_with s x r) (account_with (w.kernel.accounts c) units numbers pins) (client_with (w.clients c) x) e o w begun.stands.accepted begun.stands.shared_marks begun.stands.cut then begun is is_c there seats geometry read kernel moves quiet coherent tree
      (λ k low. refl)
      (record {
        knows = refl;
        turn = record { current = own.turn.current; other = own.turn.other; is_ready = own.turn.is_ready; begun = own.turn.begun };
        sealed = own.sealed;
        begun = own.begun;
        reads_are = own.reads_are;
        writes_are = own.writes_are;
        spare = refl;
        pins = λ i. refl;
        status = own.status;
      })
      (record { mark = mark.mark; digested = mark.digested; accepts = mark.accepts; held = mark.held })
