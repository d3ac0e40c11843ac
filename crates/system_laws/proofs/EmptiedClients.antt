-- A client that was emptied, of which no region is away and no record is left: nothing is left of it in the world but where its regions are.
use Rattle.std.proofs.Common.{◌≡◌, ℕ, ◌<◌, Bool, true, List, [], ◌∷◌, ◌++◌, length, Option, Some, None, refl, ap, sym, ◌∙◌, subst, arith}
use Rattle.std.specs.Prelude.{is_some}
use Rattle.std.proofs.lemmas.Bool.{false≢true}
use Rattle.tier_device.specs.declared.media.Media.{Ghosts}
use Rattle.posix_calls.specs.declared.call.Call.{Call}
use Rattle.event_steps.specs.file_graph.Graph.{is_among}
use Rattle.event_steps.specs.log_record.declared.format.Record.{Record}
use Rattle.event_steps.specs.client_log.HasTurn.{HasTurn, change_in, region_at}
use Rattle.event_steps.specs.client_log.Turns.{place_of, turn_of}
use Rattle.event_steps.specs.client_log.View.{LogView, current_records}
use Rattle.event_steps.specs.layout.declared.marks.Mark.{Mark}
use Rattle.event_steps.specs.lease_manager.PassLeases.{is_reading, is_writing}
use Rattle.event_steps.specs.world_invariant.FormatWorld.{idle_client, knows_nothing}
use Rattle.event_steps.specs.world_invariant.World.{Account, Client, Region, Status}
use Rattle.event_steps.specs.world_invariant.World as world
use Rattle.event_steps.specs.libfs.ClientEnd.{IsEmptied}
use Rattle.event_steps.specs.libfs.SealedRegion.{SealedRegionView}
use Rattle.event_steps.specs.libfs.View.{ClientView}
use Rattle.event_steps.specs.libfs.declared.begun_record.Begun.{Begun}
use Rattle.event_steps.specs.Sound.{IsSeated, number_of}
use Rattle.event_steps.specs.View.{SeatView, done_of}
use Rattle.system_laws.specs.Parts.{region_of}
use Rattle.system_laws.specs.Relation.{IsBegunAs, IsClientOf, StandsMarked, accepted_of, first_generation, status_of}
use Rattle.system_laws.proofs.IdleSystems.{none_held}

-- ---- what it lacks

-- the client's call is none where the world's is
pub none_called : (call : Option Call) (b : Option Begun) → IsBegunAs call b None → (b ≡ None) × (call ≡ None)
none_called call None is = (refl, is.1)
none_called call (Some b) is = absurd (cc is.1)

-- where it has none that is sealed, its other region is here
pub is_home : {M : Type 0} (device : Ghosts M) (v : ClientView M) (away : Option (SealedRegionView M)) → IsSeated device v away → v.sealed ≡ [] → (is_some v.log.other ≡ true) × (away ≡ None)
is_home device v None seated none = (seated, refl)
is_home device v (Some a) seated none = absurd (short a.done (subst (λ (rs : List Record). a.done < length rs) none seated.some))
  where
    short : (n : ℕ) → n < 0 → ⊥
    short n low = omega (arith, low)

pub both_empty : (rs qs : List Record) → rs ++ qs ≡ [] → (rs ≡ []) × (qs ≡ [])
both_empty [] qs is = (refl, is)
both_empty (r ∷ rs) qs is = absurd (cc is)

-- ---- the part

-- what is left of a client's part
abbrev pub rest_of : ℕ → ℕ → Region → Bool → Status → Client
rest_of c past other ready status = record (idle_client c past) { other = other; ready = ready; status = status }

module _ {M : Type 0} (device : Ghosts M) (s x : SeatView M) (c : ℕ) (call : Option Call) (p : Client) (a : Account) (number : number_of s ≡ c) (own : IsClientOf device s call p) (emptied : IsEmptied s.client x.client) (home : s.away ≡ None) (same_away : x.away ≡ s.away)
    (none : current_records device s.client.log ≡ []) (unsealed : s.client.sealed ≡ []) (unbegun : p.begun ≡ None) where
  same_log : x.client.log ≡ s.client.log
  same_log = ap (λ (y : ClientView M). y.log) emptied.rest

  abbrev had : (s.client.begun ≡ None) × (call ≡ None)
  had = none_called call s.client.begun (subst (λ (b : Option world.Begun). IsBegunAs call s.client.begun b) unbegun own.begun)

  pub rest_client : (other : Region) (ready : Bool) (status : Status) → other ≡ region_at (place_of s.client.log.other s.client.log.clean) → ready ≡ s.client.log.ready → status ≡ status_of x.life x.client.log.failed
      → IsClientOf device x call (rest_of c a.mark other ready status)
  rest_client other ready status other_is ready_is same = record {
    knows = ap knows_nothing (sym number) ∙ sym emptied.knows_then;
    turn = subst (λ (l : LogView M). HasTurn (turn_of device l) (rest_of c a.mark other ready status)) (sym same_log) (record { current = sym none; other = other_is; is_ready = ready_is; begun = sym (ap change_in unbegun) ∙ own.turn.begun });
    sealed = sym (ap (λ (y : ClientView M). y.sealed) emptied.rest ∙ unsealed);
    begun = subst (λ (b : Option Begun). IsBegunAs call b None) (sym (ap (λ (y : ClientView M). y.begun) emptied.rest ∙ had.0)) (refl, had.1);
    reads_are = λ i. sym (none_held is_reading refl x.client.pass emptied.free i);
    writes_are = λ i. sym (none_held is_writing refl x.client.pass emptied.free i);
    spare = sym (ap (λ (y : ClientView M). y.spare) emptied.rest);
    pins = λ i. sym (ap (λ (y : ClientView M). is_among i y.pins) emptied.rest);
    status = same;
  }

  -- its mark stays where it stands
  pub rest_marked : (b : Account) (m : Mark) (accepted : ℕ) (other : Region) (ready : Bool) (status : Status) → b.mark ≡ a.mark → StandsMarked m s a accepted p → StandsMarked m x b accepted (rest_of c a.mark other ready status)
  rest_marked b m accepted other ready status kept is =
      let here : x.away ≡ None = same_away ∙ home in
      let done_before : done_of s.away ≡ 0 = ap (λ (away : Option (SealedRegionView M)). done_of away) home in
      let done_then : done_of x.away ≡ 0 = ap (λ (away : Option (SealedRegionView M)). done_of away) here in
      let accepted_before : accepted_of s.away p.sealed ≡ 0 = ap (λ (away : Option (SealedRegionView M)). accepted_of away p.sealed) home in
      let accepted_now : accepted_of x.away [] ≡ 0 = ap (λ (away : Option (SealedRegionView M)). accepted_of away []) here in
      record {
        mark = is.mark ∙ sym (ap (λ (l : LogView M). record { generation = first_generation l.generation s.away; done = done_of s.away }) same_log) ∙ sym (ap (λ (away : Option (SealedRegionView M)). record { generation = first_generation x.client.log.generation away; done = done_of away }) same_away);
        digested = omega (arith, kept, done_then);
        accepts = (let counts = is.accepts in let at = is.digested in omega (arith, counts, at, done_before, accepted_before, accepted_now));
        held = λ i written. absurd (false≢true written);
      }

  -- both regions are on the media that they were on
  pub rest_media : (r : ℕ) → r < 2 → (region_of x r).media ≡ (region_of s r).media
  rest_media r low =
      ap (λ (away : Option (SealedRegionView M)). (region_of (record x { away = away }) r).media) same_away
      ∙ ap (λ (l : LogView M). (region_of (record s { client = record s.client { log = l } }) r).media) same_log
