-- The world's steps of a client that has a log.
use Rattle.std.proofs.Common.{◌≡◌, ℕ, ◌-◌, true, List, [], ◌∷◌, ◌++◌, refl, sym, ◌∙◌, ap}
use Rattle.std.specs.Prelude.{Option, Some, None}
use Rattle.posix_calls.specs.Operations.{is_client}
use Rattle.update_log.specs.log_record.declared.format.Record.{Record}
use Rattle.world_invariant.specs.call_effects.Knowledge.{knows_after}
use Rattle.world_invariant.specs.World.{Begun, Client, Region, World, at}
use Rattle.world_invariant.specs.World as world
use Rattle.world_invariant.specs.ClientSteps.{call_begun, after_reply, with_client}
use Rattle.world_invariant.specs.RegionSteps as steps
use Rattle.world_invariant.proofs.Moved.{each_client}
use Rattle.client_log.specs.Turns.{Place, Turn}
use Rattle.client_log.specs.Turns as log
use Rattle.client_log.specs.HasTurn.{HasTurn, change_in, region_at}

-- what is said of a client's new part is said of that part in the world
there : (w : World) (c : ℕ) (p : Client) (t : Turn) → HasTurn t p → HasTurn t ((with_client w c p).clients c)
there w c p t h = each_client w c w.kernel.shared (w.kernel.accounts c) p (λ d b q. d ≡ c → HasTurn t q) (λ e. h) (λ d other e. absurd (other e)) c refl

is_away : (p : Place) → region_at p ≡ world.Away → p ≡ log.Away
is_away log.Wiped e = cc
is_away log.Away e = refl
is_away log.Back e = cc

nothing_begun : (o : Option Begun) → change_in o ≡ None → o ≡ None
nothing_begun None e = refl
nothing_begun (Some b) e = cc

wiped_at : (p : Place) → steps.is_wiped (region_at p) ≡ log.is_wiped p
wiped_at log.Wiped = refl
wiped_at log.Away = refl
wiped_at log.Back = refl

module _ (w : World) (c : ℕ) (t : Turn) (h : HasTurn t (w.clients c)) where
  pub may_seal : is_client c ≡ true → log.CanSeal t → steps.CanSeal w c
  may_seal client can = record {
    client = client;
    idle = nothing_begun (w.clients c).begun (h.begun ∙ can.idle);
    some = λ e. can.some (sym h.current ∙ e);
    back = λ e. can.back (is_away t.other (sym h.other ∙ e));
  }

  pub seals : log.CanSeal t → HasTurn (log.sealed_turn t) ((steps.region_sealed w c).clients c)
  seals can =
      there w c (record (w.clients c) { sealed = (w.clients c).current; current = []; other = world.Away; ready = steps.is_wiped (w.clients c).other }) (log.sealed_turn t)
      (record { current = refl; other = refl; is_ready = ap steps.is_wiped h.other ∙ wiped_at t.other; begun = h.begun ∙ can.idle })

  pub takes_back : HasTurn (log.taken_back t) ((steps.taken_back w c).clients c)
  takes_back =
      there w c (record (w.clients c) { past = (w.kernel.accounts c).mark; sealed = []; other = world.Back }) (log.taken_back t)
      (record { current = h.current; other = refl; is_ready = h.is_ready; begun = h.begun })

  pub wipes_other : HasTurn (log.other_wiped t) ((steps.other_wiped w c).clients c)
  wipes_other =
      there w c (record (w.clients c) { sealed = []; other = world.Wiped }) (log.other_wiped t)
      (record { current = h.current; other = refl; is_ready = h.is_ready; begun = h.begun })

  pub wipes_current : HasTurn (log.current_wiped t) ((steps.current_wiped w c).clients c)
  wipes_current =
      there w c (record (w.clients c) { current = []; ready = true }) (log.current_wiped t)
      (record { current = refl; other = h.other; is_ready = refl; begun = h.begun })

  pub begins : (b : Begun) → HasTurn (log.record_begun t b.change) ((call_begun w c b).clients c)
  begins b =
      there w c (record (w.clients c) { begun = Some b; spare = (w.clients c).spare - b.change.units }) (log.record_begun t b.change)
      (record { current = h.current; other = h.other; is_ready = h.is_ready; begun = refl })

  pub appends : (b : Begun) → HasTurn (log.record_appended t b.change) ((after_reply w c b).clients c)
  appends b =
      there w c (record (w.clients c) { begun = None; current = (w.clients c).current ++ (b.change ∷ []); knows = knows_after (w.clients c).knows b.new b.operation b.change.effects }) (log.record_appended t b.change)
      (record { current = ap (λ (rs : List Record). rs ++ b.change ∷ []) h.current; other = h.other; is_ready = h.is_ready; begun = refl })
