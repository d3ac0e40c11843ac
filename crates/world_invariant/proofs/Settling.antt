-- A dead client's call is found whole or gone, and the client departs.
use Rattle.std.proofs.Common.{◌≡◌, ℕ, ◌+◌, ◌-◌, true, [], ◌∷◌, ◌++◌, refl, Some, None, ap, sym, ◌∙◌, subst}
use Rattle.posix_calls.specs.Tree.{State}
use Rattle.posix_calls.specs.Operations.{is_client, reply_of}
use Rattle.posix_calls.specs.Run.{Asked, Departs, Run, departed}
use Rattle.call_effects.specs.Knowledge.{knows_after}
use Rattle.posix_calls.proofs.Sums.{there_if}
use Rattle.world_invariant.specs.World.{Begun, Status, Failed, Dead, Client, World, world_state, at}
use Rattle.world_invariant.specs.Invariant.{IsCoherent}
use Rattle.world_invariant.specs.ClientSteps.{IsBegun, after_reply, given_up}
use Rattle.world_invariant.specs.Halves.{units_sent}
use Rattle.world_invariant.specs.Burial.{CanDepart, after_departure, IsDying, settled_whole, settled_gone}
use Rattle.world_invariant.proofs.Replies.{replied_holds, replied_step}
use Rattle.world_invariant.proofs.Begins.{given_up_holds, given_up_tree}
use Rattle.world_invariant.proofs.Halves.{units_sent_hold, units_sent_tree}
use Rattle.world_invariant.proofs.Burials.{departed_holds, departed_tree}

not_failed : (s : Status) → s ≡ Dead → s ≡ Failed → ⊥
not_failed s dead failed = let clash : Dead ≡ Failed = sym dead ∙ failed in cc

pub none_run : (w : World) (c : ℕ) → IsCoherent w → CanDepart w c → Run (world_state w) (Departs c ∷ []) (world_state (after_departure w c))
none_run w c h can = (world_state (after_departure w c), departed_tree w c h can, refl)

module _ (w : World) (c : ℕ) (b : Begun) (h : IsCoherent w) (is : IsDying w c b) where
  its : IsBegun w c b
  its = record { client = is.client; there = is.there; known = not_failed (w.clients c).status is.dead }

  -- ---- whole

  abbrev replied : World
  replied = after_reply w c b

  there_replied : CanDepart replied c
  there_replied =
      let new : Client = record (w.clients c) { begun = None; current = (w.clients c).current ++ (b.change ∷ []); knows = knows_after (w.clients c).knows b.new b.operation b.change.effects } in
      record {
        client = is.client;
        dead = ap (λ (q : Client). q.status) (there_if c new (w.clients c)) ∙ is.dead;
        idle = ap (λ (q : Client). q.begun) (there_if c new (w.clients c));
      }

  pub whole_holds : IsCoherent (settled_whole w c b)
  whole_holds = departed_holds replied c (replied_holds w c b h its) there_replied

  pub whole_run : Run (world_state w) (Asked c b.call (reply_of b.operation) ∷ Departs c ∷ []) (world_state (settled_whole w c b))
  whole_run = (world_state replied, replied_step w c b h its, none_run replied c (replied_holds w c b h its) there_replied)

  -- ---- gone

  abbrev dropped : World
  dropped = units_sent (given_up w c b) c b.change.units

  dropped_holds : IsCoherent dropped
  dropped_holds = units_sent_hold (given_up w c b) c b.change.units (given_up_holds w c b h its) is.client

  dropped_tree : world_state dropped ≡ world_state w
  dropped_tree = units_sent_tree (given_up w c b) c b.change.units (given_up_holds w c b h its) is.client ∙ given_up_tree w c b h its

  there_dropped : CanDepart dropped c
  there_dropped =
      let back : Client = record (w.clients c) { begun = None; spare = (w.clients c).spare + b.change.units } in
      let sent : Client = record ((given_up w c b).clients c) { spare = ((given_up w c b).clients c).spare - b.change.units } in
      let was : (given_up w c b).clients c ≡ back = there_if c back (w.clients c) in
      let is_sent : dropped.clients c ≡ sent = there_if c sent ((given_up w c b).clients c) in
      record {
        client = is.client;
        dead = ap (λ (q : Client). q.status) is_sent ∙ ap (λ (q : Client). q.status) was ∙ is.dead;
        idle = ap (λ (q : Client). q.begun) is_sent ∙ ap (λ (q : Client). q.begun) was;
      }

  pub gone_holds : IsCoherent (settled_gone w c b)
  gone_holds = departed_holds dropped c dropped_holds there_dropped

  pub gone_run : Run (world_state w) (Departs c ∷ []) (world_state (settled_gone w c b))
  gone_run = subst (λ (s : State). Run s (Departs c ∷ []) (world_state (settled_gone w c b))) dropped_tree (none_run dropped c dropped_holds there_dropped)
