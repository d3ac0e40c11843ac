-- What a settling makes of a dead client's part of the world: its call is given up, or answered, and the client departs.
use Rattle.std.proofs.Common.{◌≡◌, ℕ, ◌+◌, ◌-◌, [], ◌∷◌, None, ap, ◌∙◌, subst, arith}
use Rattle.posix_calls.specs.Operations.{reply_of}
use Rattle.posix_calls.specs.Run.{Asked, Departs, Run}
use Rattle.event_steps.specs.world_invariant.Burial.{CanDepart, IsDying, after_departure, settled_gone}
use Rattle.event_steps.specs.world_invariant.ClientSteps.{IsBegun, after_reply, with_client}
use Rattle.event_steps.specs.world_invariant.Invariant.{IsCoherent}
use Rattle.event_steps.specs.world_invariant.World.{Begun, Client, World, world_state}
use Rattle.event_steps.specs.world_invariant.World as world
use Rattle.event_steps.proofs.world_invariant_lemmas.Burials.{departed_holds}
use Rattle.event_steps.proofs.world_invariant_lemmas.Replies.{replied_step}
use Rattle.event_steps.proofs.world_invariant_lemmas.Settling.{gone_holds, gone_run, none_run}
use Rattle.system_laws.proofs.Frame.{at_there}
use Rattle.system_laws.proofs.RepliedWorlds.{answered_holds, answered_tree, part_again, replied_part}

-- the part of a client that departs
abbrev pub leaver : Client → Client
leaver p = record p { knows = record p.knows { own = λ n. None }; status = world.Settled }

-- a part that is made from one that was put there
again : (w : World) (c : ℕ) (p : Client) (f : Client → Client) → with_client (with_client w c p) c (f ((with_client w c p).clients c)) ≡ with_client w c (f p)
again w c p f = ap (λ (q : Client). with_client (with_client w c p) c (f q)) (at_there w.clients c p) ∙ part_again w c p (f p)

-- ---- gone

module _ (w : World) (c : ℕ) (b : Begun) (h : IsCoherent w) (is : IsDying w c b) where
  abbrev given : Client
  given = record (w.clients c) { begun = None; spare = (w.clients c).spare + b.change.units }

  abbrev sent : Client → Client
  sent p = record p { spare = p.spare - b.change.units }

  back_again : (n k : ℕ) → n + k - k ≡ n
  back_again n k = omega arith

  gone_is : settled_gone w c b ≡ with_client w c (leaver (record (w.clients c) { begun = None }))
  gone_is =
      ap (λ (u : World). after_departure u c) (again w c given sent)
      ∙ again w c (sent given) leaver
      ∙ ap (λ (n : ℕ). with_client w c (leaver (record (w.clients c) { begun = None; spare = n }))) (back_again (w.clients c).spare b.change.units)

  pub gone_coherent : IsCoherent (with_client w c (leaver (record (w.clients c) { begun = None })))
  gone_coherent = subst IsCoherent gone_is (gone_holds w c b h is)

  pub gone_turns : Run (world_state w) (Departs c ∷ []) (world_state (with_client w c (leaver (record (w.clients c) { begun = None }))))
  gone_turns = subst (λ (u : World). Run (world_state w) (Departs c ∷ []) (world_state u)) gone_is (gone_run w c b h is)

-- ---- whole

module _ (w : World) (c : ℕ) (b : Begun) (h : IsCoherent w) (is : IsBegun w c b) (dead : (w.clients c).status ≡ world.Dead) where
  abbrev replied : Client
  replied = replied_part (w.clients c) b

  abbrev between : World
  between = with_client w c replied

  can : CanDepart between c
  can = record { client = is.client; dead = ap (λ (q : Client). q.status) (at_there w.clients c replied) ∙ dead; idle = ap (λ (q : Client). q.begun) (at_there w.clients c replied) }

  whole_is : after_departure between c ≡ with_client w c (leaver replied)
  whole_is = again w c replied leaver

  pub whole_coherent : IsCoherent (with_client w c (leaver replied))
  whole_coherent = subst IsCoherent whole_is (departed_holds between c (answered_holds w c b h is) can)

  pub whole_turns : Run (world_state w) (Asked c b.call (reply_of b.operation) ∷ Departs c ∷ []) (world_state (with_client w c (leaver replied)))
  whole_turns = (
    world_state (after_reply w c b),
    replied_step w c b h is,
    subst (λ t. Run t (Departs c ∷ []) (world_state (with_client w c (leaver replied)))) (answered_tree w c b h is)
        (subst (λ (u : World). Run (world_state between) (Departs c ∷ []) (world_state u)) whole_is (none_run between c (answered_holds w c b h is) can)),
  )
