use Rattle.std.proofs.Common.{rules, inl, inr}
use Rattle.std.proofs.lemmas.Result.{err_from_is_err_and}
use Rattle.call_driver.specs.EventOwner.{IsClearing, IsDigesting, IsReclaim}
use Rattle.call_driver.proofs.Chains.{refused_after, refused_wider}
use Rattle.call_driver.proofs.RunLemmas.{leads_then, leads_wider}
use Rattle.call_driver.proofs.digests.clear_client.Goals as goal

pub returns-in_err-digest_all : goal.returns-in_err-digest_all
returns-in_err-digest_all g c =
    let p = err_from_is_err_and c.from_residual.result c.from_residual.ensures.1 in
    rw (p.1, p.2) (record {
      cleared = refused_wider g.E.Events.plays (IsDigesting c.args.client) (IsClearing c.args.client) (λ _ is. inl is) _ _ _ c.in_err-digest_all.ensures.digested;
      events = leads_wider g.E.Events.plays (IsDigesting c.args.client) (IsClearing c.args.client) (λ _ is. inl is) _ _ c.digest_all.ensures.events;
    })

pub returns-in_err-reclaim_all : goal.returns-in_err-reclaim_all
returns-in_err-reclaim_all g c =
    let p = err_from_is_err_and c.from_residual-in_err-reclaim_all.result c.from_residual-in_err-reclaim_all.ensures.1 in
    rw (p.1, p.2) (record {
      cleared = refused_after g.E.Events.plays (IsClearing c.args.client) _ _ _ _ (leads_wider g.E.Events.plays (IsDigesting c.args.client) (IsClearing c.args.client) (λ _ is. inl is) _ _ c.digest_all.ensures.events) (refused_wider g.E.Events.plays IsReclaim (IsClearing c.args.client) (λ _ is. inr is) _ _ _ c.in_err-reclaim_all.ensures.reclaimed);
      events = leads_then g.E.Events.plays (IsClearing c.args.client) _ _ _ (leads_wider g.E.Events.plays (IsDigesting c.args.client) (IsClearing c.args.client) (λ _ is. inl is) _ _ c.digest_all.ensures.events) (leads_wider g.E.Events.plays IsReclaim (IsClearing c.args.client) (λ _ is. inr is) _ _ c.reclaim_all.ensures.events);
    })

pub returns : goal.returns
returns g c = record {
  cleared = record { between = c.digest_all.new.events; digested = c.in_ok-digest_all.ensures.digested; counted = search rules; reclaimed = c.in_ok-reclaim_all.ensures.reclaimed };
  events = leads_then g.E.Events.plays (IsClearing c.args.client) _ _ _ (leads_wider g.E.Events.plays (IsDigesting c.args.client) (IsClearing c.args.client) (λ _ is. inl is) _ _ c.digest_all.ensures.events) (leads_wider g.E.Events.plays IsReclaim (IsClearing c.args.client) (λ _ is. inr is) _ _ c.reclaim_all.ensures.events);
}
