use Rattle.std.proofs.Common.{List, ℕ, sym, subst}
use Rattle.tier_device.specs.declared.media.Tier.TheVariants.{Fast}
use Rattle.batch_journal.specs.Blocks.{home}
use Rattle.batch_journal.specs.Kept.{Shows}
use Rattle.batch_journal.proofs.Views.{shut_still, fenced}
use Rattle.batch_journal.proofs.journal.Journal.fence.Goals as goal

pub invariant_of-self : goal.invariant_of-self
invariant_of-self g c going =
    let m = g.M.Media in
    let s = c.self.inside in
    let new = c.settle.new.media in
    record {
      shut = shut_still s.geometry (m.seen s.media) (λ x. m.left s.media (m.moment s.media) Fast x) (c.self.invariant c.if-self.false).shut (g.met.M.Media.seen_now s.media Fast)
          (m.seen new) (λ x. m.left new (m.moment new) Fast x) c.settle.ensures.lengths (λ x l. fenced c.args.tier c.settle.ensures.course x l);
      kept = subst (λ (x : List ℕ). Shows s.geometry (home x) s.kept.places.items) (sym (c.in-Ok.ensures.seen Fast)) (c.self.invariant c.if-self.false).kept;
    }
