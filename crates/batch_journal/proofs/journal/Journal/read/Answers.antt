use Rattle.std.proofs.Common.{◌≡◌, ◌∙◌, length, ap, subst, rules}
use Rattle.tier_device.specs.declared.media.Tier.TheVariants.{Fast}
use Rattle.tier_device.specs.declared.media.Tier.{Tier}
use Rattle.batch_journal.specs.Images.{slice}
use Rattle.batch_journal.specs.Blocks.{ShowsHome}
use Rattle.batch_journal.specs.View.{JournalView}
use Rattle.batch_journal.proofs.Courses.{left_before}
use Rattle.batch_journal.proofs.Views.{shut_still}
use Rattle.batch_journal.proofs.Meaning.{shows_home}
use Rattle.batch_journal.proofs.journal.Journal.read.Goals as goal

pub invariant_of-self : goal.invariant_of-self
invariant_of-self g c going =
    let m = g.M.Media in
    let s = c.self.inside in
    let new = c.fetch_kept.new.media in
    let un = c.fetch_kept.ensures.unmoved in
    record {
      shut = shut_still s.geometry (m.seen s.media) (λ x. m.left s.media (m.moment s.media) Fast x) (c.self.invariant c.if-self.false).shut (g.met.M.Media.seen_now s.media Fast)
          (m.seen new) (λ x. m.left new (m.moment new) Fast x) (λ t. ap length (un.reads t)) (λ x l. left_before un Fast x l);
      kept = c.in-Ok.ensures.kept;
    }

pub returns-in-Ok-clause-home : goal.returns-in-Ok-clause-home
returns-in-Ok-clause-home g c fast =
    let m = g.M.Media in
    let s = c.self.inside in
    let n = length c.args.out.now in
    let closed = (c.self.invariant c.if-self.false).shut.closed (m.seen s.media Fast) (g.met.M.Media.seen_now s.media Fast) in
    let long : length c.fetch_kept.new.out ≡ n = search rules in
    let is : c.fetch_kept.new.out ≡ slice c.args.at n (m.seen s.media Fast) = c.in-Ok.ensures.bytes ∙ ap (λ (t : Tier). slice c.args.at n (m.seen s.media t)) fast in
    subst (λ (v : JournalView _). ShowsHome c.args.at c.fetch_kept.new.out (m.seen v.media Fast)) c.self.view_is (shows_home (m.seen s.media Fast) c.fetch_kept.new.out c.args.at n closed is long)

pub fetch_kept-requires-clause-closed : goal.fetch_kept-requires-clause-closed
fetch_kept-requires-clause-closed g c = (c.self.invariant c.if-self.false).shut.closed (g.M.Media.seen c.self.inside.media Fast) (g.met.M.Media.seen_now c.self.inside.media Fast)

pub fetch_kept-requires-clause-sizes : goal.fetch_kept-requires-clause-sizes
fetch_kept-requires-clause-sizes g c = (c.self.invariant c.if-self.false).shut.sizes

pub fetch_kept-requires-clause-kept : goal.fetch_kept-requires-clause-kept
fetch_kept-requires-clause-kept g c = (c.self.invariant c.if-self.false).kept
