use Rattle.std.proofs.Common.{◌≡◌, ◌*◌, false, sym, ◌∙◌, ap, subst}
use Rattle.tier_device.specs.declared.media.Tier.TheVariants.{Fast}
use Rattle.batch_journal.specs.Images.{slice}
use Rattle.batch_journal.specs.Blocks.{home, block_of}
use Rattle.batch_journal.specs.View.{JournalView}
use Rattle.batch_journal.proofs.Courses.{on_ok_2}
use Rattle.batch_journal.proofs.Meaning.{home_shut}
use Rattle.batch_journal.proofs.journal.Journal.image.Goals as goal

pub returns-clause-bytes : goal.returns-clause-bytes
returns-clause-bytes g c =
    let m = g.M.Media in
    let s = c.self.inside in
    let k = c.args.block in
    let in_place : c.args.self.now.failed ≡ false → home (m.seen c.args.self.now.media Fast) k ≡ block_of (m.seen c.args.self.now.media Fast) k =
    subst (λ (v : JournalView _). v.failed ≡ false → home (m.seen v.media Fast) k ≡ block_of (m.seen v.media Fast) k) c.self.view_is
    (λ going. home_shut (m.seen s.media Fast) k c.requires.home ((c.self.invariant going).shut.closed (m.seen s.media Fast) (g.met.M.Media.seen_now s.media Fast))) in
    on_ok_2 c.read.result (λ is going. is ∙ ap (λ n. slice (4096 * k) n (m.seen c.args.self.now.media Fast)) c.requires.size ∙ sym (in_place going.0)) c.read.ensures.bytes c.read.ensures.going
