use Rattle.std.proofs.Common.{◌≡◌, List, ℕ, true, false, subst}
use Rattle.tier_device.specs.declared.media.Tier.TheVariants.{Fast}
use Rattle.batch_journal.specs.Blocks.{home, block_of, is_home}
use Rattle.batch_journal.specs.View.{JournalView}
use Rattle.batch_journal.proofs.Meaning.{home_shut}
use Rattle.batch_journal.proofs.journal.Journal.left_now.Goals as goal

pub returns-clause-in_place : goal.returns-clause-in_place
returns-clause-in_place g c =
    let m = g.M.Media in
    subst (λ (v : JournalView _). v.failed ≡ false → (x : List ℕ) (k : ℕ) → m.left v.media (m.moment v.media) Fast x → is_home k ≡ true → home x k ≡ block_of x k)
    c.self.view_is (λ going x k l at_home. home_shut x k at_home ((c.self.invariant going).shut.closed x l))
