use Rattle.std.proofs.Common.{◌∙◌, sym, ap}
use Rattle.std.specs.Prelude.{replicate}
use Rattle.host_media.specs.FileBytes.{known}
use Rattle.host_media.proofs.ToldTiers.{zero-content}
use Rattle.host_media.proofs.open.create_file.Goals as goal

pub of-requires-clause-stands : goal.of-requires-clause-stands
of-requires-clause-stands g c =
    let made = c.in_ok-tiers.ensures in
    c.in_ok-disk.ensures.zeros ∙ ap known (ap (λ n. replicate n 0) c.in-Some.ensures.some ∙ sym (zero-content c.in_ok-tiers.tiers c.args.sizes made.fast made.block made.slow))
