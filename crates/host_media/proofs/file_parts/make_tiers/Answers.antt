use Rattle.std.proofs.Common.{◌∙◌, sym, ap}
use Rattle.std.specs.Prelude.{replicate}
use Rattle.host_media.specs.FileBytes.{known}
use Rattle.host_media.proofs.ToldTiers.{zero-content}
use Rattle.host_media.proofs.file_parts.make_tiers.Goals as goal

pub returns-clause-stands : goal.returns-clause-stands
returns-clause-stands c =
    let made = c.in_ok-zeros.ensures in
    c.requires.blank c.if-not-is_blank.false
    ∙ ap (λ n. known (replicate n 0)) c.requires.fits
    ∙ ap known (sym (zero-content c.in_ok-zeros.field-0 c.args.sizes made.fast made.block made.slow))
