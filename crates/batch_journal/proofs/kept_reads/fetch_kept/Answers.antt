use Rattle.std.proofs.Common.{◌≡◌, ◌≤◌, ◌∙◌, ◌+◌, ◌*◌, ◌-◌, arith, ap, sym, length}
use Rattle.tier_device.specs.declared.media.Tier.{Tier}
use Rattle.tier_device.specs.declared.media.Tier.TheVariants.{Fast}
use Rattle.batch_journal.specs.Images.{slice}
use Rattle.batch_journal.proofs.Courses.{on_ok}
use Rattle.batch_journal.proofs.Kept.{part_of_home}
use Rattle.batch_journal.proofs.kept_reads.fetch_kept.Goals as goal

pub returns-in-Some-clause-bytes : goal.returns-in-Some-clause-bytes
returns-in-Some-clause-bytes g c =
    let seen = g.M.Media.seen c.args.media.now in
    let at = c.args.at in
    let k = c.in-Some.block in
    let n = length c.args.out.now in
    let is = c.in-Some.ensures in
    let place : 4096 * k + (at - 4096 * k) ≡ at = omega (arith, is.begins) in
    let inside : at - 4096 * k + n ≤ 4096 = omega (arith, is.begins, is.ends) in
    on_ok c.fetch_part.result (λ part. part c.args.geometry.now c.requires.kept is.journaled
    ∙ part_of_home c.args.geometry.now (seen Fast) k (at - 4096 * k) n is.journaled c.requires.closed inside
    ∙ ap (λ p. slice p n (seen Fast)) place ∙ ap (λ (t : Tier). slice at n (seen t)) (sym is.tier)) c.fetch_part.ensures.bytes
