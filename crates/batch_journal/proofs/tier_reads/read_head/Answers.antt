use Rattle.std.proofs.Common.{◌≡◌, ◌∙◌, ◌⊎◌, ◌<◌, inl, inr, ap, refl, arith}
use Rattle.std.proofs.lemmas.Result.{err_from_is_err_and}
use Rattle.tier_device.specs.declared.media.Tier.TheVariants.{Fast}
use Rattle.batch_journal.specs.Images.{slice, image_count}
use Rattle.batch_journal.specs.Blocks.{area_of}
use Rattle.batch_journal.proofs.Found.{count_is}
use Rattle.batch_journal.proofs.Opens.{head_count, tells_fault}
use Rattle.batch_journal.proofs.tier_reads.read_head.Goals as goal
use Rattle.batch_journal.proofs.tier_reads.read_head.Goals.{then-count-lt1-via-then-count-lt1, then-count-lt1-via-else-count-lt1+then-count-gt256}

pub returns-then-count-lt1-clause-damaged : goal.returns-then-count-lt1-clause-damaged
returns-then-count-lt1-clause-damaged g c =
    let seen = g.M.Media.seen c.args.media.now Fast in
    let n = c.read_u32-count.result in
    let is : c.fetch.new.out ≡ slice 143360 4096 seen = c.in_ok-fetch.ensures.bytes ∙ ap (λ k. slice 143360 k seen) c.requires.long in
    let count : n ≡ image_count (area_of seen) = count_is c.fetch.new.out n c.read_u32-count.ensures ∙ head_count seen c.fetch.new.out c.requires.size is in
    let either : (image_count (area_of seen) < 1) ⊎ (256 < image_count (area_of seen)) = elim c.then-count-lt1.branch [
      | then-count-lt1-via-then-count-lt1 w ↦ inl (omega (arith, w.if-count-lt1.true, count))
      | then-count-lt1-via-else-count-lt1+then-count-gt256 w ↦ inr (omega (arith, w.if-count-gt256.true, count))
    ] in
    (refl, refl, either)

pub returns-clause-head : goal.returns-clause-head
returns-clause-head g c =
    let seen = g.M.Media.seen c.args.media.now Fast in
    c.in_ok-fetch.ensures.bytes ∙ ap (λ k. slice 143360 k seen) c.requires.long

pub returns-clause-count : goal.returns-clause-count
returns-clause-count g c =
    let seen = g.M.Media.seen c.args.media.now Fast in
    let is : c.fetch.new.out ≡ slice 143360 4096 seen = c.in_ok-fetch.ensures.bytes ∙ ap (λ k. slice 143360 k seen) c.requires.long in
    count_is c.fetch.new.out c.read_u32-count.result c.read_u32-count.ensures ∙ head_count seen c.fetch.new.out c.requires.size is

pub returns-in_err-fetch-clause-faults : goal.returns-in_err-fetch-clause-faults
returns-in_err-fetch-clause-faults g c =
    let m = g.M.Media in
    let p = err_from_is_err_and c.from_residual.result c.from_residual.ensures.1 in
    rw (p.1, p.2) (tells_fault (m.faults c.args.media.now) (m.faults c.fetch.new.media) c.fetch.ensures.faults c.fetch.ensures.one_fault c.in_err-fetch.ensures.cause)

pub returns-in_err-fetch-clause-only : goal.returns-in_err-fetch-clause-only
returns-in_err-fetch-clause-only g c =
    let p = err_from_is_err_and c.from_residual.result c.from_residual.ensures.1 in
    rw (p.1, p.2) ((λ is. absurd cc), (λ is. absurd cc))

pub returns-in_err-fetch-clause-damaged : goal.returns-in_err-fetch-clause-damaged
returns-in_err-fetch-clause-damaged g c =
    let p = err_from_is_err_and c.from_residual.result c.from_residual.ensures.1 in
    rw (p.1, p.2) tt
