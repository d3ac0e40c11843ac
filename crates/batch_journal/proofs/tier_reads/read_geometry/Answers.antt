use Rattle.std.proofs.Common.{◌≡◌, ◌∙◌, ℕ, List, length, ap, subst, refl, rules}
use Rattle.std.proofs.lemmas.Result.{err_from_is_err_and}
use Rattle.tier_device.specs.declared.media.Tier.{Tier}
use Rattle.tier_device.specs.declared.media.Tier.TheVariants.{Fast}
use Rattle.batch_journal.specs.Images.{slice}
use Rattle.batch_journal.specs.Volume.{Spells}
use Rattle.batch_journal.specs.Damage.{HasNoSuper}
use Rattle.batch_journal.proofs.Courses.{tiers_same}
use Rattle.batch_journal.proofs.Opens.{tells_fault}
use Rattle.batch_journal.proofs.tier_reads.read_geometry.Goals as goal

pub returns-in-Some-clause-spells : goal.returns-in-Some-clause-spells
returns-in-Some-clause-spells g c =
    let seen = g.M.Media.seen c.args.media.now Fast in
    let long : length c.blank_block-block.result ≡ 4096 = search rules in
    let is : c.fetch.new.out ≡ slice c.args.at 4096 seen = c.in_ok-fetch.ensures.bytes ∙ ap (λ (k : ℕ). slice c.args.at k seen) long in
    subst (λ (b : List ℕ). Spells c.in-Some.geometry b) is c.in-Some.ensures.spells

pub returns-in-None-clause-damaged : goal.returns-in-None-clause-damaged
returns-in-None-clause-damaged g c =
    let m = g.M.Media in
    let seen = m.seen c.args.media.now Fast in
    let long : length c.blank_block-block.result ≡ 4096 = search rules in
    let is : c.fetch.new.out ≡ slice c.args.at 4096 seen = c.in_ok-fetch.ensures.bytes ∙ ap (λ (k : ℕ). slice c.args.at k seen) long in
    let tiers : m.seen c.fetch.new.media ≡ m.seen c.args.media.now = tiers_same (m.seen c.args.media.now) (m.seen c.fetch.new.media) c.fetch.ensures.unmoved.reads in
    let none = subst (λ (s : Tier → List ℕ). HasNoSuper c.fetch.new.out s) tiers c.in-None.ensures.damaged in
    (refl, refl, subst (λ (b : List ℕ). HasNoSuper b (m.seen c.args.media.now)) is none)

pub returns-in_err-fetch-clause-faults : goal.returns-in_err-fetch-clause-faults
returns-in_err-fetch-clause-faults g c =
    let m = g.M.Media in
    let p = err_from_is_err_and c.from_residual.result c.from_residual.ensures.1 in
    rw (p.1, p.2) (tells_fault (m.faults c.args.media.now) (m.faults c.fetch.new.media) c.fetch.ensures.faults c.fetch.ensures.one_fault c.in_err-fetch.ensures.cause)

pub returns-in_err-fetch-clause-only : goal.returns-in_err-fetch-clause-only
returns-in_err-fetch-clause-only g c =
    let p = err_from_is_err_and c.from_residual.result c.from_residual.ensures.1 in
    rw (p.1, p.2) ((λ is. absurd cc), (λ is. absurd cc))

pub returns-in_err-fetch-clause-damaged : goal.returns-in_err-fetch-clause-damaged
returns-in_err-fetch-clause-damaged g c =
    let p = err_from_is_err_and c.from_residual.result c.from_residual.ensures.1 in
    rw (p.1, p.2) tt
