use Rattle.std.proofs.Common.{◌≡◌, ◌==◌, ℕ, length, sym, ◌∙◌, ap, refl, rules}
use Rattle.std.proofs.lemmas.Result.{err_from_is_err_and}
use Rattle.tier_device.specs.declared.media.Tier.TheVariants.{Fast}
use Rattle.layout.specs.Bytes.{are_zero}
use Rattle.batch_journal.specs.Images.{slice}
use Rattle.batch_journal.proofs.Found.{gate_of_block, rest_of_block}
use Rattle.batch_journal.proofs.Opens.{tells_fault}
use Rattle.batch_journal.proofs.tier_reads.read_gate.Goals as goal

pub returns-in-Some-clause-gate : goal.returns-in-Some-clause-gate
returns-in-Some-clause-gate g c =
    let seen = g.M.Media.seen c.args.media.now Fast in
    let long : length c.blank_block-block.result ≡ 4096 = search rules in
    let is : c.fetch.new.out ≡ slice 139264 4096 seen = c.in_ok-fetch.ensures.bytes ∙ ap (λ (k : ℕ). slice 139264 k seen) long in
    c.in-Some.ensures.gate ∙ ap (λ (b : ℕ). b == 165) (gate_of_block seen c.fetch.new.out is)

pub returns-in-Some-clause-rest : goal.returns-in-Some-clause-rest
returns-in-Some-clause-rest g c =
    let seen = g.M.Media.seen c.args.media.now Fast in
    let long : length c.blank_block-block.result ≡ 4096 = search rules in
    let is : c.fetch.new.out ≡ slice 139264 4096 seen = c.in_ok-fetch.ensures.bytes ∙ ap (λ (k : ℕ). slice 139264 k seen) long in
    ap are_zero (sym (rest_of_block seen c.fetch.new.out is)) ∙ c.in-Some.ensures.rest

pub returns-in-None-clause-damaged : goal.returns-in-None-clause-damaged
returns-in-None-clause-damaged g c =
    let seen = g.M.Media.seen c.args.media.now Fast in
    let long : length c.blank_block-block.result ≡ 4096 = search rules in
    let is : c.fetch.new.out ≡ slice 139264 4096 seen = c.in_ok-fetch.ensures.bytes ∙ ap (λ (k : ℕ). slice 139264 k seen) long in
    record {
      structure = refl;
      place = refl;
      size = c.requires;
      rest = ap are_zero (sym (rest_of_block seen c.fetch.new.out is)) ∙ c.in-None.ensures.damaged;
    }

pub returns-in_err-fetch-clause-faults : goal.returns-in_err-fetch-clause-faults
returns-in_err-fetch-clause-faults g c =
    let m = g.M.Media in
    let p = err_from_is_err_and c.from_residual.result c.from_residual.ensures.1 in
    rw (p.1, p.2) (tells_fault (m.faults c.args.media.now) (m.faults c.fetch.new.media) c.fetch.ensures.faults c.fetch.ensures.one_fault c.in_err-fetch.ensures.cause)

pub returns-in_err-fetch-clause-only : goal.returns-in_err-fetch-clause-only
returns-in_err-fetch-clause-only g c =
    let p = err_from_is_err_and c.from_residual.result c.from_residual.ensures.1 in
    rw (p.1, p.2) ((λ is. absurd cc), (λ is. absurd cc))

pub returns-in_err-fetch-clause-damaged : goal.returns-in_err-fetch-clause-damaged
returns-in_err-fetch-clause-damaged g c =
    let p = err_from_is_err_and c.from_residual.result c.from_residual.ensures.1 in
    rw (p.1, p.2) tt
