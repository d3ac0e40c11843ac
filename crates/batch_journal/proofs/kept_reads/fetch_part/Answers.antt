use Rattle.std.proofs.Common.{◌≡◌, ◌∙◌, ap, sym, length, rules}
use Rattle.tier_device.specs.declared.media.Tier.TheVariants.{Fast}
use Rattle.batch_journal.specs.Images.{slice}
use Rattle.batch_journal.specs.Blocks.{home}
use Rattle.batch_journal.proofs.Kept.{home_read}
use Rattle.batch_journal.proofs.kept_reads.fetch_part.Goals as goal

pub returns-then-copy_found-clause-bytes : goal.returns-then-copy_found-clause-bytes
returns-then-copy_found-clause-bytes g c sizes shows is = c.copy_found.ensures.found c.if-copy_found.true sizes (home (g.M.Media.seen c.args.media.now Fast)) shows is

pub returns-clause-kept : goal.returns-clause-kept
returns-clause-kept g c sizes shows =
    let s = g.M.Media.seen c.args.media.now Fast in
    let s' = g.M.Media.seen c.fetch.new.media Fast in
    let reads : s' ≡ s = c.fetch.ensures.unmoved.reads Fast in
    let whole : length c.blank_block-bytes.result ≡ 4096 = search rules in
    let held : home s c.args.block ≡ c.fetch.new.out = home_read s c.args.block (length c.blank_block-bytes.result) c.fetch.new.out c.requires.home c.requires.closed whole c.in_ok-fetch.ensures.bytes in
    c.keep.ensures sizes (home s) (home s') shows (ap (λ x. home x c.args.block) reads ∙ held) (λ k other. ap (λ x. home x k) reads)

pub returns-clause-bytes : goal.returns-clause-bytes
returns-clause-bytes g c sizes shows is =
    let s = g.M.Media.seen c.args.media.now Fast in
    let n = length c.args.out.now in
    let whole : length c.blank_block-bytes.result ≡ 4096 = search rules in
    let held : home s c.args.block ≡ c.fetch.new.out = home_read s c.args.block (length c.blank_block-bytes.result) c.fetch.new.out c.requires.home c.requires.closed whole c.in_ok-fetch.ensures.bytes in
    let as_long : length c.copy_found.new.out ≡ n = ap length (c.copy_found.ensures.absent c.if-copy_found.false) in
    c.copy_part.ensures ∙ ap (λ l. slice c.args.from l c.fetch.new.out) as_long ∙ ap (slice c.args.from n) (sym held)
