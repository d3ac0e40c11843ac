use Rattle.std.proofs.Common.{◌≡◌, ◌+◌, ◌*◌, ◌∙◌, ℕ, List, length, refl, subst}
use Rattle.tier_device.specs.declared.media.Tier.TheVariants.{Fast}
use Rattle.batch_journal.specs.layout.Places.{slot_block, slot_byte}
use Rattle.batch_journal.specs.Blocks.{ShowsHome}
use Rattle.area_reader.proofs.Shown.{slot_shown}
use Rattle.area_reader.proofs.Looked.{looks_ok, looks_fault}
use Rattle.area_reader.proofs.block_reads.read_slot_bytes.Goals as goal

pub returns-in-Ok-clause-looks : goal.returns-in-Ok-clause-looks
returns-in-Ok-clause-looks g c =
    let m = g.M.Media in
    looks_ok m c.args.journal.now c.read.new.self tt c.read.ensures.unmoved c.read.ensures.geometry c.in-Ok.ensures.quiet c.in-Ok.ensures.going

pub returns-in-Err-clause-looks : goal.returns-in-Err-clause-looks
returns-in-Err-clause-looks g c =
    let m = g.M.Media in
    looks_fault m c.args.journal.now c.read.new.self c.read.ensures.unmoved c.read.ensures.geometry c.read.ensures.faults c.read.ensures.one_fault c.in-Err.ensures.fault (λ was. (c.read.ensures.stays_failed was).1)

pub returns-in-Ok-clause-bytes : goal.returns-in-Ok-clause-bytes
returns-in-Ok-clause-bytes g c =
    let seen : List ℕ = g.M.Media.seen c.args.journal.now.media Fast in
    let at : 4096 * c.slot_block.result + c.slot_byte.result ≡ 4096 * slot_block c.args.inode + slot_byte c.args.inode = λ p. 4096 * c.slot_block.ensures.block p + c.slot_byte.ensures.byte p in
    let long : length c.read.new.out ≡ 128 = c.read.auto.out ∙ c.requires.size in
    slot_shown seen c.read.new.out c.args.inode long c.requires.low c.requires.high (subst (λ n. ShowsHome n c.read.new.out seen) at (c.in-Ok.ensures.home refl))
