use Rattle.std.proofs.Common.{◌≤◌, ◌+◌, length, ap, sym, ◌∙◌, arith}
use Rattle.std.proofs.Math.Logic.{∥∥₁_map}
use Rattle.tier_device.specs.Rows.{row}
use Rattle.host_media.specs.FileRange.{range_told}
use Rattle.host_media.specs.TierHistory.{shown_now}
use Rattle.host_media.proofs.Grow.{write_kept}
use Rattle.host_media.proofs.ToldTiers.{length-content-known, place_within, stands-put, works_if_ok}
use Rattle.host_media.proofs.Covering.{same_place, cover_write, settled_write, same_total}
use Rattle.host_media.proofs.mirror.Mirrored.write.Goals as goal

pub write-answer-requires-clause-place : goal.write-answer-requires-clause-place
write-answer-requires-clause-place c =
    let m = c.args.self.now in
    c.place_of-place.ensures ∙ ap (λ n. n + c.args.at) (same_place m.host.past.history m.tiers m.mirrors c.args.tier)

pub write-answer-requires-clause-within : goal.write-answer-requires-clause-within
write-answer-requires-clause-within c =
    let m = c.args.self.now in
    let within = place_within m.tiers c.args.tier c.args.at (length c.args.bytes.now) c.requires.fits in
    let long = ap length (m.stands c.requires.works) ∙ length-content-known m.tiers in
    omega (arith, within, long, c.place_of-place.ensures)

pub invariant_of-self : goal.invariant_of-self
invariant_of-self c =
    let m = c.args.self.now in
    let t = c.args.tier in
    let v = c.args.bytes.now in
    let f = m.host.past.history in
    let h = m.past.history in
    let g = c.write-answer.new.self.past.history in
    let k = c.then-self.result.history in
    let old = row m.tiers in
    let new = row c.overwrite.new.self in
    let file = c.write-answer.ensures.past in
    let media = c.then-self.ensures in
    let file_fits : c.args.at + length v ≤ length (shown_now f t) = omega (arith, ap length (m.mirrors t), c.requires.fits) in
    let media_fits : c.args.at + length v ≤ length (shown_now h t) = omega (arith, ap length (m.shows t), c.requires.fits) in
    record {
      shows = write_kept h k t c.args.at v media media_fits old new m.shows c.overwrite.ensures;
      mirrors = write_kept f g t c.args.at v file file_fits old new m.mirrors c.overwrite.ensures;
      covered = ∥∥₁_map m.covered (cover_write f g h k t c.args.at v file media file_fits media_fits);
      settled = settled_write f g h k t c.args.at v file media file_fits media_fits old new _ c.overwrite.ensures m.pending c.with-self.result c.with-self.ensures m.settled;
      fits = let same = same_total m.tiers c.overwrite.new.self t c.args.at v c.requires.fits c.overwrite.ensures in omega (arith, same, c.write-answer.ensures.begin, m.fits);
      stands = λ works.
          works_if_ok c.write-answer.result _ (sym c.write-answer.ensures.failed ∙ works) c.write-answer.ensures.written
          ∙ stands-put m.tiers c.overwrite.new.self t c.args.at v c.requires.fits c.overwrite.ensures (range_told m.host.range) _ (m.stands c.requires.works) c.place_of-place.ensures;
    }
