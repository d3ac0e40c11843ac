use Rattle.std.proofs.Common.{◌≡◌, ◌+◌, ◌∙◌, sum_by, take, length, sym, subst, ap}
use Rattle.std.specs.Prelude.{get_or, replicate}
use Rattle.std.proofs.lemmas.List.{length-drop, length-take-le}
use Rattle.host_media.specs.FileBytes.{Told, known}
use Rattle.host_media.specs.FileRange.{range_begin, range_changes, range_told}
use Rattle.host_media.specs.Sizes.{byte_count}
use Rattle.host_media.specs.declared.sizes.Sizes.{Sizes}
use Rattle.host_media.proofs.PartedFile.{IsParted, left_next, next_fits, part_next}
use Rattle.host_media.proofs.ToldTiers.{front-of-zeros, rest-of-zeros}
use Rattle.host_media.proofs.file_parts.push_media.Goals as goal

abbrev no_size : Sizes
no_size = record { fast = 0; block = 0; slow = 0 }

pub medium-requires-clause-fits : goal.medium-requires-clause-fits
medium-requires-clause-fits c =
    let loop = c.loop-one in
    let told = range_told loop.rest in
    let n = byte_count (get_or c.args.sizes.now loop.one-index no_size) in
    ap length c.in_ok-part.ensures.bytes ∙ length-take-le n told (next_fits c.args.sizes.now loop.one-index (length told) no_size loop.invariant.left c.loop-one-test.true)

pub medium-requires-clause-blank : goal.medium-requires-clause-blank
medium-requires-clause-blank c is =
    let loop = c.loop-one in
    let told = range_told loop.rest in
    let n = byte_count (get_or c.args.sizes.now loop.one-index no_size) in
    subst (λ (t : Told). t ≡ known (replicate (length t) 0)) (sym c.in_ok-part.ensures.bytes)
    (front-of-zeros told n (loop.invariant.blank is) (next_fits c.args.sizes.now loop.one-index (length told) no_size loop.invariant.left c.loop-one-test.true))

pub loop-one-preserved : goal.loop-one-preserved
loop-one-preserved c =
    let loop = c.loop-one in
    let i = loop.invariant in
    let sizes = c.args.sizes.now in
    let told = range_told loop.rest in
    let n = byte_count (get_or sizes loop.one-index no_size) in
    let part = c.in_ok-part.ensures in
    let made = c.in_ok-medium.ensures in
    record {
      parted =
          subst (λ begin. IsParted c.args.is_blank (range_begin c.args.rest.now) (range_changes c.args.rest.now) sizes (loop.one-index + 1) begin c.push.new.media.items) (sym part.rest)
          (part_next c.args.is_blank (range_begin c.args.rest.now) (range_changes c.args.rest.now) sizes loop.one-index (range_begin loop.rest) loop.media.items i.parted no_size
          c.loop-one-test.true c.in_ok-medium.field-0 made.sizes (made.place ∙ part.begin) made.opened made.zeros (made.kept ∙ part.changes ∙ i.changes) c.push.new.media.items
          c.in_ok-push.ensures);
      left =
          ap (λ k. k + sum_by byte_count (take (loop.one-index + 1) sizes)) (ap length part.others ∙ length-drop n told)
          ∙ left_next sizes loop.one-index (length told) no_size i.left c.loop-one-test.true;
      blank = λ is. subst (λ (t : Told). t ≡ known (replicate (length t) 0)) (sym part.others) (rest-of-zeros told n (i.blank is));
      changes = part.counted ∙ i.changes;
    }
