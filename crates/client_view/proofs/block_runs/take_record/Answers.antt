use Rattle.std.proofs.Common.{◌<◌, length, refl, ◌∙◌, arith}
use Rattle.std.proofs.lemmas.List.{length-set}
use Rattle.client_view.proofs.Runs.{all_laid, done_more, left_more, short_more, stays_before, whole_more}
use Rattle.client_view.proofs.block_runs.take_record.Goals as goal

pub loop-place-init : goal.loop-place-init
loop-place-init c = record {
  as_long = refl;
  laid = stays_before c.args.entry.now.effects c.args.reach c.args.inode c.args.first c.args.run.now c.requires.reach c.requires.short c.args.whole c.places-from.result.0 c.requires.whole c.places-from.ensures.before;
  left = λ k high. refl;
  short = c.requires.short;
  whole = c.requires.whole;
}

pub loop-place-preserved : goal.loop-place-preserved
loop-place-preserved c =
    let es = c.args.entry.now.effects in
    let inv = c.loop-place.invariant in
    let now = c.loop-place.run in
    let place = c.loop-place.place in
    let new = c.take_record.new.self in
    let inside : c.loop-place.place < length c.loop-place.run = omega (arith, c.loop-place-test.true, c.places-from.ensures.within, inv.as_long) in
    record {
      as_long = length-set now place new ∙ inv.as_long;
      laid = done_more es c.args.reach c.args.inode c.args.first c.args.run.now c.requires.reach c.requires.short now place inv.as_long inv.laid inv.left c.index-run-place.result new inside c.take_record.ensures;
      left = left_more es c.args.reach c.args.inode c.args.first c.args.run.now c.requires.reach c.requires.short now place inv.as_long inv.laid inv.left c.index-run-place.result new inside c.take_record.ensures;
      short = short_more now place new c.index-run-place-in-loop-place.result c.len.result inside c.len.ensures.is c.len.ensures.within inv.short;
      whole = whole_more now place new c.index-run-place-in-loop-place.result c.len.result inside c.len.ensures.is c.len.ensures.within c.loop-place.known c.whole_after-known.result inv.whole c.whole_after-known.ensures;
    }

pub returns-clause-laid : goal.returns-clause-laid
returns-clause-laid c =
    let inv = c.loop-place.invariant in
    all_laid c.args.entry.now.effects c.args.reach c.args.inode c.args.first c.args.run.now c.requires.reach c.requires.short c.loop-place.run c.loop-place.place inv.as_long inv.laid inv.left c.places-from.result.1 c.loop-place-test.false c.places-from.ensures.behind
