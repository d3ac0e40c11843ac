use Rattle.std.proofs.Common.{◌≡◌, ◌≤◌, ◌+◌, ◌-◌, ◌*◌, ℕ, List, length, take, drop, get_or, ap, sym, subst, refl, ◌∙◌, ◌∷◌, [], arith, inl}
use Rattle.std.specs.List.{flat_map}
use Rattle.std.proofs.lemmas.List.{length-take-le, length-drop}
use Rattle.area_reader.specs.layout.Places.{Sizes, data_first, tier_blocks}
use Rattle.block_alloc.specs.declared.runs.Run.{Run}
use Rattle.block_alloc.specs.Runs.{run_blocks}
use Rattle.area_reader.specs.batch_journal.Blocks.{block_of}
use Rattle.area_reader.proofs.batch_journal_lemmas.Courses.{and_then, weaker, no_call}
use Rattle.area_reader.specs.Reads.{Free}
use Rattle.area_commit.specs.DataWrite.{AreFreeIn, StaysLoose}
use Rattle.area_commit.proofs.Courses.{loose_start, loose_then}
use Rattle.area_commit.proofs.Held.{this_within, this_more, this_fits, holds_more, one_run}
use Rattle.area_commit.proofs.data_write.write_runs.Goals as goal

abbrev none : Run
none = record { first = 0; count = 0 }

-- a part of the data
part : (bytes : List ℕ) (at n : ℕ) → at + n ≤ length bytes → length (take (at + n - at) (drop at bytes)) ≡ n
part bytes at n fits =
    let size : at + n - at ≤ length (drop at bytes) = omega (arith, fits, length-drop at bytes) in
    omega (arith, length-take-le (at + n - at) (drop at bytes) size)

pub overflow_add-end : goal.overflow_add-end
overflow_add-end g c = omega (arith, this_fits _ _ c.args.runs.now c.runs.place none c.runs-test.true c.requires.place, c.runs.invariant.at_is, c.requires.size)

pub slice_bounds-write_run-end : goal.slice_bounds-write_run-end
slice_bounds-write_run-end g c = omega (arith, this_fits _ _ c.args.runs.now c.runs.place none c.runs-test.true c.requires.place, c.runs.invariant.at_is, c.requires.size)

pub write_run-requires : goal.write_run-requires
write_run-requires g c =
    let runs = c.args.runs.now in
    let i = c.runs.place in
    let h = c.args.journal.now.geometry in
    let within = this_within (data_first h c.args.tier) (tier_blocks h c.args.tier) runs i none c.runs-test.true c.requires.place in
    let fits = this_fits (data_first h c.args.tier) (tier_blocks h c.args.tier) runs i none c.runs-test.true c.requires.place in
    record {
      going = c.runs.invariant.going;
      first = subst (λ (x : Sizes). data_first x c.args.tier ≤ (get_or runs i none).first) (sym c.runs.invariant.geometry) within.0;
      last = subst (λ (x : Sizes). (get_or runs i none).first + (get_or runs i none).count ≤ tier_blocks x c.args.tier) (sym c.runs.invariant.geometry) within.2;
      size = part c.args.«data».now c.runs.at (4096 * (get_or runs i none).count) (omega (arith, fits, c.runs.invariant.at_is, c.requires.size));
    }

pub runs-init : goal.runs-init
runs-init g c =
    let m = g.M.Media in
    let old = c.args.journal.now in
    record {
      loose = λ s free. loose_start old.geometry s (m.moment old.media) (m.left old.media);
      turn = weaker (no_call c.args.tier (m.moment old.media) (m.left old.media)) (λ x l. tt);
      at_is = refl;
      written = refl;
      others = λ t other. refl;
      keeps_rest = λ t none rest. rest;
      calls = omega arith;
      geometry = refl;
      going = c.requires.going;
      quiet = refl;
      lengths = λ t. refl;
    }

pub returns-in_err-write_run-clause-loose : goal.returns-in_err-write_run-clause-loose
returns-in_err-write_run-clause-loose g c s free =
    let m = g.M.Media in
    let old = c.args.journal.now in
    let mid = c.runs.journal in
    let new = c.write_run.new.journal in
    let runs = c.args.runs.now in
    let tier = c.args.tier in
    let i = c.runs.place in
    let step = subst (λ (x : Sizes). AreFreeIn x s tier (get_or runs i none ∷ []) → StaysLoose x s (m.moment mid.media) (m.moment new.media) (m.left mid.media) (m.left new.media)) c.runs.invariant.geometry (c.write_run.ensures.loose s) in
    loose_then old.geometry s (m.moment old.media) (m.moment mid.media) (m.moment new.media) (m.left old.media) (m.left mid.media) (m.left new.media) (c.runs.invariant.loose s free) (step (one_run (λ k. Free old.geometry s tier k) runs i none c.runs-test.true free))

pub returns-in_err-write_run-clause-turn : goal.returns-in_err-write_run-clause-turn
returns-in_err-write_run-clause-turn g c = and_then c.runs.invariant.turn c.write_run.ensures.turn (λ x l. tt) (λ x l. tt)

pub runs-preserved : goal.runs-preserved
runs-preserved g c =
    let m = g.M.Media in
    let old = c.args.journal.now in
    let mid = c.runs.journal in
    let new = c.write_run.new.journal in
    let runs = c.args.runs.now in
    let tier = c.args.tier in
    let i = c.runs.place in
    let low = data_first old.geometry tier in
    let end = tier_blocks old.geometry tier in
    let run = get_or runs i none in
    let size : ℕ = 4096 * run.count in
    let same : c.runs.at + size - c.runs.at ≡ size = omega arith in
    let written : flat_map (block_of (m.seen new.media tier)) (run_blocks run) ≡ take size (drop c.runs.at c.args.«data».now) = c.in_ok-write_run.ensures.written ∙ ap (λ n. take n (drop c.runs.at c.args.«data».now)) same in
    record {
      loose = λ s free.
          (let step = subst (λ (x : Sizes). AreFreeIn x s tier (run ∷ []) → StaysLoose x s (m.moment mid.media) (m.moment new.media) (m.left mid.media) (m.left new.media)) c.runs.invariant.geometry (c.write_run.ensures.loose s) in
          loose_then old.geometry s (m.moment old.media) (m.moment mid.media) (m.moment new.media) (m.left old.media) (m.left mid.media) (m.left new.media) (c.runs.invariant.loose s free) (step (one_run (λ k. Free old.geometry s tier k) runs i none c.runs-test.true free)));
      turn = and_then c.runs.invariant.turn c.write_run.ensures.turn (λ x l. tt) (λ x l. tt);
      at_is = omega (arith, this_more low end runs i none c.runs-test.true c.requires.place, c.runs.invariant.at_is);
      written = holds_more low end runs i none c.runs-test.true c.requires.place (block_of (m.seen mid.media tier)) (block_of (m.seen new.media tier)) c.args.«data».now c.runs.at size c.runs.invariant.written (λ k below. c.in_ok-write_run.ensures.kept k (inl below)) written;
      others = λ t other. c.in_ok-write_run.ensures.others t other ∙ c.runs.invariant.others t other;
      keeps_rest = λ t none rest. c.in_ok-write_run.ensures.keeps_rest t (λ same. (let no : i + 1 ≡ 0 = none same in omega (arith, no))) (c.runs.invariant.keeps_rest t (λ same. (let no : i + 1 ≡ 0 = none same in omega (arith, no))) rest);
      calls = omega (arith, c.in_ok-write_run.ensures.calls, c.runs.invariant.calls);
      geometry = c.write_run.ensures.went.geometry ∙ c.runs.invariant.geometry;
      going = c.in_ok-write_run.ensures.went.going;
      quiet = c.in_ok-write_run.ensures.went.quiet ∙ c.runs.invariant.quiet;
      lengths = λ t. c.write_run.ensures.lengths t ∙ c.runs.invariant.lengths t;
    }
