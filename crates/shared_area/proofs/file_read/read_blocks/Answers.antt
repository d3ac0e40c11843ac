use Rattle.std.proofs.Common.{◌≡◌, ◌≤◌, ◌+◌, ◌-◌, ◌∙◌, ◌++◌, ℕ, List, length, take, drop, sym, ap, subst, arith}
use Rattle.std.proofs.lemmas.List.{drop-drop, length-drop, length-take-le}
use Rattle.area_reader.specs.Store.{disk, logical_block}
use Rattle.area_reader.specs.Looks.{call_answer}
use Rattle.area_reader.specs.Checks.{IsOnce}
use Rattle.area_reader.proofs.Looked.{carried, carried_back, looks_on}
use Rattle.shared_area.specs.FileReads.{IsReadUpTo, ShowsBytes}
use Rattle.shared_area.proofs.Files.{up_to_more}
use Rattle.shared_area.proofs.file_read.read_blocks.Goals as goal

pub read_within-requires-clause-once : goal.read_within-requires-clause-once
read_within-requires-clause-once g c =
    let m = g.M.Media in
    carried m (λ x s. IsOnce x s c.args.inode) c.args.journal.now c.loop-done.journal call_answer c.loop-done.invariant.looks c.requires.once

pub loop-done-preserved : goal.loop-done-preserved
loop-done-preserved g c =
    let m = g.M.Media in
    let old = c.args.journal.now in
    let first = c.loop-done.invariant.looks in
    let done : ℕ = c.loop-done.done in
    let n : ℕ = c.min-count.result in
    let now : List ℕ = c.loop-done.out in
    let new : List ℕ = c.read_within.new.out in
    let least = c.min-count.ensures in
    let more = c.loop-done-test.true in
    let fits : done + n ≤ length now = omega (arith, least, more) in
    let same : done + n - done ≡ n = omega arith in
    let cut : length (take (done + n - done) (drop done now)) ≡ done + n - done = length-take-le (done + n - done) (drop done now) (omega (arith, length-drop done now, fits)) in
    let long : length new ≡ n = c.read_within.auto.out ∙ cut ∙ same in
    let shows = carried_back m (λ x s. ShowsBytes (logical_block x s c.args.inode) (c.args.at + done) new) old c.loop-done.journal call_answer first c.in_ok-read_within.ensures.bytes in
    let blocks = logical_block old.geometry (disk m old) c.args.inode in
    let behind : drop (done + n - done) (drop done now) ≡ drop (done + n) now = drop-drop (done + n - done) done now ∙ ap (λ j. drop (done + j) now) same in
    let read : IsReadUpTo blocks c.args.at (done + n) c.args.out.now (take done now ++ (new ++ drop (done + n - done) (drop done now))) =
    subst (λ (l : List ℕ). IsReadUpTo blocks c.args.at (done + n) c.args.out.now (take done now ++ (new ++ l))) (sym behind)
    (up_to_more blocks c.args.at done n c.args.out.now now new c.loop-done.invariant.read shows long fits) in
    record {
      looks = looks_on m old c.loop-done.journal c.read_within.new.journal tt call_answer first c.in_ok-read_within.ensures.looks;
      few = omega (arith, fits, read.long, c.loop-done.invariant.read.long);
      read = read;
    }
