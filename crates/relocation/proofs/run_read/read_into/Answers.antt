use Rattle.std.proofs.Common.{◌≡◌, ◌≤◌, ◌+◌, ◌-◌, ◌*◌, ◌∙◌, ◌++◌, ℕ, List, length, take, drop, sym, ap, subst, arith}
use Rattle.std.proofs.lemmas.List.{drop-drop, append_assoc}
use Rattle.tier_device.specs.Media.{overwritten}
use Rattle.tier_device.specs.RecordLaws.{torn_overwritten}
use Rattle.inode_plan.specs.area_reader.Store.{disk, logical_block}
use Rattle.inode_plan.specs.area_reader.Looks.{call_answer}
use Rattle.inode_plan.specs.area_reader.Checks.{IsOnce}
use Rattle.inode_plan.proofs.area_reader_lemmas.Looked.{carried, carried_back, looks_on}
use Rattle.inode_plan.specs.Lists.{LieAsIn, HoldsRun}
use Rattle.relocation.proofs.ListRuns.{holds_more}
use Rattle.relocation.proofs.run_read.read_into.Goals as goal

pub read_logical-requires-clause-map : goal.read_logical-requires-clause-map
read_logical-requires-clause-map g c =
    let m = g.M.Media in
    carried m (λ x s. LieAsIn x s c.args.inode c.args.map.now) c.args.journal.now c.each.journal call_answer c.each.invariant.looks c.requires.map

pub read_logical-requires-clause-once : goal.read_logical-requires-clause-once
read_logical-requires-clause-once g c =
    let m = g.M.Media in
    carried m (λ x s. IsOnce x s c.args.inode) c.args.journal.now c.each.journal call_answer c.each.invariant.looks c.requires.once

pub each-preserved : goal.each-preserved
each-preserved g c =
    let m = g.M.Media in
    let old = c.args.journal.now in
    let first = c.each.invariant.looks in
    let n : ℕ = c.each.place in
    let now : List ℕ = c.each.out in
    let new : List ℕ = c.read_logical.new.out in
    let blocks = logical_block old.geometry (disk m old) c.args.inode in
    let fits : 4096 * n + 4096 ≤ length now = omega (arith, c.each-test.true, c.each.invariant.long, c.requires.size) in
    let at : ℕ = 4096 * n in
    let size : at + 4096 - at ≡ 4096 = omega arith in
    let stop : at + (at + 4096 - at) ≡ at + length new = omega (arith, c.in_ok-read_logical.ensures.size) in
    let behind : drop (at + 4096 - at) (drop at now) ≡ drop (at + length new) now = drop-drop (at + 4096 - at) at now ∙ ap (λ j. drop j now) stop in
    let is : overwritten now at new ≡ take at now ++ (new ++ drop (at + 4096 - at) (drop at now)) = append_assoc (take at now) new (drop (at + length new) now) ∙ ap (λ (l : List ℕ). take at now ++ (new ++ l)) (sym behind) in
    let read = carried_back m (λ x s. new ≡ logical_block x s c.args.inode (c.args.run.first + n)) old c.each.journal call_answer first c.in_ok-read_logical.ensures.bytes in
    let holds = holds_more blocks c.args.run.first n now new c.each.invariant.holds c.in_ok-read_logical.ensures.size fits read in
    let long = (torn_overwritten now at new (omega (arith, fits, c.in_ok-read_logical.ensures.size))).same_length in
    record {
      looks = looks_on m old c.each.journal c.read_logical.new.journal tt call_answer first c.in_ok-read_logical.ensures.looks;
      long = ap length (sym is) ∙ long ∙ c.each.invariant.long;
      holds = subst (HoldsRun blocks c.args.run.first (n + 1)) is holds;
    }
