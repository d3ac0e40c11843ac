use Rattle.std.proofs.Common.{◌≡◌, ◌+◌, ◌∙◌, inl, ℕ, length, Option, refl, sym, ap, subst, arith}
use Rattle.std.specs.FinMap as fin
use Rattle.inode_plan.specs.file_graph.declared.effect.Kind.{Kind}
use Rattle.inode_plan.specs.graph_change.View.{change_of}
use Rattle.inode_plan.specs.tree_blocks.Directory.{most_written}
use Rattle.inode_plan.specs.area_reader.Store.{Store, disk}
use Rattle.inode_plan.proofs.area_reader_lemmas.Looked.{carried, carried_back}
use Rattle.change_plan.specs.PlanAddition.{AddsPart}
use Rattle.change_plan.specs.FileSteps.{IsWrittenFile}
use Rattle.change_plan.specs.Next.{IsNext, nodes_for, nodes_left}
use Rattle.change_plan.proofs.PlansFile.{long}
use Rattle.change_plan.proofs.TakingMore.{takes_none}
use Rattle.change_plan.proofs.file_part.plan_file_part.Goals as goal

pub start_file-requires : goal.start_file-requires
start_file-requires g c = (
    let next = c.requires.next in
    record {
      spelled = next.spelled;
      number = next.number;
      slot_is = next.slot_is;
      is_file = c.requires.file;
      going = c.requires.going;
    }
    )

pub place_written-requires-clause-started : goal.place_written-requires-clause-started
place_written-requires-clause-started g c =
    let old = c.args.journal.now in
    (old.geometry, disk g.M.Media old, c.in_ok-file.ensures.started, c.requires.places)

pub place_written-requires-clause-tidy : goal.place_written-requires-clause-tidy
place_written-requires-clause-tidy g c = c.requires.next.tidy

pub place_written-requires-clause-bounded : goal.place_written-requires-clause-bounded
place_written-requires-clause-bounded g c = c.requires.next.bounded

pub plan_written-requires : goal.plan_written-requires
plan_written-requires g c =
    let m = g.M.Media in
    let old = c.args.journal.now in
    let new = c.start_file.new.journal in
    let it = c.args.changed.now in
    let change = change_of it.change.now in
    let looks = c.in_ok-file.ensures.looks in
    let ready = c.in_ok-written.ensures old.geometry (disk m old) c.in_ok-file.ensures.started c.requires.places in
    record {
      going = looks.going.1;
      next = carried m (λ h s. IsNext h s it.inode it.slot change c.args.pools.now c.args.plan.now.taken c.args.plan.now.nodes) old new _ looks c.requires.next;
      ready = (c.args.places.now, carried m (λ h s. IsWrittenFile h s change it.inode c.args.places.now c.in_ok-written.written) old new _ looks ready);
    }

pub returns-clause-planned : goal.returns-clause-planned
returns-clause-planned g c =
    let m = g.M.Media in
    let old = c.args.journal.now in
    let new = c.start_file.new.journal in
    let s : Store = disk m old in
    let it = c.args.changed.now in
    let was = c.args.plan.now in
    let now = c.plan_written.new.plan in
    let change = change_of it.change.now in
    let looks = c.in_ok-file.ensures.looks in
    let started = c.in_ok-file.ensures.started in
    let w = c.in_ok-written.written in
    let ready = c.in_ok-written.ensures old.geometry s started c.requires.places in
    let part = carried_back m (λ h t. AddsPart h t change it.touch it.inode c.args.places.now (length w.numbers.items) was.taken now.taken was now) old new _ looks
    (c.in_ok-plan_written.ensures.part c.args.places.now (carried m (λ h t. IsWrittenFile h t change it.inode c.args.places.now w) old new _ looks ready)) in
    let count : c.len-count.result ≡ length w.numbers.items = c.len-count.ensures ∙ long w.numbers in
    let most : nodes_for change ≡ 3 + most_written (fin.entries change.entries) = refl in
    let images = c.in_ok-plan_written.ensures.images in
    let free = c.in_ok-plan_written.ensures.free in
    record {
      part = subst (λ (n : ℕ). AddsPart old.geometry s change it.touch it.inode c.args.places.now n was.taken now.taken was now) (sym count) part;
      wants = inl (started.kind_is, w.numbers.items, ready.numbers, sym count);
      images = (let left = ap (λ (k : Option Kind). nodes_left k change) started.kind_is in omega (arith, left, images));
      free = omega (arith, most, free);
    }

pub returns-in_err-file-clause-took : goal.returns-in_err-file-clause-took
returns-in_err-file-clause-took g c = takes_none c.args.pools.now c.args.plan.now.taken c.requires.next.pools.undo

pub returns-in_err-written-clause-took : goal.returns-in_err-written-clause-took
returns-in_err-written-clause-took g c = takes_none c.args.pools.now c.args.plan.now.taken c.requires.next.pools.undo
