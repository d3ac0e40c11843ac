use Rattle.std.proofs.Common.{refl}
use Rattle.inode_plan.specs.graph_change.View.{change_of}
use Rattle.inode_plan.proofs.area_reader_lemmas.Looked.{carried, carried_back}
use Rattle.change_plan.specs.DirectoryChange.{IsChangedFrom}
use Rattle.change_plan.specs.Next.{IsNext, PlansInode}
use Rattle.change_plan.proofs.directory_part.plan_directory_part.Goals as goal

pub directory_change-requires : goal.directory_change-requires
directory_change-requires g c =
    let next = c.requires.next in
    record {
      going = c.requires.going;
      spelled = next.spelled;
      number = next.number;
      fits = next.fits;
      slot_is = next.slot_is;
      bounded = next.bounded;
      entries = next.entries;
      is_directory = c.requires.directory;
    }

pub plan_changed-requires : goal.plan_changed-requires
plan_changed-requires g c =
    let m = g.M.Media in
    let old = c.args.journal.now in
    let new = c.directory_change.new.journal in
    let looks = c.in_ok-directory.ensures.looks in
    let change = change_of c.args.changed.now.change.now in
    record {
      going = looks.going.1;
      next = carried m (λ h s. IsNext h s c.args.changed.now.inode c.args.changed.now.slot change c.args.pools.now c.args.plan.now.taken c.args.plan.now.nodes) old new _ looks c.requires.next;
      changed = carried m (λ h s. IsChangedFrom h s change c.args.changed.now.inode c.in_ok-directory.directory) old new _ looks c.in_ok-directory.ensures.changed;
    }

pub returns-clause-planned : goal.returns-clause-planned
returns-clause-planned g c places =
    let m = g.M.Media in
    let change = change_of c.args.changed.now.change.now in
    carried_back m (λ h s. PlansInode h s change c.args.changed.now.touch c.args.changed.now.inode places 0 c.args.pools.now c.args.plan.now.taken c.plan_changed.new.pools c.plan_changed.new.plan.taken c.args.plan.now c.plan_changed.new.plan) c.args.journal.now c.directory_change.new.journal _ c.in_ok-directory.ensures.looks (c.in_ok-plan_changed.ensures.planned places)

pub returns-in_err-directory-clause-took : goal.returns-in_err-directory-clause-took
returns-in_err-directory-clause-took g c = record { same = refl; took = λ before order was. was; undo = c.requires.next.pools.undo }
