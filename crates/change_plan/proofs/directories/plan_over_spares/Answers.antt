use Rattle.std.proofs.Common.{◌<◌, ◌∙◌, ℕ, List, [], refl, sym, ap, subst, append-nil, rules}
use Rattle.inode_plan.specs.graph_change.View.{change_of}
use Rattle.inode_plan.specs.area_reader.Store.{Store, disk}
use Rattle.inode_plan.specs.PlannedDirectory.{IsPlannedFrom, on_fast}
use Rattle.change_plan.specs.Part.{IsPart}
use Rattle.change_plan.specs.Directory.{of_nodes}
use Rattle.change_plan.proofs.directories.plan_over_spares.Goals as goal

pub plan_directory-requires : goal.plan_directory-requires
plan_directory-requires g c = let ready = c.requires.ready.1 in (c.args.journal.now.geometry, ready.allowed, ready.can, ready.spare)

pub returns-clause-part : goal.returns-clause-part
returns-clause-part g c places before after taken =
    let old = c.args.journal.now in
    let s : Store = disk g.M.Media old in
    let change = change_of c.args.changed.now.change.now in
    let ready = c.requires.ready.1 in
    let plan = c.in_ok-planned.planned in
    let first = c.args.plan.now.nodes in
    let images = c.plan_directory.new.images in
    let adds = c.in_ok-push_planned.ensures.adds in
    let fits : c.args.changed.now.touch < 18446744073709551616 = search rules in
    let from : IsPlannedFrom old.geometry s change c.args.changed.now.inode c.requires.ready.0 c.args.directory.now c.args.changed.now.touch c.args.spares.now first images plan = record {
      allowed = ready.allowed;
      touch_fits = fits;
      starts = ready.starts;
      sound = ready.sound;
      changed = ready.changed;
      can = ready.can;
      spare = ready.spare;
      no_image = ready.no_image;
      planned = c.in_ok-planned.ensures.planned;
    } in
    let part = c.planned_directory_is_a_part.ensures old.geometry s change c.args.changed.now.inode c.args.changed.now.touch c.requires.ready.0 c.args.directory.now c.args.spares.now first images plan adds.lost from (c.in_ok-planned.ensures.nodes old.geometry ready.can ready.spare) ready.free adds.its in
    record {
      x = plan.slot;
      m = on_fast plan.list.extents;
      share = of_nodes c.args.spares.now;
      bytes = [];
      lost = adds.lost;
      part = subst (λ (now : List (ℕ × List ℕ)). IsPart old.geometry s change c.args.changed.now.touch c.args.changed.now.inode plan.slot (on_fast plan.list.extents) (of_nodes c.args.spares.now) [] first now adds.lost) (sym adds.images_are) part;
      nodes = taken;
      data_are = refl;
      slots_are = adds.slots_are;
      bytes_are = ap (λ b. b.items) adds.bytes_are ∙ sym (append-nil c.args.plan.now.bytes.items);
      lost_are = adds.lost_are;
    }
