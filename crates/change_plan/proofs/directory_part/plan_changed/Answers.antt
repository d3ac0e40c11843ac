use Rattle.std.proofs.Common.{◌≡◌, ◌∙◌, inr, ℕ, List, Option, Some, ◌++◌, take, length, refl, sym, ap, subst, arith}
use Rattle.std.proofs.lemmas.List.{length-drop}
use Rattle.inode_plan.specs.file_graph.declared.effect.Kind.{Kind}
use Rattle.inode_plan.specs.file_graph.declared.effect.Kind.TheVariants as kind
use Rattle.inode_plan.specs.graph_change.View.{change_of}
use Rattle.block_alloc.specs.Runs.{blocks_of}
use Rattle.inode_plan.specs.area_reader.Store.{Store, disk}
use Rattle.inode_plan.specs.area_commit.declared.allocation.Allocation.{Allocation}
use Rattle.inode_plan.specs.Spare.{spares_for}
use Rattle.change_plan.specs.Directory.{IsReadyToWrite}
use Rattle.change_plan.specs.Next.{nodes_left}
use Rattle.change_plan.proofs.NextFits.{nodes_end, count_few, count_free, count_fits}
use Rattle.change_plan.proofs.TakingMore.{takes_still, part_behind}
use Rattle.change_plan.proofs.directory_part.plan_changed.Goals as goal

pub take_spares-requires : goal.take_spares-requires
take_spares-requires g c =
    let old = c.args.journal.now in
    let s : Store = disk g.M.Media old in
    let next = c.requires.next in
    let from = c.requires.changed in
    record {
      before = (next.pools.before, next.pools.order, next.pools.took, nodes_end old.geometry s c.args.changed.now.inode c.args.changed.now.slot (change_of c.args.changed.now.change.now) c.args.pools.now c.args.plan.now.taken c.args.plan.now.nodes next);
      undo = next.pools.undo;
      enough = count_free old.geometry s c.args.changed.now.inode c.args.changed.now.slot (change_of c.args.changed.now.change.now) c.args.pools.now c.args.plan.now.taken c.args.plan.now.nodes next c.args.directory.now from c.spares_for-count.result c.spares_for-count.ensures;
      few = count_fits old.geometry s c.args.changed.now.inode c.args.changed.now.slot (change_of c.args.changed.now.change.now) c.args.pools.now c.args.plan.now.taken c.args.plan.now.nodes next c.args.directory.now from c.spares_for-count.result c.spares_for-count.ensures;
    }

pub plan_over_spares-requires : goal.plan_over_spares-requires
plan_over_spares-requires g c =
    let old = c.args.journal.now in
    let s : Store = disk g.M.Media old in
    let change = change_of c.args.changed.now.change.now in
    let next = c.requires.next in
    let from = c.requires.changed in
    let free = c.args.pools.now.nodes.free in
    let enough = count_free old.geometry s c.args.changed.now.inode c.args.changed.now.slot change c.args.pools.now c.args.plan.now.taken c.args.plan.now.nodes next c.args.directory.now from (spares_for c.args.directory.now) refl in
    let ready = c.free_blocks_are_spare.ensures old.geometry s change c.args.changed.now.inode from.start c.args.directory.now c.args.pools.now c.args.plan.now.taken c.args.plan.now.nodes next.allowed next.spelled next.bounded next.pools next.others from.starts from.sound from.changed enough in
    let is : c.deref.result.now ≡ take (spares_for c.args.directory.now) free = c.deref.ensures.value ∙ c.in_ok-spares.ensures.spares ∙ ap (λ (n : ℕ). take n free) c.spares_for-count.ensures in
    record {
      spelled = next.spelled;
      number = next.number;
      fits = next.fits;
      slot_is = next.slot_is;
      going = c.requires.going;
      ready = (from.start, subst (λ (spares : List ℕ). IsReadyToWrite old.geometry s change c.args.changed.now.inode from.start c.args.directory.now spares c.args.plan.now.nodes) (sym is) ready);
    }

pub returns-clause-planned : goal.returns-clause-planned
returns-clause-planned g c places =
    let old = c.args.journal.now in
    let s : Store = disk g.M.Media old in
    let change = change_of c.args.changed.now.change.now in
    let next = c.requires.next in
    let from = c.requires.changed in
    let spares : c.deref.result.now ≡ take c.spares_for-count.result c.args.pools.now.nodes.free = c.deref.ensures.value ∙ c.in_ok-spares.ensures.spares in
    let was = c.args.plan.now in
    let taken = c.plan_over_spares.new.plan.taken in
    let nodes = ap (λ (a : Allocation). blocks_of a.nodes.items) c.plan_over_spares.ensures.taken ∙ c.in_ok-spares.ensures.nodes ∙ ap (λ (ks : List ℕ). blocks_of was.taken.nodes.items ++ ks) (sym spares) in
    let few = c.in_ok-plan_over_spares.ensures.few in
    let written = from.few in
    let left = ap (λ (ks : List ℕ). length ks) c.in_ok-spares.ensures.left ∙ length-drop c.spares_for-count.result c.args.pools.now.nodes.free in
    let count = count_few old.geometry s c.args.changed.now.inode c.args.changed.now.slot change c.args.pools.now c.args.plan.now.taken c.args.plan.now.nodes next c.args.directory.now from c.spares_for-count.result c.spares_for-count.ensures in
    record {
      part = part_behind old.geometry s change c.args.changed.now.touch c.args.changed.now.inode places 0 was.taken taken c.take_spares.new.taken was c.plan_over_spares.new.plan (c.in_ok-plan_over_spares.ensures.part places was.taken taken nodes);
      wants = inr ((λ file. absurd (let e : Some kind.File ≡ Some kind.Directory = sym file ∙ from.starts.kind_is in cc)), refl);
      images = (let left = ap (λ (k : Option Kind). nodes_left k change) from.starts.kind_is in omega (arith, left, few, written));
      free = omega (arith, left, count);
    }

pub returns-clause-took : goal.returns-clause-took
returns-clause-took g c = takes_still c.args.pools.now c.take_spares.new.pools c.args.plan.now.taken c.take_spares.new.taken c.plan_over_spares.new.plan.taken c.plan_over_spares.ensures.taken c.take_spares.ensures.took

pub returns-in_err-plan_over_spares-clause-took : goal.returns-in_err-plan_over_spares-clause-took
returns-in_err-plan_over_spares-clause-took g c = takes_still c.args.pools.now c.take_spares.new.pools c.args.plan.now.taken c.take_spares.new.taken c.plan_over_spares.new.plan.taken c.plan_over_spares.ensures.taken c.take_spares.ensures.took
