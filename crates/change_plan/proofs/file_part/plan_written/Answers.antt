use Rattle.std.proofs.Common.{◌≡◌, ◌∙◌, ℕ, List, Some, length, take, sym, ap, subst, true}
use Rattle.std.proofs.lemmas.List.{length-take-le, take-map}
use Rattle.inode_plan.specs.file_graph.declared.effect.Kind.TheVariants as kind
use Rattle.inode_plan.specs.graph_change.View.{base_of, change_of}
use Rattle.inode_plan.specs.layout.Places.{Sizes}
use Rattle.inode_plan.specs.layout.Slot.{fits_slot}
use Rattle.inode_plan.specs.layout.declared.places.TheConstants.{FILE_BLOCKS}
use Rattle.block_alloc.specs.Runs.{blocks_of}
use Rattle.inode_plan.specs.extent_tree.Map.{runs_in, lies_at}
use Rattle.inode_plan.specs.extent_tree.declared.map.Place.{Place}
use Rattle.inode_plan.specs.tree_blocks.After.{start_node}
use Rattle.inode_plan.specs.area_reader.Map.{in_tier}
use Rattle.inode_plan.specs.area_reader.Format.{IsSpelled}
use Rattle.inode_plan.specs.area_reader.Store.{Store, disk, slot_read, logical_block, inode}
use Rattle.inode_plan.proofs.area_reader_lemmas.Looked.{carried, carried_back}
use Rattle.inode_plan.specs.Bytes.{HoldsBlocks, blocks_from}
use Rattle.inode_plan.specs.area_commit.InodeChange.{places_from}
use Rattle.inode_plan.specs.area_commit.declared.allocation.Allocation.{Allocation}
use Rattle.inode_plan.specs.MapChange.{AreData}
use Rattle.inode_plan.proofs.After.{numbers_as}
use Rattle.inode_plan.proofs.Listed.{few_lists}
use Rattle.inode_plan.specs.PlannedFile.{pair_of, pairs_of}
use Rattle.inode_plan.specs.Roots.{roots_wanted}
use Rattle.change_plan.specs.Part.{IsPart}
use Rattle.change_plan.specs.FileSteps.{AddsFile}
use Rattle.change_plan.specs.declared.partial_plan.PartialPlan.{PartialPlan}
use Rattle.change_plan.proofs.NextFits.{nodes_end}
use Rattle.change_plan.proofs.TakingMore.{takes_still}
use Rattle.change_plan.proofs.file_part.plan_written.Goals as goal

pub root_placed-requires-clause-before : goal.root_placed-requires-clause-before
root_placed-requires-clause-before g c =
    let old = c.args.journal.now in
    let next = c.requires.next in
    (next.pools.before, next.pools.order, next.pools.took, nodes_end old.geometry (disk g.M.Media old) c.args.changed.now.inode c.args.changed.now.slot (change_of c.args.changed.now.change.now) c.args.pools.now c.args.plan.now.taken c.args.plan.now.nodes next)

pub root_placed-requires-clause-short : goal.root_placed-requires-clause-short
root_placed-requires-clause-short g c t =
    let old = c.args.journal.now in
    let next = c.requires.next in
    let places : List Place = c.requires.ready.0 in
    let ready = c.requires.ready.1 in
    let numbers : List ℕ = c.args.written.numbers.items in
    let first : List Place = take (length numbers) places in
    let plan = c.args.written.file.plan in
    let placed = ready.placed in
    let at : AreData old.geometry first (length numbers) = subst (AreData old.geometry first) (length-take-le (length numbers) places ready.few) ready.free.are_data in
    let change = change_of c.args.changed.now.change.now in
    let are = numbers_as (places_from old.geometry (disk g.M.Media old) c.args.changed.now.inode change.base) change numbers ready.numbers (lies_at placed.before) (λ u k. sym (placed.was.starts u k)) in
    let within = c.changed_map_is_fit.ensures.within old.geometry (change_of c.args.changed.now.change.now) numbers first placed.before plan.map are placed.map next.tidy next.bounded.length at placed.was.within t in
    few_lists c.args.changed.now.inode plan.map t (in_tier plan.lists t) (placed.lists t) (c.few_blocks_are_few_runs.ensures.few FILE_BLOCKS (runs_in plan.map t) (placed.normal t) (λ k p is. (within k p is).0))

pub push_file-requires : goal.push_file-requires
push_file-requires g c =
    let m = g.M.Media in
    let old = c.args.journal.now in
    let new = c.add_bytes.new.journal in
    let looks = c.in_ok-add_bytes.ensures.looks in
    let next = c.requires.next in
    let x = c.args.changed.now.slot in
    let base = base_of c.args.changed.now.change.now.base in
    record {
      spelled = carried m IsSpelled old new _ looks next.spelled;
      number = next.number;
      fits = subst (λ (h : Sizes). fits_slot h x ≡ true) (sym looks.geometry) next.fits;
      slot_is = carried m (λ h s. slot_read h s c.args.changed.now.inode ≡ Some x) old new _ looks next.slot_is;
      is_file = carried m (λ h s. (start_node base (inode h s c.args.changed.now.inode)).kind ≡ Some kind.File) old new _ looks c.requires.ready.1.placed.kind_is;
      going = looks.going.1;
    }

pub returns-clause-part : goal.returns-clause-part
returns-clause-part g c places ready =
    let m = g.M.Media in
    let old = c.args.journal.now in
    let s : Store = disk m old in
    let change = change_of c.args.changed.now.change.now in
    let i = c.args.changed.now.inode in
    let next = c.requires.next in
    let numbers : List ℕ = c.args.written.numbers.items in
    let count : ℕ = length numbers in
    let first : List Place = take count places in
    let f = c.args.written.file in
    let r = c.in_ok-rooted.rooted in
    let before = c.args.plan.now in
    let mid : PartialPlan = record { taken = c.root_placed.new.taken; slots = before.slots; nodes = c.root_placed.new.images; bytes = c.add_bytes.new.out; lost = before.lost } in
    let after = c.push_file.new.plan in
    let adds = carried_back m (λ h t. AddsFile h t change.base i f r mid after) old c.add_bytes.new.journal _ c.in_ok-add_bytes.ensures.looks c.in_ok-push_file.ensures.adds in
    let bytes = c.in_ok-add_bytes.ensures.added in
    let holds = subst (λ (ns : List ℕ). HoldsBlocks change (blocks_from f.found (logical_block old.geometry s i)) ns (length ns) bytes.0) c.deref.ensures.value bytes.2 in
    let wanted : ℕ = roots_wanted f.slot f.plan.lists in
    let spare : List ℕ = take wanted c.args.pools.now.nodes.free in
    let many : length first ≡ count = length-take-le count places ready.few in
    let planned = c.placed_file_is_planned.ensures old.geometry s change c.args.changed.now.touch i numbers first f spare bytes.0 before.nodes c.root_placed.new.images r.slot r.left.items adds.lost
    next.tidy next.bounded ready.numbers many ready.free ready.placed (c.next_nodes_were_free.ensures old.geometry s c.args.pools.now c.args.plan.now.taken wanted next.pools) c.in_ok-rooted.ensures.wanted c.in_ok-rooted.ensures.rooted holds adds.its in
    let part = c.planned_file_is_a_part.ensures old.geometry s change c.args.changed.now.touch i r.slot f.plan.map (record { nodes = spare; «data» = pairs_of first }) bytes.0 before.nodes c.root_placed.new.images adds.lost planned in
    record {
      x = r.slot;
      m = f.plan.map;
      share = record { nodes = spare; «data» = pairs_of first };
      bytes = bytes.0;
      lost = adds.lost;
      part = subst (λ (now : List (ℕ × List ℕ)). IsPart old.geometry s change c.args.changed.now.touch i r.slot f.plan.map (record { nodes = spare; «data» = pairs_of first }) bytes.0 before.nodes now adds.lost) (sym adds.images_are) part;
      nodes = ap (λ (a : Allocation). blocks_of a.nodes.items) c.push_file.ensures.taken ∙ c.in_ok-rooted.ensures.nodes;
      data_are = sym (take-map pair_of count places);
      slots_are = adds.slots_are;
      bytes_are = ap (λ b. b.items) adds.bytes_are ∙ bytes.1;
      lost_are = adds.lost_are;
    }

pub returns-clause-took : goal.returns-clause-took
returns-clause-took g c = takes_still c.args.pools.now c.root_placed.new.pools c.args.plan.now.taken c.root_placed.new.taken c.push_file.new.plan.taken c.push_file.ensures.taken c.root_placed.ensures.took

pub returns-in_err-push_file-clause-took : goal.returns-in_err-push_file-clause-took
returns-in_err-push_file-clause-took g c = takes_still c.args.pools.now c.root_placed.new.pools c.args.plan.now.taken c.root_placed.new.taken c.push_file.new.plan.taken c.push_file.ensures.taken c.root_placed.ensures.took
