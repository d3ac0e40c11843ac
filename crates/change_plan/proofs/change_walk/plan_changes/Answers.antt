use Rattle.std.proofs.Common.{◌≡◌, ◌∙◌, [], ◌∷◌, ℕ, List, length, drop, get_or, Err, sym, ap, subst, arith}
use Rattle.std.proofs.lemmas.Result.{err_from_is_err_and}
use Rattle.inode_plan.specs.graph_change.Change.{Change, Changes}
use Rattle.inode_plan.specs.graph_change.View.{change_of, changes_of}
use Rattle.inode_plan.specs.layout.declared.slot.Slot.TheVariants as slots
use Rattle.inode_plan.specs.extent_tree.declared.map.Place.{Place}
use Rattle.inode_plan.specs.area_reader.Looks.{call_answer}
use Rattle.inode_plan.specs.area_reader.Store.{Store, disk}
use Rattle.inode_plan.specs.area_commit.declared.slots.ChangedSlot.{ChangedSlot}
use Rattle.inode_plan.specs.area_commit.Allocations.{taken_data}
use Rattle.inode_plan.specs.PlannedFile.{pairs_of}
use Rattle.inode_plan.proofs.area_reader_lemmas.Looked.{carried, carried_back, looks_on, looks_none, looks_answer, looks_err}
use Rattle.change_plan.specs.Next.{IsNext, HasPlaces, PlansInode}
use Rattle.change_plan.specs.BlockDemand.{WantsBlocks}
use Rattle.change_plan.proofs.Climbs.{seen_as, entries_seen}
use Rattle.change_plan.proofs.Slotted.{first_slots, its_slot}
use Rattle.change_plan.proofs.Sparing.{taken_ends, count_places}
use Rattle.change_plan.proofs.TakingMore.{takes_none, takes_on}
use Rattle.change_plan.proofs.Walked.{Walked, turned, none_walked, all_walked, its_places, is_next, places_behind, count_within, one_walked}
use Rattle.change_plan.proofs.Wants.{blocks_few}
use Rattle.change_plan.proofs.change_walk.plan_changes.Goals as goal

pub taken_places-requires : goal.taken_places-requires
taken_places-requires g c =
    let took = c.requires.took in
    taken_ends c.args.journal.now.geometry took.before c.args.pools.now c.args.plan.now.taken c.requires.allowed took.ranges took.took

pub nodes-init : goal.nodes-init
nodes-init g c =
    let m = g.M.Media in
    let old = c.args.journal.now in
    let s : Store = disk m old in
    let cs : Changes = changes_of c.args.read.now.change.now in
    let taken = c.args.plan.now.taken in
    let places = c.as_slice-places.result.now in
    let are : pairs_of places ≡ taken_data taken = ap pairs_of c.as_slice-places.ensures.value ∙ c.in_ok-listed.ensures in
    let wanted = subst (λ (n : ℕ). WantsBlocks old.geometry s cs n) (sym (count_places places taken are)) c.requires.wanted in
    let given = c.into_iter-inode-iterator.ensures.into_iter_gives ∙ c.iter-inode-items.ensures.rest in
    let seen = entries_seen change_of c.args.read.now.change.now.nodes.entries c.iter-inode-items.ensures.ordered in
    let first = none_walked old.geometry s cs c.args.touch places c.args.pools.now taken c.args.plan.now c.requires.took c.requires.fresh are wanted c.requires.images c.requires.nodes c.requires.nothing in
    record {
      looks = looks_none m old tt c.requires.going;
      took = takes_none c.args.pools.now taken c.requires.took.undo;
      walked = turned _ _ (sym given)
          (subst (λ (es : List (ℕ × Change)). Walked old.geometry s cs c.args.touch places c.args.pools.now taken c.args.plan.now 0 es) seen first);
      slots = first_slots old.geometry s cs c.args.read.now.change.now.nodes.entries c.into_iter-inode-iterator.result c.args.read.now.slots.now seen given c.requires.slots;
    }

pub plan_inode-requires-clause-next : goal.plan_inode-requires-clause-next
plan_inode-requires-clause-next g c =
    let m = g.M.Media in
    let old = c.args.journal.now in
    let s : Store = disk m old in
    let cs : Changes = changes_of c.args.read.now.change.now in
    let places = c.as_slice-places.result.now in
    let e : ℕ × Change = (c.in-Some.inode.now, change_of c.in-Some.node.now) in
    let rest : List (ℕ × Change) = seen_as change_of c.next.new.self in
    let walked = turned c.nodes.inode-iterator ((c.in-Some.inode.now, c.in-Some.node.now) ∷ c.next.new.self) c.in-Some.ensures.steps c.nodes.invariant.walked in
    let xs = c.args.read.now.slots.now in
    let none : ChangedSlot = record { inode = 0; slot = slots.Free } in
    let x = (get_or xs c.nodes.at none).slot in
    let its = (its_slot old.geometry s c.nodes.at xs none c.nodes.inode-iterator c.in-Some.inode.now c.in-Some.node.now c.next.new.self c.in-Some.ensures.steps c.nodes.invariant.slots).1 in
    carried m (λ h t. IsNext h t e.0 x e.1 c.nodes.pools c.nodes.plan.taken c.nodes.plan.nodes) old c.nodes.journal call_answer c.nodes.invariant.looks
    (is_next old.geometry s cs c.args.touch places c.requires.allowed c.requires.spelled c.requires.bounded c.requires.tidy c.nodes.pools c.nodes.plan.taken c.nodes.plan c.nodes.used e rest walked c.requires.entries x its.slot_is its.fits)

pub plan_inode-requires-clause-places : goal.plan_inode-requires-clause-places
plan_inode-requires-clause-places g c =
    let m = g.M.Media in
    let old = c.args.journal.now in
    let s : Store = disk m old in
    let cs : Changes = changes_of c.args.read.now.change.now in
    let places = c.as_slice-places.result.now in
    let e : ℕ × Change = (c.in-Some.inode.now, change_of c.in-Some.node.now) in
    let rest : List (ℕ × Change) = seen_as change_of c.next.new.self in
    let walked = turned c.nodes.inode-iterator ((c.in-Some.inode.now, c.in-Some.node.now) ∷ c.next.new.self) c.in-Some.ensures.steps c.nodes.invariant.walked in
    subst (λ (ps : List Place). HasPlaces c.nodes.journal.geometry (disk m c.nodes.journal) e.1 e.0 ps) (sym (places_behind c.nodes.used places))
    (carried m (λ h t. HasPlaces h t e.1 e.0 (drop c.nodes.used places)) old c.nodes.journal call_answer c.nodes.invariant.looks (its_places old.geometry s cs c.args.touch places c.requires.allowed c.requires.spelled c.requires.bounded c.requires.tidy c.nodes.pools c.nodes.plan.taken c.nodes.plan c.nodes.used e rest walked))

pub overflow_add-used : goal.overflow_add-used
overflow_add-used g c =
    let m = g.M.Media in
    let old = c.args.journal.now in
    let s : Store = disk m old in
    let cs : Changes = changes_of c.args.read.now.change.now in
    let places = c.as_slice-places.result.now in
    let e : ℕ × Change = (c.in-Some.inode.now, change_of c.in-Some.node.now) in
    let rest : List (ℕ × Change) = seen_as change_of c.next.new.self in
    let walked = turned c.nodes.inode-iterator ((c.in-Some.inode.now, c.in-Some.node.now) ∷ c.next.new.self) c.in-Some.ensures.steps c.nodes.invariant.walked in
    let planned : PlansInode old.geometry s e.1 c.args.touch e.0 (drop c.nodes.used places) c.in_ok-count.count c.nodes.pools c.nodes.plan.taken c.plan_inode.new.pools c.plan_inode.new.plan.taken c.nodes.plan c.plan_inode.new.plan =
    carried_back m (λ h t. PlansInode h t e.1 c.args.touch e.0 (drop c.nodes.used places) c.in_ok-count.count c.nodes.pools c.nodes.plan.taken c.plan_inode.new.pools c.plan_inode.new.plan.taken c.nodes.plan c.plan_inode.new.plan) old c.nodes.journal call_answer c.nodes.invariant.looks
    (subst (λ (ps : List Place). PlansInode c.nodes.journal.geometry (disk m c.nodes.journal) e.1 c.args.touch e.0 ps c.in_ok-count.count c.nodes.pools c.nodes.plan.taken c.plan_inode.new.pools c.plan_inode.new.plan.taken c.nodes.plan c.plan_inode.new.plan) (places_behind c.nodes.used places) c.in_ok-count.ensures.planned) in
    let within = count_within old.geometry s cs c.args.touch places c.requires.allowed c.requires.spelled c.requires.bounded c.requires.tidy c.nodes.pools c.nodes.plan.taken c.nodes.plan c.nodes.used e rest walked c.plan_inode.new.pools c.plan_inode.new.plan.taken c.plan_inode.new.plan c.in_ok-count.count c.plan_inode.ensures.took planned in
    let long = count_places places c.args.plan.now.taken (ap pairs_of c.as_slice-places.ensures.value ∙ c.in_ok-listed.ensures) in
    let few = blocks_few old.geometry s cs c.requires.bounded c.requires.tidy (length (taken_data c.args.plan.now.taken)) c.requires.wanted in
    omega (arith, within, long, few)

pub nodes-preserved : goal.nodes-preserved
nodes-preserved g c =
    let m = g.M.Media in
    let old = c.args.journal.now in
    let s : Store = disk m old in
    let cs : Changes = changes_of c.args.read.now.change.now in
    let places = c.as_slice-places.result.now in
    let e : ℕ × Change = (c.in-Some.inode.now, change_of c.in-Some.node.now) in
    let rest : List (ℕ × Change) = seen_as change_of c.next.new.self in
    let walked = turned c.nodes.inode-iterator ((c.in-Some.inode.now, c.in-Some.node.now) ∷ c.next.new.self) c.in-Some.ensures.steps c.nodes.invariant.walked in
    let planned : PlansInode old.geometry s e.1 c.args.touch e.0 (drop c.nodes.used places) c.in_ok-count.count c.nodes.pools c.nodes.plan.taken c.plan_inode.new.pools c.plan_inode.new.plan.taken c.nodes.plan c.plan_inode.new.plan =
    carried_back m (λ h t. PlansInode h t e.1 c.args.touch e.0 (drop c.nodes.used places) c.in_ok-count.count c.nodes.pools c.nodes.plan.taken c.plan_inode.new.pools c.plan_inode.new.plan.taken c.nodes.plan c.plan_inode.new.plan) old c.nodes.journal call_answer c.nodes.invariant.looks
    (subst (λ (ps : List Place). PlansInode c.nodes.journal.geometry (disk m c.nodes.journal) e.1 c.args.touch e.0 ps c.in_ok-count.count c.nodes.pools c.nodes.plan.taken c.plan_inode.new.pools c.plan_inode.new.plan.taken c.nodes.plan c.plan_inode.new.plan) (places_behind c.nodes.used places) c.in_ok-count.ensures.planned) in
    record {
      looks = looks_on m old c.nodes.journal c.plan_inode.new.journal tt call_answer c.nodes.invariant.looks (looks_answer m c.nodes.journal c.plan_inode.new.journal c.in_ok-count.count tt c.in_ok-count.ensures.looks);
      took = takes_on c.args.pools.now c.nodes.pools c.plan_inode.new.pools c.args.plan.now.taken c.nodes.plan.taken c.plan_inode.new.plan.taken c.nodes.invariant.took c.plan_inode.ensures.took;
      walked = one_walked old.geometry s cs c.args.touch places c.requires.allowed c.requires.spelled c.requires.bounded c.requires.tidy c.nodes.pools c.nodes.plan.taken c.nodes.plan c.nodes.used e rest walked c.plan_inode.new.pools c.plan_inode.new.plan.taken c.plan_inode.new.plan c.in_ok-count.count c.plan_inode.ensures.took planned;
      slots = (its_slot old.geometry s c.nodes.at c.args.read.now.slots.now (record { inode = 0; slot = slots.Free }) c.nodes.inode-iterator c.in-Some.inode.now c.in-Some.node.now c.next.new.self c.in-Some.ensures.steps c.nodes.invariant.slots).2;
    }

-- ---- where it is refused

pub returns-in_err-listed-clause-took : goal.returns-in_err-listed-clause-took
returns-in_err-listed-clause-took g c = takes_none c.args.pools.now c.args.plan.now.taken c.requires.took.undo

pub returns-in_err-count-clause-took : goal.returns-in_err-count-clause-took
returns-in_err-count-clause-took g c =
    takes_on c.args.pools.now c.nodes.pools c.plan_inode.new.pools c.args.plan.now.taken c.nodes.plan.taken c.plan_inode.new.plan.taken c.nodes.invariant.took c.plan_inode.ensures.took

pub returns-in_err-count-clause-looks : goal.returns-in_err-count-clause-looks
returns-in_err-count-clause-looks g c =
    let m = g.M.Media in
    let p = err_from_is_err_and c.from_residual-in_err-count.result c.from_residual-in_err-count.ensures.1 in
    let error = c.in_err-count.field-0.0 in
    rw (p.1, p.2) (looks_on m c.args.journal.now c.nodes.journal c.plan_inode.new.journal tt (Err error) c.nodes.invariant.looks (looks_err m c.nodes.journal c.plan_inode.new.journal error c.in_err-count.ensures.looks))

pub returns-clause-whole : goal.returns-clause-whole
returns-clause-whole g c =
    let old = c.args.journal.now in
    let s : Store = disk g.M.Media old in
    let cs : Changes = changes_of c.args.read.now.change.now in
    all_walked old.geometry s cs c.args.touch c.as_slice-places.result.now c.nodes.pools c.nodes.plan.taken c.nodes.plan c.nodes.used c.requires.images (turned c.nodes.inode-iterator [] c.in-None.ensures.steps.0 c.nodes.invariant.walked)
