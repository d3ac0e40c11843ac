use Rattle.std.proofs.Common.{◌≡◌, ◌∙◌, ℕ, List, [], Err, Some, true, refl, sym, subst}
use Rattle.std.specs.Prelude.{IsSome}
use Rattle.std.proofs.lemmas.Bool.{false≢true}
use Rattle.std.proofs.lemmas.Result.{err_from_is_err_and}
use Rattle.inode_plan.specs.graph_change.Change.{Change, Changes}
use Rattle.inode_plan.specs.graph_change.View.{change_of, changes_of}
use Rattle.inode_plan.specs.graph_change.declared.node_change.NodeChange.{NodeChange}
use Rattle.inode_plan.specs.layout.Slot.{fits_slot}
use Rattle.inode_plan.specs.area_reader.Looks.{call_answer}
use Rattle.inode_plan.specs.area_reader.Store.{Store, disk, slot_read}
use Rattle.inode_plan.specs.area_commit.declared.slots.ChangedSlot.{ChangedSlot}
use Rattle.inode_plan.proofs.area_commit_lemmas.Chosen.{inode_range}
use Rattle.inode_plan.proofs.area_commit_lemmas.Members.{cons_here}
use Rattle.inode_plan.proofs.area_reader_lemmas.Looked.{carried, carried_back, looks_on, looks_none, looks_answer, looks_err}
use Rattle.change_plan.proofs.Climbs.{seen_as, entries_seen, has_here, some_key}
use Rattle.change_plan.proofs.NoDamage.{slot_is_whole}
use Rattle.change_plan.proofs.Slotted.{AreRead, none_read, its_number, one_read, all_read}
use Rattle.change_plan.proofs.read_change.read_slots.Goals as goal

-- what is left of the map in memory is the same
turned : (g : _) (s : Store) (cs : Changes) (xs : List ChangedSlot) (es fs : List (ℕ × NodeChange)) → es ≡ fs → AreRead g s cs xs (seen_as change_of es) → AreRead g s cs xs (seen_as change_of fs)
turned g s cs xs es fs same read = subst (λ (zs : List (ℕ × NodeChange)). AreRead g s cs xs (seen_as change_of zs)) same read

pub returns-in_err-slots-clause-memory : goal.returns-in_err-slots-clause-memory
returns-in_err-slots-clause-memory g c =
    let p = err_from_is_err_and c.from_residual.result c.from_residual.ensures.1 in
    rw p.1 (λ is. some_key change_of c.args.change.now.nodes.entries c.len.ensures.ordered (λ none. false≢true (c.in_err-slots.ensures.succeeds (c.len.ensures.len ∙ none))))

pub inodes-init : goal.inodes-init
inodes-init g c =
    let m = g.M.Media in
    let old = c.args.journal.now in
    let s : Store = disk m old in
    let cs : Changes = changes_of c.args.change.now in
    let given = c.into_iter-inode-iterator.ensures.into_iter_gives ∙ c.iter-inode-items.ensures.rest in
    record {
      looks = looks_none m old tt c.requires.going;
      read = subst (λ (xs : List ChangedSlot). AreRead old.geometry s cs xs (seen_as change_of c.into_iter-inode-iterator.result)) (sym c.in_ok-slots.ensures.items)
          (turned old.geometry s cs [] _ _ (sym given) (subst (λ (es : List (ℕ × Change)). AreRead old.geometry s cs [] es) (entries_seen change_of c.args.change.now.nodes.entries c.iter-inode-items.ensures.ordered) (none_read old.geometry s cs)));
    }

pub read_slot-requires-clause-low : goal.read_slot-requires-clause-low
read_slot-requires-clause-low g c =
    let old = c.args.journal.now in
    let s : Store = disk g.M.Media old in
    let cs : Changes = changes_of c.args.change.now in
    let e : ℕ × Change = (c.in-Some.inode.now, change_of c.in-Some._node.now) in
    (inode_range e.0 (its_number old.geometry s cs c.requires.bounded c.inodes.slots.items e (seen_as change_of c.next.new.self) (turned old.geometry s cs c.inodes.slots.items _ _ c.in-Some.ensures.steps c.inodes.invariant.read))).0

pub read_slot-requires-clause-high : goal.read_slot-requires-clause-high
read_slot-requires-clause-high g c =
    let old = c.args.journal.now in
    let s : Store = disk g.M.Media old in
    let cs : Changes = changes_of c.args.change.now in
    let e : ℕ × Change = (c.in-Some.inode.now, change_of c.in-Some._node.now) in
    (inode_range e.0 (its_number old.geometry s cs c.requires.bounded c.inodes.slots.items e (seen_as change_of c.next.new.self) (turned old.geometry s cs c.inodes.slots.items _ _ c.in-Some.ensures.steps c.inodes.invariant.read))).1

pub inodes-preserved : goal.inodes-preserved
inodes-preserved g c =
    let m = g.M.Media in
    let old = c.args.journal.now in
    let s : Store = disk m old in
    let cs : Changes = changes_of c.args.change.now in
    let e : ℕ × Change = (c.in-Some.inode.now, change_of c.in-Some._node.now) in
    let x = c.in_ok-slot.slot in
    let looks = c.inodes.invariant.looks in
    let is = carried_back m (λ h t. slot_read h t e.0 ≡ Some x) old c.inodes.journal call_answer looks c.in_ok-slot.ensures.slot in
    let fits = carried_back m (λ h t. fits_slot h x ≡ true) old c.inodes.journal call_answer looks c.in_ok-slot.ensures.fits in
    record {
      looks = looks_on m old c.inodes.journal c.read_slot.new.journal tt call_answer looks (looks_answer m c.inodes.journal c.read_slot.new.journal x tt c.in_ok-slot.ensures.looks);
      read = subst (λ (xs : List ChangedSlot). AreRead old.geometry s cs xs (seen_as change_of c.next.new.self)) (sym c.in_ok-push_slot.ensures)
          (one_read old.geometry s cs c.inodes.slots.items e (seen_as change_of c.next.new.self) x (turned old.geometry s cs c.inodes.slots.items _ _ c.in-Some.ensures.steps c.inodes.invariant.read) is fits);
    }

pub returns-in_err-slot-clause-only : goal.returns-in_err-slot-clause-only
returns-in_err-slot-clause-only g c =
    let m = g.M.Media in
    let old = c.args.journal.now in
    let s : Store = disk m old in
    let cs : Changes = changes_of c.args.change.now in
    let e : ℕ × Change = (c.in-Some.inode.now, change_of c.in-Some._node.now) in
    let p = err_from_is_err_and c.from_residual-in_err-slot.result c.from_residual-in_err-slot.ensures.1 in
    let error = c.in_err-slot.field-0.0 in
    let number = its_number old.geometry s cs c.requires.bounded c.inodes.slots.items e (seen_as change_of c.next.new.self) (turned old.geometry s cs c.inodes.slots.items _ _ c.in-Some.ensures.steps c.inodes.invariant.read) in
    rw (p.1, p.2) (slot_is_whole c.inodes.journal.geometry (disk m c.inodes.journal) e.0 error
    (carried m (λ h t. IsSome (slot_read h t e.0)) old c.inodes.journal call_answer c.inodes.invariant.looks (c.requires.spelled.inodes e.0 number).slot) c.in_err-slot.ensures.damaged)

pub returns-in_err-slot-clause-looks : goal.returns-in_err-slot-clause-looks
returns-in_err-slot-clause-looks g c =
    let m = g.M.Media in
    let p = err_from_is_err_and c.from_residual-in_err-slot.result c.from_residual-in_err-slot.ensures.1 in
    let error = c.in_err-slot.field-0.0 in
    rw (p.1, p.2) (looks_on m c.args.journal.now c.inodes.journal c.read_slot.new.journal tt (Err error) c.inodes.invariant.looks (looks_err m c.inodes.journal c.read_slot.new.journal error c.in_err-slot.ensures.looks))

pub returns-clause-slots : goal.returns-clause-slots
returns-clause-slots g c =
    let old = c.args.journal.now in
    let s : Store = disk g.M.Media old in
    let cs : Changes = changes_of c.args.change.now in
    all_read old.geometry s cs c.inodes.slots.items (turned old.geometry s cs c.inodes.slots.items _ _ c.in-None.ensures.steps.0 c.inodes.invariant.read)

pub returns-clause-looks : goal.returns-clause-looks
returns-clause-looks g c = looks_answer g.M.Media c.args.journal.now c.inodes.journal tt c.inodes.slots c.inodes.invariant.looks

pub returns-in_err-push_slot-clause-memory : goal.returns-in_err-push_slot-clause-memory
returns-in_err-push_slot-clause-memory g c =
    let old = c.args.journal.now in
    let s : Store = disk g.M.Media old in
    let cs : Changes = changes_of c.args.change.now in
    let e : ℕ × Change = (c.in-Some.inode.now, change_of c.in-Some._node.now) in
    let rest : List (ℕ × Change) = seen_as change_of c.next.new.self in
    let read = turned old.geometry s cs c.inodes.slots.items _ _ c.in-Some.ensures.steps c.inodes.invariant.read in
    let p = err_from_is_err_and c.from_residual-in_err-push_slot.result c.from_residual-in_err-push_slot.ensures.1 in
    rw p.1 (λ is. (e.0, has_here cs e (read.inside e (cons_here e rest e refl))))
