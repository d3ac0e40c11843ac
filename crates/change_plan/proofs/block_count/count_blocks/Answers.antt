use Rattle.std.proofs.Common.{◌≡◌, ◌∙◌, ℕ, List, get_or, true, Err, Some, refl, sym, subst, arith}
use Rattle.std.proofs.lemmas.Result.{err_from_is_err_and}
use Rattle.inode_plan.specs.graph_change.Change.{Change, Changes, change_at, writes_block}
use Rattle.inode_plan.specs.graph_change.View.{change_of, changes_of}
use Rattle.inode_plan.specs.graph_change.declared.node_change.NodeChange.{NodeChange}
use Rattle.inode_plan.specs.layout.declared.slot.Slot.TheVariants as slots
use Rattle.inode_plan.specs.area_reader.Looks.{call_answer}
use Rattle.inode_plan.specs.area_reader.Format.{IsSpelled}
use Rattle.inode_plan.specs.area_reader.Store.{Store, disk, slot_read}
use Rattle.inode_plan.specs.area_commit.declared.slots.ChangedSlot.{ChangedSlot}
use Rattle.inode_plan.proofs.area_reader_lemmas.Looked.{carried, carried_back, looks_on, looks_none, looks_answer, looks_err}
use Rattle.inode_plan.proofs.area_commit_lemmas.Members.{cons_here}
use Rattle.change_plan.specs.FileLayout.{LeavesFile}
use Rattle.change_plan.specs.Next.{WantsData}
use Rattle.change_plan.proofs.Climbs.{seen_as, entries_seen, change_here, has_here}
use Rattle.change_plan.proofs.Slotted.{first_slots, its_slot}
use Rattle.change_plan.proofs.Wants.{Counted, none_counted, one_counted, all_counted, next_number}
use Rattle.change_plan.proofs.block_count.count_blocks.Goals as goal

pub nodes-init : goal.nodes-init
nodes-init g c =
    let m = g.M.Media in
    let old = c.args.journal.now in
    let s : Store = disk m old in
    let cs : Changes = changes_of c.args.read.now.change.now in
    let given = c.into_iter-inode-iterator.ensures.into_iter_gives ∙ c.iter-inode-items.ensures.rest in
    let seen = entries_seen change_of c.args.read.now.change.now.nodes.entries c.iter-inode-items.ensures.ordered in
    record {
      slots = first_slots old.geometry s cs c.args.read.now.change.now.nodes.entries c.into_iter-inode-iterator.result c.args.read.now.slots.now seen given c.requires.slots;
      looks = looks_none m old tt c.requires.going;
      counted = subst (λ (es : List (ℕ × NodeChange)). Counted old.geometry s cs 0 (seen_as change_of es)) (sym given)
          (subst (λ (es : List (ℕ × Change)). Counted old.geometry s cs 0 es) seen (none_counted old.geometry s cs c.requires.bounded));
    }

pub blocks_for-requires-clause-spelled : goal.blocks_for-requires-clause-spelled
blocks_for-requires-clause-spelled g c =
    let m = g.M.Media in
    carried m IsSpelled c.args.journal.now c.nodes.journal call_answer c.nodes.invariant.looks c.requires.spelled

pub blocks_for-requires-clause-number : goal.blocks_for-requires-clause-number
blocks_for-requires-clause-number g c =
    let old = c.args.journal.now in
    let s : Store = disk g.M.Media old in
    let cs : Changes = changes_of c.args.read.now.change.now in
    next_number old.geometry s cs c.requires.bounded c.nodes.count (c.in-Some.inode.now, change_of c.in-Some.node.now) (seen_as change_of c.next.new.self)
    (subst (λ (es : List (ℕ × NodeChange)). Counted old.geometry s cs c.nodes.count (seen_as change_of es)) c.in-Some.ensures.steps c.nodes.invariant.counted)

pub overflow_add-count : goal.overflow_add-count
overflow_add-count g c =
    let m = g.M.Media in
    let old = c.args.journal.now in
    let s : Store = disk m old in
    let cs : Changes = changes_of c.args.read.now.change.now in
    let node = c.in-Some.node.now in
    let after = one_counted old.geometry s cs c.requires.bounded c.requires.tidy c.nodes.count c.in_ok-more.more (c.in-Some.inode.now, change_of node) (seen_as change_of c.next.new.self)
    (subst (λ (es : List (ℕ × NodeChange)). Counted old.geometry s cs c.nodes.count (seen_as change_of es)) c.in-Some.ensures.steps c.nodes.invariant.counted)
    (carried_back m (λ h t. WantsData h t (change_of node) c.in-Some.inode.now c.in_ok-more.more) old c.nodes.journal call_answer c.nodes.invariant.looks c.in_ok-more.ensures.wanted) in
    omega (arith, after.few)

pub nodes-preserved : goal.nodes-preserved
nodes-preserved g c =
    let m = g.M.Media in
    let old = c.args.journal.now in
    let s : Store = disk m old in
    let cs : Changes = changes_of c.args.read.now.change.now in
    let node = c.in-Some.node.now in
    record {
      looks = looks_on m old c.nodes.journal c.blocks_for.new.journal tt call_answer c.nodes.invariant.looks
          (looks_answer m c.nodes.journal c.blocks_for.new.journal c.in_ok-more.more tt c.in_ok-more.ensures.looks);
      slots = (its_slot c.args.journal.now.geometry s c.nodes.at c.args.read.now.slots.now (record { inode = 0; slot = slots.Free }) c.nodes.inode-iterator c.in-Some.inode.now c.in-Some.node.now c.next.new.self c.in-Some.ensures.steps c.nodes.invariant.slots).2;
      counted = one_counted old.geometry s cs c.requires.bounded c.requires.tidy c.nodes.count c.in_ok-more.more (c.in-Some.inode.now, change_of node) (seen_as change_of c.next.new.self)
          (subst (λ (es : List (ℕ × NodeChange)). Counted old.geometry s cs c.nodes.count (seen_as change_of es)) c.in-Some.ensures.steps c.nodes.invariant.counted)
          (carried_back m (λ h t. WantsData h t (change_of node) c.in-Some.inode.now c.in_ok-more.more) old c.nodes.journal call_answer c.nodes.invariant.looks c.in_ok-more.ensures.wanted);
    }

pub returns-in_err-more-clause-looks : goal.returns-in_err-more-clause-looks
returns-in_err-more-clause-looks g c =
    let m = g.M.Media in
    let p = err_from_is_err_and c.from_residual.result c.from_residual.ensures.1 in
    let error = c.in_err-more.field-0.0 in
    rw (p.1, p.2) (looks_on m c.args.journal.now c.nodes.journal c.blocks_for.new.journal tt (Err error) c.nodes.invariant.looks (looks_err m c.nodes.journal c.blocks_for.new.journal error c.in_err-more.ensures.looks))

pub returns-in_err-more-clause-memory : goal.returns-in_err-more-clause-memory
returns-in_err-more-clause-memory g c =
    let m = g.M.Media in
    let old = c.args.journal.now in
    let s : Store = disk m old in
    let cs : Changes = changes_of c.args.read.now.change.now in
    let e : ℕ × Change = (c.in-Some.inode.now, change_of c.in-Some.node.now) in
    let rest : List (ℕ × Change) = seen_as change_of c.next.new.self in
    let counted = subst (λ (es : List (ℕ × NodeChange)). Counted old.geometry s cs c.nodes.count (seen_as change_of es)) c.in-Some.ensures.steps c.nodes.invariant.counted in
    let at = counted.inside e (cons_here e rest e refl) in
    let here : e.1 ≡ change_at cs e.0 = sym (change_here cs e at) in
    let p = err_from_is_err_and c.from_residual.result c.from_residual.ensures.1 in
    rw (p.1, p.2) (λ is. (let block = c.in_err-more.ensures.memory is in (
      e.0,
      block.1,
      has_here cs e at,
      subst (λ (d : Change). LeavesFile old.geometry s d e.0) here (carried_back m (λ h t. LeavesFile h t e.1 e.0) old c.nodes.journal call_answer c.nodes.invariant.looks block.0),
      subst (λ (d : Change). writes_block d block.1 ≡ true) here block.2,
    )))

pub blocks_for-requires-clause-slot_is : goal.blocks_for-requires-clause-slot_is
blocks_for-requires-clause-slot_is g c =
    let m = g.M.Media in
    let old = c.args.journal.now in
    let xs = c.args.read.now.slots.now in
    let none : ChangedSlot = record { inode = 0; slot = slots.Free } in
    let its = (its_slot old.geometry (disk m old) c.nodes.at xs none c.nodes.inode-iterator c.in-Some.inode.now c.in-Some.node.now c.next.new.self c.in-Some.ensures.steps c.nodes.invariant.slots).1 in
    carried m (λ h t. slot_read h t c.in-Some.inode.now ≡ Some (get_or xs c.nodes.at none).slot) old c.nodes.journal call_answer c.nodes.invariant.looks its.slot_is

pub returns-clause-looks : goal.returns-clause-looks
returns-clause-looks g c =
    let m = g.M.Media in
    looks_answer m c.args.journal.now c.nodes.journal tt c.nodes.count c.nodes.invariant.looks

pub returns-clause-wanted : goal.returns-clause-wanted
returns-clause-wanted g c =
    let old = c.args.journal.now in
    let s : Store = disk g.M.Media old in
    let cs : Changes = changes_of c.args.read.now.change.now in
    all_counted old.geometry s cs c.nodes.count (subst (λ (es : List (ℕ × NodeChange)). Counted old.geometry s cs c.nodes.count (seen_as change_of es)) c.in-None.ensures.steps.0 c.nodes.invariant.counted)
