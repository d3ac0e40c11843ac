use Rattle.std.proofs.Common.{◌∙◌, ℕ, List, length, sym, ap, subst, arith}
use Rattle.tier_device.specs.Media.{Rose}
use Rattle.area_reader.specs.layout.Places.{Sizes}
use Rattle.area_reader.proofs.batch_journal_lemmas.Courses.{left_before}
use Rattle.area_reader.specs.Store.{Store, disk}
use Rattle.area_reader.proofs.Looked.{carried}
use Rattle.area_commit.specs.declared.slots.ChangedSlot.{ChangedSlot}
use Rattle.area_commit.specs.Slots.{RiseIn}
use Rattle.area_commit.proofs.Images.{one_for_marks}
use Rattle.area_commit.proofs.Turns.{no_turn, turn_behind}
use Rattle.area_commit.specs.Plan.{IsPlan}
use Rattle.area_commit.proofs.Read.{while_read, then_written, then_done}
use Rattle.area_commit.proofs.plan_write.write_all.Goals as goal

pub batch_of-requires-clause-slots : goal.batch_of-requires-clause-slots
batch_of-requires-clause-slots g c = subst (λ (xs : List ChangedSlot). RiseIn 1 1024 xs) (sym c.deref.ensures.value) c.requires.plan.2.rise

pub batch_of-requires-clause-nodes : goal.batch_of-requires-clause-nodes
batch_of-requires-clause-nodes g c = c.requires.plan.2.nodes

pub batch_of-requires-clause-few : goal.batch_of-requires-clause-few
batch_of-requires-clause-few g c = let few = c.requires.plan.2.few in omega (arith, few)

pub write_plan-requires-clause-few : goal.write_plan-requires-clause-few
write_plan-requires-clause-few g c =
    let few = c.requires.plan.2.few in
    let one = one_for_marks c.args.plan.now.marks in
    omega (arith, few, one, c.in_ok-batch.ensures.few, c.in_ok-batch.ensures.few_blocks, ap length c.deref.ensures.value)

pub write_plan-requires-clause-rests : goal.write_plan-requires-clause-rests
write_plan-requires-clause-rests g c = λ t x l. (let un = c.batch_of.ensures.looks.unmoved in c.requires.rests t x (left_before un t x l) ∙ sym (un.reads t))

pub write_plan-requires-clause-plan : goal.write_plan-requires-clause-plan
write_plan-requires-clause-plan g c =
    let m = g.M.Media in
    carried m (λ (h : Sizes) (s : Store). IsPlan h s c.args.plan.now) c.args.journal.now c.batch_of.new.journal c.batch_of.result c.batch_of.ensures.looks c.requires.plan

pub returns-in-Ok-clause-any_moment : goal.returns-in-Ok-clause-any_moment
returns-in-Ok-clause-any_moment g c =
    let m = g.M.Media in
    then_written m g.met.M.Media.sized c.args.plan.now c.args.journal.now c.batch_of.new.journal c.batch_of.result c.batch_of.ensures.looks c.write_plan.new.journal.media
    (record { sizes = c.left_now.ensures.sizes c.requires.going; journal = c.left_now.ensures.journal c.requires.going; rest = c.requires.rests }) c.write_plan.ensures.any_moment

pub returns-in-Ok-clause-done : goal.returns-in-Ok-clause-done
returns-in-Ok-clause-done g c =
    let m = g.M.Media in
    then_done m g.met.M.Media.sized c.args.plan.now c.args.journal.now c.batch_of.new.journal c.batch_of.result c.batch_of.ensures.looks (disk m c.write_plan.new.journal) c.in-Ok.ensures.done

pub returns-clause-any_moment : goal.returns-clause-any_moment
returns-clause-any_moment g c =
    let m = g.M.Media in
    then_written m g.met.M.Media.sized c.args.plan.now c.args.journal.now c.batch_of.new.journal c.batch_of.result c.batch_of.ensures.looks c.write_plan.new.journal.media
    (record { sizes = c.left_now.ensures.sizes c.requires.going; journal = c.left_now.ensures.journal c.requires.going; rest = c.requires.rests }) c.write_plan.ensures.any_moment

pub returns-in_err-batch-clause-any_moment : goal.returns-in_err-batch-clause-any_moment
returns-in_err-batch-clause-any_moment g c =
    let m = g.M.Media in
    while_read m g.met.M.Media.sized c.args.plan.now c.args.journal.now c.batch_of.new.journal c.batch_of.result c.batch_of.ensures.looks
    (record { sizes = c.left_now.ensures.sizes c.requires.going; journal = c.left_now.ensures.journal c.requires.going; rest = c.requires.rests })

pub returns-in-Ok-clause-turn : goal.returns-in-Ok-clause-turn
returns-in-Ok-clause-turn g c =
    let m = g.M.Media in
    let old = c.args.journal.now.media in
    let mid = c.batch_of.new.journal.media in
    let new = c.write_plan.new.journal.media in
    let taken = c.args.plan.now.taken in
    let un = c.batch_of.ensures.looks.unmoved in
    turn_behind taken.fast.items taken.block.items taken.slow.items (m.moment old) (m.moment mid) (m.moment new) (m.left old) (m.left mid) (m.left new) un.clock un.past c.write_plan.ensures.turn

pub returns-clause-turn : goal.returns-clause-turn
returns-clause-turn g c =
    let m = g.M.Media in
    let old = c.args.journal.now.media in
    let mid = c.batch_of.new.journal.media in
    let new = c.write_plan.new.journal.media in
    let taken = c.args.plan.now.taken in
    let un = c.batch_of.ensures.looks.unmoved in
    turn_behind taken.fast.items taken.block.items taken.slow.items (m.moment old) (m.moment mid) (m.moment new) (m.left old) (m.left mid) (m.left new) un.clock un.past c.write_plan.ensures.turn

pub returns-in_err-batch-clause-turn : goal.returns-in_err-batch-clause-turn
returns-in_err-batch-clause-turn g c =
    let m = g.M.Media in
    let old = c.args.journal.now.media in
    let new = c.batch_of.new.journal.media in
    let taken = c.args.plan.now.taken in
    let un = c.batch_of.ensures.looks.unmoved in
    no_turn taken.fast.items taken.block.items taken.slow.items (m.moment old) (m.moment new) (m.left old) (m.left new) (omega (arith, un.clock)) un.past

pub returns-in-Ok-clause-at_most : goal.returns-in-Ok-clause-at_most
returns-in-Ok-clause-at_most g c = omega (arith, c.write_plan.ensures.at_most, c.batch_of.ensures.looks.unmoved.clock, c.in_ok-batch.ensures.few, c.in_ok-batch.ensures.few_blocks, ap length c.deref.ensures.value)

pub returns-clause-at_most : goal.returns-clause-at_most
returns-clause-at_most g c = omega (arith, c.write_plan.ensures.at_most, c.batch_of.ensures.looks.unmoved.clock, c.in_ok-batch.ensures.few, c.in_ok-batch.ensures.few_blocks, ap length c.deref.ensures.value)

pub returns-in_err-batch-clause-at_most : goal.returns-in_err-batch-clause-at_most
returns-in_err-batch-clause-at_most g c = omega (arith, c.batch_of.ensures.looks.unmoved.clock)

pub returns-in-Ok-clause-geometry : goal.returns-in-Ok-clause-geometry
returns-in-Ok-clause-geometry g c = c.write_plan.ensures.went.geometry ∙ c.batch_of.ensures.looks.geometry

pub returns-clause-geometry : goal.returns-clause-geometry
returns-clause-geometry g c = c.write_plan.ensures.went.geometry ∙ c.batch_of.ensures.looks.geometry

pub returns-in-Ok-clause-faults : goal.returns-in-Ok-clause-faults
returns-in-Ok-clause-faults g c = omega (arith, c.write_plan.ensures.went.more_faults, c.in_ok-batch.ensures.looks.quiet)

pub returns-clause-faults : goal.returns-clause-faults
returns-clause-faults g c = omega (arith, c.write_plan.ensures.went.more_faults, c.in_ok-batch.ensures.looks.quiet)

pub returns-in-Ok-clause-one_fault : goal.returns-in-Ok-clause-one_fault
returns-in-Ok-clause-one_fault g c = omega (arith, c.write_plan.ensures.went.one_fault, c.in_ok-batch.ensures.looks.quiet)

pub returns-clause-one_fault : goal.returns-clause-one_fault
returns-clause-one_fault g c = omega (arith, c.write_plan.ensures.went.one_fault, c.in_ok-batch.ensures.looks.quiet)

pub returns-in-Ok-clause-rests : goal.returns-in-Ok-clause-rests
returns-in-Ok-clause-rests g c = c.in-Ok.ensures.rests

pub returns-in-Ok-clause-quiet : goal.returns-in-Ok-clause-quiet
returns-in-Ok-clause-quiet g c = c.in-Ok.ensures.went.quiet ∙ c.in_ok-batch.ensures.looks.quiet

pub returns-in-Ok-clause-going : goal.returns-in-Ok-clause-going
returns-in-Ok-clause-going g c = c.in-Ok.ensures.went.going

pub returns-clause-fault : goal.returns-clause-fault
returns-clause-fault g c is =
    let m = g.M.Media in
    let new = c.write_plan.new.journal in
    let fault = c.in-Err.ensures.went.fault in
    (fault.0, subst (λ (n : ℕ). Rose n (m.faults new.media)) c.in_ok-batch.ensures.looks.quiet fault.1)
