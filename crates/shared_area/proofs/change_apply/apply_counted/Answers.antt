use Rattle.std.proofs.Common.{◌≡◌, subst}
use Rattle.std.specs.Prelude.{Err, IfOk}
use Rattle.std.specs.FinMap as fin
use Rattle.std.proofs.lemmas.Result.{err_from_is_err_and}
use Rattle.area_reader.specs.graph_change.View.{changes_of}
use Rattle.area_reader.specs.layout.Places.{Sizes}
use Rattle.area_reader.specs.Store.{Store, disk}
use Rattle.area_reader.proofs.Looked.{carried}
use Rattle.change_plan.proofs.area_commit_lemmas.Course.{Rests}
use Rattle.shared_area.specs.ChangeApply.{CanApply}
use Rattle.shared_area.specs.Costs.{units_in}
use Rattle.change_plan.specs.BlockDemand.{WantsBlocks}
use Rattle.change_plan.specs.ReadSlots.{HaveSlots}
use Rattle.shared_area.proofs.Ending.{forced_block, settled_still, ends_told, ends_on}
use Rattle.shared_area.proofs.Pooled.{same_self}
use Rattle.shared_area.proofs.change_apply.apply_counted.Goals as goal

pub count_blocks-requires-clause-spelled : goal.count_blocks-requires-clause-spelled
count_blocks-requires-clause-spelled g c = c.requires.settled.opens.spelled

pub allocate_blocks-requires-clause-going : goal.allocate_blocks-requires-clause-going
allocate_blocks-requires-clause-going g c = c.in_ok-count.ensures.looks.going.1

pub allocate_blocks-requires-clause-settled : goal.allocate_blocks-requires-clause-settled
allocate_blocks-requires-clause-settled g c =
    let m = g.M.Media in
    let looks = c.in_ok-count.ensures.looks in
    settled_still m g.met.M.Media.sized c.args.journal.now c.count_blocks.new.journal c.args.pools.now looks.unmoved looks.geometry c.requires.settled

pub allocate_blocks-requires-clause-can : goal.allocate_blocks-requires-clause-can
allocate_blocks-requires-clause-can g c =
    let m = g.M.Media in
    carried m (λ h s. CanApply h s (changes_of c.args.read.now.change.now) c.args.marks) c.args.journal.now c.count_blocks.new.journal _ c.in_ok-count.ensures.looks c.requires.can

pub allocate_blocks-requires-clause-wants : goal.allocate_blocks-requires-clause-wants
allocate_blocks-requires-clause-wants g c =
    let m = g.M.Media in
    carried m (λ h s. WantsBlocks h s (changes_of c.args.read.now.change.now) c.in_ok-count.count) c.args.journal.now c.count_blocks.new.journal _ c.in_ok-count.ensures.looks c.in_ok-count.ensures.wanted

pub returns-clause-ends : goal.returns-clause-ends
returns-clause-ends g c =
    let m = g.M.Media in
    let looks = c.in_ok-count.ensures.looks in
    ends_on m g.met.M.Media.sized (changes_of c.args.read.now.change.now) c.args.marks c.args.journal.now c.count_blocks.new.journal c.allocate_blocks.new.journal c.allocate_blocks.new.pools c.allocate_blocks.result looks.unmoved looks.geometry looks.quiet c.allocate_blocks.ensures.ends

pub allocate_blocks-requires-clause-slots : goal.allocate_blocks-requires-clause-slots
allocate_blocks-requires-clause-slots g c =
    let m = g.M.Media in
    carried m (λ h s. HaveSlots h s (fin.keys (changes_of c.args.read.now.change.now)) c.args.read.now.slots.now) c.args.journal.now c.count_blocks.new.journal _ c.in_ok-count.ensures.looks c.requires.slots

pub returns-clause-units : goal.returns-clause-units
returns-clause-units g c =
    let m = g.M.Media in
    let new : Store = disk m c.allocate_blocks.new.journal in
    subst (λ (h : Sizes). IfOk c.allocate_blocks.result (λ units. units ≡ units_in h new (fin.keys (changes_of c.args.read.now.change.now)))) c.in_ok-count.ensures.looks.geometry c.allocate_blocks.ensures.units

pub returns-clause-few : goal.returns-clause-few
returns-clause-few g c is = (c.in_ok-count.count, c.in_ok-count.ensures.wanted, c.allocate_blocks.ensures.few is)

pub returns-in_err-count-clause-ends : goal.returns-in_err-count-clause-ends
returns-in_err-count-clause-ends g c =
    let m = g.M.Media in
    let old = c.args.journal.now in
    let rests : Rests m old.geometry old.media = record { sizes = c.left_now.ensures.sizes c.requires.going; journal = c.left_now.ensures.journal c.requires.going; rest = c.requires.settled.rests } in
    let p = err_from_is_err_and c.from_residual.result c.from_residual.ensures.1 in
    rw (p.1, p.2) (ends_told m g.met.M.Media.sized (changes_of c.args.read.now.change.now) c.args.marks old c.count_blocks.new.journal c.args.pools.now c.in_err-count.field-0.0 c.in_err-count.ensures.only c.in_err-count.ensures.looks c.requires.going rests c.requires.settled)

pub returns-in_err-count-clause-same : goal.returns-in_err-count-clause-same
returns-in_err-count-clause-same g c =
    let p = err_from_is_err_and c.from_residual.result c.from_residual.ensures.1 in
    rw p.1 (same_self c.args.pools.now)

pub returns-in_err-count-clause-few : goal.returns-in_err-count-clause-few
returns-in_err-count-clause-few g c =
    let p = err_from_is_err_and c.from_residual.result c.from_residual.ensures.1 in
    rw (p.1, p.2) (λ is. absurd (forced_block (Err c.in_err-count.field-0.0) c.in_err-count.ensures.only is))

pub count_blocks-requires-clause-bounded : goal.count_blocks-requires-clause-bounded
count_blocks-requires-clause-bounded g c = c.requires.can.bounded

pub count_blocks-requires-clause-tidy : goal.count_blocks-requires-clause-tidy
count_blocks-requires-clause-tidy g c = c.requires.can.tidy
