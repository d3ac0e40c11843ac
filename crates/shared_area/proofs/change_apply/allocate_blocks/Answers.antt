use Rattle.std.proofs.Common.{◌≡◌, ◌∙◌, ℕ, length, refl, sym, ap, subst, arith}
use Rattle.std.specs.Prelude.{take}
use Rattle.std.proofs.lemmas.List.{length-take-le}
use Rattle.std.proofs.lemmas.Result.{err_from_is_err_and}
use Rattle.area_reader.specs.layout.Places.{IsAllowed}
use Rattle.area_reader.specs.graph_change.View.{changes_of}
use Rattle.area_reader.specs.Store.{disk}
use Rattle.change_plan.specs.area_commit.Value.{free_data}
use Rattle.change_plan.specs.area_commit.declared.allocation.Allocation.{Allocation}
use Rattle.change_plan.specs.area_commit.Allocations.{taken_data, WereTaken, CanRelease}
use Rattle.change_plan.proofs.area_commit_lemmas.Course.{Rests}
use Rattle.change_plan.proofs.area_commit_lemmas.Returned.{same_free}
use Rattle.change_plan.specs.FileLayout.{AreFirstFree}
use Rattle.change_plan.specs.BlockDemand.{WantsBlocks}
use Rattle.area_reader.specs.declared.error.AreaError.TheVariants.{NoBlock, Memory}
use Rattle.shared_area.proofs.Ending.{memory_fault, block_fault, forced_block, still_self, ends_refused}
use Rattle.shared_area.proofs.Pooled.{same_self, settled_same, no_runs_of, few_free, take_none, drop_none, enough_free, too_few_free, told_pools, told_block}
use Rattle.shared_area.proofs.change_apply.allocate_blocks.Goals as goal

-- ---- more blocks are wanted than there are

pub returns-then-count-clause-ends : goal.returns-then-count-clause-ends
returns-then-count-clause-ends g c =
    let m = g.M.Media in
    let old = c.args.journal.now in
    let rests : Rests m old.geometry old.media = record { sizes = c.left_now.ensures.sizes c.requires.going; journal = c.left_now.ensures.journal c.requires.going; rest = c.requires.settled.rests } in
    ends_refused m g.met.M.Media.sized (changes_of c.args.read.now.change.now) c.args.marks old old c.args.pools.now NoBlock tt block_fault rests (still_self m g.met.M.Media.sized old) refl c.requires.going refl c.requires.settled

pub returns-then-count-clause-same : goal.returns-then-count-clause-same
returns-then-count-clause-same g c = same_self c.args.pools.now

pub returns-then-count-clause-few : goal.returns-then-count-clause-few
returns-then-count-clause-few g c is =
    let old = c.args.journal.now in
    let allowed = subst IsAllowed c.geometry.ensures c.units-units.ensures.allowed in
    let most = few_free old.geometry c.args.pools.now allowed c.requires.settled.ranges c.free-free.ensures.ordered in
    let many = c.if-count.true in
    omega (arith, most, many)

-- ---- they are taken

pub plan_change-requires-clause-taken : goal.plan_change-requires-clause-taken
plan_change-requires-clause-taken g c =
    let pools = c.args.pools.now in
    (pools, c.free-free.ensures.ordered, subst (λ (taken : Allocation). WereTaken pools c.take.new.self taken) (sym c.start_plan-plan.ensures.taken) c.in_ok-taken.ensures.fronts, c.requires.settled)

pub plan_change-requires-clause-undo : goal.plan_change-requires-clause-undo
plan_change-requires-clause-undo g c = subst (λ (taken : Allocation). CanRelease c.take.new.self taken) (sym c.start_plan-plan.ensures.taken) c.in_ok-taken.ensures.undone

pub plan_change-requires-clause-no_nodes : goal.plan_change-requires-clause-no_nodes
plan_change-requires-clause-no_nodes g c =
    let pools = c.args.pools.now in
    let ok = c.in_ok-taken in
    ap (λ (taken : Allocation). taken.nodes.items) c.start_plan-plan.ensures.taken ∙ no_runs_of pools.nodes.first pools.nodes.end ok.taken.nodes.items ok.ensures.fronts.nodes.apart (ok.ensures.nodes ∙ take_none pools.nodes.free)

pub plan_change-requires-clause-nodes : goal.plan_change-requires-clause-nodes
plan_change-requires-clause-nodes g c =
    let old = c.args.journal.now in
    let pools = c.args.pools.now in
    let settled = c.requires.settled in
    let some = c.nodes_never_run_out.ensures.spare old.geometry (disk g.M.Media old) pools settled.opens.spelled settled.opens.units settled.free in
    let same = ap length (c.in_ok-taken.ensures.left_nodes ∙ drop_none pools.nodes.free) in
    omega (arith, some, same)

pub plan_change-requires-clause-wants : goal.plan_change-requires-clause-wants
plan_change-requires-clause-wants g c =
    let old = c.args.journal.now in
    let pools = c.args.pools.now in
    let n = c.args.count in
    let ok = c.in_ok-taken in
    let there = enough_free ok.taken (length pools.nodes.free) n (length (free_data pools)) ok.ensures.few in
    let long : length (taken_data ok.taken) ≡ n = (let data_long = ap length ok.ensures.data in let short = length-take-le n (free_data pools) there in omega (arith, data_long, short)) in
    let all : length (taken_data c.start_plan-plan.result.taken) ≡ n = ap (λ (taken : Allocation). length (taken_data taken)) c.start_plan-plan.ensures.taken ∙ long in
    subst (λ (k : ℕ). WantsBlocks old.geometry (disk g.M.Media old) (changes_of c.args.read.now.change.now) k) (sym all) c.requires.wants

pub plan_change-requires-clause-first : goal.plan_change-requires-clause-first
plan_change-requires-clause-first g c =
    let old = c.args.journal.now in
    let pools = c.args.pools.now in
    let n = c.args.count in
    let ok = c.in_ok-taken in
    let there = enough_free ok.taken (length pools.nodes.free) n (length (free_data pools)) ok.ensures.few in
    let long : length (taken_data ok.taken) ≡ n = (let data_long = ap length ok.ensures.data in let short = length-take-le n (free_data pools) there in omega (arith, data_long, short)) in
    subst (λ (taken : Allocation). AreFirstFree old.geometry (disk g.M.Media old) (taken_data taken)) (sym c.start_plan-plan.ensures.taken)
    (record { pools = pools; order = c.free-free.ensures.ordered; ranges = c.requires.settled.ranges; free = c.requires.settled.free; first = ok.ensures.data ∙ ap (λ (k : ℕ). take k (free_data pools)) (sym long) })

pub returns-in-Ok-clause-same : goal.returns-in-Ok-clause-same
returns-in-Ok-clause-same g c =
    let pools = c.args.pools.now in
    c.plan_change.ensures.same pools c.free-free.ensures.ordered (subst (λ (taken : Allocation). WereTaken pools c.take.new.self taken) (sym c.start_plan-plan.ensures.taken) c.in_ok-taken.ensures.fronts)

pub returns-in-Ok-clause-few : goal.returns-in-Ok-clause-few
returns-in-Ok-clause-few g c is = absurd (forced_block c.plan_change.result c.plan_change.ensures.only is)

-- ---- there is no room for their bytes

pub release-requires : goal.release-requires
release-requires g c = c.in_ok-taken.ensures.undone

pub returns-in-Err-clause-ends : goal.returns-in-Err-clause-ends
returns-in-Err-clause-ends g c =
    let m = g.M.Media in
    let old = c.args.journal.now in
    let taken = c.in_ok-taken.taken in
    let rests : Rests m old.geometry old.media = record { sizes = c.left_now.ensures.sizes c.requires.going; journal = c.left_now.ensures.journal c.requires.going; rest = c.requires.settled.rests } in
    let settled = settled_same old.geometry (m.seen old.media) (m.left old.media (m.moment old.media)) c.args.pools.now c.release.new.self (same_free c.args.pools.now c.take.new.self c.release.new.self taken c.in_ok-taken.ensures.fronts c.release.ensures) c.requires.settled in
    ends_refused m g.met.M.Media.sized (changes_of c.args.read.now.change.now) c.args.marks old old c.release.new.self Memory tt memory_fault rests (still_self m g.met.M.Media.sized old) refl c.requires.going refl settled

pub returns-in-Err-clause-same : goal.returns-in-Err-clause-same
returns-in-Err-clause-same g c = same_free c.args.pools.now c.take.new.self c.release.new.self c.in_ok-taken.taken c.in_ok-taken.ensures.fronts c.release.ensures

-- ---- they are not taken

pub returns-in_err-taken-clause-ends : goal.returns-in_err-taken-clause-ends
returns-in_err-taken-clause-ends g c =
    let m = g.M.Media in
    let old = c.args.journal.now in
    let pools = c.take.new.self in
    let rests : Rests m old.geometry old.media = record { sizes = c.left_now.ensures.sizes c.requires.going; journal = c.left_now.ensures.journal c.requires.going; rest = c.requires.settled.rests } in
    let settled = settled_same old.geometry (m.seen old.media) (m.left old.media (m.moment old.media)) c.args.pools.now pools c.in_err-taken.ensures.err c.requires.settled in
    let p = err_from_is_err_and c.from_residual.result c.from_residual.ensures.1 in
    let told = told_pools c.in_err-taken.field-0.0 p.0 p.2 in
    rw p.1 (ends_refused m g.met.M.Media.sized (changes_of c.args.read.now.change.now) c.args.marks old old pools p.0 told.0 told.1 rests (still_self m g.met.M.Media.sized old) refl c.requires.going refl settled)

pub returns-in_err-taken-clause-few : goal.returns-in_err-taken-clause-few
returns-in_err-taken-clause-few g c =
    let p = err_from_is_err_and c.from_residual.result c.from_residual.ensures.1 in
    let error = c.in_err-taken.field-0.0 in
    rw p.1 (λ is. too_few_free error (length c.args.pools.now.nodes.free) c.args.count (length (free_data c.args.pools.now)) (told_block error p.0 p.2 is) c.in_err-taken.ensures.few)
