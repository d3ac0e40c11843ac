use Rattle.std.proofs.Common.{◌≡◌, ◌++◌, ◌∙◌, arith, ap, sym, subst, length, List}
use Rattle.std.proofs.lemmas.List.{length-take-le}
use Rattle.block_alloc.specs.declared.runs.Run.{Run}
use Rattle.block_alloc.specs.Runs.{blocks_of, AreNormalRuns, Rising}
use Rattle.area_commit.proofs.Seams.{length-runs, old_wide, more_wide, both_rise}
use Rattle.area_commit.proofs.allocation.take_more.Goals as goal

pub put_behind-requires-clause-room : goal.put_behind-requires-clause-room
put_behind-requires-clause-room c =
    let free = c.make_room.new.pool.free in
    let more = c.in_ok-more.more.items in
    let short : length (blocks_of more) ≡ c.args.count = ap length c.in_ok-more.ensures.taken ∙ length-take-le c.args.count free c.in_ok-more.ensures.enough in
    omega (arith, c.in-Ok.ensures.list, ap length c.deref-2.ensures.value, short, length-runs c.make_room.new.pool.first c.make_room.new.pool.end more c.in_ok-more.ensures.apart)

pub put_behind-requires-clause-normal : goal.put_behind-requires-clause-normal
put_behind-requires-clause-normal c =
    let old = c.args.runs.now.items in
    let same : c.in-Ok.all.items ≡ old = c.in-Ok.ensures.items ∙ c.deref.ensures.value in
    subst (AreNormalRuns 0 4294967295) (sym same) (old_wide c.args.pool.now c.make_room.new.pool c.take.new.self old c.in_ok-more.more.items c.args.count c.requires.can c.make_room.ensures.same c.in_ok-more.ensures.apart c.in_ok-more.ensures.taken c.requires.fits)

pub put_behind-requires-clause-more : goal.put_behind-requires-clause-more
put_behind-requires-clause-more c =
    let old = c.args.runs.now.items in
    subst (AreNormalRuns 0 4294967295) (sym c.deref-2.ensures.value) (more_wide c.args.pool.now c.make_room.new.pool c.take.new.self old c.in_ok-more.more.items c.args.count c.requires.can c.make_room.ensures.same c.in_ok-more.ensures.apart c.in_ok-more.ensures.taken c.requires.fits)

pub put_behind-requires-clause-rising : goal.put_behind-requires-clause-rising
put_behind-requires-clause-rising c =
    let old = c.args.runs.now.items in
    let more = c.in_ok-more.more.items in
    let same : c.in-Ok.all.items ≡ old = c.in-Ok.ensures.items ∙ c.deref.ensures.value in
    subst (λ (l : List Run). Rising 0 4294967295 (blocks_of l ++ blocks_of c.deref-2.result.now)) (sym same) (subst (λ (l : List Run). Rising 0 4294967295 (blocks_of old ++ blocks_of l)) (sym c.deref-2.ensures.value)
    (both_rise c.args.pool.now c.make_room.new.pool c.take.new.self old more c.args.count c.requires.can c.make_room.ensures.same c.in_ok-more.ensures.apart c.in_ok-more.ensures.taken c.requires.fits))
