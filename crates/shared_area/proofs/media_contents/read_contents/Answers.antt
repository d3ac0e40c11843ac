use Rattle.std.proofs.Common.{◌≡◌, ◌∙◌, sym, subst}
use Rattle.area_reader.specs.layout.Places.{Sizes}
use Rattle.area_reader.specs.Store.{disk}
use Rattle.change_plan.specs.area_commit.Value.{AreFree, MarksAll}
use Rattle.shared_area.proofs.media_contents.read_contents.Goals as goal

pub returns-clause-free : goal.returns-clause-free
returns-clause-free g c =
    let old = c.args.journal.now in
    let s = disk g.M.Media old in
    let found = c.in_ok-found.found in
    let pools = c.in_ok-pools.pools in
    let geometry : c.geometry-geometry.result ≡ old.geometry = c.geometry-geometry.ensures ∙ c.in_ok-found.ensures.looks.geometry in
    subst (λ (x : Sizes). AreFree x s pools) geometry (c.in_ok-pools.ensures.free s (subst (λ (x : Sizes). MarksAll x s found.used) (sym geometry) c.in_ok-found.ensures.used))
