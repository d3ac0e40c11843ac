use Rattle.std.proofs.Common.{◌≡◌, ◌∙◌, ℕ, Some, None, sym}
use Rattle.std.specs.Prelude.{IfOk, IfSome, IfNone}
use Rattle.tier_device.specs.declared.media.Tier.{Tier}
use Rattle.tier_device.specs.declared.media.Tier.TheVariants as tiers
use Rattle.area_reader.specs.Format.{IsSpelled}
use Rattle.area_reader.specs.Store.{disk, place}
use Rattle.area_reader.proofs.Looked.{carried, carried_back}
use Rattle.area_reader.proofs.PlaceSearch.{lower_none}
use Rattle.area_reader.proofs.place_search.find_first_place.Goals as goal

pub find_lower_place-requires-clause-spelled : goal.find_lower_place-requires-clause-spelled
find_lower_place-requires-clause-spelled g c _ =
    let looks = c.in_ok-at.ensures.looks in
    carried g.M.Media IsSpelled c.args.journal.now c.find_place.new.journal _ looks (c.requires.spelled looks.going.0)

pub returns-in-None-clause-some : goal.returns-in-None-clause-some
returns-in-None-clause-some g c =
    carried_back g.M.Media (λ x s. IfOk c.find_lower_place.result (λ found. IfSome found (λ (y : Tier × ℕ). place x s c.args.inode y.0 c.args.block ≡ Some y.1))) c.args.journal.now c.find_place.new.journal _ c.in_ok-at.ensures.looks c.find_lower_place.ensures.some

pub returns-in-None-clause-none : goal.returns-in-None-clause-none
returns-in-None-clause-none g c =
    let m = g.M.Media in
    let old = c.args.journal.now in
    let r = c.find_lower_place.result in
    let looks = c.in_ok-at.ensures.looks in
    let block = carried_back m (λ x s. IfOk r (λ found. IfNone found (place x s c.args.inode tiers.Block c.args.block ≡ None))) old c.find_place.new.journal _ looks c.find_lower_place.ensures.block in
    let slow = carried_back m (λ x s. IfOk r (λ found. IfNone found (place x s c.args.inode tiers.Slow c.args.block ≡ None))) old c.find_place.new.journal _ looks c.find_lower_place.ensures.slow in
    lower_none r (λ t. place old.geometry (disk m old) c.args.inode t c.args.block) (sym c.in_ok-at.ensures.place ∙ c.in-None.is) block slow
