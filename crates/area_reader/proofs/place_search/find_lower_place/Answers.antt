use Rattle.std.proofs.Common.{◌≡◌, ℕ, Some, None}
use Rattle.std.specs.Prelude.{IfOk, IfSome, IfNone}
use Rattle.tier_device.specs.declared.media.Tier.{Tier}
use Rattle.tier_device.specs.declared.media.Tier.TheVariants as tiers
use Rattle.area_reader.specs.Format.{IsSpelled}
use Rattle.area_reader.specs.Store.{place}
use Rattle.area_reader.proofs.Looked.{carried, carried_back}
use Rattle.area_reader.proofs.place_search.find_lower_place.Goals as goal

pub find_slow_place-requires-clause-spelled : goal.find_slow_place-requires-clause-spelled
find_slow_place-requires-clause-spelled g c _ =
    let looks = c.in_ok-at.ensures.looks in
    carried g.M.Media IsSpelled c.args.journal.now c.find_place.new.journal _ looks (c.requires.spelled looks.going.0)

pub returns-in-None-clause-some : goal.returns-in-None-clause-some
returns-in-None-clause-some g c =
    carried_back g.M.Media (λ x s. IfOk c.find_slow_place.result (λ found. IfSome found (λ (y : Tier × ℕ). place x s c.args.inode y.0 c.args.block ≡ Some y.1))) c.args.journal.now c.find_place.new.journal _ c.in_ok-at.ensures.looks c.find_slow_place.ensures.some

pub returns-in-None-clause-slow : goal.returns-in-None-clause-slow
returns-in-None-clause-slow g c =
    carried_back g.M.Media (λ x s. IfOk c.find_slow_place.result (λ found. IfNone found (place x s c.args.inode tiers.Slow c.args.block ≡ None))) c.args.journal.now c.find_place.new.journal _ c.in_ok-at.ensures.looks c.find_slow_place.ensures.none
