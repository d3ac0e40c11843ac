use Rattle.std.proofs.Common.{inl, inr}
use Rattle.interleavings.specs.client_log.Regions.{AreWiped}
use Rattle.tier_device.specs.declared.media.Tier.TheVariants.{Fast}
use Rattle.recovery.proofs.OpenedLogs.{both_wiped, opened_blank}
use Rattle.recovery.proofs.assembly.open_log.Goals as goal

pub returns-in-Ok-clause-blank : goal.returns-in-Ok-clause-blank
returns-in-Ok-clause-blank g c = let e = c.in-Ok.ensures in opened_blank g.M.Media c.args.generation c.args.regions c.in-Ok.log e.opened e.wiped

pub returns-in-Err-clause-fault : goal.returns-in-Err-clause-fault
returns-in-Err-clause-fault g c =
    let m = g.M.Media in
    let first = c.left_now.ensures in
    let second = c.left_now-2.ensures in
    let even = c.args.regions.0 in
    let odd = c.args.regions.1 in
    let e = c.in-Err.ensures in
    let wiped : AreWiped m c.args.generation (even, odd) =
    both_wiped m c.args.generation even odd
    (record { read = g.met.M.Media.seen_now even.media Fast; either = first.either; idle = first.idle; none = first.none })
    (record { read = g.met.M.Media.seen_now odd.media Fast; either = second.either; idle = second.idle; none = second.none })
    c.requires.even
    c.requires.odd in
    elim e.only [ inl not_wiped ↦ absurd (e.not_wiped not_wiped wiped) | inr fault ↦ e.fault fault ]
