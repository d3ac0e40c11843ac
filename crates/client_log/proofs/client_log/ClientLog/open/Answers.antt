use Rattle.std.proofs.Common.{◌≡◌, refl, subst}
use Rattle.tier_device.specs.Media.{Rose}
use Rattle.update_log.specs.View.{RegionView}
use Rattle.client_log.specs.Calls.{IsOnlyRead}
use Rattle.client_log.proofs.Swapped.{back_even, back_odd, either_swapped}
use Rattle.client_log.proofs.client_log.ClientLog.open.Goals as goal

pub returns-in-Ok-true-clause-opened : goal.returns-in-Ok-true-clause-opened
returns-in-Ok-true-clause-opened g c =
    let m = g.M.Media in
    let is = c.in_turn-current.ensures in
    record {
      generation_is = refl;
      is_ready = refl;
      is_clean = refl;
      unfailed = refl;
      beside = c.are_wiped.new.other;
      other_is = refl;
      current_read = subst (λ (t : RegionView _ × RegionView _). IsOnlyRead m t.0 c.are_wiped.new.current) is c.are_wiped.ensures.read;
      other_read = subst (λ (t : RegionView _ × RegionView _). IsOnlyRead m t.1 c.are_wiped.new.other) is c.are_wiped.ensures.other_read;
      quiet = subst (λ (t : RegionView _ × RegionView _). m.faults c.are_wiped.new.current.media ≡ m.faults t.0.media) is c.in-Ok-true.ensures.quiet.0;
      other_quiet = subst (λ (t : RegionView _ × RegionView _). m.faults c.are_wiped.new.other.media ≡ m.faults t.1.media) is c.in-Ok-true.ensures.quiet.1;
    }

pub returns-in-Ok-false-clause-quiet : goal.returns-in-Ok-false-clause-quiet
returns-in-Ok-false-clause-quiet g c =
    let m = g.M.Media in
    let both = c.in-Ok-false.ensures.quiet in
    λ e. (
      back_even (λ (o n : RegionView _). m.faults n.media ≡ m.faults o.media) c.args.generation c.args.regions (c.are_wiped.new.current, c.are_wiped.new.other) c.in_turn-current.result c.in_turn.result c.in_turn-current.ensures c.in_turn.ensures both.0 both.1,
      back_odd (λ (o n : RegionView _). m.faults n.media ≡ m.faults o.media) c.args.generation c.args.regions (c.are_wiped.new.current, c.are_wiped.new.other) c.in_turn-current.result c.in_turn.result c.in_turn-current.ensures c.in_turn.ensures both.0 both.1,
    )

pub returns-in-Err-clause-fault : goal.returns-in-Err-clause-fault
returns-in-Err-clause-fault g c failed =
    let m = g.M.Media in
    either_swapped (λ (o n : RegionView _). Rose (m.faults o.media) (m.faults n.media)) c.args.generation c.args.regions (c.are_wiped.new.current, c.are_wiped.new.other) c.in_turn-current.result c.in_turn-in-Err.result
    c.in_turn-current.ensures c.in_turn-in-Err.ensures c.in-Err.ensures.fault

pub returns-in-Err-clause-even_back : goal.returns-in-Err-clause-even_back
returns-in-Err-clause-even_back g c =
    let m = g.M.Media in
    back_even (IsOnlyRead m) c.args.generation c.args.regions (c.are_wiped.new.current, c.are_wiped.new.other) c.in_turn-current.result c.in_turn-in-Err.result
    c.in_turn-current.ensures c.in_turn-in-Err.ensures c.are_wiped.ensures.read c.are_wiped.ensures.other_read

pub returns-in-Err-clause-odd_back : goal.returns-in-Err-clause-odd_back
returns-in-Err-clause-odd_back g c =
    let m = g.M.Media in
    back_odd (IsOnlyRead m) c.args.generation c.args.regions (c.are_wiped.new.current, c.are_wiped.new.other) c.in_turn-current.result c.in_turn-in-Err.result
    c.in_turn-current.ensures c.in_turn-in-Err.ensures c.are_wiped.ensures.read c.are_wiped.ensures.other_read
