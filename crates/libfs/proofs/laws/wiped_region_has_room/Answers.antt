use Rattle.std.proofs.Common.{◌≡◌, ◌≢◌, ℕ, ◌+◌, ◌-◌, Bool, true, cond, List, [], Some, None, refl, ap, sym, ◌∙◌, subst, arith}
use Rattle.std.specs.Prelude.{◌&&◌, nat_le, Option}
use Rattle.tier_device.specs.declared.media.Media.{Ghosts}
use Rattle.lease_manager.specs.log_record.declared.format.Record.{Record}
use Rattle.client_log.specs.Steps.{most_of}
use Rattle.client_log.specs.View.{LogView}
use Rattle.client_log.specs.call_effects.Knowledge.{part_of}
use Rattle.client_log.specs.update_log.Frames.{end_behind}
use Rattle.client_log.specs.update_log.View.{records_of}
use Rattle.client_log.specs.update_log.declared.format.TheConstants.{REGION_SIZE}
use Rattle.client_view.specs.client_plan.declared.need.Need.TheVariants as needs
use Rattle.client_view.specs.client_plan.declared.outcome.Outcome.TheVariants as outcomes
use Rattle.client_view.specs.client_plan.CallPlan.{outcome}
use Rattle.libfs.specs.ClientHoldings.{holdings_of, known_to}
use Rattle.libfs.proofs.Ready.{has_of}
use Rattle.libfs.proofs.laws.wiped_region_has_room.Goals as goal

-- how many bytes the next record may have behind some records
abbrev most_behind : Bool → List Record → Option ℕ
most_behind ready rs = cond (ready && nat_le (end_behind rs + 6) REGION_SIZE) (Some (REGION_SIZE - (end_behind rs + 6))) None

most_of_none : most_behind true [] ≡ Some 262122
most_of_none = refl

most_is : {M : Type 0} (device : Ghosts M) (log : LogView M) → log.ready ≡ true → records_of device log.current ≡ [] → most_of device log ≡ Some 262122
most_is device log ready none = ap (λ b. most_behind b (records_of device log.current)) ready ∙ ap (most_behind true) none ∙ most_of_none

pub returns-clause-most : goal.returns-clause-most
returns-clause-most g c = λ v. most_is g.M.Media v.log

pub returns-clause-enough : goal.returns-clause-enough
returns-clause-enough g c = λ v whole held call most sound within agrees left enough.
    let h = holdings_of g.M.Media v in
    subst (λ (o : Option ℕ). outcome (part_of (known_to v)) (record h { room = o }) call ≢ outcomes.Need needs.Room) (sym left)
    (c.room_for_the_longest_record_is_enough.ensures.room (known_to v) whole held h call most sound within agrees (has_of g.M.Media v) enough)

pub returns-clause-room : goal.returns-clause-room
returns-clause-room g c = λ v whole held call sound within agrees ready none.
    let h = holdings_of g.M.Media v in
    subst (λ (o : Option ℕ). outcome (part_of (known_to v)) (record h { room = o }) call ≢ outcomes.Need needs.Room) (sym (most_is g.M.Media v.log ready none))
    (c.room_for_the_longest_record_is_enough.ensures.room (known_to v) whole held h call 262122 sound within agrees (has_of g.M.Media v) (omega arith))
