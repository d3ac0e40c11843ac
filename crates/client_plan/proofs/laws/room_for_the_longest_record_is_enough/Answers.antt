use Rattle.client_plan.specs.NeedEffects.{with_room}
use Rattle.client_plan.proofs.RecordLengths.{record_bound, longest_is_a_write}
use Rattle.client_plan.proofs.Room.{logged_bound, never_too_long, room_served}
use Rattle.std.proofs.Common.{refl}
use Rattle.client_plan.proofs.laws.room_for_the_longest_record_is_enough.Goals as goal

pub returns-clause-bound : goal.returns-clause-bound
returns-clause-bound c = record_bound

pub returns-clause-write : goal.returns-clause-write
returns-clause-write c = longest_is_a_write

pub returns-clause-log : goal.returns-clause-log
returns-clause-log c = logged_bound

pub returns-clause-fits : goal.returns-clause-fits
returns-clause-fits c = λ k g held h call most sound within agrees of. never_too_long k g held sound within agrees h of call most

pub returns-clause-room : goal.returns-clause-room
returns-clause-room c = λ k g held h call most sound within agrees of. room_served k g held sound within agrees (with_room h most) (record { own = of.own; numbers = of.numbers }) call most refl
