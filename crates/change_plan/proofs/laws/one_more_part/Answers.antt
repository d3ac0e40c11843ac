use Rattle.change_plan.proofs.Added.{one_more}
use Rattle.change_plan.proofs.laws.one_more_part.Goals as goal

pub returns : goal.returns
returns c = λ g s cs touch i x m slots share its bytes its_bytes old new lost its_lost all_lost its_slot its_runs spelled parts number below free its_free none part lose.
    one_more g s cs touch i x m slots share its bytes its_bytes old new lost its_lost all_lost its_slot its_runs spelled parts number below free its_free none part lose
