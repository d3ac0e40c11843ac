use Rattle.std.proofs.Common.{Some, None}
use Rattle.std.proofs.lemmas.Bool.{eq-eqb}
use Rattle.posix_calls.proofs.Chain.{exits, gives, bind_gives, bind_stops, passes, fails, if_holds, if_fails, or_clear, or_left, or_right, not_same}
use Rattle.posix_calls.proofs.Walks.{bind_place, bind_known, bind_place_stops, walked_again}
use Rattle.posix_calls.proofs.Wants.{refused_wants}
use Rattle.posix_calls.proofs.two_path_calls.exchange_at.Goals as goal

pub returns-in_err-refuse_root-clause-answer : goal.returns-in_err-refuse_root-clause-answer
returns-in_err-refuse_root-clause-answer g c = exits c.from_residual.ensures.1 (fails _ _ c.in_err-refuse_root.ensures.refused.0 (or_left _ c.in_err-refuse_root.ensures.refused.1))

pub returns-in_err-refuse_root-2-clause-answer : goal.returns-in_err-refuse_root-2-clause-answer
returns-in_err-refuse_root-2-clause-answer g c = exits c.from_residual-in_err-refuse_root-2.ensures.1 (fails _ _ c.in_err-refuse_root-2.ensures.refused.0 (or_right _ c.in_err-refuse_root-2.ensures.refused.1))

pub returns-in_err-one-clause-answer : goal.returns-in_err-one-clause-answer
returns-in_err-one-clause-answer g c = exits c.from_residual-in_err-one.ensures.1 (passes _ _ (or_clear c.in_ok-refuse_root.ensures.clear c.in_ok-refuse_root-2.ensures.clear) (bind_place_stops None c.args.first_path.now _ c.in_err-one.ensures.answer))

pub returns-in_err-inode-clause-answer : goal.returns-in_err-inode-clause-answer
returns-in_err-inode-clause-answer g c = exits c.from_residual-in_err-inode.ensures.1 (passes _ _ (or_clear c.in_ok-refuse_root.ensures.clear c.in_ok-refuse_root-2.ensures.clear) (bind_place None c.args.first_path.now _ c.in_ok-one.ensures.answer (λ one_walked one_seen. bind_stops _ (c.in_err-inode.ensures.answer _))))

pub returns-in_err-two-clause-answer : goal.returns-in_err-two-clause-answer
returns-in_err-two-clause-answer g c = exits c.from_residual-in_err-two.ensures.1 (passes _ _ (or_clear c.in_ok-refuse_root.ensures.clear c.in_ok-refuse_root-2.ensures.clear) (bind_place None c.args.first_path.now _ c.in_ok-one.ensures.answer (λ one_walked one_seen. bind_gives _ (c.in_ok-inode.ensures.answer _) (bind_place_stops (Some c.in_ok-inode.inode) c.args.second_path.now _ c.in_err-two.ensures.answer))))

pub returns-in_err-other-clause-answer : goal.returns-in_err-other-clause-answer
returns-in_err-other-clause-answer g c = exits c.from_residual-in_err-other.ensures.1 (passes _ _ (or_clear c.in_ok-refuse_root.ensures.clear c.in_ok-refuse_root-2.ensures.clear) (bind_place None c.args.first_path.now _ c.in_ok-one.ensures.answer (λ one_walked one_seen. bind_gives _ (c.in_ok-inode.ensures.answer _) (bind_place (Some c.in_ok-inode.inode) c.args.second_path.now _ c.in_ok-two.ensures.answer (λ two_walked two_seen. bind_stops _ (c.in_err-other.ensures.answer _))))))

pub returns-then-inode-other-clause-answer : goal.returns-then-inode-other-clause-answer
returns-then-inode-other-clause-answer g c = passes _ _ (or_clear c.in_ok-refuse_root.ensures.clear c.in_ok-refuse_root-2.ensures.clear) (bind_place None c.args.first_path.now _ c.in_ok-one.ensures.answer (λ one_walked one_seen. bind_gives _ (c.in_ok-inode.ensures.answer _) (bind_place (Some c.in_ok-inode.inode) c.args.second_path.now _ c.in_ok-two.ensures.answer (λ two_walked two_seen. bind_gives _ (c.in_ok-other.ensures.answer _) (if_holds _ (eq-eqb _ _ c.if-inode-other.true) gives)))))

pub returns-clause-answer : goal.returns-clause-answer
returns-clause-answer g c = passes _ _ (or_clear c.in_ok-refuse_root.ensures.clear c.in_ok-refuse_root-2.ensures.clear) (bind_known None c.args.first_path.now _ c.in_ok-one.ensures.answer (λ one_walked one_seen found. bind_gives _ (c.in_ok-inode.ensures.answer _) (bind_place (Some c.in_ok-inode.inode) c.args.second_path.now _ c.in_ok-two.ensures.answer (λ two_walked two_seen. bind_gives _ (c.in_ok-other.ensures.answer _) (if_fails _ (not_same _ _ c.if-inode-other.false) (walked_again c.args.first_path.now _ found (c.exchange_apart.ensures.answer two_walked two_seen)))))))

pub returns-in_err-refuse_root-clause-memory : goal.returns-in_err-refuse_root-clause-memory
returns-in_err-refuse_root-clause-memory g c = λ want. refused_wants c.from_residual.ensures.1 c.in_err-refuse_root.ensures.refused.0 want

pub returns-in_err-refuse_root-2-clause-memory : goal.returns-in_err-refuse_root-2-clause-memory
returns-in_err-refuse_root-2-clause-memory g c = λ want. c.in_ok-refuse_root.ensures.clear

pub returns-in_err-one-clause-memory : goal.returns-in_err-one-clause-memory
returns-in_err-one-clause-memory g c = λ want. c.in_ok-refuse_root.ensures.clear

pub returns-in_err-inode-clause-memory : goal.returns-in_err-inode-clause-memory
returns-in_err-inode-clause-memory g c = λ want. c.in_ok-refuse_root.ensures.clear

pub returns-in_err-two-clause-memory : goal.returns-in_err-two-clause-memory
returns-in_err-two-clause-memory g c = λ want. c.in_ok-refuse_root.ensures.clear

pub returns-in_err-other-clause-memory : goal.returns-in_err-other-clause-memory
returns-in_err-other-clause-memory g c = λ want. c.in_ok-refuse_root.ensures.clear

pub returns-clause-memory : goal.returns-clause-memory
returns-clause-memory g c = λ want. c.in_ok-refuse_root.ensures.clear
