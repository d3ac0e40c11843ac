use Rattle.std.proofs.Common.{inl, refl}
use Rattle.world_invariant.proofs.Accepting.{still, after_seal, after_accept, after_return, after_wipe, after_burial, after_join, next, may_digest}
use Rattle.world_invariant.proofs.machine_laws.accepted_regions_are_those_away.Goals as goal

pub returns-clause-opening : goal.returns-clause-opening
returns-clause-opening r capacity g c is = inl refl

pub returns-clause-still : goal.returns-clause-still
returns-clause-still r accepted w c p are past sealed other = still accepted w c are p past sealed other

pub returns-clause-sealed : goal.returns-clause-sealed
returns-clause-sealed r accepted w c are can = after_seal accepted w c are can

pub returns-clause-accept : goal.returns-clause-accept
returns-clause-accept r accepted w c h are can = after_accept accepted w c h are can

pub returns-clause-back : goal.returns-clause-back
returns-clause-back r accepted w c h are low can = after_return accepted w c h are low can

pub returns-clause-wiped : goal.returns-clause-wiped
returns-clause-wiped r accepted w c are can = after_wipe accepted w c are can

pub returns-clause-buried : goal.returns-clause-buried
returns-clause-buried r accepted w c h are can = after_burial accepted w c h are can

pub returns-clause-next : goal.returns-clause-next
returns-clause-next r accepted w c h are is away low = next accepted w c h are is away low

pub returns-clause-digest : goal.returns-clause-digest
returns-clause-digest r accepted w c first rest h whole can = may_digest accepted w c h first rest whole can

pub returns-clause-joined : goal.returns-clause-joined
returns-clause-joined r accepted w c h are can = after_join accepted w c h are can
