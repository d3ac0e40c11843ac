use Rattle.world_invariant.proofs.machine_laws.region_that_is_away_may_be_accepted.Goals as goal

pub returns : goal.returns
returns r m c p is_c s away before first = record { client = is_c; some = s.marked.some away; before = before; first = first }
