use Rattle.digester.proofs.Covered as covered
use Rattle.digester.proofs.plan_laws.covered_records_are_never_bad.Goals as goal

pub returns : goal.returns
returns c = record { local = covered.local; good = covered.good; never = covered.never_bad }
