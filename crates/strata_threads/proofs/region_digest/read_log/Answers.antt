use Rattle.std.proofs.Common.{Err, ap}
use Rattle.strata_threads.proofs.Refusals.{read_refusal}
use Rattle.strata_threads.proofs.region_digest.read_log.Goals as goal

pub returns-in-Err-clause-refused : goal.returns-in-Err-clause-refused
returns-in-Err-clause-refused g c = read_refusal g.M.Media c.args.region.now c.read_records.new.self c.in-Err.error c.in-Err.ensures.only (λ is. c.in-Err.ensures.fault (ap Err is))
