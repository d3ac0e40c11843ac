use Rattle.strata_threads.proofs.Refusals.{chunk_refusal, unaccepted_chunk}
use Rattle.strata_threads.proofs.region_digest.digest_chunk.Goals as goal

pub returns-in-Ok-NotAccepted-clause-refused : goal.returns-in-Ok-NotAccepted-clause-refused
returns-in-Ok-NotAccepted-clause-refused g c = unaccepted_chunk g.M.Media c.args.region.now c.digest.new.self c.args.kernel.now c.digest.new.kernel c.args.chunk.now c.in-Ok-NotAccepted.field-0 c.in-Ok-NotAccepted.field-0-is c.in-Ok-NotAccepted.ensures.digests

pub returns-in-Err-clause-refused : goal.returns-in-Err-clause-refused
returns-in-Err-clause-refused g c = chunk_refusal g.M.Media c.args.region.now c.digest.new.self c.args.kernel.now c.digest.new.kernel c.args.chunk.now c.in-Err.error c.in-Err.ensures.digests
