use Rattle.digester.proofs.laws.chunk_stays_a_chunk.Goals as goal

pub returns : goal.returns
returns c x chunk done is = record { client = is.client; generation = is.generation; some = is.some; run = is.run }
