use Rattle.block_cache.proofs.Found.{file_gone, others_stay}
use Rattle.block_cache.proofs.laws.dropped_file_has_no_blocks.Goals as goal

pub returns-clause-none : goal.returns-clause-none
returns-clause-none c = file_gone

pub returns-clause-others : goal.returns-clause-others
returns-clause-others c = others_stay
