use Rattle.block_cache.proofs.Found.{used_run_stays, used_stays}
use Rattle.block_cache.proofs.laws.used_block_stays.Goals as goal

pub returns-clause-one : goal.returns-clause-one
returns-clause-one c bs inode block i n = used_stays i n inode block bs

pub returns-clause-run : goal.returns-clause-run
returns-clause-run c bs inode first count i n = used_run_stays i n inode first count bs
