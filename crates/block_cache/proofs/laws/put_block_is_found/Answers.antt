use Rattle.block_cache.proofs.Found.{put_found, put_others}
use Rattle.block_cache.proofs.laws.put_block_is_found.Goals as goal

pub returns-clause-found : goal.returns-clause-found
returns-clause-found c = put_found

pub returns-clause-others : goal.returns-clause-others
returns-clause-others c bs inode block bytes i n found is = put_others i n inode block bs bytes found is
