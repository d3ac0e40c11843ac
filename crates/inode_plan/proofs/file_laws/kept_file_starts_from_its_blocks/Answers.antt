use Rattle.std.proofs.Common.{sym}
use Rattle.inode_plan.proofs.Stores.{file_blocks}
use Rattle.inode_plan.proofs.file_laws.kept_file_starts_from_its_blocks.Goals as goal

pub returns : goal.returns
returns c g s i is = sym (file_blocks g s i is)
