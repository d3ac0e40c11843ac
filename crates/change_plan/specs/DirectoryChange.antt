-- A directory that is changed in memory, with what it was.
use Rattle.std.specs.Prelude.{◌≤◌, ℕ, length}
use Rattle.std.specs.FinMap as fin
use Rattle.inode_plan.specs.graph_change.Change.{Change}
use Rattle.inode_plan.specs.layout.Places.{Sizes}
use Rattle.inode_plan.specs.tree_blocks.Directory.{most_written}
use Rattle.inode_plan.specs.area_reader.Store.{Store}
use Rattle.inode_plan.specs.DirectoryStart.{IsStarted, IsSoundStart, IsChanged}
use Rattle.inode_plan.specs.declared.directory_start.StartedDirectory.{StartedDirectory}
use Rattle.inode_plan.specs.declared.directory_change.ChangedDirectory.{ChangedDirectory}

-- It is what the change of inode i makes in memory of the directory that the change starts from; no more of its blocks are written than the names that change may write.
pub record IsChangedFrom (g : Sizes) (s : Store) (c : Change) (i : ℕ) (x : ChangedDirectory) : Type 0 where
  pub start : StartedDirectory
  pub starts : IsStarted g s c.base i start
  pub sound : IsSoundStart g start
  pub changed : IsChanged c start x
  pub few : length x.written ≤ most_written (fin.entries c.entries)
