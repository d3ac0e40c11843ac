use Rattle.std.proofs.Common.{◌≡◌, ◌++◌}
use Rattle.area_reader.specs.batch_journal.Images.{Rises, next_of}
use Rattle.area_commit.proofs.nodes.NodeImages.push_all.Given as goal

abbrev pub invariant-loop-number : goal.invariant-loop-number
invariant-loop-number l = record {
  pushed : l.batch ++ l.number-iterator ≡ l.fn.batch ++ l.self;
  rises : Rises (next_of l.batch) l.number-iterator;
}
