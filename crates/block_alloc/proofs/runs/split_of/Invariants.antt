use Rattle.std.proofs.Common.{◌≡◌, ◌+◌, length, take}
use Rattle.block_alloc.specs.Runs.{blocks_of}
use Rattle.block_alloc.proofs.runs.split_of.Given as goal

abbrev pub invariant-whole : goal.invariant-whole
invariant-whole l = length (blocks_of (take l.whole l.runs)) + l.left ≡ l.fn.count
