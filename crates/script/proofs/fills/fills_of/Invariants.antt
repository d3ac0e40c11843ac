use Rattle.std.proofs.Common.{◌≡◌, ◌-◌, length, take}
use Rattle.script.specs.Script.{parts}
use Rattle.script.specs.Fills.{fills_from, all_fills}
use Rattle.script.proofs.FillLaws.{with_front}
use Rattle.script.proofs.fills.fills_of.Given as goal

-- the fills so far and those of the further media are those of all
abbrev pub invariant-loop-medium : goal.invariant-loop-medium
invariant-loop-medium l = record {
  long : length l.fills ≡ 9;
  same : with_front (take l.medium l.fills) (fills_from (parts 32 l.words) l.medium (9 - l.medium)) ≡ all_fills (parts 32 l.words);
}
