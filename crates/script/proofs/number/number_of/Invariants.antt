use Rattle.std.proofs.Common.{◌≡◌, ◌<◌, ◌^◌, drop}
use Rattle.script.specs.Script.{number, number_from}
use Rattle.script.proofs.number.number_of.Given as goal

-- the digits so far and those that are left spell the number of all
abbrev pub invariant-loop-byte : goal.invariant-loop-byte
invariant-loop-byte l = record {
  spelled : number l.word ≡ number_from l.value (drop l.byte-index l.word);
  below : l.value < 2 ^ 64;
}
