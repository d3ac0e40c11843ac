use Rattle.std.proofs.Common.{◌≡◌, ◌≤◌, vec_len}
use Rattle.std.specs.Io.KnownBytes.{Consumes}
use Rattle.script.specs.LineReads.{number_after, IsWithinLine}
use Rattle.script.specs.declared.script.part.TheConstants.{MAX_LINE}
use Rattle.script.proofs.script.reader.ScriptLines.read_next.Given as goal

-- what was read of the line so far
abbrev pub invariant-loop : goal.invariant-loop
invariant-loop g l = record {
  number : l.self-inside.number ≡ number_after l.fn.self.number;
  short : vec_len l.self-inside.line ≤ MAX_LINE;
  within : IsWithinLine l.self-inside.line.items;
  read : Consumes l.fn.self.left (g.R.Read.remaining l.self-inside.reader) l.self-inside.line.items;
}
