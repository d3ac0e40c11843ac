use Rattle.area_reader.specs.Names.{AddsNames}
use Rattle.area_reader.proofs.entries.add_names.Given as goal

abbrev pub invariant-entries : goal.invariant-entries
invariant-entries l = AddsNames l.block l.index l.fn.names l.names
