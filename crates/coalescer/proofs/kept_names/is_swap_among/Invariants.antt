use Rattle.std.proofs.Common.{◌≡◌, false, take}
use Rattle.std.specs.List.{list_any}
use Rattle.graph_change.specs.file_graph.Plain.{is_swap}
use Rattle.coalescer.specs.Records.{effects_in}
use Rattle.coalescer.proofs.kept_names.is_swap_among.Given as goal

abbrev pub invariant-loop-logged : goal.invariant-loop-logged
invariant-loop-logged l = list_any is_swap (effects_in (take l.logged-index l.records)) ≡ false
