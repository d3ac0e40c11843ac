-- What records hold.
use Rattle.std.specs.Prelude.{List}
use Rattle.std.specs.List.{flat_map}
use Rattle.graph_change.specs.file_graph.declared.effect.Effect.{Effect}
use Rattle.log_record.specs.declared.format.Record.{Record}

-- the effects of records, in their order
abbrev pub effects_in : List Record → List Effect
effects_in rs = flat_map (λ r. r.effects) rs
