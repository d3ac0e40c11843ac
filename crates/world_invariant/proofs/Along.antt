-- What is so of each of some records, over the graph after those before it.
use Rattle.std.proofs.Common.{List, [], ◌∷◌, ◌++◌}
use Rattle.call_effects.specs.file_graph.Graph.{Graph, after_effects}
use Rattle.call_effects.specs.log_record.declared.format.Record.{Record}
use Rattle.world_invariant.specs.Logs.{after_records, Along}

module _ (IsSo : Graph → Record → Type 0) where
  pub along_rest : (rs ss : List Record) (g : Graph) → Along IsSo g (rs ++ ss) → Along IsSo (after_records g rs) ss
  along_rest [] ss g so = so
  along_rest (r ∷ rs) ss g so = along_rest rs ss (after_effects g r.effects) so.1

  pub along_front : (rs ss : List Record) (g : Graph) → Along IsSo g (rs ++ ss) → Along IsSo g rs
  along_front [] ss g so = tt
  along_front (r ∷ rs) ss g so = (so.0, along_front rs ss (after_effects g r.effects) so.1)

  pub along_join : (rs ss : List Record) (g : Graph) → Along IsSo g rs → Along IsSo (after_records g rs) ss → Along IsSo g (rs ++ ss)
  along_join [] ss g front rest = rest
  along_join (r ∷ rs) ss g front rest = (front.0, along_join rs ss (after_effects g r.effects) front.1 rest)
