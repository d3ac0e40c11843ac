-- What goes wrong in small worlds that break one part of the invariant each: logs over a graph.
use Rattle.std.proofs.Common.{◌≢◌, ◌==◌, Bool, false, [], ◌∷◌, refl, Some, None, Option, ap, sym}
use Rattle.std.proofs.lemmas.Bool.{false≢true}
use Rattle.call_effects.specs.file_graph.Graph.{Graph, Node}
use Rattle.world_invariant.specs.Logs.{after_each, LogsAreApart}
use Rattle.world_invariant.specs.BrokenWorlds.{both_counting, one_file}

-- ---- a record that touches what its client doesn't hold

pub not_apart : LogsAreApart both_counting → ⊥
not_apart apart = false≢true (sym (apart 1 2 2 refl refl (λ e. false≢true (ap (λ n. n == 1) e)) refl))

counts_three : Option Node → Bool
counts_three None = false
counts_three (Some n) = n.names == 3

pub order_seen : after_each both_counting one_file (1 ∷ 2 ∷ []) ≢ after_each both_counting one_file (2 ∷ 1 ∷ [])
unfolding counts_three
order_seen e = false≢true (sym (ap (λ (g : Graph). counts_three (g 2)) e))

counts_one : Option Node → Bool
counts_one None = false
counts_one (Some n) = n.names == 1
