-- What a recovery finds and keeps: a graph, and of each client the records that are not digested yet. It knows nothing else of the world.
use Rattle.std.specs.Prelude.{◌≡◌, ℕ, ◌+◌, ◌≤◌, List, true}
use Rattle.posix_calls.specs.Tree.{sum_up_to}
use Rattle.posix_calls.specs.Operations.{is_client}
use Rattle.posix_calls.specs.declared.limits.TheConstants.{MAX_CLIENTS}
use Rattle.call_effects.specs.file_graph.Graph.{Graph}
use Rattle.call_effects.specs.file_graph.Units.{charge}
use Rattle.call_effects.specs.log_record.declared.format.Record.{Record}
use Rattle.call_effects.specs.ClosedGraph.{nobody}
use Rattle.call_effects.specs.Wholes.{IsSound}
use Rattle.world_invariant.specs.Limits.{AreWithin}
use Rattle.world_invariant.specs.Logs.{after_clients, units_in, LogsAreApart, ArePaid, KeepLimits}

pub record IsRecoverable (capacity : ℕ) (g : Graph) (logs : ℕ → List Record) : Type 0 where
  -- no inode is written by the records of two clients
  pub apart : LogsAreApart logs
  -- the graph is within the limits, and each client's records keep it so and are paid for, whether others come before them or not
  pub limits : AreWithin g
  pub keep : (c : ℕ) → is_client c ≡ true → KeepLimits g (logs c)
  pub paid : (c : ℕ) → is_client c ≡ true → ArePaid g (logs c)
  -- what is charged and the units of all records fit together
  pub fits : charge g + sum_up_to MAX_CLIENTS (λ c. units_in (logs c)) ≤ capacity
  -- the graph after all of them is sound without descriptors
  pub sound : IsSound (after_clients logs g MAX_CLIENTS) nobody
