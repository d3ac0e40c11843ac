-- What a stop stores.
use Rattle.std.specs.Prelude.{◌≡◌, ◌⊎◌, ℕ, List, [], ◌++◌, true, None, option_map, if◌then◌else◌}
use Rattle.posix_calls.specs.Operations.{is_client}
use Rattle.posix_calls.specs.WellFormed.{IsWellFormed, IsWithinLimits}
use Rattle.posix_calls.specs.declared.limits.TheConstants.{MAX_CLIENTS}
use Rattle.call_effects.specs.file_graph.Graph.{Graph}
use Rattle.call_effects.specs.log_record.declared.format.Record.{Record}
use Rattle.call_effects.specs.ClosedGraph.{nobody, settled_graph}
use Rattle.call_effects.specs.Wholes.{state_of}
use Rattle.world_invariant.specs.Logs.{after_clients}
use Rattle.world_invariant.specs.Recovery.{IsRecoverable}
use Rattle.posix_calls.specs.Outcome.{Unfinished, IsOutcome}
use Rattle.world_invariant.specs.World.{World, change_of, log_of, world_state}

-- in place of each log it leaves the log, or the log and the begun record
abbrev pub Leaves : World → (ℕ → List Record) → Type 0
Leaves w logs = (c : ℕ) → is_client c ≡ true → (logs c ≡ log_of w c) ⊎ (logs c ≡ log_of w c ++ change_of (w.clients c).begun)

-- the shared graph after all of these logs
abbrev pub stored_graph : World → (ℕ → List Record) → Graph
stored_graph w logs = after_clients logs w.kernel.shared MAX_CLIENTS

-- the calls that have begun a record
abbrev pub begun_calls : World → Unfinished
begun_calls w c = if is_client c then option_map (λ b. b.call) (w.clients c).begun else None

-- what is stored is what a recovery can go on from; once it is settled, its state is well-formed and within the limits, and is the tree after
-- some of the begun calls
pub record Stores (w : World) (logs : ℕ → List Record) : Type 0 where
  pub recoverable : IsRecoverable w.kernel.capacity w.kernel.shared logs
  pub well_formed : IsWellFormed (state_of (settled_graph (stored_graph w logs)) nobody)
  pub within : IsWithinLimits (state_of (settled_graph (stored_graph w logs)) nobody).tree
  pub outcome : IsOutcome (world_state w) [] (begun_calls w) (state_of (settled_graph (stored_graph w logs)) nobody)
