-- A small history: a client begins `mkdir /a` and dies, its record is found and digested, it is buried, and a new client takes its seat and meets another one.
use Rattle.std.specs.Prelude.{List, [], ◌∷◌, None}
use Rattle.posix_calls.specs.Run.{Turn, Asked, Departs}
use Rattle.posix_calls.specs.declared.call.Reply.TheVariants.{Done}
use Rattle.world_invariant.specs.file_graph.Graph.{fresh}
use Rattle.world_invariant.specs.call_effects.NodeView.{view_at}
use Rattle.world_invariant.specs.Walk as walk
use Rattle.world_history.specs.declared.begun_call.BegunCall.{BegunCall}
use Rattle.world_history.specs.declared.moves.Move.{Move}
use Rattle.world_history.specs.declared.moves.Move.TheVariants as moves
use Rattle.world_history.specs.Configuration.{Configuration}

-- a root alone, with room for ten units
abbrev pub small_start : Configuration
small_start = record { kernel = record { machine = record { kernel = walk.start.kernel; accepted = λ c. 0 }; failed_digest = None }; clients = walk.start.clients }

abbrev pub mkdir_a : BegunCall
mkdir_a = record { call = walk.mkdir_a.call; new = walk.mkdir_a.new; operation = walk.mkdir_a.operation; change = walk.mkdir_a.change }

abbrev pub small_turns : List Turn
small_turns = Asked 1 mkdir_a.call Done ∷ Departs 1 ∷ []

-- client 1 has begun its call, with what it needs for it
abbrev pub begun_moves : List Move
begun_moves = moves.Began 1 mkdir_a ∷ moves.Fetched 1 1 (view_at fresh 1) ∷ moves.TookWrite 1 2 ∷ moves.TookWrite 1 1 ∷ moves.Granted 1 10 (2 ∷ []) ∷ []

-- it died; its record was found, digested, and its region taken back
abbrev pub kept_moves : List Move
kept_moves = moves.TookBack 1 ∷ moves.Digested 1 (mkdir_a.change ∷ []) ∷ moves.Accepted 1 1 ∷ moves.Sealed 1 0 (mkdir_a.change ∷ []) ∷ moves.Departed 1 ∷ moves.Replied 1 ∷ moves.Died 1 ∷ begun_moves

abbrev pub small_history : List Move
small_history = moves.Met (1 ∷ 2 ∷ []) small_turns ∷ moves.Joined 1 1 ∷ moves.WipedOther 1 ∷ moves.Buried 1 1 ∷ moves.Gave 1 2 ∷ moves.Gave 1 1 ∷ kept_moves
