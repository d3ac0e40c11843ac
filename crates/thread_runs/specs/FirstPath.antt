-- What records make of a graph, and what a recovery finds behind a stop.
use Rattle.std.specs.Prelude.{◌≡◌, ℕ, List, [], ◌∷◌, drop, codes}
use Rattle.posix_calls.specs.declared.limits.TheConstants.{ROOT}
use Rattle.plain_tree.specs.file_graph.Graph.{Graph, fresh, after_effects}
use Rattle.plain_tree.specs.file_graph.declared.effect.Effect.{Effect}
use Rattle.plain_tree.specs.file_graph.declared.effect.Effect.TheVariants as effect
use Rattle.plain_tree.specs.file_graph.declared.effect.Kind.TheVariants as kind
use Rattle.script.specs.log_record.declared.format.Record.{Record}
use Rattle.tier_device.specs.declared.media.Tier.TheVariants.{Fast}
use Rattle.tier_device.specs.declared.stop.StopMedia.{StopMedia}
use Rattle.tier_device.specs.Memory.{IsAtRest, memory_left, memory_moment}
use Rattle.tier_device.specs.Stop.{medium_of}
use Rattle.script.specs.update_log.Frames.{records}
use Rattle.thread_runs.specs.declared.shared_graph.TheConstants.{FILE}

-- what makes an empty file of this name in the root
abbrev pub file_effects : List ℕ → List Effect
file_effects name = effect.Make FILE kind.File ∷ effect.Enter ROOT FILE kind.File name ∷ effect.Names FILE 1 ∷ []

-- a root with the empty file `/f`
abbrev pub root_with_f : Graph
root_with_f = after_effects fresh (file_effects (codes "f"))

-- the graph after a replay of records, one after the other
abbrev pub after_replay : Graph → List Record → Graph
after_replay g [] = g
after_replay g (r ∷ rs) = after_replay (after_effects g r.effects) rs

-- nothing is pending on a medium of a run
abbrev pub IsRunAtRest : StopMedia → Type 0
IsRunAtRest medium = IsAtRest (medium_of medium)

-- a stop now may leave this of a region's medium
abbrev pub MayBeLeft : StopMedia → List ℕ → Type 0
MayBeLeft region content = memory_left (medium_of region) (memory_moment (medium_of region)) Fast content

-- these are the records of one of the contents that a stop may leave
abbrev pub MayHold : StopMedia → List Record → Type 0
MayHold region found = (c : List ℕ) × MayBeLeft region c × (found ≡ records c)

-- a graph with all records of such a content but the first ones, which were done
abbrev pub IsRecovered : StopMedia → ℕ → Graph → Graph → Type 0
IsRecovered region done g after = (found : List Record) × MayHold region found × (after ≡ after_replay g (drop done found))
