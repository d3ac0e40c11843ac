-- A small world's walk: a client makes a directory, its record is digested, and another client takes the lease over.
use Rattle.std.specs.Prelude.{◌+◌, [], ◌∷◌}
use Rattle.posix_calls.specs.declared.call.Call.TheVariants as call
use Rattle.posix_calls.specs.declared.operation.Operation.TheVariants.{NewDir}
use Rattle.call_effects.specs.file_graph.Graph.{fresh}
use Rattle.call_effects.specs.file_graph.Units.{charge}
use Rattle.call_effects.specs.file_graph.declared.effect.Kind.TheVariants as kind
use Rattle.call_effects.specs.file_graph.declared.effect.Effect.TheVariants as effect
use Rattle.world_invariant.specs.World.{Begun, World}
use Rattle.world_invariant.specs.FormatWorld.{opening_world}
use Rattle.world_invariant.specs.ClientSteps.{call_begun, after_reply}
use Rattle.world_invariant.specs.LeaseSteps.{write_taken, after_give, after_fetch}
use Rattle.world_invariant.specs.BookSteps.{units_granted, number_granted}
use Rattle.world_invariant.specs.RegionSteps.{region_sealed, taken_back}
use Rattle.world_invariant.specs.KernelSteps.{records_digested}

-- `mkdir /a`, where the directory gets the number 2
abbrev pub mkdir_a : Begun
mkdir_a = record {
  call = call.Mkdir (47 ∷ 97 ∷ []);
  new = 2;
  operation = NewDir (record { parent = 1; name = 97 ∷ [] });
  change = record { units = 2; effects = effect.Make 2 kind.Directory ∷ effect.Enter 1 2 kind.Directory (97 ∷ []) ∷ effect.Names 2 1 ∷ [] };
}

-- room for ten units beside the empty root
abbrev pub start : World
start = opening_world (charge fresh + 10)

-- client 1 gets ten units and the number 2
abbrev pub granted_world : World
granted_world = number_granted (units_granted start 1 10) 1 2

-- it holds the root and the number for writing, and has a copy of the root
abbrev pub lease_world : World
lease_world = write_taken (write_taken granted_world 1 1) 1 2

abbrev pub ready : World
ready = after_fetch lease_world 1 1

-- its call has begun
abbrev pub make_world : World
make_world = call_begun ready 1 mkdir_a

abbrev pub made_world : World
made_world = after_reply make_world 1 mkdir_a

-- its region is sealed, digested and back
abbrev pub handed_world : World
handed_world = region_sealed made_world 1

abbrev pub kept_world : World
kept_world = records_digested handed_world 1 (mkdir_a.change ∷ [])

abbrev pub back : World
back = taken_back kept_world 1

-- the lease on the directory goes to client 2
abbrev pub passed_world : World
passed_world = write_taken (after_give back 1 2) 2 2
