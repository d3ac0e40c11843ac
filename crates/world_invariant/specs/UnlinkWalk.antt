-- A small world's walk: a client opens a file, unlinks it while it is open, and closes it.
use Rattle.std.specs.Prelude.{[], ◌∷◌, true, false}
use Rattle.posix_calls.specs.declared.call.Call.{Call}
use Rattle.posix_calls.specs.declared.call.Call.TheVariants as call
use Rattle.posix_calls.specs.declared.operation.Operation.{Operation}
use Rattle.posix_calls.specs.declared.operation.Operation.TheVariants.{NewFile, CloseFile, DropName}
use Rattle.call_effects.specs.file_graph.declared.effect.Kind.TheVariants as kind
use Rattle.call_effects.specs.file_graph.declared.effect.Effect.TheVariants as effect
use Rattle.world_invariant.specs.World.{Begun, World}
use Rattle.world_invariant.specs.ClientSteps.{after_answer, call_begun, after_reply}
use Rattle.world_invariant.specs.LeaseSteps.{after_fetch}
use Rattle.world_invariant.specs.BookSteps.{inode_pinned, after_unpin}
use Rattle.world_invariant.specs.RegionSteps.{region_sealed}
use Rattle.world_invariant.specs.KernelSteps.{records_digested, after_reclaim}
use Rattle.world_invariant.specs.Walk as walked

-- `open /a`, which makes a file of the number 2, open under 0
abbrev pub open_a : Begun
open_a = record {
  call = call.Open (47 ∷ 97 ∷ []) (record { read = true; write = true; create = true; exclusive = false; truncate = false });
  new = 2;
  operation = NewFile (record { parent = 1; name = 97 ∷ [] }) 0 true true;
  change = record { units = 2; effects = effect.Make 2 kind.File ∷ effect.Enter 1 2 kind.File (97 ∷ []) ∷ effect.Names 2 1 ∷ [] };
}

-- `unlink /a`
abbrev pub unlink_a : Begun
unlink_a = record {
  call = call.Unlink (47 ∷ 97 ∷ []);
  new = 0;
  operation = DropName (record { parent = 1; name = 97 ∷ [] }) 2;
  change = record { units = 0; effects = effect.Leave 1 (97 ∷ []) ∷ effect.Names 2 0 ∷ [] };
}

abbrev pub close_0 : Call
close_0 = call.Close 0

abbrev pub close_operation : Operation
close_operation = CloseFile 2 0

-- client 1 has the number 2, and holds it and the root for writing; it pins the number
abbrev pub ready : World
ready = inode_pinned walked.ready 1 2

abbrev pub initial_world : World
initial_world = call_begun ready 1 open_a

abbrev pub opened_world : World
opened_world = after_reply initial_world 1 open_a

-- it gets a copy of its new node, and unlinks it
abbrev pub known_world : World
known_world = after_fetch opened_world 1 2

abbrev pub unlink_world : World
unlink_world = call_begun known_world 1 unlink_a

abbrev pub unlinked_world : World
unlinked_world = after_reply unlink_world 1 unlink_a

-- both records are digested: the shared graph has the file, without a name
abbrev pub kept_world : World
kept_world = records_digested (region_sealed unlinked_world 1) 1 (open_a.change ∷ unlink_a.change ∷ [])

-- it is closed, and the pin dropped
abbrev pub closed_world : World
closed_world = after_answer kept_world 1 0 close_operation

abbrev pub released_world : World
released_world = after_unpin closed_world 1 2

abbrev pub emptied_world : World
emptied_world = after_reclaim released_world 2
