-- A small world's walk of five nodes and six records over two clients: one unlinks a file that the other has open.
use Rattle.std.specs.Prelude.{[], ◌∷◌, true, false}
use Rattle.posix_calls.specs.declared.call.Call.TheVariants as call
use Rattle.posix_calls.specs.declared.operation.Operation.TheVariants.{NewDir, NewFile}
use Rattle.call_effects.specs.file_graph.declared.effect.Kind.TheVariants as kind
use Rattle.call_effects.specs.file_graph.declared.effect.Effect.TheVariants as effect
use Rattle.world_invariant.specs.World.{Begun, World}
use Rattle.world_invariant.specs.ClientSteps.{call_begun, after_reply}
use Rattle.world_invariant.specs.LeaseSteps.{write_taken, after_give, after_fetch}
use Rattle.world_invariant.specs.BookSteps.{number_granted, inode_pinned}
use Rattle.world_invariant.specs.RegionSteps.{region_sealed, taken_back, current_wiped}
use Rattle.world_invariant.specs.KernelSteps.{records_digested}
use Rattle.world_invariant.specs.UnlinkWalk.{unlink_a}
use Rattle.world_invariant.specs.PairWalk.{mkdir_b}
use Rattle.world_invariant.specs.PairWalk as pair

-- `mkdir /b/x`, where the directory gets the number 4
abbrev pub mkdir_x : Begun
mkdir_x = record {
  call = call.Mkdir (47 ∷ 98 ∷ 47 ∷ 120 ∷ []);
  new = 4;
  operation = NewDir (record { parent = 3; name = 120 ∷ [] });
  change = record { units = 2; effects = effect.Make 4 kind.Directory ∷ effect.Enter 3 4 kind.Directory (120 ∷ []) ∷ effect.Names 4 1 ∷ [] };
}

-- `open /b/y`, which makes a file of the number 5, open under 0
abbrev pub open_y : Begun
open_y = record {
  call = call.Open (47 ∷ 98 ∷ 47 ∷ 121 ∷ []) (record { read = true; write = true; create = true; exclusive = false; truncate = false });
  new = 5;
  operation = NewFile (record { parent = 3; name = 121 ∷ [] }) 0 true true;
  change = record { units = 1; effects = effect.Make 5 kind.File ∷ effect.Enter 3 5 kind.File (121 ∷ []) ∷ effect.Names 5 1 ∷ [] };
}

-- client 1 has `/a` open, and both of its records digested; its region is back, the one that it is to write next is wiped, and the lease on the file goes to client 2
abbrev pub back : World
back = current_wiped (taken_back pair.made_world 1) 1

abbrev pub passed_world : World
passed_world = after_give back 1 2

-- client 2 gets two numbers and three leases, copies of the directory that it made and of the file, and a pin
abbrev pub granted_world : World
granted_world = number_granted (number_granted passed_world 2 4) 2 5

abbrev pub lease_world : World
lease_world = write_taken (write_taken (write_taken granted_world 2 4) 2 5) 2 2

abbrev pub known_world : World
known_world = after_fetch (after_fetch lease_world 2 3) 2 2

abbrev pub ready : World
ready = inode_pinned known_world 2 5

-- it makes a directory and a file in it, and unlinks `/a`
abbrev pub make_world : World
make_world = call_begun ready 2 mkdir_x

abbrev pub made_world : World
made_world = after_reply make_world 2 mkdir_x

abbrev pub initial_world : World
initial_world = call_begun made_world 2 open_y

abbrev pub opened_world : World
opened_world = after_reply initial_world 2 open_y

abbrev pub unlink_world : World
unlink_world = call_begun opened_world 2 unlink_a

abbrev pub unlinked_world : World
unlinked_world = after_reply unlink_world 2 unlink_a

-- its four records are digested
abbrev pub kept_world : World
kept_world = records_digested (region_sealed unlinked_world 2) 2 (mkdir_b.change ∷ mkdir_x.change ∷ open_y.change ∷ unlink_a.change ∷ [])
