-- A small world's walk of two clients: one has a file open and writes to it, the other makes a directory meanwhile.
use Rattle.std.specs.Prelude.{ℕ, List, [], ◌∷◌, Bool, ◌==◌, ◌&&◌, ◌||◌, if◌then◌else◌}
use Rattle.posix_calls.specs.declared.call.Call.TheVariants as call
use Rattle.posix_calls.specs.declared.operation.Operation.TheVariants.{NewDir, Write}
use Rattle.call_effects.specs.file_graph.declared.effect.Kind.TheVariants as kind
use Rattle.call_effects.specs.file_graph.declared.effect.Effect.TheVariants as effect
use Rattle.call_effects.specs.log_record.declared.format.Record.{Record}
use Rattle.world_invariant.specs.World.{Begun, World, log_of, all_of}
use Rattle.world_invariant.specs.ClientSteps.{call_begun, after_reply}
use Rattle.world_invariant.specs.LeaseSteps.{write_taken, after_give, after_fetch}
use Rattle.world_invariant.specs.BookSteps.{units_granted, units_returned, number_granted}
use Rattle.world_invariant.specs.RegionSteps.{region_sealed, taken_back}
use Rattle.world_invariant.specs.KernelSteps.{records_digested}
use Rattle.world_invariant.specs.UnlinkWalk.{open_a, known_world}

-- `mkdir /b`, where the directory gets the number 3
abbrev pub mkdir_b : Begun
mkdir_b = record {
  call = call.Mkdir (47 ∷ 98 ∷ []);
  new = 3;
  operation = NewDir (record { parent = 1; name = 98 ∷ [] });
  change = record { units = 1; effects = effect.Make 3 kind.Directory ∷ effect.Enter 1 3 kind.Directory (98 ∷ []) ∷ effect.Names 3 1 ∷ [] };
}

-- one byte is written to the open file
abbrev pub write_7 : Begun
write_7 = record {
  call = call.Pwrite 0 0 (7 ∷ []);
  new = 0;
  operation = Write 2 0 (7 ∷ []);
  change = record { units = 1; effects = effect.Bytes 2 0 (7 ∷ []) ∷ [] };
}

-- four of client 1's units go to client 2, with the number 3
abbrev pub returned_world : World
returned_world = units_returned known_world 1 4

abbrev pub granted_world : World
granted_world = number_granted (units_granted returned_world 2 4) 2 3

abbrev pub held_three : World
held_three = write_taken granted_world 2 3

-- client 1's record is digested
abbrev pub kept_world : World
kept_world = records_digested (region_sealed held_three 1) 1 (open_a.change ∷ [])

abbrev pub back : World
back = taken_back kept_world 1

-- so no record touches the root, and its lease goes to client 2
abbrev pub passed_world : World
passed_world = write_taken (after_give back 1 1) 2 1

abbrev pub ready : World
ready = after_fetch passed_world 2 1

-- both have a call begun
abbrev pub one : World
one = call_begun ready 2 mkdir_b

abbrev pub two : World
two = call_begun one 1 write_7

-- what a stop leaves: of each client's begun record all or nothing
abbrev pub logs_left : (first second : Bool) → ℕ → List Record
logs_left first second c = if (c == 1 && first) || (c == 2 && second) then all_of two c else log_of two c

-- client 1 is answered, its region sealed beside the other one, which is not wiped yet, and its record digested, while client 2's call is begun
abbrev pub written_world : World
written_world = after_reply two 1 write_7

abbrev pub beside : World
beside = records_digested (region_sealed written_world 1) 1 (write_7.change ∷ [])

-- or both clients are answered, and both regions sealed
abbrev pub both : World
both = region_sealed (region_sealed (after_reply written_world 2 mkdir_b) 1) 2

abbrev pub made_world : World
made_world = after_reply beside 2 mkdir_b
