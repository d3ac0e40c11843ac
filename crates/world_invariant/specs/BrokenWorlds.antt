-- Small worlds that break one part of the invariant each.
use Rattle.std.specs.Prelude.{ℕ, replicate, ◌+◌, List, [], ◌∷◌, Bool, false, ◌==◌, ◌&&◌, ◌||◌, Some, None, Option, if◌then◌else◌}
use Rattle.posix_calls.specs.declared.call.Call.{Call}
use Rattle.posix_calls.specs.declared.call.Call.TheVariants as call
use Rattle.posix_calls.specs.declared.call.Reply.TheVariants as reply
use Rattle.posix_calls.specs.declared.operation.Operation.{Operation}
use Rattle.posix_calls.specs.declared.operation.Operation.TheVariants.{Tell}
use Rattle.call_effects.specs.file_graph.Graph.{Graph, FileBody, fresh, set_node, after_effects}
use Rattle.call_effects.specs.file_graph.declared.effect.Kind.TheVariants as kind
use Rattle.call_effects.specs.file_graph.declared.effect.Effect.TheVariants as effect
use Rattle.call_effects.specs.file_graph.Units.{charge}
use Rattle.call_effects.specs.log_record.declared.format.Record.{Record}
use Rattle.call_effects.specs.NodeView.{view_at}
use Rattle.call_effects.specs.Knowledge.{with_copy}
use Rattle.world_invariant.specs.World.{Begun, Away, Back, Settled, World, moved_world}
use Rattle.world_invariant.specs.FormatWorld.{knows_nothing, idle_client, idle_account, idle_world}
use Rattle.world_invariant.specs.ClientSteps.{with_client, call_begun, after_reply}
use Rattle.world_invariant.specs.LeaseSteps.{after_fetch, blocks_fetched}
use Rattle.world_invariant.specs.KernelSteps.{records_digested}
use Rattle.world_invariant.specs.BookSteps.{number_granted}
use Rattle.world_invariant.specs.Halves.{number_booked}
use Rattle.world_invariant.specs.RegionSteps.{region_sealed, taken_back}
use Rattle.world_invariant.specs.Walk as walked
use Rattle.world_invariant.specs.UnlinkWalk as unlink_walked
use Rattle.world_invariant.specs.PairWalk as pair_walked
use Rattle.call_effects.specs.Blocks.{block_of}

-- ---- two clients whose records count the names of one file

abbrev pub counted_record : ℕ → Record
counted_record n = record { units = 0; effects = effect.Names 2 n ∷ [] }

abbrev pub both_counting : ℕ → List Record
both_counting c = if c == 1 then counted_record 1 ∷ [] else (if c == 2 then counted_record 3 ∷ [] else [])

-- a file that has no name, and nothing else
abbrev pub one_file : Graph
one_file i = if i == 2 then Some (record { names = 0; body = FileBody [] }) else None

-- ---- records that make a node, and drop it

abbrev pub make_record : Record
make_record = record { units = 1; effects = effect.Make 2 kind.File ∷ [] }

abbrev pub making_directory : Record
making_directory = record { units = 1; effects = effect.Make 2 kind.Directory ∷ [] }

abbrev pub drop_record : Record
drop_record = record { units = 0; effects = effect.Drop 2 ∷ [] }

-- ---- a mark past its records, once the call of the walk is answered

abbrev pub marked_past : World
marked_past = moved_world walked.made_world 1 walked.made_world.kernel.shared (record (walked.made_world.kernel.accounts 1) { mark = 1 }) (walked.made_world.clients 1)

-- ---- a number in two hands, while the call of the walk makes a node of it

abbrev pub granted_twice : World
granted_twice = number_granted walked.make_world 2 2

-- ---- another client has a copy of the root while the call of the walk changes it, and these leases

abbrev pub watch_world : (ℕ → Bool) → World
watch_world reads = with_client walked.make_world 2 (record (idle_client 2 0) { knows = with_copy (knows_nothing 2) 1 (view_at fresh 1); reads = reads })

abbrev pub root_alone : ℕ → Bool
root_alone i = i == 1

-- ---- the call of the walk begins a record that is not the call's

abbrev pub half : Begun
half = record { call = walked.mkdir_a.call; new = 2; operation = walked.mkdir_a.operation; change = record { units = 2; effects = effect.Make 2 kind.Directory ∷ [] } }

abbrev pub misbegun : World
misbegun = call_begun walked.ready 1 half

-- ---- a record that raises the graph, and no unit for it in the book; the root alone fills the capacity

abbrev pub unpaid_record : Record
unpaid_record = record { units = 0; effects = effect.Make 2 kind.File ∷ [] }

abbrev pub overdrawn : Record → World
overdrawn r = moved_world (idle_world (charge fresh) fresh) 1 fresh (record (idle_account 0) { numbers = λ i. i == 2 }) (record (idle_client 1 0) { sealed = r ∷ []; other = Away; writes = λ i. i == 2 })

-- ---- the book has a number that a file without a name has, or one past the inode numbers

abbrev pub with_file : Graph
with_file = set_node fresh 2 (Some (record { names = 0; body = FileBody [] }))

abbrev pub taken_number : World
taken_number = number_booked (idle_world (charge with_file) with_file) 1 2

abbrev pub far_number : World
far_number = number_booked (idle_world (charge fresh) fresh) 1 2000

-- ---- the call of the walk makes a node of a number that isn't in its client's account

abbrev pub unbooked_number : World
unbooked_number = moved_world walked.make_world 1 walked.make_world.kernel.shared (record (walked.make_world.kernel.accounts 1) { numbers = λ i. false }) (walked.make_world.clients 1)

-- ---- a client has made and dropped a node, and may still give its number to another one

abbrev pub used_number : World
used_number = moved_world (idle_world (charge fresh + 1) fresh) 1 fresh (record (idle_account 0) { units = 1; numbers = λ i. i == 2 }) (record (idle_client 1 0) { knows = record (knows_nothing 1) { granted = λ i. i == 2 }; sealed = making_directory ∷ drop_record ∷ []; other = Away; writes = λ i. i == 2 })

-- ---- a client has a file open that lost its name, and the book has no pin of it

abbrev pub unpinned_file : World
unpinned_file = moved_world unlink_walked.kept_world 1 unlink_walked.kept_world.kernel.shared (record (unlink_walked.kept_world.kernel.accounts 1) { pins = λ i. false }) (unlink_walked.kept_world.clients 1)

-- ---- the answered call of the walk made a node of a number that isn't in its client's account

abbrev pub unbooked_node : World
unbooked_node = moved_world walked.made_world 1 walked.made_world.kernel.shared (record (walked.made_world.kernel.accounts 1) { numbers = λ i. false }) (walked.made_world.clients 1)

-- ---- a client is settled, and has a file open that lost its name

abbrev pub still_open : World
still_open = with_client (taken_back unlink_walked.kept_world 1) 1 (record ((taken_back unlink_walked.kept_world 1).clients 1) { status = Settled })

-- ---- the region that is written has the record of the walk's call, and is not wiped

abbrev pub unwiped_world : World
unwiped_world = moved_world walked.made_world 1 walked.made_world.kernel.shared (walked.made_world.kernel.accounts 1) (record (walked.made_world.clients 1) { ready = false })

-- ---- a region that is back has that record

abbrev pub left_behind : World
left_behind = moved_world walked.made_world 1 walked.made_world.kernel.shared (walked.made_world.kernel.accounts 1) (record (walked.made_world.clients 1) { sealed = walked.mkdir_a.change ∷ []; current = []; other = Back })

-- ---- a region is away and has no record

abbrev pub away_empty : World
away_empty = with_client walked.back 1 (record (walked.back.clients 1) { other = Away })

-- ---- a mark before the region that is away

abbrev pub marked_before : World
marked_before = moved_world walked.handed_world 1 walked.handed_world.kernel.shared (walked.handed_world.kernel.accounts 1) (record (walked.handed_world.clients 1) { past = 1 })

-- ---- a client opens a file that it has not pinned

abbrev pub unpinned_open : World
unpinned_open = call_begun walked.ready 1 unlink_walked.open_a

-- it is answered, and unlinks the file

abbrev pub unpinned_known : World
unpinned_known = after_fetch (after_reply unpinned_open 1 unlink_walked.open_a) 1 2

abbrev pub unpinned_unlinked : World
unpinned_unlinked = after_reply (call_begun unpinned_known 1 unlink_walked.unlink_a) 1 unlink_walked.unlink_a

-- both records are digested, while the file is open
abbrev pub unpinned_kept : World
unpinned_kept = records_digested (region_sealed unpinned_unlinked 1) 1 (unlink_walked.open_a.change ∷ unlink_walked.unlink_a.change ∷ [])

-- ---- there is a file and no root

abbrev pub rootless : World
rootless = idle_world (charge one_file) one_file

-- ---- a file without a name has these bytes, which may be more than a file may have

abbrev pub with_bytes : List ℕ → Graph
with_bytes bytes = set_node fresh 2 (Some (record { names = 0; body = FileBody bytes }))

-- n zeros
unfoldable pub zeros : ℕ → List ℕ
zeros n = replicate n 0

abbrev pub large_file : List ℕ → World
large_file bytes = idle_world (charge (with_bytes bytes)) (with_bytes bytes)

-- ---- the root alone fills the capacity, and there is a file too

abbrev pub overfull : World
overfull = idle_world (charge fresh) (after_effects fresh unpaid_record.effects)

-- ---- a client has a lease on the root, and a copy of it without the entry that it has now; it is asked for the root

abbrev pub entered_graph : Graph
entered_graph = after_effects fresh walked.mkdir_a.change.effects

abbrev pub stale : World
stale = with_client (idle_world (charge entered_graph) entered_graph) 2 (record (idle_client 2 0) { knows = with_copy (knows_nothing 2) 1 (view_at fresh 1); reads = root_alone })

abbrev pub stat_root : Call
stat_root = call.Stat (47 ∷ [])

abbrev pub no_entries : Operation
no_entries = Tell (reply.Dir 0)

-- ---- the call of the walk is begun in a region that is not wiped

abbrev pub begun_unwiped : World
begun_unwiped = moved_world walked.make_world 1 walked.make_world.kernel.shared (walked.make_world.kernel.accounts 1) (record (walked.make_world.clients 1) { ready = false })

-- ---- a client is settled while it has a call begun that opens a file

abbrev pub settled_opening : World
settled_opening = with_client unlink_walked.initial_world 1 (record (unlink_walked.initial_world.clients 1) { status = Settled })

-- ---- a client whose call is begun takes itself for another one

abbrev pub misnumbered_world : World
misnumbered_world = with_client unlink_walked.initial_world 1 (record (unlink_walked.initial_world.clients 1) { knows = record (unlink_walked.initial_world.clients 1).knows { client = 2 } })

-- ---- a client has a file open that lost its name, and nobody has pinned it

abbrev pub unpinned_client : World
unpinned_client = moved_world unlink_walked.kept_world 1 unlink_walked.kept_world.kernel.shared (record (unlink_walked.kept_world.kernel.accounts 1) { pins = λ i. false }) (record (unlink_walked.kept_world.clients 1) { pins = λ i. false })

-- ---- a client makes two nodes of one number

abbrev pub made_twice : World
made_twice = moved_world (idle_world (charge fresh + 2) fresh) 1 fresh (record (idle_account 0) { units = 2; numbers = λ i. i == 2 }) (record (idle_client 1 0) { sealed = making_directory ∷ drop_record ∷ make_record ∷ []; other = Away; writes = λ i. i == 2 })

-- ---- a record that is not digested gives a name to a file that has none in the shared graph

abbrev pub name_record : Record
name_record = record { units = 1; effects = effect.Enter 1 2 kind.File (97 ∷ []) ∷ effect.Names 2 1 ∷ [] }

abbrev pub to_be_named : World
to_be_named = moved_world (idle_world (charge with_file + 1) with_file) 1 with_file (record (idle_account 0) { units = 1 }) (record (idle_client 1 0) { sealed = name_record ∷ []; other = Away; writes = λ i. i == 1 || i == 2 })

-- ---- a record takes a directory past a limit, and the next one back

abbrev pub past_limit : World
past_limit = moved_world (idle_world (charge entered_graph) entered_graph) 1 entered_graph (idle_account 0) (record (idle_client 1 0) { sealed = counted_record 2000 ∷ counted_record 1 ∷ []; other = Away; writes = λ i. i == 2 })

-- ---- the answered call of the walk made a directory that its client doesn't hold any more

abbrev pub unleased_world : World
unleased_world = with_client walked.made_world 1 (record (walked.made_world.clients 1) { reads = λ i. false; writes = root_alone })

-- ---- another client has a block of a file that it doesn't hold, while a call writes the file

abbrev pub first_block : ℕ → ℕ → Option (List ℕ)
first_block i b = if i == 2 && (b == 0) then Some (block_of 0 []) else None

abbrev pub block_watching : World
block_watching = with_client pair_walked.two 2 (record (pair_walked.two.clients 2) { knows = record (pair_walked.two.clients 2).knows { blocks = first_block } })

-- ---- a call that has begun its record reads a byte, and changes nothing

abbrev pub read_ready : World
read_ready = blocks_fetched pair_walked.written_world 1 2 0 1 (7 ∷ [])

abbrev pub begun_read : Begun
begun_read = record { call = call.Pread 0 0 1; new = 0; operation = Tell (reply.Read (7 ∷ [])); change = record { units = 0; effects = [] } }

abbrev pub begun_reading : World
begun_reading = call_begun read_ready 1 begun_read
