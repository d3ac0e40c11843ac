-- Who takes part in a move: the kernel, its client, the client's region that is away. Each lists the moves in which it takes part.
use Rattle.std.specs.Prelude.{ℕ, ◌+◌, ◌-◌, nat_lt, List, [], ◌∷◌, Bool, true, false, ◌==◌, ◌&&◌, ◌||◌, if◌then◌else◌}
use Rattle.world_invariant.specs.file_graph.Graph.{is_among}
use Rattle.world_history.specs.declared.moves.Move.{Move}
use Rattle.world_history.specs.declared.moves.Move.TheVariants as moves
use Rattle.world_history.specs.Moves.{client_of, restarts}

-- whether the kernel does
abbrev pub is_kernels : Move → Bool
is_kernels (moves.Fetched c i copy) = true
is_kernels (moves.FetchedBlocks c i first count bytes) = true
is_kernels (moves.Granted c units numbers) = true
is_kernels (moves.Returned c units numbers) = true
is_kernels (moves.Pinned c i) = true
is_kernels (moves.Unpinned c i) = true
is_kernels (moves.Buried c mark) = true
is_kernels (moves.Accepted c total) = true
is_kernels (moves.Digested c records) = true
is_kernels (moves.DigestFailed c records) = true
is_kernels (moves.Reclaimed i) = true
is_kernels (moves.Shared o) = true
is_kernels moves.Rejoined = true
is_kernels _ = false

-- whether its client does: all but where the kernel has a region of it alone, or a file; those of several clients are in `has_met` and `restarts`
abbrev pub is_clients : Move → Bool
is_clients (moves.Accepted c total) = false
is_clients (moves.Digested c records) = false
is_clients (moves.DigestFailed c records) = false
is_clients (moves.Reclaimed i) = false
is_clients (moves.Met clients seen) = false
is_clients (moves.Shared o) = false
is_clients moves.Rejoined = false
is_clients _ = true

-- whether the region of its client that is away does
abbrev pub is_regions : Move → Bool
is_regions (moves.Sealed c past records) = true
is_regions (moves.TookBack c) = true
is_regions (moves.Accepted c total) = true
is_regions (moves.Digested c records) = true
is_regions (moves.DigestFailed c records) = true
is_regions _ = false

-- whether clients meet, this one among them
abbrev pub has_met : ℕ → Move → Bool
has_met c (moves.Met clients seen) = is_among c clients
has_met c _ = false

-- ---- the participants

pub data Participant : Type 0 where
  OfKernel : Participant
  OfClient : (client : ℕ) → Participant
  -- a client's region that is away; one at most is
  OfRegion : (client : ℕ) → Participant

abbrev pub takes_part : Participant → Move → Bool
takes_part OfKernel m = is_kernels m
takes_part (OfClient c) m = ((c == client_of m && is_clients m) || has_met c m) || restarts m
takes_part (OfRegion c) m = (c == client_of m && is_regions m) || restarts m

-- their places in a table: clients 1 to 8 first, then their regions, then the kernel
abbrev pub participant_at : ℕ → Participant
participant_at place = if nat_lt place 8 then OfClient (place + 1) else (if nat_lt place 16 then OfRegion (place - 7) else OfKernel)

-- the moves of a history in which one takes part
abbrev pub projection : (Move → Bool) → List Move → List Move
projection takes [] = []
projection takes (m ∷ older) = if takes m then m ∷ projection takes older else projection takes older

abbrev pub moves_of : Participant → List Move → List Move
moves_of q h = projection (takes_part q) h
