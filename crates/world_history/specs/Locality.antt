-- What a move asks is asked of those who take part in it.
use Rattle.std.specs.Prelude.{◌≡◌, Bool, true, false}
use Rattle.world_invariant.specs.World.{Client}
use Rattle.world_history.specs.declared.moves.Move.{Move}
use Rattle.world_history.specs.declared.moves.Move.TheVariants as moves
use Rattle.world_history.specs.Configuration.{KernelPart, Configuration}
use Rattle.world_history.specs.Moves.{client_of}
use Rattle.world_history.specs.Conditions.{MayFollow}
use Rattle.world_history.specs.Participants.{is_kernels}

-- a kernel and one client, by themselves
abbrev pub local : KernelPart → Client → Configuration
local k p = record { kernel = k; clients = λ d. p }

-- whether a move asks of its client alone, and of the kernel where that takes part: nothing of others' leases, of a region that is away, of a mark
-- or of the turns so far
abbrev pub asks_locally : Move → Bool
asks_locally (moves.TookRead c i) = false
asks_locally (moves.TookWrite c i) = false
asks_locally (moves.Gave c i) = false
asks_locally (moves.Joined c mark) = false
asks_locally (moves.TookBack c) = false
asks_locally (moves.Accepted c total) = false
asks_locally (moves.Digested c records) = false
asks_locally (moves.DigestFailed c records) = false
asks_locally (moves.Met clients seen) = false
asks_locally (moves.Shared o) = false
asks_locally moves.Rejoined = false
asks_locally _ = true

-- if its client, and the kernel where that takes part, say by themselves that it may follow, it may, whatever all others are
abbrev pub IsLocal : Move → Type 0
IsLocal m = (s : Configuration) (k : KernelPart) → (is_kernels m ≡ true → k ≡ s.kernel) → MayFollow (local k (s.clients (client_of m))) m → MayFollow s m
