-- A history is a list of moves, the newest first, each of which may follow those before it; and the turns that it makes of the file tree.
use Rattle.std.specs.Prelude.{◌≡◌, ℕ, List, [], ◌∷◌, ◌++◌, false, Option, Some, None, if◌then◌else◌}
use Rattle.posix_calls.specs.Tree.{State}
use Rattle.posix_calls.specs.Operations.{reply_of}
use Rattle.posix_calls.specs.Run.{Turn, Asked, Departs}
use Rattle.posix_calls.specs.declared.call.Reply.TheVariants as replies
use Rattle.world_invariant.specs.World.{Begun, Client}
use Rattle.world_history.specs.declared.moves.Move.{Move}
use Rattle.world_history.specs.declared.moves.Move.TheVariants as moves
use Rattle.world_history.specs.Configuration.{Configuration, tree_of, plain}
use Rattle.world_history.specs.Opening.{opening_tree}
use Rattle.world_history.specs.Moves.{client_of, restarts, after_move}
use Rattle.world_history.specs.Conditions.{MayFollow}

abbrev pub after_moves : Configuration → List Move → Configuration
after_moves s [] = s
after_moves s (m ∷ older) = after_move (after_moves s older) m

-- ---- its turns

abbrev pub begun_turn : ℕ → Option Begun → List Turn
begun_turn c None = []
begun_turn c (Some b) = Asked c b.call (reply_of b.operation) ∷ []

-- the turn that a move is, if it is one, by what its client was before
abbrev pub turn_of : Move → Client → List Turn
turn_of (moves.Answered c call new operation) p = Asked c call (reply_of operation) ∷ []
turn_of (moves.Refused c call errno) p = Asked c call (replies.Failed errno) ∷ []
turn_of (moves.Replied c) p = begun_turn c p.begun
turn_of (moves.Departed c) p = Departs c ∷ []
turn_of _ p = []

-- the turns since all parts began anew, the oldest first
abbrev pub turns_in : Configuration → List Move → List Turn
turns_in s [] = []
turns_in s (m ∷ older) = if restarts m then [] else turns_in s older ++ turn_of m ((after_moves s older).clients (client_of m))

-- the file tree with which they began
abbrev pub restarted : Move → State → State
restarted (moves.Shared o) old = opening_tree o
restarted moves.Rejoined old = tree_of plain
restarted _ old = old

abbrev pub opening_of : Configuration → List Move → State
opening_of s [] = tree_of s
opening_of s (m ∷ older) = restarted m (opening_of s older)

-- with none of these moves all parts begin anew
abbrev pub NoneRestarts : List Move → Type 0
NoneRestarts [] = Unit {0}
NoneRestarts (m ∷ older) = (restarts m ≡ false) × NoneRestarts older

-- ---- when it is one

-- who meets sees all turns so far
abbrev pub SeesAll : Configuration → List Move → Move → Type 0
SeesAll s older (moves.Met clients seen) = seen ≡ turns_in s older
SeesAll s older _ = Unit {0}

abbrev pub IsHistory : Configuration → List Move → Type 0
IsHistory s [] = Unit {0}
IsHistory s (m ∷ older) = (MayFollow (after_moves s older) m × SeesAll s older m) × IsHistory s older
