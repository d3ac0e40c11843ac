pub mod CallDenials
pub mod ClientCalls
pub mod ClientDeath
pub mod HeardQuestions
pub mod HolderQuestions
pub mod LeaseReturn
pub mod RegionHandover
pub mod RegionRefusals
pub mod RegionWipe
pub mod RunMoves
pub mod SharedClients
pub mod WaitedTurns
-- Handed on to the crates above, which list only the highest of what they name.
pub use Rattle.libfs.specs as libfs
