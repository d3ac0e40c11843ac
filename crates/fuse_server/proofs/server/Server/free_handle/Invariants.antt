use Rattle.std.proofs.Common.{ℕ, ◌<◌, IsSome}
use Rattle.fuse_server.specs.Listings.{listing_at}
use Rattle.fuse_server.proofs.server.Server.free_handle.Given as goal

-- a directory is open under each handle so far
abbrev pub invariant-loop-handle : goal.invariant-loop-handle
invariant-loop-handle l = (lower : ℕ) → lower < l.handle → IsSome (listing_at l.self.listings.items lower)
