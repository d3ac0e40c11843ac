use Rattle.std.proofs.Common.{◌≡◌, drop, map, take}
use Rattle.fuse_server.specs.Listings.{all_entries, dir_entry}
use Rattle.fuse_server.proofs.server.Server.entries.Given as goal

-- the entries so far
abbrev pub invariant-loop-place : goal.invariant-loop-place
invariant-loop-place l = map dir_entry l.entries.items ≡ take l.place (drop l.at (all_entries l.self.tables.nodes l.listing))
