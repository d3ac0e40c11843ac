use Rattle.std.proofs.Common.{◌≡◌}
use Rattle.fuse_server.proofs.requests.forget_all.Given as goal

-- no time changes
abbrev pub invariant-loop-place : goal.invariant-loop-place
invariant-loop-place l = l.tables.times ≡ l.fn.tables.times
