use Rattle.std.proofs.Common.{◌+◌, refl, sym, arith}
use Rattle.fuse_wire.proofs.ZeroBytes.{after_name, behind_unclosed, next_name, no_name, none_stays}
use Rattle.fuse_wire.proofs.names.behind_names.Goals as goal

pub returns-in-None : goal.returns-in-None
returns-in-None c =
    let rest = c.loop.rest.now in
    let none = no_name c.loop.counter c.args.bytes.now rest c.loop.invariant (behind_unclosed rest (c.in-None.ensures.unclosed refl)) in
    sym (none_stays c.args.names (c.loop.counter + 1) c.args.bytes.now (omega arith) none)

pub loop-preserved : goal.loop-preserved
loop-preserved c = next_name c.loop.counter c.args.bytes.now c.loop.rest.now _ c.loop.invariant (after_name _ _ _ c.in-Some.ensures.name c.in-Some.ensures.closed)
