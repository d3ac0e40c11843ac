use Rattle.std.proofs.Common.{arith, subst}
use Rattle.script.specs.Parts.{Adds}
use Rattle.script.proofs.LineLemmas.{begins_too_long, line_grows, line_ends, line_is_last}
use Rattle.script.proofs.script.reader.ScriptLines.read_next.Goals as goal

pub loop-preserved : goal.loop-preserved
loop-preserved g c =
    let i = c.loop.invariant in
    let old = g.R.Read.remaining c.loop.self-inside.reader in
    let left = g.R.Read.remaining c.add_part.new.reader in
    let line = c.add_part.new.line.items in
    let adds = subst (Adds old left c.loop.self-inside.line.items line) c.in-Open.is c.in_ok-add_part.ensures.adds in
    let grown = line_grows _ old left c.loop.self-inside.line.items line i.within i.read adds in
    record { number = i.number; short = c.add_part.ensures.within; within = grown.0; read = grown.1 }

pub returns-in-Newline-clause-line : goal.returns-in-Newline-clause-line
returns-in-Newline-clause-line g c = λ is.
    let i = c.loop.invariant in
    let old = g.R.Read.remaining c.loop.self-inside.reader in
    let left = g.R.Read.remaining c.add_part.new.reader in
    let line = c.add_part.new.line.items in
    let adds = subst (Adds old left c.loop.self-inside.line.items line) c.in-Newline.is c.in_ok-add_part.ensures.adds in
    line_ends _ old left c.loop.self-inside.line.items line c.in-Newline.more i.within i.read adds

pub returns-in-Input-clause-line : goal.returns-in-Input-clause-line
returns-in-Input-clause-line g c = λ is.
    let i = c.loop.invariant in
    let old = g.R.Read.remaining c.loop.self-inside.reader in
    let left = g.R.Read.remaining c.add_part.new.reader in
    let line = c.add_part.new.line.items in
    let adds = subst (Adds old left c.loop.self-inside.line.items line) c.in-Input.is c.in_ok-add_part.ensures.adds in
    line_is_last _ old left c.loop.self-inside.line.items line i.within i.read adds (grind (arith, c.is_empty.ensures, is))

pub returns-in-TooLong-clause-too_long : goal.returns-in-TooLong-clause-too_long
returns-in-TooLong-clause-too_long g c = λ n is.
    let left = g.R.Read.remaining c.add_part.new.reader in
    let line = c.add_part.new.line.items in
    let adds = subst (Adds (g.R.Read.remaining c.loop.self-inside.reader) left c.loop.self-inside.line.items line) c.in-TooLong.is c.in_ok-add_part.ensures.adds in
    begins_too_long _ _ left _ line c.loop.invariant.within c.loop.invariant.read adds
