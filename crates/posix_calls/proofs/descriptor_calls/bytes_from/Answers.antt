use Rattle.std.proofs.Common.{sym, ◌∙◌}
use Rattle.posix_calls.proofs.Chain.{gives_as, tells_is, range_told, bytes_none, bytes_some}
use Rattle.posix_calls.proofs.descriptor_calls.bytes_from.Goals as goal

pub returns-then-count-eq0-clause-answer : goal.returns-then-count-eq0-clause-answer
returns-then-count-eq0-clause-answer g c = tells_is (bytes_none c.args.inode c.args.at c.args.count c.if-count-eq0.true) (gives_as (sym (c.from_vec.ensures ∙ c.new.ensures.items)))

pub returns-clause-answer : goal.returns-clause-answer
returns-clause-answer g c = tells_is (bytes_some c.args.inode c.args.at c.args.count c.if-count-eq0.false) (range_told c.args.inode c.args.at c.args.count c.known_or_missing.result c.in_ok-answer.ensures.bytes c.blocks_missing.ensures c.known_or_missing.ensures.known c.known_or_missing.ensures.missing)
