use Rattle.std.proofs.Common.{sym, ◌∙◌}
use Rattle.log_record.proofs.Touched.{none_at_front, none_before_end, whole_is}
use Rattle.log_record.proofs.touched_inodes.read_touched_inodes.Goals as goal

pub returns-in_err-found : goal.returns-in_err-found
returns-in_err-found c = c.from_residual.ensures ∙ sym (none_at_front c.args.bytes.now (sym c.in_err-found.ensures))

pub returns-then-not-is_empty : goal.returns-then-not-is_empty
returns-then-not-is_empty c = sym (none_before_end c.args.bytes.now c.in_ok-found.found c.in_ok-found.rest.now (sym c.in_ok-found.ensures) (sym c.is_empty.ensures ∙ c.if-not-is_empty.true))

pub returns : goal.returns
returns c = sym (whole_is c.args.bytes.now c.in_ok-found.found c.in_ok-found.rest.now (sym c.in_ok-found.ensures) (sym c.is_empty.ensures ∙ c.if-not-is_empty.false))
