use Rattle.std.proofs.Common.{sym, ◌∙◌}
use Rattle.log_record.proofs.Records.{is_payload-at_end, is_payload-none}
use Rattle.log_record.proofs.record_reads.is_payload.Goals as goal

pub returns-in-Some : goal.returns-in-Some
returns-in-Some c = c.is_empty.ensures ∙ sym (is_payload-at_end c.args.bytes.now c.in-Some.rest.now (sym c.in-Some.ensures))

pub returns-in-None : goal.returns-in-None
returns-in-None c = sym (is_payload-none c.args.bytes.now (sym c.in-None.ensures))
