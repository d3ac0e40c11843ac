use Rattle.std.proofs.Common.{◌≡◌, Err, ap, inl, inr, sym, ◌∙◌}
use Rattle.std.proofs.lemmas.Bool.{false≢true}
use Rattle.event_steps.specs.Regions.{refusal_to_read}
use Rattle.event_steps.proofs.Chunks.{only_read}
use Rattle.event_steps.proofs.log_accept.read_region.Goals as goal

pub returns-in-Ok-clause-read : goal.returns-in-Ok-clause-read
returns-in-Ok-clause-read g c = record {
  read = c.in-Ok.ensures.only_read;
  rest = only_read c.args.region.now c.read_records.new.self c.in-Ok.ensures.rest;
  kept = λ _. c.in-Ok.ensures.read;
}

pub returns-in-Err-clause-read : goal.returns-in-Err-clause-read
returns-in-Err-clause-read g c = record {
  read = c.in-Err.ensures.only_read;
  rest = only_read c.args.region.now c.read_records.new.self c.in-Err.ensures.rest;
  kept = λ is. absurd (false≢true (sym c.in-Err.ensures.unread.0 ∙ is));
}

pub returns-in-Err-clause-only : goal.returns-in-Err-clause-only
returns-in-Err-clause-only g c =
    let e = c.in-Err.ensures in
    let why : c.refusal_to_read.result ≡ refusal_to_read c.in-Err.error = c.refusal_to_read.ensures in
    elim e.only [
      | inl fault ↦ inr (why ∙ ap refusal_to_read fault, e.fault (ap Err fault))
      | inr memory ↦ inl (why ∙ ap refusal_to_read memory)
    ]
