use Rattle.std.proofs.Common.{inl, inr, refl, ap, sym, ◌∙◌}
use Rattle.client_log.specs.call_effects.Knowledge.{with_copy}
use Rattle.libfs.specs.ClientHoldings.{known_to}
use Rattle.libfs.proofs.Served.{none_there}
use Rattle.libfs.proofs.client.Client.fetch.Goals as goal

pub returns-then-has_copy-clause-fetched : goal.returns-then-has_copy-clause-fetched
returns-then-has_copy-clause-fetched g c = inl (record { some = sym c.has_copy.ensures.copy ∙ c.if-has_copy.true; same = refl })

pub put_copy-requires-clause-none : goal.put_copy-requires-clause-none
put_copy-requires-clause-none g c = none_there ((known_to c.args.self.now).copies c.args.inode) (sym c.has_copy.ensures.copy ∙ c.if-has_copy.false)

pub returns-in-Ok-clause-fetched : goal.returns-in-Ok-clause-fetched
returns-in-Ok-clause-fetched g c = inr (record {
  none = none_there ((known_to c.args.self.now).copies c.args.inode) (sym c.has_copy.ensures.copy ∙ c.if-has_copy.false);
  untouched = c.has_copy.ensures.untouched c.if-has_copy.false c.requires.idle;
  knows_then = c.put_copy.ensures.known ∙ ap (with_copy (known_to c.args.self.now) c.args.inode) c.in-Ok.ensures.node;
  numbers = c.put_copy.ensures.numbers;
  order = c.put_copy.ensures.order;
  rest = c.put_copy.ensures.rest;
})
