use Rattle.std.proofs.Common.{refl, inl}
use Rattle.mount_nodes.proofs.tables.Tables.take_descriptor.Goals as goal

pub returns-in-Some-clause-asked : goal.returns-in-Some-clause-asked
returns-in-Some-clause-asked g c = inl (c.in_ok-number.field-0.now, c.in_ok-number.ensures.known, c.in-Some.is, refl)
