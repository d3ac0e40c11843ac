use Rattle.std.proofs.Common.{ap, ◌∙◌, arith}
use Rattle.std.proofs.lemmas.List.{get_or-replicate}
use Rattle.interleavings.specs.lease_manager.Passes.{PassView, records_of}
use Rattle.interleavings.specs.lease_manager.Words.{lease_place}
use Rattle.recovery.proofs.assembly.open_client.Goals as goal

pub open-requires-clause-uncounted : goal.open-requires-clause-uncounted
open-requires-clause-uncounted g c = λ i has. ap (λ (p : PassView). records_of p i) c.requires.fresh.1 ∙ get_or-replicate 1024 (lease_place i) 0 0 (omega (arith, has.0, has.1))

pub open-requires-clause-table : goal.open-requires-clause-table
open-requires-clause-table g c = ap (λ (p : PassView). p.table) c.requires.fresh.1
