use Rattle.std.proofs.Common.{inl, inr, take, ◌∙◌, sym}
use Rattle.std.specs.FinMap as fin
use Rattle.std.proofs.lemmas.Bool.{cases_Bool, false≢true}
use Rattle.coalescer.specs.Records.{effects_in}
use Rattle.coalescer.proofs.Told.{told_touched}
use Rattle.shared_area.specs.area_reader.Store.{graph}
use Rattle.digester.proofs.Settled.{settled_told}
use Rattle.digester.specs.Plan.{records_change}
use Rattle.digester.specs.SealedLog.{undone}
use Rattle.digester.proofs.laws.digest_touches_what_its_records_touch.Goals as goal

pub returns-clause-touched : goal.returns-clause-touched
returns-clause-touched c g s x n new d i its = d.applied.touched i (settled_told (graph g s) (effects_in (take n (undone x))) i its)

pub returns-clause-others : goal.returns-clause-others
returns-clause-others c g s x n new d i its = elim (cases_Bool (fin.contains_key (records_change (graph g s) (take n (undone x))) i)) [
  | inl has ↦ absurd (false≢true (sym its ∙ told_touched (graph g s) (effects_in (take n (undone x))) i has))
  | inr out ↦ d.applied.others i out
]
