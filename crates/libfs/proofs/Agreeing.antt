-- What a client's answers are of every whole that agrees with what it knows.
use Rattle.std.proofs.Common.{Option, refl}
use Rattle.std.specs.Prelude.{◌==◌}
use Rattle.std.proofs.lemmas.Bool.{cond-true, eq-eqb}
use Rattle.posix_calls.specs.Tree.{Descriptors, with_own}
use Rattle.lease_manager.specs.file_graph.Graph.{Graph}
use Rattle.client_log.specs.call_effects.Knowledge.{Knowledge, Agrees}
use Rattle.client_view.specs.client_plan.declared.outcome.DescriptorChange.{DescriptorChange}
use Rattle.client_view.specs.client_plan.CallPlan.{own_changed}
use Rattle.client_view.specs.AfterRecord.{with_change}

-- a descriptor has changed, in what the client knows and in the whole
pub changed_agrees : (k : Knowledge) (g : Graph) (held : Descriptors) (change : Option DescriptorChange) → Agrees k g held → Agrees (with_change k change) g (with_own held k.client (own_changed k.own change))
changed_agrees k g held change a = record {
  client = a.client;
  own = λ number. cond-true (k.client == k.client) (own_changed k.own change number) (held k.client number) (eq-eqb k.client k.client refl);
  back = a.back;
  put_back = a.put_back;
  copies = a.copies;
  blocks = a.blocks;
  granted = a.granted;
}
