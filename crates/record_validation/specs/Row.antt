-- A row of records, each tested over the graph as those before it leave it.
use Rattle.std.specs.Prelude.{◌≡◌, ℕ, ◌==◌, true, Option, Some, if◌then◌else◌}
use Rattle.call_effects.specs.file_graph.Graph.{Graph, after_effects}
use Rattle.call_effects.specs.file_graph.Units.{charge}
use Rattle.call_effects.specs.log_record.declared.format.Record.{Record}
use Rattle.call_effects.specs.KnownCopies.{Copies, known_after}
use Rattle.call_effects.specs.NodeView.{NodeView, view_at}
use Rattle.record_validation.specs.declared.record_validation.RecordCheck.{RecordCheck}
use Rattle.record_validation.specs.declared.verdict.Verdict.{Verdict}
use Rattle.record_validation.specs.declared.verdict.Verdict.TheVariants as verdict
use Rattle.record_validation.specs.KnownNodes.{ViewsAgree, is_unknown}

-- a check stands over a graph that is as it knows it, and has the charge that it knows
abbrev pub IsCheckOver : RecordCheck → Graph → Type 0
IsCheckOver c g = ViewsAgree c.known g × (charge g ≡ c.charge)

-- a check that began over one graph has come to another: of what it does not know, nothing has changed
abbrev pub HasCome : RecordCheck → Graph → Graph → Type 0
HasCome c first now = IsCheckOver c now × ((i : ℕ) → is_unknown c.known i ≡ true → view_at now i ≡ view_at first i)

-- the graph after a record that was tested: a good one is done, another is not
abbrev pub left_by : Verdict → Graph → Record → Graph
left_by (verdict.Good units) g r = after_effects g r.effects
left_by verdict.Bad g r = g
left_by (verdict.Unknown i) g r = g

-- what is known after a record that was tested
abbrev pub known_by : Verdict → Record → Copies → Copies
known_by (verdict.Good units) r known = known_after r.effects known
known_by verdict.Bad r known = known
known_by (verdict.Unknown i) r known = known

-- what is known, with one inode learned
abbrev pub with_known : ℕ → Option NodeView → Copies → Copies
with_known inode v known i = if i == inode then Some v else known i
