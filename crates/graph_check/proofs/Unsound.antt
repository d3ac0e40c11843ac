-- A graph with a defect is not sound.
use Rattle.std.proofs.Common.{ℕ}
use Rattle.posix_calls.specs.Tree.{Descriptors}
use Rattle.record_validation.specs.file_graph.Graph.{Graph}
use Rattle.record_validation.specs.call_effects.Wholes.{IsSound}
use Rattle.graph_check.specs.declared.defect.Defect.{Defect}
use Rattle.graph_check.specs.declared.defect.Defect.TheVariants as defect
use Rattle.graph_check.specs.Defects.{HasDefect}
use Rattle.graph_check.proofs.Marked.{dir_node}

pub unsound : (g : Graph) (held : Descriptors) (i : ℕ) (f : Defect) → HasDefect g i f → IsSound g held → ⊥
unsound g held i defect.NoRoot has sound = has.1 sound.typed.root
unsound g held i defect.StrayEntry has sound =
    let kind = sound.typed.kinds i has.names has.entries has.name has.entry has.is has.there in
    has.stray (sound.typed.numbers has.entry.0 has.entry.1 kind) kind
unsound g held i defect.WrongCount has sound = has (sound.counts.counted i)
unsound g held i defect.NotOneName has sound = has.1 (sound.counts.one_name i has.0)
unsound g held i defect.Unreachable has sound = let way = sound.reached i (dir_node (g i) has.0) in has.1 way.0 way.1
