-- What holds of a graph that passes all tests.
use Rattle.std.proofs.Common.{◌≡◌, ℕ, List, Bool, true, false, sym, subst}
use Rattle.record_validation.specs.file_graph.Graph.{Graph}
use Rattle.record_validation.specs.call_effects.Wholes.{IsSound}
use Rattle.record_validation.specs.call_effects.ClosedGraph.{nobody}
use Rattle.record_validation.specs.log_record.Grammar.{IsInode}
use Rattle.graph_check.specs.declared.defect.Defect.TheVariants as defect
use Rattle.graph_check.specs.declared.defect.Finding.{Finding}
use Rattle.graph_check.specs.Defects.{HasInodesAlone, HasDirectory, HasDefect}
use Rattle.graph_check.specs.Marks.{is_marked, AllClimb, IsClosed}
use Rattle.graph_check.specs.Rows.{EntriesFit, CountsFit}
use Rattle.graph_check.proofs.Sound.{typed, counts}
use Rattle.graph_check.proofs.Marked.{all_reached, not_reached}

pub graph_sound : (g : Graph) (marks : List Bool) → HasInodesAlone g → HasDirectory g 1 → EntriesFit g → CountsFit g → AllClimb g marks → ((i : ℕ) → IsInode i → HasDirectory g i → is_marked marks i ≡ true) → IsSound g nobody
graph_sound g marks alone root entries names climb marked =
    let types = typed g alone root entries in
    record { typed = types; counts = counts g types alone names; reached = all_reached g marks alone climb marked }

pub unreached_finding : (g : Graph) (marks : List Bool) (f : Finding) → EntriesFit g → CountsFit g → IsClosed g marks → is_marked marks 1 ≡ true → f.defect ≡ defect.Unreachable → HasDirectory g f.inode → is_marked marks f.inode ≡ false → HasDefect g f.inode f.defect
unreached_finding g marks f entries names closed root is dir unmarked =
    subst (λ k. HasDefect g f.inode k) (sym is) (dir, not_reached g marks entries names closed f.inode root unmarked dir)
