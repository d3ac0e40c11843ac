-- Which record of a client's log may be digested next.
use Rattle.std.specs.Prelude.{◌≡◌, ℕ, ◌≤◌, List, Bool, true, ◌&&◌, nat_le, Option, Some, None}
use Rattle.std.specs.List.{list_all}
use Rattle.std.specs.FinMap as fin
use Rattle.posix_calls.specs.declared.limits.TheConstants.{MAX_FILE, MAX_ENTRIES, MAX_NAMES}
use Rattle.call_effects.specs.file_graph.declared.effect.Effect.{Effect}
use Rattle.call_effects.specs.file_graph.Graph.{Graph, after_effects, touches, is_among}
use Rattle.call_effects.specs.file_graph.Units.{charge, growth}
use Rattle.call_effects.specs.log_record.declared.format.Record.{Record}
use Rattle.call_effects.specs.log_record.Grammar.{IsRecord}
use Rattle.call_effects.specs.NodeView.{NodeView, FileView, DirView, view_at}
use Rattle.record_validation.specs.declared.node_counts.NodeCounts.{NodeCounts}
use Rattle.record_validation.specs.declared.node_counts.NodeCounts.TheVariants as counts
use Rattle.record_validation.specs.declared.verdict.Verdict.{Verdict}
use Rattle.record_validation.specs.declared.verdict.Verdict.TheVariants as verdict
use Rattle.record_validation.specs.Counts.{counts_after}
use Rattle.record_validation.specs.KnownNodes.{Known, known_at}

-- no file is too large, no directory too full, and no node has too many names
abbrev pub KeepsLimits : Option NodeView → Type 0
KeepsLimits None = Unit {0}
KeepsLimits (Some (FileView names size)) = (names ≤ MAX_NAMES) × (size ≤ MAX_FILE)
KeepsLimits (Some (DirView names entries)) = (names ≤ MAX_NAMES) × (fin.len entries ≤ MAX_ENTRIES)

-- each inode that effects touch is held for writing
abbrev pub AreHeld : List ℕ → List Effect → Type 0
AreHeld held es = (i : ℕ) → is_among i (touches es) ≡ true → is_among i held ≡ true

-- a record that may be digested into a graph, of a client that holds these inodes for writing, where there are so many units in all
pub record IsGood (held : List ℕ) (capacity : ℕ) (g : Graph) (r : Record) : Type 0 where
  -- inode numbers, names, sizes and counts in it are within the format's ranges
  pub spelled : IsRecord r
  pub holds : AreHeld held r.effects
  -- its units pay for what it raises
  pub paid : growth g r.effects ≤ r.units
  -- what it touches keeps the limits after it
  pub limits : (i : ℕ) → is_among i (touches r.effects) ≡ true → KeepsLimits (view_at (after_effects g r.effects) i)
  pub charge : charge (after_effects g r.effects) ≤ capacity

-- what a verdict says of a record over a graph: it is good, and the charge after it is told, or it is not
abbrev pub IsVerdict : List ℕ → ℕ → Graph → Record → Verdict → Type 0
IsVerdict held capacity g r (verdict.Good units) = IsGood held capacity g r × (charge (after_effects g r.effects) ≡ units)
IsVerdict held capacity g r verdict.Bad = IsGood held capacity g r → ⊥
IsVerdict held capacity g r (verdict.Unknown i) = Unit {0}

-- the inode that a verdict asks for
abbrev pub asked_inode : Verdict → Option ℕ
asked_inode (verdict.Good units) = None
asked_inode verdict.Bad = None
asked_inode (verdict.Unknown i) = Some i

-- ---- tests

-- whether each inode that effects touch is held
abbrev pub are_held : List ℕ → List Effect → Bool
are_held held es = list_all (λ i. is_among i held) (touches es)

-- whether a node of these numbers keeps the limits
abbrev pub is_within : Option NodeCounts → Bool
is_within None = true
is_within (Some (counts.File names size)) = nat_le names MAX_NAMES && nat_le size MAX_FILE
is_within (Some (counts.Directory names entries)) = nat_le names MAX_NAMES && nat_le entries MAX_ENTRIES

-- whether an inode keeps the limits after effects
abbrev pub keeps : Known → List Effect → ℕ → Bool
keeps m es i = is_within (counts_after es i (known_at m i))
