-- Records that a client may log: what it holds covers them, and their units pay for them.
use Rattle.std.specs.Prelude.{◌≡◌, ℕ, ◌+◌, ◌≤◌, true, List, [], ◌∷◌}
use Rattle.update_log.specs.file_graph.Graph.{Graph, after_effects, touches, is_among}
use Rattle.update_log.specs.file_graph.Units.{growth}
use Rattle.update_log.specs.log_record.declared.format.Record.{Record}
use Rattle.update_log.specs.log_record.Grammar.{IsRecord}
use Rattle.shared_area.specs.call_effects.NodeView.{view_at}
use Rattle.shared_area.specs.record_validation.Good.{AreHeld, KeepsLimits}

-- a record over the graph before it: spelled, within what its client holds for writing, paid by its units, and within the limits
pub record IsCovered (held : List ℕ) (g : Graph) (r : Record) : Type 0 where
  pub spelled : IsRecord r
  pub holds : AreHeld held r.effects
  pub paid : growth g r.effects ≤ r.units
  pub limits : (i : ℕ) → is_among i (touches r.effects) ≡ true → KeepsLimits (view_at (after_effects g r.effects) i)

-- each of the records is so over the graph as those before it leave it
abbrev pub AreCovered : List ℕ → Graph → List Record → Type 0
AreCovered held g [] = Unit {0}
AreCovered held g (r ∷ rs) = IsCovered held g r × AreCovered held (after_effects g r.effects) rs

-- the units of records
abbrev pub units_of : List Record → ℕ
units_of [] = 0
units_of (r ∷ rs) = r.units + units_of rs

-- two graphs have the same at some inodes, but for the bytes of files
abbrev pub AreSameAt : List ℕ → Graph → Graph → Type 0
AreSameAt is g h = (i : ℕ) → is_among i is ≡ true → view_at g i ≡ view_at h i
