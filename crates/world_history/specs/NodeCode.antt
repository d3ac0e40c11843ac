-- How a copy of a node is stored.
use Rattle.std.specs.Prelude.{◌≡◌, ℕ, refl, ◌⊎◌}
use Rattle.std.proofs.Common.{inl, inr}
use Rattle.std.specs.Coded.{Coded, code_by, coded×, coded_ℕ, coded⊎}
use Rattle.posix_calls.specs.Content.{Entries}
use Rattle.world_invariant.specs.file_graph.Codes.{entries_code}
use Rattle.world_invariant.specs.file_graph.declared.effect.Kind.{Kind}
use Rattle.world_invariant.specs.call_effects.NodeView.{NodeView, FileView, DirView}

-- a view as one of two
abbrev parts : NodeView → (ℕ × ℕ) ⊎ (ℕ × Entries (ℕ × Kind))
parts (FileView names size) = inl (names, size)
parts (DirView names entries) = inr (names, entries)

-- the view that one of two is
abbrev view_from : (ℕ × ℕ) ⊎ (ℕ × Entries (ℕ × Kind)) → NodeView
view_from (inl p) = FileView p.0 p.1
view_from (inr p) = DirView p.0 p.1

-- no view is lost
abbrev view_back : (v : NodeView) → view_from (parts v) ≡ v
view_back (FileView names size) = refl
view_back (DirView names entries) = refl

-- a view is stored as a file's two numbers, or a directory's number and entries
abbrev pub view_code : Coded NodeView
view_code = code_by ((ℕ × ℕ) ⊎ (ℕ × Entries (ℕ × Kind))) (coded⊎ (coded× coded_ℕ coded_ℕ) (coded× coded_ℕ entries_code)) parts view_from view_back
