-- The graph of a root alone is within the limits.
use Rattle.std.proofs.Common.{◌≡◌, inl, inr, ℕ, cond, List, None, Some, sym, ◌∙◌, ap, subst, arith, refl}
use Rattle.std.specs.FinMap as fin
use Rattle.std.proofs.lemmas.Bool.Decides.{eqb_tells}
use Rattle.posix_calls.specs.Content.{Entries}
use Rattle.posix_calls.proofs.Counts.{order}
use Rattle.call_effects.specs.file_graph.Graph.{DirBody, fresh}
use Rattle.call_effects.specs.file_graph.declared.effect.Kind.{Kind}
use Rattle.world_invariant.specs.Limits.{AreEntriesWithin, IsNodeWithin, IsWithin, AreWithin}
use Rattle.world_invariant.proofs.Idle.{none_some}

abbrev nothing : Entries (ℕ × Kind)
nothing = fin.empty

none_at : (name : List ℕ) → fin.get nothing name ≡ None
none_at name = simp fin.gets refl

pub no_entries : AreEntriesWithin fin.empty
no_entries = record {
  few = (let none = fin.len-empty order (ℕ × Kind) in omega (arith, none));
  valid = λ name e there. none_some e (sym (none_at name) ∙ there);
  numbered = λ name e there. none_some e (sym (none_at name) ∙ there);
}

root_within : IsNodeWithin 1 (record { names = 1; body = DirBody fin.empty })
root_within = record { low = omega arith; high = omega arith; names = omega arith; body = no_entries }

pub fresh_within : AreWithin fresh
fresh_within i = elim (eqb_tells i 1) [
  | inl same ↦ subst (λ j. IsWithin j (fresh j)) (sym same.1) root_within
  | inr off ↦ subst (IsWithin i) (sym (ap (λ b. cond b (Some (record { names = 1; body = DirBody fin.empty })) None) off.0)) tt
]
