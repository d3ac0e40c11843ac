-- What a client answers of nothing, and what the entries of a copy tell of kinds.
use Rattle.std.proofs.Common.{◌≡◌, ℕ, List, [], ◌∷◌, Option, Some, None, map, refl, ap, sym, ◌∙◌}
use Rattle.std.specs.Prelude.{option_map, ◌==◌, ◌||◌, ◌&&◌}
use Rattle.std.specs.List.{list_any}
use Rattle.std.specs.FinMap as fin
use Rattle.std.specs.Ordering.{nat_cmp}
use Rattle.std.specs.Cmp.Lexicographic.{slice_cmp}
use Rattle.posix_calls.specs.Answers.{entry_in, count_in, listed_in}
use Rattle.posix_calls.proofs.Directory.{entries-empty}
use Rattle.client_plan.specs.file_graph.Plain.{PlainEntry, pairs}
use Rattle.client_plan.specs.file_graph.declared.effect.Kind.{Kind}
use Rattle.client_plan.specs.call_effects.Knowledge.{same_kind, lists_as}
use Rattle.client_plan.specs.call_effects.NodeView.{NodeView, FileView, DirView, view_seen}
use Rattle.record_validation.specs.NodeAnswers.{entries_of}

-- ---- nothing

pub none_counted : (o : Option (Option NodeView)) → o ≡ Some None → Some 0 ≡ option_map count_in (option_map (λ copy. option_map view_seen copy) o)
none_counted o is = sym (ap (λ p. option_map count_in (option_map (λ copy. option_map view_seen copy) p)) is ∙ ap Some (fin.len-empty (slice_cmp nat_cmp) ℕ))

pub none_listed : (o : Option (Option NodeView)) → o ≡ Some None → Some [] ≡ option_map listed_in (option_map (λ copy. option_map view_seen copy) o)
none_listed o is = sym (ap (λ p. option_map listed_in (option_map (λ copy. option_map view_seen copy) p)) is ∙ ap Some (ap (map (λ e. e.0)) (entries-empty ℕ)))

-- ---- what entries tell

pub told_by_entries : (i : ℕ) (what : Kind) (es : List PlainEntry) → list_any (λ e. e.value.0 == i && same_kind e.value.1 what) es ≡ list_any (λ e. e.1.0 == i && same_kind e.1.1 what) (pairs es)
told_by_entries i what [] = refl
told_by_entries i what (e ∷ es) = ap (λ b. (e.value.0 == i && same_kind e.value.1 what) || b) (told_by_entries i what es)

pub tells_is : (i : ℕ) (what : Kind) (v : NodeView) → list_any (λ e. e.1.0 == i && same_kind e.1.1 what) (fin.entries (entries_of v)) ≡ lists_as i what (Some v)
tells_is i what (FileView names size) = ap (list_any (λ e. e.1.0 == i && same_kind e.1.1 what)) (entries-empty (ℕ × Kind))
tells_is i what (DirView names entries) = refl

pub none_entered : (name : List ℕ) (o : Option (Option NodeView)) → o ≡ Some None → Some None ≡ option_map (entry_in name) (option_map (λ copy. option_map view_seen copy) o)
none_entered name o is = sym (ap (λ p. option_map (entry_in name) (option_map (λ copy. option_map view_seen copy) p)) is ∙ ap Some (fin.get-empty (slice_cmp nat_cmp) name))
