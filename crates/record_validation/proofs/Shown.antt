-- What a node that is known without its bytes shows a call.
use Rattle.std.proofs.Common.{◌≡◌, ◌<◌, ℕ, List, [], true, None, map, length, refl, ap, sym, ◌∙◌, arith, ◌∷◌}
use Rattle.std.specs.Prelude.{option_map, nat_lt}
use Rattle.std.specs.FinMap as fin
use Rattle.std.specs.Ordering.{nat_cmp}
use Rattle.std.specs.Cmp.Lexicographic.{slice_cmp}
use Rattle.std.proofs.lemmas.List.{length-map}
use Rattle.std.proofs.lemmas.Bool.Decides.{nat_tests}
use Rattle.posix_calls.specs.Content.{Entries}
use Rattle.posix_calls.specs.Answers.{entry_in, count_in, listed_in}
use Rattle.posix_calls.proofs.Directory.{entries-empty}
use Rattle.call_effects.specs.file_graph.declared.effect.Kind.{Kind}
use Rattle.call_effects.specs.NodeView.{NodeView, FileView, DirView}
use Rattle.call_effects.specs.Wholes.{without_kinds}
use Rattle.call_effects.proofs.Inodes.{get_inodes}
use Rattle.call_effects.proofs.Nodes.{named, entries_without_kinds}
use Rattle.record_validation.specs.declared.node_summary.SummaryBody.{SummaryBody}
use Rattle.record_validation.specs.declared.node_summary.SummaryBody.TheVariants as summary
use Rattle.record_validation.specs.Summary.{view_of_summary}
use Rattle.record_validation.specs.NodeAnswers.{seen_node, entries_of}

-- a summary with such a body
pub of_file : (names size : ℕ) (b : SummaryBody) (v : NodeView) → view_of_summary names b ≡ v → b ≡ summary.File size → v ≡ FileView names size
of_file names size b v view is = sym view ∙ ap (view_of_summary names) is

pub of_directory : (names : ℕ) (m : Entries (ℕ × Kind)) (b : SummaryBody) (v : NodeView) → view_of_summary names b ≡ v → b ≡ summary.Directory m → v ≡ DirView names m
of_directory names m b v view is = sym view ∙ ap (view_of_summary names) is

-- ---- a file

pub no_child : (name : List ℕ) (names size : ℕ) (v : NodeView) → v ≡ FileView names size → None ≡ fin.get (entries_of v) name
no_child name names size v is = sym (ap (λ w. fin.get (entries_of w) name) is ∙ fin.get-empty (slice_cmp nat_cmp) name)

pub no_entry : (name : List ℕ) (names size : ℕ) (v : NodeView) → v ≡ FileView names size → None ≡ entry_in name (seen_node v)
no_entry name names size v is = sym (ap (λ w. entry_in name (seen_node w)) is ∙ fin.get-empty (slice_cmp nat_cmp) name)

pub no_entries : (names size : ℕ) (v : NodeView) → v ≡ FileView names size → [] ≡ fin.entries (entries_of v)
no_entries names size v is = sym (ap (λ w. fin.entries (entries_of w)) is ∙ entries-empty (ℕ × Kind))

pub none_there : (names size : ℕ) (v : NodeView) → v ≡ FileView names size → 0 ≡ fin.len (entries_of v)
none_there names size v is = sym (ap (λ w. fin.len (entries_of w)) is ∙ fin.len-empty (slice_cmp nat_cmp) (ℕ × Kind))

pub no_count : (names size : ℕ) (v : NodeView) → v ≡ FileView names size → 0 ≡ count_in (seen_node v)
no_count names size v is = sym (ap (λ w. count_in (seen_node w)) is ∙ fin.len-empty (slice_cmp nat_cmp) ℕ)

pub no_names : (names size : ℕ) (v : NodeView) → v ≡ FileView names size → [] ≡ listed_in (seen_node v)
no_names names size v is = sym (ap (λ w. listed_in (seen_node w)) is ∙ ap (map (λ e. e.0)) (entries-empty ℕ))

-- ---- a directory

pub child_named : (name : List ℕ) (names : ℕ) (m : Entries (ℕ × Kind)) (v : NodeView) → v ≡ DirView names m → option_map (λ e. e.0) (fin.get m name) ≡ entry_in name (seen_node v)
child_named name names m v is = sym (ap (λ w. entry_in name (seen_node w)) is ∙ get_inodes m name)

len_without : (m : Entries (ℕ × Kind)) → fin.len (without_kinds m) ≡ fin.len m
len_without m = fin.len-entries (without_kinds m) ∙ ap length (entries_without_kinds m) ∙ length-map (fin.entries m) (λ e. (e.0, e.1.0)) ∙ sym (fin.len-entries m)

pub counted : (names : ℕ) (m : Entries (ℕ × Kind)) (v : NodeView) → v ≡ DirView names m → fin.len m ≡ count_in (seen_node v)
counted names m v is = sym (ap (λ w. count_in (seen_node w)) is ∙ len_without m)

firsts : (es : List (List ℕ × (ℕ × Kind))) → map (λ e. e.0) (named es) ≡ map (λ e. e.0) es
firsts [] = refl
firsts (e ∷ es) = ap (λ ns. e.0 ∷ ns) (firsts es)

pub listed : (names : ℕ) (m : Entries (ℕ × Kind)) (v : NodeView) → v ≡ DirView names m → map (λ e. e.0) (fin.entries m) ≡ listed_in (seen_node v)
listed names m v is = sym (ap (λ w. listed_in (seen_node w)) is ∙ ap (map (λ e. e.0)) (entries_without_kinds m) ∙ firsts (fin.entries m))

pub some_counted : (names : ℕ) (m : Entries (ℕ × Kind)) (v : NodeView) → v ≡ DirView names m → 0 < fin.len m → nat_lt 0 (count_in (seen_node v)) ≡ true
some_counted names m v is some = let same = counted names m v is in grind (arith, nat_tests, same, some)
