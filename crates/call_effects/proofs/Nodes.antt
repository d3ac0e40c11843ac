-- What a node of a graph shows a call.
use Rattle.std.proofs.Common.{◌≡◌, ℕ, List, [], ◌∷◌, map, suc, length, refl, ap, sym, ◌∙◌, Option, Some, None, true, subst}
use Rattle.std.specs.Prelude.{option_map, ◌&&◌, T}
use Rattle.std.specs.FinMap as fin
use Rattle.std.specs.FinMap.Entries.{below_all}
use Rattle.std.specs.Ordering.{nat_cmp, is_lt}
use Rattle.std.specs.Cmp.Lexicographic.{slice_cmp, nat_list_cmp_total}
use Rattle.posix_calls.specs.Content.{Entries}
use Rattle.posix_calls.specs.Query.{Dir}
use Rattle.posix_calls.specs.Walk.{entries_seen}
use Rattle.posix_calls.specs.Answers.{entry_in, count_in, listed_in}
use Rattle.posix_calls.proofs.Directory.{entries-empty, names_same}
use Rattle.posix_calls.proofs.Counts.{order}
use Rattle.log_record.specs.file_graph.Graph.{Node, FileBody, DirBody, directory_entries}
use Rattle.log_record.specs.file_graph.declared.effect.Kind.{Kind}
use Rattle.log_record.specs.file_graph.Plain.{PlainEntry, pairs}
use Rattle.std.proofs.lemmas.List.{length-map}
use Rattle.call_effects.specs.Wholes.{without_kinds, node_is_dir, node_seen}
use Rattle.call_effects.proofs.Inodes.{get_inodes}

-- the names and inodes of entries
abbrev pub named : List (List ℕ × (ℕ × Kind)) → List (List ℕ × ℕ)
named es = map (λ e. (e.0, e.1.0)) es

-- what is in a directory
pub record HasEntries (o : Option Node) (es : List (List ℕ × (ℕ × Kind))) : Type 0 where
  pub entries : Entries (ℕ × Kind)
  pub same : fin.entries entries ≡ es
  pub seen : option_map node_seen o ≡ Some (Dir (without_kinds entries))
  pub kind : option_map node_is_dir o ≡ Some true

pub has_entries : (o : Option Node) (es : List (List ℕ × (ℕ × Kind))) → directory_entries o ≡ Some es → HasEntries o es
has_entries None es is = absurd (cc)
has_entries (Some n) es is = elim (n.body) as (λ y. n.body ≡ y → directory_entries (Some (record { names = n.names; body = y })) ≡ Some es → HasEntries (Some (record { names = n.names; body = y })) es) [
  | FileBody bytes ↦ λ at h. absurd (cc)
  | DirBody m ↦ λ at h. record { entries = m; same = cc; seen = refl; kind = refl }
] refl is

-- what is no directory has no entries
pub no_entries : (o : Option Node) → directory_entries o ≡ None → entries_seen (option_map node_seen o) ≡ fin.empty
no_entries None is = refl
no_entries (Some n) is = elim (n.body) as (λ y. directory_entries (Some (record { names = n.names; body = y })) ≡ None → entries_seen (option_map node_seen (Some (record { names = n.names; body = y }))) ≡ fin.empty) [
  | FileBody bytes ↦ λ h. refl
  | DirBody m ↦ λ h. absurd (cc)
] is

-- ---- entries by their names

-- without kinds they stand in the same order
below_named : (x : List ℕ) (es : List (List ℕ × (ℕ × Kind))) → below_all order x (named es) ≡ below_all order x es
below_named x [] = refl
below_named x (e ∷ es) = ap (λ b. is_lt (order x e.0) && b) (below_named x es)

same_order : (es : List (List ℕ × (ℕ × Kind))) → fin.is_sorted order (named es) ≡ fin.is_sorted order es
same_order [] = refl
same_order (e ∷ es) = ap (λ b. b && fin.is_sorted order (named es)) (below_named e.0 es) ∙ ap (λ b. below_all order e.0 es && b) (same_order es)

pub entries_without_kinds : (m : Entries (ℕ × Kind)) → fin.entries (without_kinds m) ≡ named (fin.entries m)
entries_without_kinds m =
    let sorted : T (fin.is_sorted order (named (fin.entries m))) = subst (λ b. T b) (sym (same_order (fin.entries m))) (fin.entries_sorted m) in
    let same : without_kinds m ≡ fin.from_sorted (named (fin.entries m)) = fin.same_map nat_list_cmp_total names_same _ _ (λ q. fin.get-from_entries nat_list_cmp_total (named (fin.entries m)) q ∙ sym (fin.get-from_sorted order (named (fin.entries m)) q sorted)) in
    ap fin.entries same ∙ fin.entries-from_sorted order (named (fin.entries m)) sorted

pub entry_found : (o : Option Node) (es : List (List ℕ × (ℕ × Kind))) (name : List ℕ) → directory_entries o ≡ Some es → entry_in name (option_map node_seen o) ≡ option_map (λ e. e.0) (fin.find (slice_cmp nat_cmp) name es)
entry_found o es name is =
    let d = has_entries o es is in
    ap (entry_in name) d.seen ∙ get_inodes d.entries name ∙ ap (option_map (λ e. e.0)) (fin.get-entries d.entries name ∙ ap (fin.find (slice_cmp nat_cmp) name) d.same)

pub entry_missing : (o : Option Node) (name : List ℕ) → directory_entries o ≡ None → entry_in name (option_map node_seen o) ≡ None
entry_missing o name is = ap (λ m. fin.get m name) (no_entries o is) ∙ fin.get-empty (slice_cmp nat_cmp) name

pub count_found : (o : Option Node) (es : List (List ℕ × (ℕ × Kind))) → directory_entries o ≡ Some es → count_in (option_map node_seen o) ≡ length es
count_found o es is =
    let d = has_entries o es is in
    ap count_in d.seen ∙ fin.len-entries (without_kinds d.entries) ∙ ap length (entries_without_kinds d.entries) ∙ length_named (fin.entries d.entries) ∙ ap length d.same
  where
    length_named : (es : List (List ℕ × (ℕ × Kind))) → length (named es) ≡ length es
    length_named [] = refl
    length_named (e ∷ es) = ap (λ n. suc n) (length_named es)

pub count_missing : (o : Option Node) → directory_entries o ≡ None → count_in (option_map node_seen o) ≡ 0
count_missing o is = ap fin.len (no_entries o is) ∙ fin.len-empty (slice_cmp nat_cmp) ℕ

pub names_found : (o : Option Node) (es : List (List ℕ × (ℕ × Kind))) → directory_entries o ≡ Some es → listed_in (option_map node_seen o) ≡ map (λ e. e.0) es
names_found o es is =
    let d = has_entries o es is in
    ap listed_in d.seen ∙ ap (map (λ e. e.0)) (entries_without_kinds d.entries) ∙ names_named (fin.entries d.entries) ∙ ap (map (λ e. e.0)) d.same
  where
    names_named : (es : List (List ℕ × (ℕ × Kind))) → map (λ e. e.0) (named es) ≡ map (λ e. e.0) es
    names_named [] = refl
    names_named (e ∷ es) = ap (λ ns. e.0 ∷ ns) (names_named es)

pub names_missing : (o : Option Node) → directory_entries o ≡ None → listed_in (option_map node_seen o) ≡ []
names_missing o is = ap (λ m. map (λ e. e.0) (fin.entries m)) (no_entries o is) ∙ ap (map (λ e. e.0)) (entries-empty ℕ)

pub count_read : (o : Option Node) (s : List PlainEntry) → directory_entries o ≡ Some (pairs s) → count_in (option_map node_seen o) ≡ length s
count_read o s is = count_found o (pairs s) is ∙ length-map s _
