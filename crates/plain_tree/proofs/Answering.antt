-- Nodes as a call sees them, and who knows them all.
use Rattle.std.proofs.Common.{◌≡◌, ℕ, List, [], Option, Some, None, false, length, ltb, refl, ap, sym, ◌∙◌}
use Rattle.std.specs.Prelude.{option_map}
use Rattle.std.specs.FinMap as fin
use Rattle.posix_calls.proofs.Counts.{order}
use Rattle.posix_calls.proofs.Directory.{entries-empty}
use Rattle.posix_calls.specs.Tree.{Node, File, Dir, entries_of}
use Rattle.posix_calls.specs.declared.operation.Missing.{Missing}
use Rattle.posix_calls.specs.Query.{Query, Gives, Refuses, IsDir, Look, Range, View, run, seen_node}
use Rattle.posix_calls.specs.Part.{Found, Known, Unknown, run_part, whole_part}
use Rattle.posix_calls.specs.Walk.{entries_seen}
use Rattle.plain_tree.specs.Plain.{stored_tree}
use Rattle.std.proofs.lemmas.Bool.{ltb-false}
use Rattle.std.proofs.lemmas.List.{get_or_past}

pub entries_are_seen : (n : ℕ) (o : Option Node) → entries_seen (option_map (seen_node n) o) ≡ entries_of o
entries_are_seen n None = refl
entries_are_seen n (Some (File bytes)) = refl
entries_are_seen n (Some (Dir entries)) = refl

pub whole_knows : {A : Type 0} (v : View) (q : Query A) → run_part (whole_part v) q ≡ Known (run v q)
unfolding run_part run
whole_knows v (Gives x) = refl
whole_knows v (Refuses e) = refl
whole_knows v (IsDir i next) = whole_knows v (next (v.is_dir i))
whole_knows v (Look i next) = whole_knows v (next (v.node i))
whole_knows v (Range i at count next) = whole_knows v (next (v.bytes i at count))

pub nothing_is_missing : {A : Type 0} (v : View) (q : Query A) (what : Missing) → run_part (whole_part v) q ≡ Unknown what → ⊥
nothing_is_missing v q what e = apart (run v q) what (sym (whole_knows v q) ∙ e)
  where
    apart : {A : Type 0} (r : _) (what : Missing) → ◌≡◌ {A = Found A} (Known r) (Unknown what) → ⊥
    apart r what e = absurd cc

pub known_of : {A : Type 0} (v : View) (q : Query A) (r : _) → run_part (whole_part v) q ≡ Known r → run v q ≡ r
known_of v q r e = same (run v q) r (sym (whole_knows v q) ∙ e)
  where
    same : {A : Type 0} (x y : _) → ◌≡◌ {A = Found A} (Known x) (Known y) → x ≡ y
    same x y e = cc

pub nothing_past : (nodes held : List (Option Node)) (i : ℕ) → nodes ≡ held → false ≡ ltb i (length nodes) → stored_tree held i ≡ None
nothing_past nodes held i same past = ap (λ (ns : List (Option Node)). stored_tree ns i) (sym same) ∙ get_or_past nodes i None (ltb-false i (length nodes) (sym past))

-- ---- a directory with no entries

pub get_nothing : (q : List ℕ) → fin.get (fin.empty {X = ℕ} {R = order}) q ≡ None
get_nothing q = fin.get-empty order q

pub count_nothing : fin.len (fin.empty {X = ℕ} {R = order}) ≡ 0
count_nothing = fin.len-empty order ℕ

pub list_nothing : fin.entries (fin.empty {X = ℕ} {R = order}) ≡ []
list_nothing = entries-empty ℕ

pub ruleset where_nothing_is = (get_nothing, count_nothing, list_nothing)
