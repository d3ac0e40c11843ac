-- The entries of a directory without the kinds that they tell, as they change.
use Rattle.std.proofs.Common.{◌≡◌, ℕ, List, [], ◌∷◌, refl, Some, None, Option, cond, ap, sym, ◌∙◌, true, false, Bool}
use Rattle.std.specs.Prelude.{option_map, map}
use Rattle.std.specs.Ordering.{eq_by_cmp}
use Rattle.std.specs.Cmp.Lexicographic.{nat_list_cmp_total}
use Rattle.std.specs.FinMap as fin
use Rattle.posix_calls.specs.Content.{Entries}
use Rattle.posix_calls.proofs.Directory.{entries-empty, names_same}
use Rattle.posix_calls.proofs.Counts.{order}
use Rattle.log_record.specs.file_graph.declared.effect.Kind.{Kind}
use Rattle.call_effects.specs.Wholes.{without_kinds}

abbrev first : ℕ × Kind → ℕ
first e = e.0

abbrev inodes_only : List (List ℕ × (ℕ × Kind)) → List (List ℕ × ℕ)
inodes_only es = map (λ e. (e.0, e.1.0)) es

in_cond : (b : Bool) (x : ℕ × Kind) (o : Option (ℕ × Kind)) → cond b (Some (x.0)) (option_map first o) ≡ option_map first (cond b (Some x) o)
in_cond true x o = refl
in_cond false x o = refl

in_none : (b : Bool) (o : Option (ℕ × Kind)) → cond b None (option_map first o) ≡ option_map first (cond b None o)
in_none true o = refl
in_none false o = refl

find_inodes : (es : List (List ℕ × (ℕ × Kind))) (q : List ℕ) → fin.find order q (inodes_only es) ≡ option_map first (fin.find order q es)
find_inodes [] q = refl
find_inodes (e ∷ es) q = ap (cond (eq_by_cmp order q e.0) (Some (e.1.0))) (find_inodes es q) ∙ in_cond (eq_by_cmp order q e.0) e.1 (fin.find order q es)

pub get_inodes : (m : Entries (ℕ × Kind)) (q : List ℕ) → fin.get (without_kinds m) q ≡ option_map first (fin.get m q)
get_inodes m q = fin.get-from_entries nat_list_cmp_total (inodes_only (fin.entries m)) q ∙ find_inodes (fin.entries m) q ∙ ap (option_map first) (sym (fin.get-entries m q))

pub inodes_insert : (m : Entries (ℕ × Kind)) (name : List ℕ) (e : ℕ × Kind) → without_kinds (fin.insert m name e) ≡ fin.insert (without_kinds m) name e.0
inodes_insert m name e = fin.same_map nat_list_cmp_total names_same _ _ (λ q.
    get_inodes (fin.insert m name e) q
    ∙ ap (option_map first) (fin.get-insert nat_list_cmp_total m name e q)
    ∙ sym (fin.get-insert nat_list_cmp_total (without_kinds m) name e.0 q ∙ ap (cond (eq_by_cmp order q name) (Some e.0)) (get_inodes m q) ∙ in_cond (eq_by_cmp order q name) e (fin.get m q)))

pub inodes_remove : (m : Entries (ℕ × Kind)) (name : List ℕ) → without_kinds (fin.remove m name) ≡ fin.remove (without_kinds m) name
inodes_remove m name = fin.same_map nat_list_cmp_total names_same _ _ (λ q.
    get_inodes (fin.remove m name) q
    ∙ ap (option_map first) (fin.get-remove nat_list_cmp_total m name q)
    ∙ sym (fin.get-remove nat_list_cmp_total (without_kinds m) name q ∙ ap (cond (eq_by_cmp order q name) None) (get_inodes m q) ∙ in_none (eq_by_cmp order q name) (fin.get m q)))

pub inodes_empty : without_kinds fin.empty ≡ fin.empty
inodes_empty = ap (λ es. fin.from_entries (inodes_only es)) (entries-empty (ℕ × Kind))

-- a directory whose entries are none in the tree has none
pub no_inodes : (m : Entries (ℕ × Kind)) → fin.len (without_kinds m) ≡ 0 → fin.len m ≡ 0
no_inodes m e =
    let empty = fin.empty_of_len (without_kinds m) e in
    let same : m ≡ fin.empty = fin.same_map nat_list_cmp_total names_same m fin.empty (λ q.
    is_none (fin.get m q) (sym (get_inodes m q) ∙ ap (λ x. fin.get x q) empty ∙ fin.get-empty order q) ∙ sym (fin.get-empty order q)) in
    ap fin.len same ∙ fin.len-empty order (ℕ × Kind) where
      is_none : (o : Option (ℕ × Kind)) → option_map first o ≡ None → o ≡ None
      is_none None is = refl
      is_none (Some x) is = absurd (cc)
