-- The entries of a map as a list, after each change of it.
use Rattle.std.proofs.Common.{◌≡◌, ℕ, List, [], ◌∷◌, refl, length, sym, ap, ◌∙◌, cond, Bool, true, false, None, arith}
use Rattle.std.specs.FinMap as fin
use Rattle.std.specs.Prelude.{not}
use Rattle.std.specs.Ordering.{nat_cmp, eq_by_cmp, is_eq}
use Rattle.std.specs.Cmp.{eq_by_cmp_equiv, alike_right}
use Rattle.std.specs.FinMap.Entries.{where_key, is_sorted-where_key, find-where_key}
use Rattle.std.specs.Cmp.Lexicographic.{slice_cmp, nat_list_cmp_total}
use Rattle.posix_calls.specs.Content.{Entries}

nothing : {A : Type 0} (es : List A) → length es ≡ 0 → es ≡ []
nothing [] e = refl
nothing (x ∷ es) e = absurd (omega arith)

-- no entry at first
pub entries-empty : (X : Type 0) → fin.entries {X = X} {R = slice_cmp nat_cmp} fin.empty ≡ []
entries-empty X = nothing (fin.entries {X = X} {R = slice_cmp nat_cmp} fin.empty) (sym (fin.len-entries {X = X} {R = slice_cmp nat_cmp} fin.empty) ∙ fin.len-empty (slice_cmp nat_cmp) X)

-- an entry is put where its name belongs
pub entries-insert : {X : Type 0} (m : Entries X) (k : List ℕ) (v : X) → fin.entries (fin.insert m k v) ≡ fin.put (slice_cmp nat_cmp) k v (fin.entries m)
entries-insert m k v = fin.entries-insert nat_list_cmp_total m k v

pub names_same : fin.IsAntisymmetric (slice_cmp nat_cmp)
names_same = fin.slice_cmp-IsAntisymmetric fin.nat_cmp-IsAntisymmetric

abbrev pub other_than : List ℕ → List ℕ → Bool
other_than k x = not (eq_by_cmp (slice_cmp nat_cmp) k x)

turned : {A : Type 0} (b : Bool) (x y : A) → cond b x y ≡ cond (not b) y x
turned true x y = refl
turned false x y = refl

-- the entries of other names are left
pub entries-remove : {X : Type 0} (m : Entries X) (k : List ℕ) → fin.entries (fin.remove m k) ≡ where_key (slice_cmp nat_cmp) (other_than k) (fin.entries m)
entries-remove {X = X} m k =
    let R = slice_cmp nat_cmp in
    let rest = where_key R (other_than k) (fin.entries m) in
    let sorted = is_sorted-where_key R (other_than k) (fin.entries m) (fin.entries_sorted m) in
    ap fin.entries (fin.same_map nat_list_cmp_total names_same (fin.remove m k) (fin.from_sorted rest) (λ q.
    fin.get-remove nat_list_cmp_total m k q
    ∙ ap (λ b. cond b None (fin.get m q)) ((eq_by_cmp_equiv nat_list_cmp_total).symm q k)
    ∙ turned (eq_by_cmp R k q) None (fin.get m q)
    ∙ ap (λ o. cond (other_than k q) o None) (fin.get-entries m q)
    ∙ sym (fin.get-from_sorted R rest q sorted ∙ find-where_key R (other_than k) q (λ x t. ap (λ r. not (is_eq r)) (sym (alike_right nat_list_cmp_total q x k t))) (fin.entries m))))
    ∙ fin.entries-from_sorted R rest sorted

pub ruleset lists = (entries-empty, entries-insert, entries-remove)
