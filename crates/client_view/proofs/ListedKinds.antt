-- What entries of copies tell of an inode of which there is no copy.
use Rattle.std.proofs.Common.{◌≡◌, ℕ, ◌+◌, ◌≤◌, List, [], ◌∷◌, Option, Some, None, Bool, true, false, refl, cond, ap, sym, ◌∙◌, arith, add-one}
use Rattle.std.specs.Prelude.{◌==◌, ◌&&◌, ◌||◌, nat_le, unwrap_or, if◌then◌else◌}
use Rattle.std.specs.List.{list_any}
use Rattle.std.specs.FinMap as fin
use Rattle.std.specs.Ordering.{nat_cmp, eq_by_cmp}
use Rattle.std.specs.Cmp.Lexicographic.{slice_cmp}
use Rattle.std.proofs.lemmas.Bool.{and_parts, eq-eqb}
use Rattle.std.proofs.lemmas.Bool.Decides.{nat_tests}
use Rattle.posix_calls.specs.Tree.{any_up_to}
use Rattle.posix_calls.specs.declared.limits.TheConstants.{MAX_INODE, ROOT}
use Rattle.posix_calls.proofs.Sums.{any_there}
use Rattle.client_plan.specs.file_graph.Numbers.{is_inode}
use Rattle.client_plan.specs.file_graph.Plain.{PlainEntry, pairs}
use Rattle.client_plan.specs.file_graph.declared.effect.Kind.{Kind}
use Rattle.client_plan.specs.file_graph.declared.effect.Kind.TheVariants as kinds
use Rattle.client_plan.specs.call_effects.Knowledge.{same_kind, lists_as, is_dir_by}
use Rattle.client_plan.specs.call_effects.NodeView.{NodeView}
use Rattle.record_validation.specs.NodeAnswers.{entries_of}
use Rattle.client_view.specs.KnowledgeTables.{copy_at, is_listed_in, known_dir_in}
use Rattle.client_view.proofs.Views.{told_by_entries, tells_is}

-- ---- the entries of one copy

pub entries_tell : (i : ℕ) (what : Kind) (es : List PlainEntry) (v : NodeView) → pairs es ≡ fin.entries (entries_of v) → list_any (λ e. e.value.0 == i && same_kind e.value.1 what) es ≡ lists_as i what (Some v)
entries_tell i what es v is = told_by_entries i what es ∙ ap (list_any (λ e. e.1.0 == i && same_kind e.1.1 what)) is ∙ tells_is i what v

neither : (a b r s : Bool) → (a || r) ≡ false → (r ≡ false → s ≡ false) → ((a && b) || s) ≡ false
neither true b r s none rest = absurd (cc)
neither false b r s none rest = rest none

-- entries that do not name an inode name it as of no kind
pub none_as : (i : ℕ) (what : Kind) (es : List PlainEntry) → list_any (λ e. e.value.0 == i) es ≡ false → list_any (λ e. e.value.0 == i && same_kind e.value.1 what) es ≡ false
none_as i what [] none = refl
none_as i what (e ∷ es) none = neither (e.value.0 == i) (same_kind e.value.1 what) (list_any (λ x. x.value.0 == i) es) (list_any (λ x. x.value.0 == i && same_kind x.value.1 what) es) none (none_as i what es)

or_true : (b : Bool) → (b || true) ≡ true
or_true true = refl
or_true false = refl

-- an entry that is found is one that passes its test
found_passes : {X : Type 0} (q : X → Bool) (name : List ℕ) (x : X) (es : List (List ℕ × X)) → fin.find (slice_cmp nat_cmp) name es ≡ Some x → q x ≡ true → list_any (λ e. q e.1) es ≡ true
found_passes q name x [] found is = absurd (cc)
found_passes q name x (e ∷ es) found is =
    elim (eq_by_cmp (slice_cmp nat_cmp) name e.0) as (λ b. cond b (Some e.1) (fin.find (slice_cmp nat_cmp) name es) ≡ Some x → (q e.1 || list_any (λ f. q f.1) es) ≡ true) [
      | true ↦ λ here. let same : e.1 ≡ x = cc in ap (λ b. b || list_any (λ f. q f.1) es) (ap q same ∙ is)
      | false ↦ λ rest. ap (λ b. q e.1 || b) (found_passes q name x es rest is) ∙ or_true (q e.1)
    ] found

itself : (what : Kind) → same_kind what what ≡ true
itself kinds.File = refl
itself kinds.Directory = refl

-- what a directory has under a name it names as of that kind
pub child_is_named : (name : List ℕ) (e : ℕ × Kind) (v : NodeView) → Some e ≡ fin.get (entries_of v) name → lists_as e.0 e.1 (Some v) ≡ true
child_is_named name e v is =
    let test : (e.0 == e.0 && same_kind e.1 e.1) ≡ true = ap (λ b. b && same_kind e.1 e.1) (eq-eqb e.0 e.0 refl) ∙ itself e.1 in
    sym (tells_is e.0 e.1 v) ∙ found_passes (λ (x : ℕ × Kind). x.0 == e.0 && same_kind x.1 e.1) name e (fin.entries (entries_of v)) (sym (fin.get-entries (entries_of v) name) ∙ sym is) test

-- ---- all copies

or_turned : (a b : Bool) → (a || b) ≡ (b || a)
or_turned true true = refl
or_turned true false = refl
or_turned false true = refl
or_turned false false = refl

-- one number more
any_next : (n : ℕ) (p : ℕ → Bool) → any_up_to (n + 1) p ≡ (p (n + 1) || any_up_to n p)
unfolding any_up_to
any_next n p = ap (λ m. any_up_to m p) (add-one n) ∙ ap (λ m. p m || any_up_to n p) (sym (add-one n))

pub any_with_next : (n : ℕ) (p : ℕ → Bool) (before here : Bool) → before ≡ any_up_to n p → here ≡ p (n + 1) → (before || here) ≡ any_up_to (n + 1) p
any_with_next n p before here so_far next = ap (λ b. b || here) so_far ∙ ap (λ b. any_up_to n p || b) next ∙ or_turned (any_up_to n p) (p (n + 1)) ∙ sym (any_next n p)

-- what is told where an entry names an inode as a directory
pub told_dir : (d f : Bool) → d ≡ true → is_dir_by None d f ≡ Some (Some true)
told_dir d f is = ap (λ b. is_dir_by None b f) is

-- ---- an entry at hand

within : (at : ℕ) → is_inode at ≡ true → (1 ≤ at) × (at ≤ MAX_INODE)
within at is = let parts = and_parts (nat_le 1 at) (nat_le at MAX_INODE) is in (grind (arith, nat_tests, parts.0), grind (arith, nat_tests, parts.1))

root_or_told : (b : Bool) (copy : Option (Option NodeView)) (d f : Bool) → copy ≡ None → d ≡ true → (if b then Some (Some true) else is_dir_by copy d f) ≡ Some (Some true)
root_or_told true copy d f none is = refl
root_or_told false copy d f none is = ap (λ (c : Option (Option NodeView)). is_dir_by c d f) none ∙ told_dir d f is

-- an inode of which there is no copy is a directory where the copy of another one names it as that
pub dir_by_entry : (copies : List (Option (Option NodeView))) (at i : ℕ) → is_inode at ≡ true → copy_at copies i ≡ None → lists_as i kinds.Directory (unwrap_or (copy_at copies at) None) ≡ true → known_dir_in copies i ≡ Some (Some true)
dir_by_entry copies at i is none named =
    let range = within at is in
    root_or_told (i == ROOT) (copy_at copies i) (is_listed_in copies i kinds.Directory) (is_listed_in copies i kinds.File) none
    (any_there MAX_INODE at (λ d. lists_as i kinds.Directory (unwrap_or (copy_at copies d) None)) range.0 range.1 named)
