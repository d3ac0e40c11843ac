-- What each change of a tree leaves of its limits.
use Rattle.std.proofs.Common.{◌≡◌, inl, inr, ℕ, ◌+◌, ◌-◌, ◌<◌, ◌≤◌, List, length, Some, None, Option, cond, ap, sym, ◌∙◌, subst, Bool, true, false, arith}
use Rattle.std.specs.Prelude.{is_some}
use Rattle.std.proofs.lemmas.Grind.{common_steps}
use Rattle.std.proofs.lemmas.Bool.Decides.{eqb_tells}
use Rattle.std.specs.FinMap as fin
use Rattle.std.specs.Cmp.Lexicographic.{nat_list_cmp_total}
use Rattle.posix_calls.specs.Content.{Entries, with_bytes, with_length}
use Rattle.posix_calls.specs.Name.{is_name}
use Rattle.posix_calls.specs.Tree.{Tree, Node, File, Dir, set_node, bytes_of, entries_of}
use Rattle.posix_calls.specs.declared.operation.Location.{Location}
use Rattle.posix_calls.specs.declared.limits.TheConstants.{MAX_FILE}
use Rattle.posix_calls.specs.Operations.{with_entry, without_entry}
use Rattle.posix_calls.proofs.Counts.{order, get_left, insert_named}
use Rattle.posix_calls.proofs.Changes.{set_there, set_other}

-- ---- lengths

pub written_length : (at : ℕ) (new old : List ℕ) (most : ℕ) → at + length new ≤ most → length old ≤ most → length (with_bytes at new old) ≤ most
written_length at new old most short had = grind (arith, common_steps)

pub resized_length : (len : ℕ) (old : List ℕ) → length (with_length len old) ≡ len
resized_length len old = grind (arith, common_steps)

insert_if : (b : Bool) (n : ℕ) → cond b n (n + 1) ≤ n + 1
insert_if true n = omega arith
insert_if false n = omega arith

pub insert_length : (m : Entries ℕ) (name : List ℕ) (v most : ℕ) → fin.len m < most → fin.len (fin.insert m name v) ≤ most
insert_length m name v most few =
    let e = fin.len-insert nat_list_cmp_total m name v in
    let h = insert_if (fin.contains_key m name) (fin.len m) in
    omega (arith, e, h, few)

remove_if : (b : Bool) (n : ℕ) → cond b (n - 1) n ≤ n
remove_if true n = omega arith
remove_if false n = omega arith

pub remove_length : (m : Entries ℕ) (name : List ℕ) → fin.len (fin.remove m name) ≤ fin.len m
remove_length m name =
    let e = fin.len-remove nat_list_cmp_total m name in
    let h = remove_if (fin.contains_key m name) (fin.len m) in
    omega (arith, e, h)

no_entries : (m : Entries ℕ) (name : List ℕ) (i : ℕ) → fin.get m name ≡ Some i → fin.len m ≡ 0 → ⊥
no_entries m name i is none =
    let empty : m ≡ fin.empty = fin.empty_of_len m none in
    let clash : None ≡ Some i = sym (ap (λ x. fin.get x name) empty ∙ fin.get-empty order name) ∙ is in
    cc

-- where there was an entry, one fewer is left
pub removed_length : (m : Entries ℕ) (name : List ℕ) (i most : ℕ) → fin.get m name ≡ Some i → fin.len m ≤ most → fin.len (fin.remove m name) < most
removed_length m name i most is few =
    let e : fin.len (fin.remove m name) ≡ fin.len m - 1 = fin.len-remove nat_list_cmp_total m name ∙ ap (λ o. cond (is_some o) (fin.len m - 1) (fin.len m)) is in
    elim (eqb_tells (fin.len m) 0) [
      | inl zero_len ↦ absurd (no_entries m name i is zero_len.1)
      | inr off ↦ let h = off.1 in omega (arith, e, h, few)
    ]

-- ---- one node

-- a node that keeps the limits
pub record IsNodeWithin (o : Option Node) : Type 0 where
  pub size : length (bytes_of o) ≤ MAX_FILE
  pub entries : fin.len (entries_of o) ≤ 3584
  pub valid : (name : List ℕ) (j : ℕ) → fin.get (entries_of o) name ≡ Some j → is_name name ≡ true

no_name : (name : List ℕ) (j : ℕ) → fin.get {X = ℕ} {R = order} fin.empty name ≡ Some j → is_name name ≡ true
no_name name j e = absurd (let clash : None ≡ Some j = sym (fin.get-empty order name) ∙ e in cc)

pub file_within : (bytes : List ℕ) → length bytes ≤ MAX_FILE → IsNodeWithin (Some (File bytes))
file_within bytes few = record { size = few; entries = let e = fin.len-empty order ℕ in omega (arith, e); valid = no_name }

pub none_within : IsNodeWithin None
none_within = record { size = omega arith; entries = let e = fin.len-empty order ℕ in omega (arith, e); valid = no_name }

pub empty_within : IsNodeWithin (Some (Dir fin.empty))
empty_within = record { size = omega arith; entries = let e = fin.len-empty order ℕ in omega (arith, e); valid = no_name }

-- all nodes keep the limits
abbrev pub AreNodesWithin : Tree → Type 0
AreNodesWithin t = (i : ℕ) → IsNodeWithin (t i)

pub set_within : (t : Tree) (i : ℕ) (x : Option Node) → AreNodesWithin t → IsNodeWithin x → AreNodesWithin (set_node t i x)
set_within t i x all new j = elim (eqb_tells j i) [
  | inl same ↦ subst IsNodeWithin (sym (ap (set_node t i x) same.1 ∙ set_there t i x)) new
  | inr off ↦ subst IsNodeWithin (sym (set_other t i j x off.1)) (all j)
]

pub left_within : (t : Tree) (at : Location) → AreNodesWithin t → AreNodesWithin (without_entry t at)
left_within t at all =
    let m = entries_of (t at.parent) in
    let was = all at.parent in
    let few = was.entries in
    let less = remove_length m at.name in
    set_within t at.parent (Some (Dir (fin.remove m at.name))) all (record { size = omega arith; entries = omega (arith, few, less); valid = λ name j is. was.valid name j (get_left m at.name name j is) })

insert_valid : (m : Entries ℕ) (at : List ℕ) (i : ℕ) → is_name at ≡ true → ((name : List ℕ) (j : ℕ) → fin.get m name ≡ Some j → is_name name ≡ true) → (name : List ℕ) (j : ℕ) → fin.get (fin.insert m at i) name ≡ Some j → is_name name ≡ true
insert_valid m at i valid was name j is = elim (insert_named m at name i j is) [
  | inl same ↦ ap is_name same ∙ valid
  | inr old ↦ was name j old
]

pub entered_within : (t : Tree) (at : Location) (i : ℕ) → AreNodesWithin t → fin.len (entries_of (t at.parent)) < 3584 → is_name at.name ≡ true → AreNodesWithin (with_entry t at i)
entered_within t at i all few valid =
    let m = entries_of (t at.parent) in
    let was = all at.parent in
    set_within t at.parent (Some (Dir (fin.insert m at.name i))) all (record { size = omega arith; entries = insert_length m at.name i 3584 few; valid = λ name j is. insert_valid m at.name i valid was.valid name j is })

insert_same : (m : Entries ℕ) (name : List ℕ) (i v : ℕ) → fin.get m name ≡ Some i → fin.len (fin.insert m name v) ≡ fin.len m
insert_same m name i v is = fin.len-insert nat_list_cmp_total m name v ∙ ap (λ o. cond (is_some o) (fin.len m) (fin.len m + 1)) is

-- an entry that is there leads to something else
pub over_within : (t : Tree) (at : Location) (i j : ℕ) → AreNodesWithin t → fin.get (entries_of (t at.parent)) at.name ≡ Some i → AreNodesWithin (with_entry t at j)
over_within t at i j all is =
    let m = entries_of (t at.parent) in
    let was = all at.parent in
    let few = was.entries in
    let same = insert_same m at.name i j is in
    set_within t at.parent (Some (Dir (fin.insert m at.name j))) all (record { size = omega arith; entries = omega (arith, few, same); valid = λ name k e. insert_valid m at.name j (was.valid at.name i is) was.valid name k e })
