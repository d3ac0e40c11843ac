-- By how much a graph rises to another, inode by inode.
use Rattle.std.proofs.Common.{◌≡◌, ◌≢◌, inl, inr, ℕ, ◌+◌, ◌-◌, ◌≤◌, Bool, true, false, cond, List, [], ◌∷◌, length, refl, Option, Some, None, ap, sym, subst, ◌∙◌, arith}
use Rattle.std.specs.Prelude.{is_some}
use Rattle.std.proofs.lemmas.Bool.Decides.{eqb_tells}
use Rattle.std.specs.Cmp.Lexicographic.{nat_list_cmp_total}
use Rattle.std.specs.FinMap as fin
use Rattle.posix_calls.specs.Content.{Entries}
use Rattle.posix_calls.specs.Units.{file_units, directory_units}
use Rattle.posix_calls.specs.Tree.{sum_up_to}
use Rattle.posix_calls.proofs.Counts.{order}
use Rattle.posix_calls.proofs.Sums.{one_changes, all_zero}
use Rattle.log_record.specs.file_graph.Graph.{Graph, Node, FileBody, DirBody, acted_graph, after_effect, after_effects, touches, subjects, is_among, subject_after, in_directory, body_cost, cost}
use Rattle.log_record.specs.file_graph.Units.{rise, growth}
use Rattle.log_record.proofs.file_graph_lemmas.Touches.{untouched, local}
use Rattle.log_record.specs.file_graph.declared.effect.Kind.{Kind}
use Rattle.log_record.specs.file_graph.declared.effect.Kind.TheVariants as kind
use Rattle.log_record.specs.file_graph.declared.effect.Effect.{Effect}
use Rattle.log_record.specs.file_graph.declared.effect.Effect.TheVariants as effect
use Rattle.call_effects.specs.Wholes.{kind_of, body_kind}
use Rattle.call_effects.proofs.Changes.{dir, one_subject, leave_is}
use Rattle.call_effects.proofs.Facts.{dir_of_kind}
use Rattle.call_effects.proofs.Puts.{put, put_there, put_other}

-- ---- sums with few terms

pub sum_one : (n : ℕ) (f : ℕ → ℕ) (d : ℕ) → 1 ≤ d → d ≤ n → ((j : ℕ) → j ≢ d → f j ≡ 0) → sum_up_to n f ≡ f d
sum_one n f d low high others =
    let moved : sum_up_to n f + 0 ≡ sum_up_to n (λ j. 0) + f d = one_changes n (λ j. 0) f d low high others in
    let nothing : sum_up_to n (λ j. 0) ≡ 0 = all_zero n (λ j. 0) (λ j. refl) in
    omega (arith, moved, nothing)

pub sum_two : (n : ℕ) (f : ℕ → ℕ) (d e : ℕ) → 1 ≤ d → d ≤ n → 1 ≤ e → e ≤ n → d ≢ e → ((j : ℕ) → j ≢ d → j ≢ e → f j ≡ 0) → sum_up_to n f ≡ f d + f e
sum_two n f d e low high low_e high_e apart others =
    let h = put f e 0 in
    let moved : sum_up_to n f + h e ≡ sum_up_to n h + f e = one_changes n h f e low_e high_e (λ j off. sym (put_other f e j 0 off)) in
    let first : sum_up_to n h ≡ h d = sum_one n h d low high (λ j off. at_other j off) in
    let here : h d ≡ f d = put_other f e d 0 apart in
    let there : h e ≡ 0 = put_there f e 0 in
    omega (arith, moved, first, here, there) where
      at_other : (j : ℕ) → j ≢ d → put f e 0 j ≡ 0
      at_other j off = elim (eqb_tells j e) [
        | inl same ↦ ap (put f e 0) same.1 ∙ put_there f e 0
        | inr other ↦ put_other f e j 0 other.1 ∙ others j off other.1
      ]

-- ---- the rises of all inodes

abbrev pub rises : Graph → Graph → ℕ
rises g h = sum_up_to 1024 (rise g h)

pub same_sums : (n : ℕ) (f h : ℕ → ℕ) → ((j : ℕ) → f j ≡ h j) → sum_up_to n f ≡ sum_up_to n h
same_sums n f h same = ap (sum_up_to n) (λ t j. same j t)

if_touched : (b : Bool) (old new : ℕ) → (b ≡ false → new ≡ old) → cond b (new - old) 0 ≡ new - old
if_touched true old new same = refl
if_touched false old new same = let e : new ≡ old = same refl in omega (arith, e)

-- what is not touched does not rise
pub growth_is : (g : Graph) (es : List Effect) → growth g es ≡ rises g (after_effects g es)
unfolding growth
growth_is g es =
    same_sums 1024 (λ i. cond (is_among i (touches es)) (rise g (after_effects g es) i) 0) (rise g (after_effects g es))
    (λ i. if_touched (is_among i (touches es)) (cost (g i)) (cost (after_effects g es i)) (λ e. ap cost (untouched g es i e)))

no_rise : (old new : ℕ) → new ≤ old → new - old ≡ 0
no_rise old new less = omega (arith, less)

-- where no inode costs more, there is no rise
pub none_rises : (g h : Graph) → ((j : ℕ) → cost (h j) ≤ cost (g j)) → rises g h ≡ 0
none_rises g h less = all_zero 1024 (rise g h) (λ j. no_rise (cost (g j)) (cost (h j)) (less j))

-- where one inode alone may cost more, the rise is its own
pub one_rises : (g h : Graph) (d : ℕ) → 1 ≤ d → d ≤ 1024 → ((j : ℕ) → j ≢ d → cost (h j) ≤ cost (g j)) → rises g h ≡ cost (h d) - cost (g d)
one_rises g h d low high less = sum_one 1024 (rise g h) d low high (λ j off. no_rise (cost (g j)) (cost (h j)) (less j off))

pub two_rise : (g h : Graph) (d e : ℕ) → 1 ≤ d → d ≤ 1024 → 1 ≤ e → e ≤ 1024 → d ≢ e → ((j : ℕ) → j ≢ d → j ≢ e → cost (h j) ≤ cost (g j)) → rises g h ≡ (cost (h d) - cost (g d)) + (cost (h e) - cost (g e))
two_rise g h d e low high low_e high_e apart less = sum_two 1024 (rise g h) d e low high low_e high_e apart (λ j off other. no_rise (cost (g j)) (cost (h j)) (less j off other))

-- ---- growth is that of the nodes that are touched

alike_if : (b : Bool) (x y : ℕ) → (b ≡ true → x ≡ y) → cond b x 0 ≡ cond b y 0
alike_if true x y same = same refl
alike_if false x y same = refl

pub growth_local : (g h : Graph) (es : List Effect) → ((i : ℕ) → is_among i (touches es) ≡ true → g i ≡ h i) → growth g es ≡ growth h es
unfolding growth
growth_local g h es same =
    same_sums 1024 (λ i. cond (is_among i (touches es)) (rise g (after_effects g es) i) 0) (λ i. cond (is_among i (touches es)) (rise h (after_effects h es) i) 0)
    (λ i. alike_if (is_among i (touches es)) (rise g (after_effects g es) i) (rise h (after_effects h es) i) (λ in_it. at_touched i (same i in_it))) where
      at_touched : (i : ℕ) → g i ≡ h i → rise g (after_effects g es) i ≡ rise h (after_effects h es) i
      at_touched i here = ap (λ o. cost o - cost (g i)) (local g h es same i here) ∙ ap (λ o. cost (after_effects h es i) - cost o) here

-- ---- units

pub units_of_more : (a b : ℕ) → a ≤ b → directory_units a ≤ directory_units b
units_of_more a b more = omega (arith, more)

pub units_of_none : (n : ℕ) → file_units 0 ≤ file_units n
units_of_none n = omega arith

-- ---- how many entries

-- how many entries a node has
abbrev pub entry_count : Option Node → ℕ
entry_count None = 0
entry_count (Some n) = elim (n.body) [ FileBody bytes ↦ 0 | DirBody es ↦ fin.len es ]

pub len_inserted : {X : Type 0} (m : Entries X) (name : List ℕ) (v : X) → fin.get m name ≡ None → fin.len (fin.insert m name v) ≡ fin.len m + 1
len_inserted m name v none = fin.len-insert nat_list_cmp_total m name v ∙ ap (λ o. cond (is_some o) (fin.len m) (fin.len m + 1)) none

at_most_one : (b : Bool) (n : ℕ) → cond b n (n + 1) ≤ n + 1
at_most_one true n = omega arith
at_most_one false n = omega arith

len_insert : {X : Type 0} (m : Entries X) (name : List ℕ) (v : X) → fin.len (fin.insert m name v) ≤ fin.len m + 1
len_insert m name v = let e = fin.len-insert nat_list_cmp_total m name v in let h = at_most_one (fin.contains_key m name) (fin.len m) in omega (arith, e, h)

no_more : (b : Bool) (n : ℕ) → cond b (n - 1) n ≤ n
no_more true n = omega arith
no_more false n = omega arith

len_remove : {X : Type 0} (m : Entries X) (name : List ℕ) → fin.len (fin.remove m name) ≤ fin.len m
len_remove m name = let e = fin.len-remove nat_list_cmp_total m name in let h = no_more (fin.contains_key m name) (fin.len m) in omega (arith, e, h)

-- where there was an entry, one fewer is left
len_removed : {X : Type 0} (m : Entries X) (name : List ℕ) (v : X) → fin.get m name ≡ Some v → fin.len (fin.remove m name) + 1 ≤ fin.len m
len_removed {X = X} m name v is =
    let e : fin.len (fin.remove m name) ≡ fin.len m - 1 = fin.len-remove nat_list_cmp_total m name ∙ ap (λ o. cond (is_some o) (fin.len m - 1) (fin.len m)) is in
    elim (eqb_tells (fin.len m) 0) [
      | inl empty ↦
          let clash : None ≡ Some v = sym (ap (λ x. fin.get x name) (fin.empty_of_len m empty.1) ∙ fin.get-empty order name) ∙ is in
          absurd cc
      | inr off ↦ let some = off.1 in omega (arith, e, some)
    ]

-- ---- one effect at one inode

-- what holds of a node, and of what an effect makes of it by itself, holds after an effect that is no Swap
each : (P : Option Node → Type 0) (g : Graph) (e : Effect) (j : ℕ) → P (g j) → P (subject_after e (g j)) → P (acted_graph g e j)
each P g e j stays acts = elim (is_among j (subjects e)) as (λ b. P (cond b (subject_after e (g j)) (g j))) [ true ↦ acts | false ↦ stays ]

same_le : (n : ℕ) → n ≤ n
same_le n = omega arith

leave_cost : (d : ℕ) (name : List ℕ) (o : Option Node) → cost (subject_after (effect.Leave d name) o) ≤ cost o
leave_cost d name None = same_le 0
leave_cost d name (Some n) = elim (n.body) as (λ b. body_cost (in_directory (λ es. fin.remove es name) b) ≤ body_cost b) [
  | FileBody bytes ↦ same_le (file_units (length bytes))
  | DirBody es ↦ units_of_more (fin.len (fin.remove es name)) (fin.len es) (len_remove es name)
]

leave_count : (d : ℕ) (name : List ℕ) (o : Option Node) → entry_count (subject_after (effect.Leave d name) o) ≤ entry_count o
leave_count d name None = same_le 0
leave_count d name (Some n) = elim (n.body) as (λ b. entry_count (Some (record { names = n.names; body = in_directory (λ es. fin.remove es name) b })) ≤ entry_count (Some (record { names = n.names; body = b }))) [
  | FileBody bytes ↦ same_le 0
  | DirBody es ↦ len_remove es name
]

leave_kind : (d : ℕ) (name : List ℕ) (o : Option Node) → kind_of (subject_after (effect.Leave d name) o) ≡ kind_of o
leave_kind d name None = refl
leave_kind d name (Some n) = elim (n.body) as (λ b. Some (body_kind (in_directory (λ es. fin.remove es name) b)) ≡ Some (body_kind b)) [ FileBody bytes ↦ refl | DirBody es ↦ refl ]

names_cost : (i n : ℕ) (o : Option Node) → cost (subject_after (effect.Names i n) o) ≡ cost o
names_cost i n None = refl
names_cost i n (Some x) = refl

names_count : (i n : ℕ) (o : Option Node) → entry_count (subject_after (effect.Names i n) o) ≡ entry_count o
names_count i n None = refl
names_count i n (Some x) = refl

names_kind : (i n : ℕ) (o : Option Node) → kind_of (subject_after (effect.Names i n) o) ≡ kind_of o
names_kind i n None = refl
names_kind i n (Some x) = refl

-- ---- one effect at every inode

pub left_costs : (g : Graph) (d : ℕ) (name : List ℕ) (j : ℕ) → cost (after_effect g (effect.Leave d name) j) ≤ cost (g j)
left_costs g d name j = each (λ o. cost o ≤ cost (g j)) g (effect.Leave d name) j (same_le (cost (g j))) (leave_cost d name (g j))

pub left_counts : (g : Graph) (d : ℕ) (name : List ℕ) (j : ℕ) → entry_count (after_effect g (effect.Leave d name) j) ≤ entry_count (g j)
left_counts g d name j = each (λ o. entry_count o ≤ entry_count (g j)) g (effect.Leave d name) j (same_le (entry_count (g j))) (leave_count d name (g j))

pub left_kinds : (g : Graph) (d : ℕ) (name : List ℕ) (j : ℕ) → kind_of (after_effect g (effect.Leave d name) j) ≡ kind_of (g j)
left_kinds g d name j = each (λ o. kind_of o ≡ kind_of (g j)) g (effect.Leave d name) j refl (leave_kind d name (g j))

pub named_costs : (g : Graph) (i n j : ℕ) → cost (after_effect g (effect.Names i n) j) ≡ cost (g j)
named_costs g i n j = each (λ o. cost o ≡ cost (g j)) g (effect.Names i n) j refl (names_cost i n (g j))

pub named_counts : (g : Graph) (i n j : ℕ) → entry_count (after_effect g (effect.Names i n) j) ≡ entry_count (g j)
named_counts g i n j = each (λ o. entry_count o ≡ entry_count (g j)) g (effect.Names i n) j refl (names_count i n (g j))

pub named_kinds : (g : Graph) (i n j : ℕ) → kind_of (after_effect g (effect.Names i n) j) ≡ kind_of (g j)
named_kinds g i n j = each (λ o. kind_of o ≡ kind_of (g j)) g (effect.Names i n) j refl (names_kind i n (g j))

pub dropped_costs : (g : Graph) (i j : ℕ) → cost (after_effect g (effect.Drop i) j) ≤ cost (g j)
dropped_costs g i j = each (λ o. cost o ≤ cost (g j)) g (effect.Drop i) j (same_le (cost (g j))) (omega arith)

pub dropped_counts : (g : Graph) (i j : ℕ) → entry_count (after_effect g (effect.Drop i) j) ≤ entry_count (g j)
dropped_counts g i j = each (λ o. entry_count o ≤ entry_count (g j)) g (effect.Drop i) j (same_le (entry_count (g j))) (omega arith)

-- ---- a name that goes makes room for another

abbrev pub IsDir : Option Node → Type 0
IsDir o = kind_of o ≡ Some kind.Directory

dir_cost : (o : Option Node) → IsDir o → cost o ≡ directory_units (entry_count o)
dir_cost o is = let d = dir_of_kind o is in ap cost d.2 ∙ sym (ap (λ x. directory_units (entry_count x)) d.2)

entered_cost : (d i : ℕ) (k : Kind) (name : List ℕ) (o : Option Node) (most : ℕ) → IsDir o → entry_count o + 1 ≤ most → cost (subject_after (effect.Enter d i k name) o) ≤ directory_units most
entered_cost d i k name o most is room =
    let at = dir_of_kind o is in
    let es = at.1 in
    let count : entry_count o ≡ fin.len es = ap entry_count at.2 in
    let more = len_insert es name (i, k) in
    subst (λ x. cost (subject_after (effect.Enter d i k name) x) ≤ directory_units most) (sym at.2) (units_of_more (fin.len (fin.insert es name (i, k))) most (omega (arith, count, more, room)))

pub entered_again : (g h : Graph) (d i : ℕ) (k : Kind) (name : List ℕ) → ((j : ℕ) → cost (h j) ≤ cost (g j)) → IsDir (g d) → IsDir (h d) → entry_count (h d) + 1 ≤ entry_count (g d) → rises g (after_effect h (effect.Enter d i k name)) ≡ 0
entered_again g h d i k name less was is room = none_rises g (after_effect h (effect.Enter d i k name)) (λ j. elim (eqb_tells j d) [
  | inl same ↦ subst (λ x. cost (after_effect h (effect.Enter d i k name) x) ≤ cost (g x)) (sym same.1) at_d
  | inr off ↦ subst (λ o. cost o ≤ cost (g j)) (sym (ap (λ f. f j) (one_subject h (effect.Enter d i k name) d refl) ∙ put_other h d j (subject_after (effect.Enter d i k name) (h d)) off.1)) (less j)
]) where
  at_d : cost (after_effect h (effect.Enter d i k name) d) ≤ cost (g d)
  at_d =
      let bound = entered_cost d i k name (h d) (entry_count (g d)) is room in
      let all = dir_cost (g d) was in
      each (λ o. cost o ≤ cost (g d)) h (effect.Enter d i k name) d (less d) (omega (arith, bound, all))

-- a name of a directory goes
pub left_room : (g : Graph) (d n : ℕ) (name : List ℕ) (es : Entries (ℕ × Kind)) (e : ℕ × Kind) → g d ≡ dir n es → fin.get es name ≡ Some e → entry_count (after_effect g (effect.Leave d name) d) + 1 ≤ entry_count (g d)
left_room g d n name es e is there =
    let after : entry_count (after_effect g (effect.Leave d name) d) ≡ fin.len (fin.remove es name) = ap (λ f. entry_count (f d)) (leave_is g d n name es is) ∙ ap entry_count (put_there g d (dir n (fin.remove es name))) in
    let was : entry_count (g d) ≡ fin.len es = ap entry_count is in
    let fewer = len_removed es name e there in
    omega (arith, after, was, fewer)

-- the last two effects of a rename, once there is room at the new name
pub moved_again : (g h : Graph) (p d i : ℕ) (k : Kind) (old name : List ℕ) → ((j : ℕ) → cost (h j) ≤ cost (g j)) → IsDir (g d) → IsDir (h d) → entry_count (h d) + 1 ≤ entry_count (g d) → rises g (after_effect (after_effect h (effect.Leave p old)) (effect.Enter d i k name)) ≡ 0
moved_again g h p d i k old name less was is room =
    let fewer = left_counts h p old d in
    entered_again g (after_effect h (effect.Leave p old)) d i k name
    (λ j. let a = left_costs h p old j in let b = less j in omega (arith, a, b))
    was (left_kinds h p old d ∙ is) (omega (arith, fewer, room))
