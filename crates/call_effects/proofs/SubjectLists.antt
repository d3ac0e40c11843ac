-- The inodes that an operation changes, against what its effects touch.
use Rattle.std.proofs.Common.{◌≡◌, ◌⊎◌, inl, inr, ℕ, zero, suc, ◌+◌, ◌<◌, ◌≤◌, List, [], ◌∷◌, length, refl, cond, ap, sym, ◌∙◌, subst, true, false, Bool, arith, ◌==◌, ◌||◌}
use Rattle.std.specs.Prelude.{nat_lt, slice_index}
use Rattle.std.specs.List.Sorted.{IsStrictlyIncreasing}
use Rattle.std.proofs.lemmas.Bool.{ltb-true, ltb-false}
use Rattle.std.proofs.lemmas.Bool.Decides.{eqb_tells}
use Rattle.posix_calls.specs.declared.operation.Operation.{Operation}
use Rattle.posix_calls.specs.declared.operation.Operation.TheVariants.{Tell, NewDir, NewFile, OpenFile, CloseFile, Write, Resize, RemoveDir, AddName, DropName, Move, Exchange}
use Rattle.posix_calls.specs.declared.operation.Replaced.TheVariants.{Nothing, OldFile, OldDir}
use Rattle.log_record.specs.file_graph.Graph.{is_among, touches}
use Rattle.call_effects.specs.Effects.{effects_by}
use Rattle.call_effects.specs.Subjects.{put_in, sorted_inodes, subjects_of}

which : (b : Bool) → (b ≡ true) ⊎ (b ≡ false)
which true = inl refl
which false = inr refl

-- ---- what is among the inodes

exchanged : (a b c : Bool) → (a || (b || c)) ≡ (b || (a || c))
exchanged true true c = refl
exchanged true false c = refl
exchanged false true c = refl
exchanged false false c = refl

twice : (a c : Bool) → (a || (a || c)) ≡ (a || c)
twice true c = refl
twice false c = refl

pub among_put : (k i : ℕ) (js : List ℕ) → is_among k (put_in i js) ≡ ((i == k) || is_among k js)
among_put k i [] = refl
among_put k i (j ∷ js) = elim (which (nat_lt j i)) [
  | inl less ↦ rw less (ap (λ b. (j == k) || b) (among_put k i js) ∙ exchanged (j == k) (i == k) (is_among k js))
  | inr not_less ↦ rw not_less (elim (eqb_tells j i) [
    | inl same ↦ rw same.0 (sym (twice (j == k) (is_among k js)) ∙ ap (λ n. (n == k) || ((j == k) || is_among k js)) same.1)
    | inr off ↦ rw off.0 refl
  ])
]

pub among_rising : (k : ℕ) (is : List ℕ) → is_among k (sorted_inodes is) ≡ is_among k is
among_rising k [] = refl
among_rising k (i ∷ is) = among_put k i (sorted_inodes is) ∙ ap (λ b. (i == k) || b) (among_rising k is)

-- ---- rising

-- inodes that rise, from low on
abbrev From : ℕ → List ℕ → Type 0
From low [] = Unit {0}
From low (i ∷ is) = (low ≤ i) × From (i + 1) is

-- what is put in keeps the order
from_put : (low i : ℕ) (js : List ℕ) → low ≤ i → From low js → From low (put_in i js)
from_put low i [] le r = (le, tt)
from_put low i (j ∷ js) le r = elim (which (nat_lt j i)) [
  | inl less ↦ rw less (r.0, from_put (j + 1) i js (let l = ltb-true j i less in omega (arith, l)) r.1)
  | inr not_less ↦ rw not_less (elim (eqb_tells j i) [
    | inl same ↦ rw same.0 r
    | inr off ↦ rw off.0 (le, ((let l = ltb-false j i not_less in let other = off.1 in omega (arith, l, other)), r.1))
  ])
]

from_rising : (is : List ℕ) → From 0 (sorted_inodes is)
from_rising [] = tt
from_rising (i ∷ is) = from_put 0 i (sorted_inodes is) (omega arith) (from_rising is)

-- what rises by more than nothing rises from each to the next
rises : (low : ℕ) (is : List ℕ) → From low is → IsStrictlyIncreasing is
rises low [] r k within = absurd (omega (arith, within))
rises low (i ∷ []) r k within = absurd (omega (arith, within))
rises low (i ∷ j ∷ js) r zero within = let next = r.1.0 in omega (arith, next)
rises low (i ∷ j ∷ js) r (suc k) within =
    let later : slice_index (j ∷ js) k < slice_index (j ∷ js) (k + 1) = rises (i + 1) (j ∷ js) r.1 k (omega (arith, within)) in
    let next : suc k + 1 ≡ suc (k + 1) = omega arith in
    subst (λ n. slice_index (j ∷ js) k < slice_index (i ∷ j ∷ js) n) (sym next) later

rising_rises : (is : List ℕ) → IsStrictlyIncreasing (sorted_inodes is)
rising_rises is = rises 0 (sorted_inodes is) (from_rising is)

one_rises : (i : ℕ) → IsStrictlyIncreasing (i ∷ [])
one_rises i = rises 0 (i ∷ []) (omega arith, tt)

none_rises : IsStrictlyIncreasing []
none_rises = rises 0 [] tt

pub subjects_rise : (new : ℕ) (operation : Operation) → IsStrictlyIncreasing (subjects_of new operation)
subjects_rise new (Tell answer) = none_rises
subjects_rise new (NewDir at) = rising_rises (new ∷ at.parent ∷ [])
subjects_rise new (NewFile at number reads writes) = rising_rises (new ∷ at.parent ∷ [])
subjects_rise new (OpenFile i true number reads writes) = one_rises i
subjects_rise new (OpenFile i false number reads writes) = none_rises
subjects_rise new (CloseFile i number) = none_rises
subjects_rise new (Write i at bytes) = one_rises i
subjects_rise new (Resize i len) = one_rises i
subjects_rise new (RemoveDir at i) = rising_rises (i ∷ at.parent ∷ [])
subjects_rise new (AddName at i) = rising_rises (i ∷ at.parent ∷ [])
subjects_rise new (DropName at i) = rising_rises (i ∷ at.parent ∷ [])
subjects_rise new (Move from to i is_dir Nothing) = rising_rises (to.parent ∷ from.parent ∷ [])
subjects_rise new (Move from to i is_dir (OldFile j)) = rising_rises (to.parent ∷ from.parent ∷ j ∷ [])
subjects_rise new (Move from to i is_dir (OldDir j)) = rising_rises (to.parent ∷ from.parent ∷ j ∷ [])
subjects_rise new (Exchange first second i j) = rising_rises (first.parent ∷ second.parent ∷ [])

-- ---- what the effects touch

-- the order in which two are named, and how often, does not matter
turned : (k i j : ℕ) → is_among k (i ∷ j ∷ []) ≡ is_among k (j ∷ i ∷ [])
turned k i j = exchanged (i == k) (j == k) false

made : (k new parent : ℕ) → is_among k (sorted_inodes (new ∷ parent ∷ [])) ≡ is_among k (new ∷ parent ∷ new ∷ [])
made k new parent = among_rising k (new ∷ parent ∷ []) ∙ sym (ap (λ b. (new == k) || b) (turned k parent new) ∙ twice (new == k) (is_among k (parent ∷ [])))

both : (k i parent : ℕ) → is_among k (sorted_inodes (i ∷ parent ∷ [])) ≡ is_among k (parent ∷ i ∷ [])
both k i parent = among_rising k (i ∷ parent ∷ []) ∙ turned k i parent

from_to : (k from to : ℕ) → is_among k (sorted_inodes (to ∷ from ∷ [])) ≡ is_among k (from ∷ to ∷ [])
from_to k from to = both k to from

or_all : (a b c : Bool) → (a || (b || (c || false))) ≡ (a || (c || (b || (a || false))))
or_all true b c = refl
or_all false true true = refl
or_all false true false = refl
or_all false false true = refl
or_all false false false = refl

replaced : (k from to j : ℕ) → is_among k (sorted_inodes (to ∷ from ∷ j ∷ [])) ≡ is_among k (to ∷ j ∷ from ∷ to ∷ [])
replaced k from to j = among_rising k (to ∷ from ∷ j ∷ []) ∙ or_all (to == k) (from == k) (j == k)

pub subjects_touched : (names new k : ℕ) (operation : Operation) → is_among k (subjects_of new operation) ≡ is_among k (touches (effects_by names new operation))
subjects_touched names new k (Tell answer) = refl
subjects_touched names new k (NewDir at) = made k new at.parent
subjects_touched names new k (NewFile at number reads writes) = made k new at.parent
subjects_touched names new k (OpenFile i true number reads writes) = refl
subjects_touched names new k (OpenFile i false number reads writes) = refl
subjects_touched names new k (CloseFile i number) = refl
subjects_touched names new k (Write i at bytes) = refl
subjects_touched names new k (Resize i len) = refl
subjects_touched names new k (RemoveDir at i) = both k i at.parent
subjects_touched names new k (AddName at i) = both k i at.parent
subjects_touched names new k (DropName at i) = both k i at.parent
subjects_touched names new k (Move from to i is_dir Nothing) = from_to k from.parent to.parent
subjects_touched names new k (Move from to i is_dir (OldFile j)) = replaced k from.parent to.parent j
subjects_touched names new k (Move from to i is_dir (OldDir j)) = replaced k from.parent to.parent j
subjects_touched names new k (Exchange first second i j) = among_rising k (first.parent ∷ second.parent ∷ [])

-- ---- how many

put_length : (i : ℕ) (js : List ℕ) → length (put_in i js) ≤ length js + 1
put_length i [] = omega arith
put_length i (j ∷ js) = elim (which (nat_lt j i)) [
  | inl less ↦ rw less (let l = put_length i js in omega (arith, l))
  | inr not_less ↦ rw not_less (elim (j == i) as (λ b. length (cond b (j ∷ js) (i ∷ j ∷ js)) ≤ length (j ∷ js) + 1) [ true ↦ omega arith | false ↦ omega arith ])
]

rising_length : (is : List ℕ) → length (sorted_inodes is) ≤ length is
rising_length [] = omega arith
rising_length (i ∷ is) = let l = rising_length is in let m = put_length i (sorted_inodes is) in omega (arith, l, m)

few_of : (is : List ℕ) → length is ≤ 3 → length (sorted_inodes is) ≤ 3
few_of is few = let l = rising_length is in omega (arith, l, few)

pub subjects_few : (new : ℕ) (operation : Operation) → length (subjects_of new operation) ≤ 3
subjects_few new (Tell answer) = omega arith
subjects_few new (NewDir at) = few_of (new ∷ at.parent ∷ []) (omega arith)
subjects_few new (NewFile at number reads writes) = few_of (new ∷ at.parent ∷ []) (omega arith)
subjects_few new (OpenFile i true number reads writes) = omega arith
subjects_few new (OpenFile i false number reads writes) = omega arith
subjects_few new (CloseFile i number) = omega arith
subjects_few new (Write i at bytes) = omega arith
subjects_few new (Resize i len) = omega arith
subjects_few new (RemoveDir at i) = few_of (i ∷ at.parent ∷ []) (omega arith)
subjects_few new (AddName at i) = few_of (i ∷ at.parent ∷ []) (omega arith)
subjects_few new (DropName at i) = few_of (i ∷ at.parent ∷ []) (omega arith)
subjects_few new (Move from to i is_dir Nothing) = few_of (to.parent ∷ from.parent ∷ []) (omega arith)
subjects_few new (Move from to i is_dir (OldFile j)) = few_of (to.parent ∷ from.parent ∷ j ∷ []) (omega arith)
subjects_few new (Move from to i is_dir (OldDir j)) = few_of (to.parent ∷ from.parent ∷ j ∷ []) (omega arith)
subjects_few new (Exchange first second i j) = few_of (first.parent ∷ second.parent ∷ []) (omega arith)
