-- The list of files without names, as it grows.
use Rattle.std.proofs.Common.{◌≡◌, ◌≢◌, inl, inr, ℕ, ◌+◌, ◌<◌, ◌≤◌, ◌==◌, List, [], ◌∷◌, ◌++◌, refl, Some, None, Option, ap, sym, ◌∙◌, subst, true, false, Bool, arith, ◌⊎◌}
use Rattle.std.specs.Prelude.{◌&&◌, ◌||◌, nat_le, nat_lt, option_map}
use Rattle.std.proofs.lemmas.Bool.Decides.{eqb_tells}
use Rattle.record_validation.specs.file_graph.Graph.{Graph, Node, FileBody, DirBody, is_among}
use Rattle.record_validation.specs.call_effects.NodeView.{view_of_body, view_of_node}
use Rattle.record_validation.specs.log_record.Grammar.{IsInode}
use Rattle.graph_check.specs.Nameless.{is_nameless, is_nameless_head, AreRising, AreNameless}
use Rattle.graph_check.specs.declared.tables.Row.{Row}
use Rattle.graph_check.specs.Tables.{head_at, head_of, row_of}
use Rattle.graph_check.proofs.Rows.{head_is}
use Rattle.graph_check.proofs.Entries.{both}

nameless_node : (o : Option Node) → is_nameless_head (option_map head_of (option_map view_of_node o)) ≡ is_nameless o
nameless_node None = refl
nameless_node (Some n) = elim (n.body) as (λ b. is_nameless_head (Some (head_of (view_of_body n.names b))) ≡ is_nameless (Some (record { names = n.names; body = b }))) [ FileBody bytes ↦ refl | DirBody es ↦ refl ]

pub nameless_is : (g : Graph) (i : ℕ) → IsInode i → is_nameless_head (head_at g 1024 i) ≡ is_nameless (g i)
nameless_is g i is = ap is_nameless_head (head_is g i is.0 is.1) ∙ nameless_node (g i)

-- these are the inodes below n at which files without a name stand
pub record AreBelow (g : Graph) (n : ℕ) (is : List ℕ) : Type 0 where
  pub rising : AreRising is
  pub these : (i : ℕ) → is_among i is ≡ (nat_le 1 i && nat_lt i n && is_nameless (g i))

or_false : (b : Bool) → (b || false) ≡ b
or_false true = refl
or_false false = refl

and_false : (b : Bool) → (b && false) ≡ false
and_false true = refl
and_false false = refl

among_more : (j x : ℕ) (is : List ℕ) → is_among j (is ++ x ∷ []) ≡ (is_among j is || (x == j))
among_more j x [] = or_false (x == j)
among_more j x (i ∷ is) = ap (λ b. (i == j) || b) (among_more j x is) ∙ regroup (i == j) (is_among j is) (x == j) where
  regroup : (a b c : Bool) → (a || (b || c)) ≡ (a || b || c)
  regroup true b c = refl
  regroup false b c = refl

or_left : (a b : Bool) → a ≡ true → (a || b) ≡ true
or_left a b e = ap (λ x. x || b) e

or_is : (a b : Bool) → (a || b) ≡ true → (a ≡ true) ⊎ (b ≡ true)
or_is true b e = inl refl
or_is false b e = inr e

or_true : (a : Bool) → (a || true) ≡ true
or_true true = refl
or_true false = refl

eq_is : (a b : ℕ) → (a == b) ≡ true → a ≡ b
eq_is a b e = grind arith

itself : (a : ℕ) → (a == a) ≡ true
itself a = grind arith

rising_more : (x : ℕ) (is : List ℕ) → AreRising is → ((j : ℕ) → is_among j is ≡ true → j < x) → AreRising (is ++ x ∷ [])
rising_more x [] rising below = ((λ j among. absurd (cc)), tt)
rising_more x (i ∷ is) rising below = (
  (λ j among. elim (or_is (is_among j is) (x == j) (sym (among_more j x is) ∙ among)) [
    | inl before ↦ rising.0 j before
    | inr last ↦ subst (λ y. i < y) (eq_is x j last) (below i (or_left (i == i) (is_among i is) (itself i)))
  ]),
  rising_more x is rising.1 (λ j among. below j (ap (λ b. (i == j) || b) among ∙ or_true (i == j))),
)

lt_is : (a b : ℕ) → nat_lt a b ≡ true → a < b
lt_is a b e = grind arith

lt_next : (i n : ℕ) → n ≢ i → nat_lt i (n + 1) ≡ nat_lt i n
lt_next i n off = grind arith

lt_here : (i n : ℕ) → n ≡ i → nat_lt i (n + 1) ≡ true
lt_here i n same = grind arith

le_low : (i n : ℕ) → 1 ≤ n → n ≡ i → nat_le 1 i ≡ true
le_low i n low same = grind arith

all_three : (a b c : Bool) → a ≡ true → b ≡ true → c ≡ true → (a && b && c) ≡ true
all_three a b c p q r = ap (λ x. x && b && c) p ∙ ap (λ x. x && c) q ∙ r

pub below_none : (g : Graph) → AreBelow g 1 []
below_none g = record { rising = tt; these = λ i. sym (nothing i (is_nameless (g i))) } where
  nothing : (i : ℕ) (b : Bool) → (nat_le 1 i && nat_lt i 1 && b) ≡ false
  nothing i b = grind arith

-- one more inode, which is one
pub below_more : (g : Graph) (n : ℕ) (is : List ℕ) → 1 ≤ n → is_nameless (g n) ≡ true → AreBelow g n is → AreBelow g (n + 1) (is ++ n ∷ [])
below_more g n is low here are = record {
  rising = rising_more n is are.rising (λ j among. lt_is j n (both (nat_le 1 j) (nat_lt j n) (both (nat_le 1 j && nat_lt j n) (is_nameless (g j)) (sym (are.these j) ∙ among)).0).1);
  these = λ i. among_more i n is ∙ ap (λ b. b || (n == i)) (are.these i) ∙ further i (is_nameless (g i)) (λ same. ap (λ j. is_nameless (g j)) (sym same) ∙ here);
} where
  further : (i : ℕ) (b : Bool) → (n ≡ i → b ≡ true) → ((nat_le 1 i && nat_lt i n && b) || (n == i)) ≡ (nat_le 1 i && nat_lt i (n + 1) && b)
  further i b at = elim (eqb_tells n i) [
    | inl same ↦ ap (λ x. nat_le 1 i && nat_lt i n && b || x) same.0 ∙ or_true (nat_le 1 i && nat_lt i n && b) ∙ sym (all_three (nat_le 1 i) (nat_lt i (n + 1)) b (le_low i n low same.1) (lt_here i n same.1) (at same.1))
    | inr off ↦ ap (λ x. nat_le 1 i && nat_lt i n && b || x) off.0 ∙ or_false (nat_le 1 i && nat_lt i n && b) ∙ ap (λ x. nat_le 1 i && x && b) (sym (lt_next i n off.1))
  ]

-- one more inode, which is none
pub below_same : (g : Graph) (n : ℕ) (is : List ℕ) → is_nameless (g n) ≡ false → AreBelow g n is → AreBelow g (n + 1) is
below_same g n is here are = record {
  rising = are.rising;
  these = λ i. are.these i ∙ further i (is_nameless (g i)) (λ same. ap (λ j. is_nameless (g j)) (sym same) ∙ here);
} where
  further : (i : ℕ) (b : Bool) → (n ≡ i → b ≡ false) → (nat_le 1 i && nat_lt i n && b) ≡ (nat_le 1 i && nat_lt i (n + 1) && b)
  further i b at = elim (eqb_tells n i) [
    | inl same ↦ ap (λ x. nat_le 1 i && nat_lt i n && x) (at same.1) ∙ and_false (nat_le 1 i && nat_lt i n) ∙ sym (ap (λ x. nat_le 1 i && nat_lt i (n + 1) && x) (at same.1) ∙ and_false (nat_le 1 i && nat_lt i (n + 1)))
    | inr off ↦ ap (λ x. nat_le 1 i && x && b) (sym (lt_next i n off.1))
  ]

pub all_below : (g : Graph) (is : List ℕ) → AreBelow g 1025 is → AreNameless g is
all_below g is are = record { rising = are.rising; these = λ i. are.these i ∙ ap (λ b. nat_le 1 i && b && is_nameless (g i)) (same i) } where
  same : (i : ℕ) → nat_lt i 1025 ≡ nat_le i 1024
  same i = grind arith

-- as a row has it
pub nameless_row : (g : Graph) (i : ℕ) (row : Row) (r b : Bool) → IsInode i → row ≡ row_of g i → r ≡ is_nameless_head row.head → r ≡ b → is_nameless (g i) ≡ b
nameless_row g i row r b is row_is fact r_is = sym (nameless_is g i is) ∙ ap (λ (x : Row). is_nameless_head x.head) (sym row_is) ∙ sym fact ∙ r_is
