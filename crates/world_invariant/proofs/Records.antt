-- Records at one inode: what they make of it depends on what stands there and on the directories at what they write, and who doesn't touch it leaves it.
use Rattle.std.proofs.Common.{◌≡◌, ◌≢◌, ◌⊎◌, inl, inr, ℕ, ◌+◌, ◌||◌, Bool, true, false, List, [], ◌∷◌, ◌++◌, refl, ap, sym, ◌∙◌, arith}
use Rattle.std.proofs.lemmas.Bool.{false≢true}
use Rattle.std.proofs.lemmas.Bool.Decides.{eqb_tells}
use Rattle.std.specs.Prelude.{None}
use Rattle.call_effects.specs.file_graph.Graph.{Graph, StandAlike, directory_in, touches, after_effects}
use Rattle.call_effects.proofs.file_graph_lemmas.Touches.{untouched, local_by_directories, directories_after}
use Rattle.call_effects.specs.log_record.declared.format.Record.{Record}
use Rattle.world_invariant.specs.Logs.{after_records, is_touched, is_written, units_in}

-- ---- tests

-- a test is true or false
pub either : (b : Bool) → (b ≡ true) ⊎ (b ≡ false)
either true = inl refl
either false = inr refl

-- and not both
pub both : {P : Type 0} (b : Bool) → b ≡ true → b ≡ false → P
both b is isnt = absurd (false≢true (sym isnt ∙ is))

pub or_first : (a b : Bool) → (a || b) ≡ false → a ≡ false
or_first true b e = e
or_first false b e = refl

pub or_rest : (a b : Bool) → (a || b) ≡ false → b ≡ false
or_rest true b e = absurd (false≢true (sym e))
or_rest false b e = e

pub or_neither : (a b : Bool) → a ≡ false → b ≡ false → (a || b) ≡ false
or_neither a b e f = ap (λ x. x || b) e ∙ f

pub in_first : (a b : Bool) → a ≡ true → (a || b) ≡ true
in_first a b e = ap (λ x. x || b) e

pub in_rest : (a b : Bool) → b ≡ true → (a || b) ≡ true
in_rest true b e = refl
in_rest false b e = e

pub or_joined : (a b c : Bool) → (a || (b || c)) ≡ ((a || b) || c)
or_joined true b c = refl
or_joined false b c = refl

-- a test that implies another
pub still_false : (a b : Bool) → (b ≡ true → a ≡ true) → a ≡ false → b ≡ false
still_false a true up isnt = both a (up refl) isnt
still_false a false up isnt = refl

pub append_nil : {A : Type 0} (xs : List A) → xs ++ [] ≡ xs
append_nil [] = refl
append_nil (x ∷ xs) = ap (λ ys. x ∷ ys) (append_nil xs)

-- ---- records at one inode

-- the same directories stand at what records write
abbrev WriteAlike : List Record → Graph → Graph → Type 0
WriteAlike rs g h = (j : ℕ) → is_written j rs ≡ true → directory_in (g j) ≡ directory_in (h j)

-- records make the same of an inode in which the same stands, where the same directories stand at what they write
pub records_local : (g h : Graph) (rs : List Record) → WriteAlike rs g h → (i : ℕ) → g i ≡ h i → after_records g rs i ≡ after_records h rs i
records_local g h [] alike i e = e
records_local g h (r ∷ rs) alike i e =
    let first : StandAlike (touches r.effects) g h = λ j there. alike j (in_first (is_touched j r) (is_written j rs) there) in
    records_local (after_effects g r.effects) (after_effects h r.effects) rs
    (λ j there. directories_after g h r.effects first j (alike j (in_rest (is_touched j r) (is_written j rs) there)))
    i (local_by_directories g h r.effects first i e)

-- where the same stands at what they write
pub records_same : (g h : Graph) (rs : List Record) → ((j : ℕ) → is_written j rs ≡ true → g j ≡ h j) → (i : ℕ) → g i ≡ h i → after_records g rs i ≡ after_records h rs i
records_same g h rs same = records_local g h rs (λ j there. ap directory_in (same j there))

-- a graph that lacks what is no directory has the same directories
pub alike_less : (i : ℕ) (g h : Graph) → directory_in (g i) ≡ None → h i ≡ None → ((j : ℕ) → j ≢ i → h j ≡ g j) → (j : ℕ) → directory_in (h j) ≡ directory_in (g j)
alike_less i g h bare gone same j = elim (eqb_tells j i) [
  | inl here ↦ ap (λ k. directory_in (h k)) here.1 ∙ ap directory_in gone ∙ sym bare ∙ sym (ap (λ k. directory_in (g k)) here.1)
  | inr off ↦ ap directory_in (same j off.1)
]

pub records_stay : (g : Graph) (rs : List Record) (i : ℕ) → is_written i rs ≡ false → after_records g rs i ≡ g i
records_stay g [] i e = refl
records_stay g (r ∷ rs) i e =
    records_stay (after_effects g r.effects) rs i (or_rest (is_touched i r) (is_written i rs) e) ∙ untouched g r.effects i (or_first (is_touched i r) (is_written i rs) e)

pub records_append : (g : Graph) (rs ss : List Record) → after_records g (rs ++ ss) ≡ after_records (after_records g rs) ss
records_append g [] ss = refl
records_append g (r ∷ rs) ss = records_append (after_effects g r.effects) rs ss

pub written_append : (i : ℕ) (rs ss : List Record) → is_written i (rs ++ ss) ≡ (is_written i rs || is_written i ss)
written_append i [] ss = refl
written_append i (r ∷ rs) ss = ap (λ b. is_touched i r || b) (written_append i rs ss) ∙ or_joined (is_touched i r) (is_written i rs) (is_written i ss)

pub front_unwritten : (i : ℕ) (rs ss : List Record) → is_written i (rs ++ ss) ≡ false → is_written i rs ≡ false
front_unwritten i rs ss e = or_first (is_written i rs) (is_written i ss) (sym (written_append i rs ss) ∙ e)

pub rest_unwritten : (i : ℕ) (rs ss : List Record) → is_written i (rs ++ ss) ≡ false → is_written i ss ≡ false
rest_unwritten i rs ss e = or_rest (is_written i rs) (is_written i ss) (sym (written_append i rs ss) ∙ e)

pub front_written : (i : ℕ) (rs ss : List Record) → is_written i rs ≡ true → is_written i (rs ++ ss) ≡ true
front_written i rs ss e = written_append i rs ss ∙ in_first (is_written i rs) (is_written i ss) e

pub rest_written : (i : ℕ) (rs ss : List Record) → is_written i ss ≡ true → is_written i (rs ++ ss) ≡ true
rest_written i rs ss e = written_append i rs ss ∙ in_rest (is_written i rs) (is_written i ss) e

-- one record
pub one_unwritten : (i : ℕ) (r : Record) → is_written i (r ∷ []) ≡ false → is_touched i r ≡ false
one_unwritten i r e = or_first (is_touched i r) false e

pub units_append : (rs ss : List Record) → units_in (rs ++ ss) ≡ units_in rs + units_in ss
units_append [] ss = omega arith
units_append (r ∷ rs) ss = let h : units_in (rs ++ ss) ≡ units_in rs + units_in ss = units_append rs ss in omega (arith, h)
