-- What the tests of a record tell: it is good over each graph that is as it is known, or over none.
use Rattle.std.proofs.Common.{◌≡◌, ◌≤◌, inl, inr, ℕ, ◌+◌, ◌-◌, ◌==◌, ◌||◌, ◌&&◌, Bool, true, false, cond, not, List, [], ◌∷◌, Option, Some, None, refl, ap, sym, subst, ◌∙◌, arith}
use Rattle.std.specs.Prelude.{option_map, nat_le}
use Rattle.std.specs.List.{list_all}
use Rattle.std.specs.FinMap as fin
use Rattle.std.proofs.lemmas.Bool.{false≢true, and_parts, and_from, leb-true, le-leb}
use Rattle.std.proofs.lemmas.Bool.Decides.{eqb_tells}
use Rattle.posix_calls.specs.declared.limits.TheConstants.{MAX_FILE, MAX_ENTRIES, MAX_NAMES}
use Rattle.call_effects.specs.file_graph.declared.effect.Effect.{Effect}
use Rattle.call_effects.specs.file_graph.Graph.{Graph, after_effects, touches, is_among}
use Rattle.call_effects.specs.file_graph.Units.{charge, growth}
use Rattle.call_effects.specs.log_record.Grammar.{IsRecord}
use Rattle.call_effects.proofs.log_record_lemmas.Fields.{test_some}
use Rattle.call_effects.specs.log_record.declared.format.Record.{Record}
use Rattle.call_effects.specs.NodeView.{NodeView, FileView, DirView, view_at}
use Rattle.record_validation.specs.Counts.{counts_of}
use Rattle.record_validation.specs.KnownNodes.{Known, ViewsAgree, known_at, first_unknown}
use Rattle.record_validation.specs.Good.{KeepsLimits, AreHeld, IsGood, are_held, is_within, keeps}
use Rattle.record_validation.proofs.Alike.{counts_seen}
use Rattle.record_validation.proofs.Touched.{as_known}

-- ---- a test of each of some inodes

at_all : (test : ℕ → Bool) (is : List ℕ) → list_all test is ≡ true → (i : ℕ) → is_among i is ≡ true → test i ≡ true
at_all test [] all i among = absurd (false≢true among)
at_all test (d ∷ is) all i among =
    let both = and_parts (test d) (list_all test is) all in
    elim (eqb_tells d i) [
      | inl same ↦ ap test (sym same.1) ∙ both.0
      | inr apart ↦ at_all test is both.1 i (ap (λ b. b || is_among i is) (sym apart.0) ∙ among)
    ]

among_first : (d : ℕ) (is : List ℕ) → is_among d (d ∷ is) ≡ true
among_first d is = elim (eqb_tells d d) [
  | inl same ↦ ap (λ b. b || is_among d is) same.0
  | inr apart ↦ absurd (apart.1 refl)
]

among_rest : (b c : Bool) → c ≡ true → (b || c) ≡ true
among_rest true c e = refl
among_rest false c e = e

all_from : (test : ℕ → Bool) (is : List ℕ) → ((i : ℕ) → is_among i is ≡ true → test i ≡ true) → list_all test is ≡ true
all_from test [] each = refl
all_from test (d ∷ is) each = and_from (test d) (list_all test is) (each d (among_first d is)) (all_from test is (λ i among. each i (among_rest (d == i) (is_among i is) among)))

all_with : (test : ℕ → Bool) (d : ℕ) (is : List ℕ) (b c : Bool) → test d ≡ b → list_all test is ≡ c → is_among d is ≡ true → (b && c) ≡ c
all_with test d is true c first rest again = refl
all_with test d is false false first rest again = refl
all_with test d is false true first rest again = absurd (false≢true (sym first ∙ at_all test is rest d again))

pub all_again : (test : ℕ → Bool) (d : ℕ) (is : List ℕ) → is_among d is ≡ true → list_all test (d ∷ is) ≡ (true && list_all test is)
all_again test d is again = all_with test d is (test d) (list_all test is) refl refl again

-- ---- limits

keeps_if : (v : Option NodeView) → is_within (option_map counts_of v) ≡ true → KeepsLimits v
keeps_if None within = tt
keeps_if (Some (FileView names size)) within = let both = and_parts (nat_le names MAX_NAMES) (nat_le size MAX_FILE) within in (leb-true names MAX_NAMES both.0, leb-true size MAX_FILE both.1)
keeps_if (Some (DirView names entries)) within = let both = and_parts (nat_le names MAX_NAMES) (nat_le (fin.len entries) MAX_ENTRIES) within in (leb-true names MAX_NAMES both.0, leb-true (fin.len entries) MAX_ENTRIES both.1)

within_if : (v : Option NodeView) → KeepsLimits v → is_within (option_map counts_of v) ≡ true
within_if None kept = refl
within_if (Some (FileView names size)) kept = and_from (nat_le names MAX_NAMES) (nat_le size MAX_FILE) (le-leb names MAX_NAMES kept.0) (le-leb size MAX_FILE kept.1)
within_if (Some (DirView names entries)) kept = and_from (nat_le names MAX_NAMES) (nat_le (fin.len entries) MAX_ENTRIES) (le-leb names MAX_NAMES kept.0) (le-leb (fin.len entries) MAX_ENTRIES kept.1)

within_is : (m : Known) (g : Graph) (es : List Effect) → first_unknown m es ≡ None → ViewsAgree m g → (i : ℕ) → is_among i (touches es) ≡ true → is_within (option_map counts_of (view_at (after_effects g es) i)) ≡ keeps m es i
within_is m g es none agrees i among = ap is_within (counts_seen g es i (known_at m i) (as_known m g es none agrees i among))

pub limits_kept : (m : Known) (g : Graph) (es : List Effect) → first_unknown m es ≡ None → ViewsAgree m g → list_all (keeps m es) (touches es) ≡ true → (i : ℕ) → is_among i (touches es) ≡ true → KeepsLimits (view_at (after_effects g es) i)
limits_kept m g es none agrees all i among = keeps_if (view_at (after_effects g es) i) (within_is m g es none agrees i among ∙ at_all (keeps m es) (touches es) all i among)

pub limits_tested : (m : Known) (g : Graph) (es : List Effect) → first_unknown m es ≡ None → ViewsAgree m g → ((i : ℕ) → is_among i (touches es) ≡ true → KeepsLimits (view_at (after_effects g es) i)) → list_all (keeps m es) (touches es) ≡ true
limits_tested m g es none agrees each = all_from (keeps m es) (touches es) (λ i among. sym (within_is m g es none agrees i among) ∙ within_if (view_at (after_effects g es) i) (each i among))

-- ---- held

pub held_if : (held : List ℕ) (es : List Effect) → are_held held es ≡ true → AreHeld held es
held_if held es all = at_all (λ i. is_among i held) (touches es) all

pub held_tested : (held : List ℕ) (es : List Effect) → AreHeld held es → are_held held es ≡ true
held_tested held es each = all_from (λ i. is_among i held) (touches es) each

-- ---- verdicts

pub is_not : (b : Bool) → not b ≡ true → b ≡ false
is_not true e = absurd (false≢true e)
is_not false e = refl

pub is_so : (b : Bool) → not b ≡ false → b ≡ true
is_so true e = refl
is_so false e = absurd (false≢true (sym e))

pub bad_held : (held : List ℕ) (capacity : ℕ) (g : Graph) (r : Record) (es : List Effect) → es ≡ r.effects → are_held held es ≡ false → IsGood held capacity g r → ⊥
bad_held held capacity g r es is out good = false≢true (sym out ∙ ap (are_held held) is ∙ held_tested held r.effects good.holds)

pub bad_limits : (m : Known) (held : List ℕ) (capacity : ℕ) (g : Graph) (r : Record) (es : List Effect) → es ≡ r.effects → first_unknown m es ≡ None → ViewsAgree m g → list_all (keeps m es) (touches es) ≡ false → IsGood held capacity g r → ⊥
bad_limits m held capacity g r es is none agrees out good =
    false≢true (sym out ∙ ap (λ xs. list_all (keeps m xs) (touches xs)) is ∙ limits_tested m g r.effects (subst (λ xs. first_unknown m xs ≡ None) is none) agrees good.limits)

charge_is : (now then used before after : ℕ) → then + before ≡ now + after → now ≡ used → then ≡ (used + after) - before
charge_is now then used before after moved is = omega (arith, moved, is)

within : (b : Bool) (n k : ℕ) → cond b (Some n) None ≡ Some k → (b ≡ true) × (n ≡ k)
within b n k is = test_some b n k is

pub good : (m : Known) (held : List ℕ) (used capacity before after k : ℕ) (g : Graph) (r : Record) (es : List Effect) → es ≡ r.effects → IsRecord r → first_unknown m es ≡ None → ViewsAgree m g → charge g ≡ used → are_held held es ≡ true → growth g es ≤ r.units → list_all (keeps m es) (touches es) ≡ true → charge (after_effects g es) + before ≡ charge g + after → cond (nat_le ((used + after) - before) capacity) (Some ((used + after) - before)) None ≡ Some k → IsGood held capacity g r × (charge (after_effects g r.effects) ≡ k)
good m held used capacity before after k g r es is spelled none agrees costs held_all paid kept moved told =
    let fits = within (nat_le ((used + after) - before) capacity) ((used + after) - before) k told in
    let sum : charge (after_effects g r.effects) ≡ (used + after) - before =
    charge_is (charge g) (charge (after_effects g r.effects)) used before after (subst (λ xs. charge (after_effects g xs) + before ≡ charge g + after) is moved) costs in (
      record {
        spelled = spelled;
        holds = held_if held r.effects (subst (λ xs. are_held held xs ≡ true) is held_all);
        paid = subst (λ xs. growth g xs ≤ r.units) is paid;
        limits = limits_kept m g r.effects (subst (λ xs. first_unknown m xs ≡ None) is none) agrees (subst (λ xs. list_all (keeps m xs) (touches xs) ≡ true) is kept);
        charge = subst (λ n. n ≤ capacity) (sym sum) (leb-true ((used + after) - before) capacity fits.0);
      },
      sum ∙ fits.1,
    )
