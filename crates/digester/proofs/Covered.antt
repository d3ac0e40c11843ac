-- Records that are covered in one graph are so in each that has the same at what they touch, and are good where there are the units.
use Rattle.std.proofs.Common.{◌≡◌, ℕ, zero, suc, ◌+◌, ◌-◌, ◌≤◌, ◌==◌, ◌||◌, Bool, true, false, List, [], ◌∷◌, Option, Some, None, take, refl, ap, sym, ◌∙◌, subst, arith}
use Rattle.std.specs.Prelude.{option_map, if◌then◌else◌}
use Rattle.std.specs.List.{AllByRecursion}
use Rattle.std.proofs.Math.Seq.{take-nil}
use Rattle.update_log.specs.file_graph.declared.effect.Effect.{Effect}
use Rattle.update_log.specs.file_graph.Graph.{Graph, after_effects, touches, is_among}
use Rattle.update_log.specs.file_graph.Units.{charge, growth}
use Rattle.update_log.proofs.file_graph_lemmas.Touches.{charge_rises}
use Rattle.update_log.specs.log_record.declared.format.Record.{Record}
use Rattle.update_log.specs.log_record.Grammar.{FitsLimits}
use Rattle.shared_area.specs.call_effects.NodeView.{NodeView, FileView, DirView, view_at, view_after}
use Rattle.coalescer.specs.Records.{effects_in}
use Rattle.posix_calls.specs.declared.limits.TheConstants.{MAX_ENTRIES, MAX_FILE, MAX_NAMES}
use Rattle.shared_area.specs.record_validation.Counts.{counts_after, counts_cost, counts_of}
use Rattle.shared_area.specs.record_validation.Good.{KeepsLimits}
use Rattle.shared_area.specs.record_validation.Rises.{sum_distinct, view_rise}
use Rattle.shared_area.specs.record_validation.declared.node_counts.NodeCounts.{NodeCounts}
use Rattle.shared_area.specs.record_validation.declared.node_counts.NodeCounts.TheVariants as counts
use Rattle.shared_area.proofs.record_validation_lemmas.Alike.{AreAlike, alike_after, counts_seen}
use Rattle.shared_area.proofs.record_validation_lemmas.Rises.{growth_told}
use Rattle.digester.specs.RecordCover.{IsCovered, AreCovered, AreSameAt, units_of}
use Rattle.digester.specs.Plan.{AreGood, Finds}
use Rattle.digester.specs.declared.record_test.Found.TheVariants as found
use Rattle.digester.proofs.Known.{among_first, among_joined, touches_joined}
use Rattle.digester.proofs.PlanRuns.{never}

-- ---- another graph

left_of : (b c : Bool) → b ≡ true → (b || c) ≡ true
left_of b c e = ap (λ x. x || c) e

right_of : (b c : Bool) → c ≡ true → (b || c) ≡ true
right_of true c e = refl
right_of false c e = e

pub touched_first : (r : Record) (rs : List Record) (i : ℕ) → is_among i (touches r.effects) ≡ true → is_among i (touches (effects_in (r ∷ rs))) ≡ true
touched_first r rs i among =
    ap (is_among i) (touches_joined r.effects (effects_in rs)) ∙ among_joined i (touches r.effects) (touches (effects_in rs))
    ∙ left_of (is_among i (touches r.effects)) (is_among i (touches (effects_in rs))) among

pub touched_later : (r : Record) (rs : List Record) (i : ℕ) → is_among i (touches (effects_in rs)) ≡ true → is_among i (touches (effects_in (r ∷ rs))) ≡ true
touched_later r rs i among =
    ap (is_among i) (touches_joined r.effects (effects_in rs)) ∙ among_joined i (touches r.effects) (touches (effects_in rs))
    ∙ right_of (is_among i (touches r.effects)) (is_among i (touches (effects_in rs))) among

-- at some inodes the same numbers stand in two graphs, and entries of the same names
abbrev AreAlikeAt : List ℕ → Graph → Graph → Type 0
AreAlikeAt is g h = (i : ℕ) → is_among i is ≡ true → AreAlike (view_at g i) (view_at h i)

turned : (v w : Option NodeView) → AreAlike v w → AreAlike w v
turned v w alike = record { counts = sym alike.counts; names = λ name. sym (alike.names name) }

joined : (u v w : Option NodeView) → AreAlike u v → AreAlike v w → AreAlike u w
joined u v w first second = record { counts = first.counts ∙ second.counts; names = λ name. first.names name ∙ second.names name }

itself : (v : Option NodeView) → AreAlike v v
itself v = record { counts = refl; names = λ name. refl }

both_after : (g h : Graph) (es : List Effect) (i : ℕ) → AreAlike (view_at g i) (view_at h i) → AreAlike (view_at (after_effects g es) i) (view_at (after_effects h es) i)
both_after g h es i alike =
    joined (view_at (after_effects g es) i) (view_after es i (view_at h i)) (view_at (after_effects h es) i) (alike_after g es i (view_at h i) alike)
    (turned (view_at (after_effects h es) i) (view_after es i (view_at h i)) (alike_after h es i (view_at h i) (itself (view_at h i))))

-- limits of numbers
abbrev AreLow : Option NodeCounts → Type 0
AreLow None = Unit {0}
AreLow (Some (counts.File names size)) = (names ≤ MAX_NAMES) × (size ≤ MAX_FILE)
AreLow (Some (counts.Directory names entries)) = (names ≤ MAX_NAMES) × (entries ≤ MAX_ENTRIES)

by_limits : (v : Option NodeView) → KeepsLimits v → AreLow (option_map counts_of v)
by_limits None keeps = keeps
by_limits (Some (FileView names size)) keeps = keeps
by_limits (Some (DirView names entries)) keeps = keeps

limits_by : (v : Option NodeView) → AreLow (option_map counts_of v) → KeepsLimits v
limits_by None low = low
limits_by (Some (FileView names size)) low = low
limits_by (Some (DirView names entries)) low = low

same_limits : (v w : Option NodeView) → option_map counts_of v ≡ option_map counts_of w → KeepsLimits v → KeepsLimits w
same_limits v w same keeps = limits_by w (subst AreLow same (by_limits v keeps))

same_sum : (f h : ℕ → ℕ) (is : List ℕ) → ((i : ℕ) → is_among i is ≡ true → f i ≡ h i) → sum_distinct f is ≡ sum_distinct h is
same_sum f h [] same = refl
same_sum f h (i ∷ is) same =
    let rest = same_sum f h is (λ j among. same j (right_of (i == j) (is_among j is) among)) in
    ap (λ n. (if is_among i is then 0 else n) + sum_distinct f is) (same i (among_first i is)) ∙ ap (λ n. (if is_among i is then 0 else h i) + n) rest

same_growth : (g h : Graph) (es : List Effect) → AllByRecursion FitsLimits es → AreAlikeAt (touches es) g h → growth g es ≡ growth h es
same_growth g h es fit alike =
    growth_told g es (view_at g) fit (λ i among. refl)
    ∙ same_sum (view_rise es (view_at g)) (view_rise es (view_at h)) (touches es) (λ i among.
    ap (λ (c : Option NodeCounts). counts_cost c - counts_cost (option_map counts_of (view_at g i)))
    (sym (counts_seen g es i (view_at g i) refl) ∙ (both_after g h es i (alike i among)).counts ∙ counts_seen h es i (view_at h i) refl)
    ∙ ap (λ (c : Option NodeCounts). counts_cost (counts_after es i (view_at h i)) - counts_cost c) ((alike i among).counts))
    ∙ sym (growth_told h es (view_at h) fit (λ i among. refl))

one_local : (held : List ℕ) (g h : Graph) (r : Record) → IsCovered held g r → AreAlikeAt (touches r.effects) g h → IsCovered held h r
one_local held g h r is alike = record {
  spelled = is.spelled;
  holds = is.holds;
  paid = subst (λ n. n ≤ r.units) (same_growth g h r.effects is.spelled.fit alike) is.paid;
  limits = λ i among. same_limits (view_at (after_effects g r.effects) i) (view_at (after_effects h r.effects) i) ((both_after g h r.effects i (alike i among)).counts) (is.limits i among);
}

covered_alike : (held : List ℕ) (g h : Graph) (rs : List Record) → AreCovered held g rs → AreAlikeAt (touches (effects_in rs)) g h → AreCovered held h rs
covered_alike held g h [] all alike = tt
covered_alike held g h (r ∷ rs) all alike = (
  one_local held g h r all.0 (λ i among. alike i (touched_first r rs i among)),
  covered_alike held (after_effects g r.effects) (after_effects h r.effects) rs all.1 (λ i among. both_after g h r.effects i (alike i (touched_later r rs i among))),
)

pub local : (held : List ℕ) (g h : Graph) (rs : List Record) → AreCovered held g rs → AreSameAt (touches (effects_in rs)) g h → AreCovered held h rs
local held g h rs all same = covered_alike held g h rs all (λ i among. subst (AreAlike (view_at g i)) (same i among) (itself (view_at g i)))

-- ---- units

pub good : (held : List ℕ) (capacity : ℕ) (g : Graph) (rs : List Record) → AreCovered held g rs → charge g + units_of rs ≤ capacity → AreGood held capacity g rs
good held capacity g [] all few = tt
good held capacity g (r ∷ rs) all few =
    let risen : charge (after_effects g r.effects) ≤ charge g + growth g r.effects = charge_rises g r.effects in
    let is = all.0 in
    let paid = is.paid in (
      record {
        spelled = is.spelled;
        holds = is.holds;
        paid = is.paid;
        limits = is.limits;
        charge = omega (arith, risen, paid, few);
      },
      good held capacity (after_effects g r.effects) rs all.1 (omega (arith, risen, paid, few)),
    )

-- ---- what a test of the first ones finds

good_front : (held : List ℕ) (capacity : ℕ) (g : Graph) (rs : List Record) (n : ℕ) → AreGood held capacity g rs → AreGood held capacity g (take n rs)
good_front held capacity g [] n all = subst (AreGood held capacity g) (sym (take-nil n)) tt
good_front held capacity g (r ∷ rs) zero all = tt
good_front held capacity g (r ∷ rs) (suc n) all = (all.0, good_front held capacity (after_effects g r.effects) rs n all.1)

pub never_bad : (held : List ℕ) (capacity : ℕ) (g h : Graph) (rs : List Record) (n place : ℕ) → AreCovered held g rs → AreSameAt (touches (effects_in rs)) g h → charge h + units_of rs ≤ capacity → Finds held capacity h (take n rs) (found.FirstBad place) → ⊥
never_bad held capacity g h rs n place all same few told =
    never held capacity h (take n rs) place told (good_front held capacity h rs n (good held capacity h rs (local held g h rs all same) few))
