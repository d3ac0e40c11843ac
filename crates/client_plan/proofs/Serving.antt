-- A need that is served is lacking no longer.
use Rattle.std.proofs.Common.{◌≡◌, ◌≢◌, inl, inr, ℕ, ◌+◌, ◌<◌, List, [], ◌∷◌, refl, Some, None, Option, Ok, true, false, cond, ap, sym, ◌∙◌, subst, arith, ◌==◌, ◌||◌, eq-eqb}
use Rattle.std.specs.Prelude.{option_map}
use Rattle.std.proofs.lemmas.Bool.{or_from, or_left, true≢false}
use Rattle.std.proofs.lemmas.Bool.Decides.{eqb_tells}
use Rattle.posix_calls.specs.Query.{Gives, Range}
use Rattle.posix_calls.specs.Part.{Part, Found, Known, Unknown, blocks_missing, run_part}
use Rattle.posix_calls.specs.declared.call.Call.{Call}
use Rattle.posix_calls.specs.declared.operation.Operation.{Operation}
use Rattle.call_effects.specs.file_graph.Graph.{is_among}
use Rattle.call_effects.specs.file_graph.declared.effect.Kind.TheVariants as kind
use Rattle.call_effects.specs.Knowledge.{Knowledge, part_of, with_copy, with_blocks, is_dir_by, is_listed}
use Rattle.call_effects.specs.NodeView.{NodeView, view_seen}
use Rattle.call_effects.proofs.KnownMissing.{blocks_are_enough}
use Rattle.call_effects.specs.Records.{units_asked}
use Rattle.client_plan.specs.declared.need.Need.{Need}
use Rattle.client_plan.specs.declared.need.Need.TheVariants.{Unpin, Lease, View, Blocks, Inodes, Units, Pin}
use Rattle.client_plan.specs.declared.need.Mode.{Mode}
use Rattle.client_plan.specs.declared.need.Mode.TheVariants.{Read, Write}
use Rattle.client_plan.specs.declared.outcome.Outcome.TheVariants as outcomes
use Rattle.client_plan.specs.Holdings.{Holdings, may_read}
use Rattle.client_plan.specs.CallPlan.{outcome}
use Rattle.client_plan.specs.NeedEffects.{IsLacking, AreUnread, IsShort, without_inode, without_pin, with_pin, with_lease, with_number, with_units}
use Rattle.client_plan.proofs.Lacks.{here, course_lacks}
use Rattle.client_plan.proofs.Outcomes.{need_is}

pub lacking : (p : Part) (h : Holdings) (call : Call) (need : Need) → outcome p h call ≡ outcomes.Need need → IsLacking p h call need
lacking p h call need e = course_lacks p h call need (need_is p h call need e)

-- ---- pins

not_among : (i : ℕ) (js : List ℕ) → is_among i (without_inode i js) ≡ false
not_among i [] = refl
not_among i (j ∷ js) = elim (eqb_tells j i) [
  | inl same ↦ subst (λ (l : List ℕ). is_among i l ≡ false) (sym (ap (λ b. cond b (without_inode i js) (j ∷ without_inode i js)) same.0)) (not_among i js)
  | inr off ↦ subst (λ (l : List ℕ). is_among i l ≡ false) (sym (ap (λ b. cond b (without_inode i js) (j ∷ without_inode i js)) off.0)) (or_from (j == i) (is_among i (without_inode i js)) off.0 (not_among i js))
]

pub unpinned_once : (p : Part) (h : Holdings) (call : Call) (i : ℕ) → outcome p (without_pin h i) call ≢ outcomes.Need (Unpin i)
unpinned_once p h call i e = let lacks = lacking p (without_pin h i) call (Unpin i) e in true≢false (sym lacks.0 ∙ not_among i h.pins)

pub pinned_once : (p : Part) (h : Holdings) (call : Call) (i : ℕ) → outcome p (with_pin h i) call ≢ outcomes.Need (Pin i)
pinned_once p h call i e = let lacks = lacking p (with_pin h i) call (Pin i) e in true≢false (sym (here i h.pins) ∙ lacks)

-- ---- leases

pub leased_once : (p : Part) (h : Holdings) (call : Call) (i : ℕ) (mode : Mode) → outcome p (with_lease h i mode) call ≢ outcomes.Need (Lease i mode)
leased_once p h call i Read e =
    let lacks : may_read (with_lease h i Read) i ≡ false = lacking p (with_lease h i Read) call (Lease i Read) e in
    let is : may_read (with_lease h i Read) i ≡ true = or_left ((i == i) || h.reads i) (h.writes i) (or_left (i == i) (h.reads i) (eq-eqb i i refl)) in
    true≢false (sym is ∙ lacks)
leased_once p h call i Write e =
    let lacks : ((i == i) || h.writes i) ≡ false = lacking p (with_lease h i Write) call (Lease i Write) e in
    true≢false (sym (or_left (i == i) (h.writes i) (eq-eqb i i refl)) ∙ lacks)

-- ---- copies and blocks

pub viewed_once : (k : Knowledge) (h : Holdings) (call : Call) (i : ℕ) (copy : Option NodeView) → outcome (part_of (with_copy k i copy)) h call ≢ outcomes.Need (View i)
viewed_once k h call i copy e =
    let more = with_copy k i copy in
    let there : more.copies i ≡ Some copy = ap (λ b. cond b (Some copy) (k.copies i)) (eq-eqb i i refl) in
    elim ((lacking (part_of more) h call (View i) e).1) [
      | inl none ↦ absurd (let clash : Some (option_map view_seen copy) ≡ None = sym (ap (option_map (λ c. option_map view_seen c)) there) ∙ none in cc)
      | inr none ↦ elim (eqb_tells i 1) [
        | inl root ↦ absurd (let clash : Some (Some true) ≡ None = sym (ap (λ b. cond b (Some (Some true)) (is_dir_by (more.copies i) (is_listed more i kind.Directory) (is_listed more i kind.File))) root.0) ∙ none in cc)
        | inr off ↦ absurd (let clash : is_dir_by (Some copy) (is_listed more i kind.Directory) (is_listed more i kind.File) ≡ None = sym (ap (λ c. is_dir_by c (is_listed more i kind.Directory) (is_listed more i kind.File)) there) ∙ sym (ap (λ b. cond b (Some (Some true)) (is_dir_by (more.copies i) (is_listed more i kind.Directory) (is_listed more i kind.File))) off.0) ∙ none in cc)
      ]
    ]

range_unknown : (p : Part) (i at count : ℕ) → p.bytes i at count ≡ None → run_part p (Range i at count (λ bytes. Gives bytes)) ≡ Unknown (blocks_missing i at count)
unfolding run_part
range_unknown p i at count none = ap (λ o. elim o [ None ↦ Unknown (blocks_missing i at count) | Some bytes ↦ run_part p (Gives bytes) ]) none

pub read_once : (k : Knowledge) (h : Holdings) (call : Call) (i first count : ℕ) (block : ℕ → List ℕ) → outcome (part_of (with_blocks k i first count block)) h call ≢ outcomes.Need (Blocks i first count)
read_once k h call i first count block e =
    let more = with_blocks k i first count block in
    let lacks : AreUnread (part_of more) i first count = lacking (part_of more) h call (Blocks i first count) e in
    blocks_are_enough k i first count block (Range i lacks.at lacks.bytes (λ bytes. Gives bytes)) (range_unknown (part_of more) i lacks.at lacks.bytes lacks.unknown ∙ ap (λ what. Unknown what) lacks.touches)

-- ---- numbers and units

pub numbered_once : (p : Part) (h : Holdings) (call : Call) (new n : ℕ) → outcome p (with_number h new) call ≢ outcomes.Need (Inodes n)
numbered_once p h call new n e = let lacks : new ∷ h.numbers ≡ [] = lacking p (with_number h new) call (Inodes n) e in absurd (cc)

pub paid_once : (p : Part) (h : Holdings) (call : Call) (n more : ℕ) → outcome p h call ≡ outcomes.Need (Units n) → outcome p (with_units h n) call ≢ outcomes.Need (Units more)
paid_once p h call n more before e =
    let a : IsShort p h call n = lacking p h call (Units n) before in
    let b : IsShort p (with_units h n) call more = lacking p (with_units h n) call (Units more) e in
    let comes : ◌≡◌ {A = Found Operation} (Known (Ok a.operation)) (Known (Ok b.operation)) = sym a.comes ∙ b.comes in
    let same : a.operation ≡ b.operation = cc in
    let grows : ◌≡◌ {A = Found ℕ} (Known (Ok a.units)) (Known (Ok b.units)) = sym a.grows ∙ ap (λ o. run_part p (units_asked o)) same ∙ b.grows in
    let units : a.units ≡ b.units = cc in
    let first : a.units ≡ h.spare + n = a.lacks in
    let then : b.units ≡ h.spare + n + more = b.lacks in
    let some : 0 < more = b.some in
    omega (arith, units, first, then, some)
