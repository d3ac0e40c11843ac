-- The records that a recovery finds are covered and paid for.
use Rattle.std.proofs.Common.{◌≡◌, ℕ, ◌+◌, ◌≤◌, ◌||◌, inl, inr, true, List, [], ◌∷◌, ◌++◌, take, Option, Some, None, refl, ap, sym, ◌∙◌, subst, arith}
use Rattle.std.specs.List.{AllByRecursion}
use Rattle.std.specs.Prelude.{nat_le, option_map}
use Rattle.std.proofs.lemmas.Bool.{and_from, le-leb}
use Rattle.posix_calls.specs.Operations.{is_client}
use Rattle.posix_calls.specs.Tree.{sum_up_to}
use Rattle.layout.specs.file_graph.Graph.{Graph, Node, Body, FileBody, DirBody, after_effects, is_among}
use Rattle.layout.specs.file_graph.Units.{charge}
use Rattle.layout.specs.Places.{is_inode}
use Rattle.update_log.specs.log_record.Grammar.{IsRecord, IsInode}
use Rattle.update_log.specs.log_record.declared.format.Record.{Record}
use Rattle.world_invariant.specs.call_effects.NodeView.{view_of_body, view_of_node}
use Rattle.digester.specs.record_validation.Good.{KeepsLimits}
use Rattle.digester.specs.RecordCover.{AreCovered, units_of}
use Rattle.digester.specs.Plan.{IsFirstBad}
use Rattle.digester.proofs.Covered.{never_bad}
use Rattle.posix_calls.proofs.Sums.{one_changes, same_if, there_if}
use Rattle.digester.proofs.record_validation_lemmas.Rises.{touched_fit}
use Rattle.world_invariant.specs.Limits.{IsBodyWithin, IsWithin, AreWithin}
use Rattle.world_invariant.specs.Logs.{is_touched, is_written, units_in, IsPaid, ArePaid, Keeps, KeepLimits}
use Rattle.world_invariant.specs.Recovery.{IsRecoverable}
use Rattle.world_invariant.specs.World.{at}
use Rattle.world_invariant.proofs.Along.{along_front}
use Rattle.world_invariant.proofs.Owners.{is_low, is_high}
use Rattle.world_invariant.proofs.Records.{either, in_first, in_rest, units_append}
use Rattle.recovery_laws.specs.Inodes.{HasEveryInode}

-- ---- what is within the limits keeps them

body_keeps : (names : ℕ) (b : Body) → names ≤ 1000 → IsBodyWithin b → KeepsLimits (Some (view_of_body names b))
body_keeps names (FileBody bytes) few within = (few, within)
body_keeps names (DirBody entries) few within = (few, within.few)

node_keeps : (i : ℕ) (o : Option Node) → IsWithin i o → KeepsLimits (option_map view_of_node o)
node_keeps i None within = tt
node_keeps i (Some n) within = body_keeps n.names n.body within.names within.body

pub covered : (held : List ℕ) (g : Graph) (rs : List Record) → AreWithin g → AllByRecursion IsRecord rs → ((i : ℕ) → is_written i rs ≡ true → is_among i held ≡ true) → ArePaid g rs → KeepLimits g rs → AreCovered held g rs
covered held g [] within spelled holds paid limits = tt
covered held g (r ∷ rs) within spelled holds paid limits =
    let next : AreWithin (after_effects g r.effects) = λ i. limits.0 i (within i) in (
      record {
        spelled = spelled.0;
        holds = λ i e. holds i (in_first (is_touched i r) (is_written i rs) e);
        paid = paid.0;
        limits = λ i e. node_keeps i (after_effects g r.effects i) (next i);
      },
      covered held (after_effects g r.effects) rs next spelled.1 (λ i e. holds i (in_rest (is_touched i r) (is_written i rs) e)) paid.1 limits.1,
    )

-- ---- a list of every inode covers them

inode_is : (i : ℕ) → IsInode i → is_inode i ≡ true
inode_is i is = and_from (nat_le 1 i) (nat_le i 1024) (le-leb 1 i is.0) (le-leb i 1024 is.1)

written_inode : (rs : List Record) (i : ℕ) → AllByRecursion IsRecord rs → is_written i rs ≡ true → is_inode i ≡ true
written_inode [] i spelled written = absurd cc
written_inode (r ∷ rs) i spelled written = elim (either (is_touched i r)) [
  | inl here ↦ inode_is i (touched_fit r.effects spelled.0.fit i here)
  | inr off ↦ written_inode rs i spelled.1 (ap (λ x. x || is_written i rs) (sym off) ∙ written)
]

-- ---- what can be recovered

units_same : (rs : List Record) → units_of rs ≡ units_in rs
units_same [] = refl
units_same (r ∷ rs) = ap (λ n. r.units + n) (units_same rs)

module _ (capacity : ℕ) (g : Graph) (logs : ℕ → List Record) (c : ℕ) (first rest : List Record) (r : IsRecoverable capacity g logs) (is_c : is_client c ≡ true) (split : logs c ≡ first ++ rest) where
  pub charged : charge g + units_of first ≤ capacity
  charged =
      let sums : sum_up_to 8 (λ d. units_in (at logs c [] d)) + units_in (logs c) ≡ sum_up_to 8 (λ d. units_in (logs d)) + units_in (at logs c [] c) =
      one_changes 8 (λ d. units_in (logs d)) (λ d. units_in (at logs c [] d)) c (is_low c is_c) (is_high c is_c) (λ d other. ap units_in (same_if d c [] (logs d) other)) in
      let none : units_in (at logs c [] c) ≡ 0 = ap units_in (there_if c [] (logs c)) in
      let parts : units_in (logs c) ≡ units_in first + units_in rest = ap units_in split ∙ units_append first rest in
      let fits : charge g + sum_up_to 8 (λ d. units_in (logs d)) ≤ capacity = r.fits in
      omega (arith, sums, none, parts, fits, units_same first)

  module _ (held : List ℕ) (spelled : AllByRecursion IsRecord first) (all : HasEveryInode held) where
    pub all_covered : AreCovered held g first
    all_covered =
        covered held g first r.limits spelled (λ i e. all i (written_inode first i spelled e)) (along_front IsPaid first rest g (subst (λ rs. ArePaid g rs) split (r.paid c is_c)))
        (along_front (Keeps IsWithin) first rest g (subst (λ rs. KeepLimits g rs) split (r.keep c is_c)))

    pub never : (n k : ℕ) → IsFirstBad held capacity g (take n first) k → ⊥
    never n k bad = never_bad held capacity g g first n k all_covered (λ i e. refl) charged bad
