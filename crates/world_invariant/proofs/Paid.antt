-- A record's growth is the same wherever it is measured, so what is paid at the call is paid at the digest.
use Rattle.std.proofs.Common.{◌≡◌, ℕ, ◌+◌, ◌≤◌, true, List, [], ◌∷◌, subst, arith}
use Rattle.call_effects.specs.file_graph.Graph.{Graph, after_effects}
use Rattle.call_effects.specs.file_graph.Units.{charge, growth}
use Rattle.call_effects.proofs.file_graph_lemmas.Touches.{charge_rises, local}
use Rattle.call_effects.specs.log_record.declared.format.Record.{Record}
use Rattle.call_effects.proofs.Rises.{growth_local}
use Rattle.world_invariant.specs.Logs.{after_records, is_touched, is_written, units_in, ArePaid}
use Rattle.world_invariant.proofs.Records.{in_first, in_rest}

-- Records that are paid over one graph are so over each that has the same nodes where they write.
pub paid_same : (rs : List Record) (g h : Graph) → ((i : ℕ) → is_written i rs ≡ true → g i ≡ h i) → ArePaid g rs → ArePaid h rs
paid_same [] g h same paid = tt
paid_same (r ∷ rs) g h same paid = (
  subst (λ n. n ≤ r.units) (growth_local g h r.effects (λ i e. same i (in_first (is_touched i r) (is_written i rs) e))) paid.0,
  paid_same rs (after_effects g r.effects) (after_effects h r.effects) (λ i e. local g h r.effects (λ j at. same j (in_first (is_touched j r) (is_written j rs) at)) i (same i (in_rest (is_touched i r) (is_written i rs) e))) paid.1,
)

-- What records are charged is at most their units.
pub charge_records : (rs : List Record) (g : Graph) → ArePaid g rs → charge (after_records g rs) ≤ charge g + units_in rs
charge_records [] g paid = omega arith
charge_records (r ∷ rs) g paid =
    let one : charge (after_effects g r.effects) ≤ charge g + growth g r.effects = charge_rises g r.effects in
    let enough : growth g r.effects ≤ r.units = paid.0 in
    let rest : charge (after_records (after_effects g r.effects) rs) ≤ charge (after_effects g r.effects) + units_in rs = charge_records rs (after_effects g r.effects) paid.1 in
    omega (arith, one, enough, rest)
