use Rattle.std.proofs.Common.{ℕ, List, subst}
use Rattle.std.specs.Prelude.{None, is_some}
use Rattle.update_log.specs.Stage.{IsUnopened}
use Rattle.client_log.specs.Counts.{AreLeft, CountOf}
use Rattle.client_log.specs.View.{LogView, current_records}
use Rattle.client_log.proofs.Sound.{IsSoundLog, now_counts, unopened_counts, now_wiped, beside_counts, beside_wiped}
use Rattle.client_log.proofs.client_log.ClientLog.left_now.Goals as goal

pub returns-clause-counts : goal.returns-clause-counts
returns-clause-counts g c =
    let m = g.M.Media in
    let s = c.self.inside in
    subst (λ (v : LogView _). (regions : ℕ → List ℕ) → AreLeft m v v regions → CountOf v.generation (is_some v.other) (current_records m v) v.current.begun regions) c.self.view_is
    (now_counts m (record { generation = s.generation; current = s.current; ready = s.ready; other = s.other; clean = s.clean; failed = s.failed }) c.self.invariant c.left_now.ensures.either)

pub returns-clause-unopened : goal.returns-clause-unopened
returns-clause-unopened g c =
    let m = g.M.Media in
    let s = c.self.inside in
    subst (λ (v : LogView _). IsUnopened v.current.stage → (regions : ℕ → List ℕ) → AreLeft m v v regions → CountOf v.generation (is_some v.other) (current_records m v) None regions) c.self.view_is
    (λ closed. unopened_counts m (record { generation = s.generation; current = s.current; ready = s.ready; other = s.other; clean = s.clean; failed = s.failed }) c.self.invariant (c.left_now.ensures.unopened closed))

pub returns-clause-current_wiped : goal.returns-clause-current_wiped
returns-clause-current_wiped g c =
    let m = g.M.Media in
    now_wiped m c.args.self.now (subst (λ (v : LogView _). IsSoundLog m v) c.self.view_is c.self.invariant)

pub returns-clause-other_wiped : goal.returns-clause-other_wiped
returns-clause-other_wiped g c =
    let m = g.M.Media in
    beside_wiped m c.args.self.now (subst (λ (v : LogView _). IsSoundLog m v) c.self.view_is c.self.invariant)

pub returns-clause-beside : goal.returns-clause-beside
returns-clause-beside g c =
    let m = g.M.Media in
    beside_counts m c.args.self.now (subst (λ (v : LogView _). IsSoundLog m v) c.self.view_is c.self.invariant)
