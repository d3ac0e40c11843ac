use Rattle.std.proofs.Common.{◌≡◌, inl, inr, ℕ, List, Bool, true, refl, sym, ◌∙◌, subst}
use Rattle.std.specs.Prelude.{is_some}
use Rattle.std.proofs.lemmas.Bool.{cases_Bool, true≢false}
use Rattle.client_log.specs.Counts.{AreLeft, CountOf}
use Rattle.client_log.specs.Regions.{IsWritten}
use Rattle.client_log.specs.View.{LogView, current_records}
use Rattle.client_log.proofs.Begun.{begun_ready, settled_written, step_failed}
use Rattle.client_log.proofs.Sound.{append_counts, now_counts, sound_current, sound_failed}
use Rattle.client_log.proofs.client_log.ClientLog.settle.Goals as goal

pub returns-then-self-clause-any_moment : goal.returns-then-self-clause-any_moment
returns-then-self-clause-any_moment g c =
    let m = g.M.Media in
    let s = c.self.inside in
    subst (λ (v : LogView _). (regions : ℕ → List ℕ) → AreLeft m v v regions → CountOf v.generation (is_some v.other) (current_records m v) v.current.begun regions) c.self.view_is
    (now_counts m (record { generation = s.generation; current = s.current; ready = s.ready; other = s.other; clean = s.clean; failed = s.failed }) c.self.invariant c.left_now.ensures.either)

pub invariant_of-self-in-Err : goal.invariant_of-self-in-Err
invariant_of-self-in-Err g c =
    let m = g.M.Media in
    let s = c.self.inside in
    let new = c.settle-settled.new.self in
    let some : is_some s.current.begun ≡ true = subst (λ (v : LogView _). is_some v.current.begun ≡ true) (sym c.self.view_is) c.requires in
    let ready = begun_ready m (record { generation = s.generation; current = s.current; ready = s.ready; other = s.other; clean = s.clean; failed = s.failed }) c.self.invariant some in
    sound_current m s.generation s.current new s.ready s.ready s.other s.clean true
    (sound_failed m s.generation s.current s.ready s.other s.clean s.failed c.self.invariant)
    (λ e. step_failed m s.generation s.current new (subst (λ (f : Bool). IsWritten m f s.generation s.current) c.if-self.false (c.self.invariant.written e)) c.in-Err.ensures.failed c.settle-settled.ensures.same_header some
    (λ _. c.in-Err.ensures.unanswered))
    (λ e. absurd (true≢false (sym ready ∙ e)))

pub returns-in-Ok-clause-any_moment : goal.returns-in-Ok-clause-any_moment
returns-in-Ok-clause-any_moment g c =
    let m = g.M.Media in
    let s = c.self.inside in
    let old : LogView _ = record { generation = s.generation; current = s.current; ready = s.ready; other = s.other; clean = s.clean; failed = s.failed } in
    let new : LogView _ = record { generation = s.generation; current = c.settle-settled.new.self; ready = s.ready; other = s.other; clean = s.clean; failed = s.failed } in
    let some : is_some s.current.begun ≡ true = subst (λ (v : LogView _). is_some v.current.begun ≡ true) (sym c.self.view_is) c.requires in
    subst (λ (v : LogView _). (regions : ℕ → List ℕ) → AreLeft m v new regions → CountOf v.generation (is_some v.other) (current_records m v) v.current.begun regions) c.self.view_is
    (append_counts m old new c.self.invariant (begun_ready m old c.self.invariant some) refl c.settle-settled.ensures.any_moment)

pub returns-in-Err-clause-any_moment : goal.returns-in-Err-clause-any_moment
returns-in-Err-clause-any_moment g c =
    let m = g.M.Media in
    let s = c.self.inside in
    let old : LogView _ = record { generation = s.generation; current = s.current; ready = s.ready; other = s.other; clean = s.clean; failed = s.failed } in
    let new : LogView _ = record { generation = s.generation; current = c.settle-settled.new.self; ready = s.ready; other = s.other; clean = s.clean; failed = true } in
    let some : is_some s.current.begun ≡ true = subst (λ (v : LogView _). is_some v.current.begun ≡ true) (sym c.self.view_is) c.requires in
    subst (λ (v : LogView _). (regions : ℕ → List ℕ) → AreLeft m v new regions → CountOf v.generation (is_some v.other) (current_records m v) v.current.begun regions) c.self.view_is
    (append_counts m old new c.self.invariant (begun_ready m old c.self.invariant some) refl c.settle-settled.ensures.any_moment)

pub invariant_of-self : goal.invariant_of-self
invariant_of-self g c =
    let m = g.M.Media in
    let s = c.self.inside in
    let new = c.settle-settled.new.self in
    let some : is_some s.current.begun ≡ true = subst (λ (v : LogView _). is_some v.current.begun ≡ true) (sym c.self.view_is) c.requires in
    let ready = begun_ready m (record { generation = s.generation; current = s.current; ready = s.ready; other = s.other; clean = s.clean; failed = s.failed }) c.self.invariant some in
    sound_current m s.generation s.current new s.ready s.ready s.other s.clean s.failed c.self.invariant
    (λ e. settled_written m s.failed s.generation s.current new (c.self.invariant.written e) c.in-Ok.ensures.stage (c.left_now-2.ensures.none (inl c.in-Ok.ensures.stage)) c.settle-settled.ensures.same_header
    (elim (cases_Bool c.in-Ok.whole) [ inl is ↦ inl (c.in-Ok.ensures.appended is) | inr is ↦ inr (c.in-Ok.ensures.gone is) ]))
    (λ e. absurd (true≢false (sym ready ∙ e)))
