use Rattle.std.proofs.Common.{◌≡◌, ◌≢◌, inl, inr, ℕ, List, true, false, refl, sym, ◌∙◌, ap, subst}
use Rattle.std.proofs.lemmas.Bool.{true≢false}
use Rattle.std.specs.Prelude.{None, Option, Result, is_some, IfErr, IfOk, OnErr, OnOk}
use Rattle.tier_device.specs.declared.media.Tier.TheVariants.{Fast}
use Rattle.update_log.specs.View.{WithOrWithout, header_of, records_of}
use Rattle.update_log.specs.Wipe.{IsWiping}
use Rattle.update_log.specs.declared.stage.WipeProgress.{WipeProgress}
use Rattle.client_log.specs.declared.error.LogError.{LogError}
use Rattle.client_log.specs.declared.error.LogError.TheVariants.{DeviceFault}
use Rattle.client_log.specs.Counts.{AreLeft, CountOf}
use Rattle.client_log.specs.Turns.{Back, turn_of, other_wiped}
use Rattle.client_log.specs.View.{LogView, current_records}
use Rattle.client_log.proofs.Sound.{IsSoundLog, current_counts, now_counts, other_counts}
use Rattle.client_log.proofs.WipeTurns.{back_of, current_same, either_way, if_ok, never_none, no_answer, none_where, other_last, other_same, told_err, told_going, told_last, told_ok, told_only}
use Rattle.client_log.proofs.client_log.ClientLog.wipe_step.Goals as goal

-- ---- a device has failed

pub returns-then-self-clause-any_moment : goal.returns-then-self-clause-any_moment
returns-then-self-clause-any_moment g c =
    let m = g.M.Media in
    let s = c.self.inside in
    subst (λ (v : LogView _). (regions : ℕ → List ℕ) → AreLeft m v v regions → CountOf v.generation (is_some v.other) (current_records m v) v.current.begun regions) c.self.view_is
    (now_counts m (record { generation = s.generation; current = s.current; ready = s.ready; other = s.other; clean = s.clean; failed = s.failed }) c.self.invariant c.left_now.ensures.either)

pub returns-then-self-clause-idle : goal.returns-then-self-clause-idle
returns-then-self-clause-idle g c =
    let old = c.args.self.now in
    let failed : old.failed ≡ true = subst (λ (v : LogView _). v.failed ≡ true) c.self.view_is c.if-self.true in
    ((λ e. cc), (λ all. absurd (true≢false (sym failed ∙ all.0))))

-- ---- the region that is written

pub returns-then-not-self-clause-any_moment : goal.returns-then-not-self-clause-any_moment
returns-then-not-self-clause-any_moment g c =
    let m = g.M.Media in
    let old = c.args.self.now in
    let sound : IsSoundLog m old = subst (λ (v : LogView _). IsSoundLog m v) c.self.view_is c.self.invariant in
    let ready : old.ready ≡ false = subst (λ (v : LogView _). v.ready ≡ false) c.self.view_is c.if-not-self.true in
    current_counts m old c.wipe_current.new.self c.wipe_current.result sound ready c.wipe_current.ensures.current

pub returns-then-not-self-clause-going : goal.returns-then-not-self-clause-going
returns-then-not-self-clause-going g c =
    let m = g.M.Media in
    let old = c.args.self.now in
    let new = c.wipe_current.new.self in
    let w = c.wipe_current.ensures.current in
    let sound : IsSoundLog m old = subst (λ (v : LogView _). IsSoundLog m v) c.self.view_is c.self.invariant in
    let ready : old.ready ≡ false = subst (λ (v : LogView _). v.ready ≡ false) c.self.view_is c.if-not-self.true in
    told_going w.answer c.wipe_current.result (turn_of m new ≡ turn_of m old) w.is_told
    (λ e. current_same m old new c.wipe_current.result ready (sound.stale ready).nothing w e)

pub returns-then-not-self-clause-unwiped : goal.returns-then-not-self-clause-unwiped
returns-then-not-self-clause-unwiped g c =
    let m = g.M.Media in
    let old = c.args.self.now in
    let new = c.wipe_current.new.self in
    let w = c.wipe_current.ensures.current in
    let sound : IsSoundLog m old = subst (λ (v : LogView _). IsSoundLog m v) c.self.view_is c.self.invariant in
    let ready : old.ready ≡ false = subst (λ (v : LogView _). v.ready ≡ false) c.self.view_is c.if-not-self.true in
    told_err w.answer c.wipe_current.result (turn_of m new ≡ turn_of m old) w.is_told
    (λ e fails. current_same m old new c.wipe_current.result ready (sound.stale ready).nothing w e)

pub returns-then-not-self-clause-only : goal.returns-then-not-self-clause-only
returns-then-not-self-clause-only g c =
    let w = c.wipe_current.ensures.current in
    told_only w.answer c.wipe_current.result w.is_told w.call.only

pub returns-then-not-self-clause-idle : goal.returns-then-not-self-clause-idle
returns-then-not-self-clause-idle g c =
    let old = c.args.self.now in
    let w = c.wipe_current.ensures.current in
    let ready : old.ready ≡ false = subst (λ (v : LogView _). v.ready ≡ false) c.self.view_is c.if-not-self.true in
    ((λ none. absurd (never_none w.answer c.wipe_current.result w.is_told none)), (λ all. absurd (true≢false (sym all.1 ∙ ready))))

pub returns-then-not-self-clause-may_other : goal.returns-then-not-self-clause-may_other
returns-then-not-self-clause-may_other g c =
    let m = g.M.Media in
    let old = c.args.self.now in
    let ready : old.ready ≡ false = subst (λ (v : LogView _). v.ready ≡ false) c.self.view_is c.if-not-self.true in
    if_ok c.wipe_current.result (λ p. p ≢ None → old.ready ≡ true → (turn_of m old).other ≡ Back) (λ p made is. absurd (true≢false (sym is ∙ ready)))

-- ---- the other one, or none

pub returns-clause-idle : goal.returns-clause-idle
returns-clause-idle g c =
    let m = g.M.Media in
    let old = c.args.self.now in
    let going : old.failed ≡ false = subst (λ (v : LogView _). v.failed ≡ false) c.self.view_is c.if-self.false in
    let ready : old.ready ≡ true = subst (λ (v : LogView _). v.ready ≡ true) c.self.view_is c.if-not-self.false in (
      (λ none. (going, ready, none_where m old c.wipe_other.new.self c.wipe_other.result c.wipe_other.ensures.other none)),
      (λ all. (c.wipe_other.ensures.nothing all.2).0),
    )

pub returns-clause-may_other : goal.returns-clause-may_other
returns-clause-may_other g c =
    let m = g.M.Media in
    let old = c.args.self.now in
    let new = c.wipe_other.new.self in
    elim (either_way m old new c.wipe_other.result c.wipe_other.ensures.other c.wipe_other.ensures.nothing) [
      | inl x ↦ if_ok c.wipe_other.result (λ p. p ≢ None → old.ready ≡ true → (turn_of m old).other ≡ Back) (λ p made is. back_of m old x.0 x.1 x.2)
      | inr y ↦ subst (λ (r : Result (Option WipeProgress) LogError). IfOk r (λ p. p ≢ None → old.ready ≡ true → (turn_of m old).other ≡ Back)) (sym y.0) (λ made. absurd (made refl))
    ]

pub returns-clause-any_moment : goal.returns-clause-any_moment
returns-clause-any_moment g c =
    let m = g.M.Media in
    let old = c.args.self.now in
    let new = c.wipe_other.new.self in
    let sound : IsSoundLog m old = subst (λ (v : LogView _). IsSoundLog m v) c.self.view_is c.self.invariant in
    let either =
    subst (λ (v : LogView _). (IsWiping v.current.stage → ⊥) → (d : List ℕ) → m.left v.current.media (m.moment v.current.media) Fast d → WithOrWithout (header_of m v.current) (records_of m v.current) v.current.begun d)
    c.self.view_is c.left_now.ensures.either in
    elim (either_way m old new c.wipe_other.result c.wipe_other.ensures.other c.wipe_other.ensures.nothing) [
      | inl x ↦ other_counts m old new x.0 c.wipe_other.result sound x.1 x.3 either
      | inr y ↦ subst (λ (n : LogView _). (regions : ℕ → List ℕ) → AreLeft m old n regions → CountOf old.generation (is_some old.other) (current_records m old) old.current.begun regions) (sym y.1) (now_counts m old sound either)
    ]

pub returns-clause-other_wiped : goal.returns-clause-other_wiped
returns-clause-other_wiped g c =
    let m = g.M.Media in
    let old = c.args.self.now in
    let new = c.wipe_other.new.self in
    elim (either_way m old new c.wipe_other.result c.wipe_other.ensures.other c.wipe_other.ensures.nothing) [
      | inl x ↦ told_last x.3.answer c.wipe_other.result (old.ready ≡ true → turn_of m new ≡ other_wiped (turn_of m old)) x.3.is_told (λ e ready. other_last m old new x.0 c.wipe_other.result x.3 e)
      | inr y ↦ (no_answer c.wipe_other.result (turn_of m new ≡ turn_of m old) (old.ready ≡ true → turn_of m new ≡ other_wiped (turn_of m old)) y.0 (ap (turn_of m) y.1)).0
    ]

pub returns-clause-going : goal.returns-clause-going
returns-clause-going g c =
    let m = g.M.Media in
    let old = c.args.self.now in
    let new = c.wipe_other.new.self in
    elim (either_way m old new c.wipe_other.result c.wipe_other.ensures.other c.wipe_other.ensures.nothing) [
      | inl x ↦ told_going x.3.answer c.wipe_other.result (turn_of m new ≡ turn_of m old) x.3.is_told (λ e. other_same m old new x.0 c.wipe_other.result x.1 x.2 x.3 e)
      | inr y ↦ (no_answer c.wipe_other.result (turn_of m new ≡ turn_of m old) (old.ready ≡ true → turn_of m new ≡ other_wiped (turn_of m old)) y.0 (ap (turn_of m) y.1)).1
    ]

pub returns-clause-unwiped : goal.returns-clause-unwiped
returns-clause-unwiped g c =
    let m = g.M.Media in
    let old = c.args.self.now in
    let new = c.wipe_other.new.self in
    elim (either_way m old new c.wipe_other.result c.wipe_other.ensures.other c.wipe_other.ensures.nothing) [
      | inl x ↦ told_err x.3.answer c.wipe_other.result (turn_of m new ≡ turn_of m old) x.3.is_told (λ e fails. other_same m old new x.0 c.wipe_other.result x.1 x.2 x.3 e)
      | inr y ↦ subst (λ (r : Result (Option WipeProgress) LogError). OnErr r (turn_of m new ≡ turn_of m old)) (sym y.0) tt
    ]

pub returns-clause-sound : goal.returns-clause-sound
returns-clause-sound g c =
    let m = g.M.Media in
    let old = c.args.self.now in
    let new = c.wipe_other.new.self in
    let going : old.failed ≡ false = subst (λ (v : LogView _). v.failed ≡ false) c.self.view_is c.if-self.false in
    elim (either_way m old new c.wipe_other.result c.wipe_other.ensures.other c.wipe_other.ensures.nothing) [
      | inl x ↦ told_ok x.3.answer c.wipe_other.result ((old.failed ≡ false) × (new.failed ≡ false)) x.3.is_told (λ e. (going, ap (λ (v : LogView _). v.failed) x.3.rest ∙ e))
      | inr y ↦ subst (λ (r : Result (Option WipeProgress) LogError). OnOk r ((old.failed ≡ false) × (new.failed ≡ false))) (sym y.0) (going, ap (λ (v : LogView _). v.failed) y.1 ∙ going)
    ]

pub returns-clause-failed : goal.returns-clause-failed
returns-clause-failed g c =
    let m = g.M.Media in
    let old = c.args.self.now in
    let new = c.wipe_other.new.self in
    elim (either_way m old new c.wipe_other.result c.wipe_other.ensures.other c.wipe_other.ensures.nothing) [
      | inl x ↦ told_err x.3.answer c.wipe_other.result (new.failed ≡ true) x.3.is_told (λ e fails. ap (λ (v : LogView _). v.failed) x.3.rest ∙ fails)
      | inr y ↦ subst (λ (r : Result (Option WipeProgress) LogError). OnErr r (new.failed ≡ true)) (sym y.0) tt
    ]

pub returns-clause-only : goal.returns-clause-only
returns-clause-only g c =
    let m = g.M.Media in
    let old = c.args.self.now in
    let new = c.wipe_other.new.self in
    elim (either_way m old new c.wipe_other.result c.wipe_other.ensures.other c.wipe_other.ensures.nothing) [
      | inl x ↦ told_only x.3.answer c.wipe_other.result x.3.is_told x.3.call.only
      | inr y ↦ subst (λ (r : Result (Option WipeProgress) LogError). IfErr r (λ e. e ≡ DeviceFault)) (sym y.0) tt
    ]
