use Rattle.std.proofs.Common.{◌≡◌, ◌≢◌, inl, inr, false, refl, ap, sym, ◌∙◌, subst}
use Rattle.std.proofs.lemmas.Bool.{true≢false}
use Rattle.lease_manager.specs.file_graph.Graph.{is_among}
use Rattle.client_log.specs.call_effects.Knowledge.{Knowledge, part_of}
use Rattle.client_log.specs.call_effects.NodeView.{view_at}
use Rattle.client_view.specs.client_plan.declared.need.Need.TheVariants as needs
use Rattle.client_view.specs.client_plan.declared.outcome.Outcome.TheVariants as outcomes
use Rattle.client_view.specs.client_plan.CallPlan.{outcome}
use Rattle.libfs.specs.ClientHoldings.{holdings_of, known_to}
use Rattle.libfs.specs.NeedService.{shared_by}
use Rattle.libfs.specs.View.{ClientView}
use Rattle.libfs.proofs.Served.{blocks_read, copied_again, is_had, is_pinned, is_there, is_unpinned, paid, some_number}
use Rattle.libfs.proofs.laws.served_client_needs_it_no_longer.Goals as goal

pub returns-clause-lease : goal.returns-clause-lease
returns-clause-lease g c = λ v call i mode word is lacks.
    is_had g.M.Media v call i mode word is (c.served_need_is_lacking_no_longer.ensures.lacks (part_of (known_to v)) (holdings_of g.M.Media v) call (needs.Lease i mode) lacks)

pub returns-clause-view : goal.returns-clause-view
returns-clause-view g c = λ k old new call i h.
    let device = g.M.Media in
    elim h [
      | inl kept ↦
          let there = is_there ((known_to old).copies i) kept.some in
          subst (λ (x : Knowledge). outcome (part_of x) (holdings_of device new) call ≢ outcomes.Need (needs.View i)) (copied_again (known_to old) i there.0 there.1 ∙ sym (ap known_to kept.same))
          (c.served_need_is_lacking_no_longer.ensures.view (known_to old) (holdings_of device new) call i there.0)
      | inr got ↦
          subst (λ (x : Knowledge). outcome (part_of x) (holdings_of device new) call ≢ outcomes.Need (needs.View i)) (sym got.knows_then)
          (c.served_need_is_lacking_no_longer.ensures.view (known_to old) (holdings_of device new) call i (view_at (shared_by g.S.Media k) i))
    ]

pub returns-clause-blocks : goal.returns-clause-blocks
returns-clause-blocks g c = λ k old new call i first count few long has is.
    let device = g.M.Media in
    blocks_read device g.S.Media k old new i first count few long has (c.served_need_is_lacking_no_longer.ensures.lacks (part_of (known_to new)) (holdings_of device new) call (needs.Blocks i first count) is)

pub returns-clause-inodes : goal.returns-clause-inodes
returns-clause-inodes g c = λ k after old new call units n more some h is.
    let device = g.M.Media in
    some_number device g.S.Media k old new units n after h some (c.served_need_is_lacking_no_longer.ensures.lacks (part_of (known_to new)) (holdings_of device new) call (needs.Inodes more) is)

pub returns-clause-units : goal.returns-clause-units
returns-clause-units g c = λ k after old new call n inodes more was h is.
    let device = g.M.Media in
    let lacks = c.served_need_is_lacking_no_longer.ensures.lacks in
    paid device g.S.Media k old new n inodes after h call n more refl
    (lacks (part_of (known_to old)) (holdings_of device old) call (needs.Units n) was)
    (lacks (part_of (known_to new)) (holdings_of device new) call (needs.Units more) is)

pub returns-clause-pin : goal.returns-clause-pin
returns-clause-pin g c = λ old new call i same is.
    let device = g.M.Media in
    let lacks : is_among i new.pins ≡ false = c.served_need_is_lacking_no_longer.ensures.lacks (part_of (known_to new)) (holdings_of device new) call (needs.Pin i) is in
    true≢false (sym (is_pinned old.pins i) ∙ sym (ap (λ (v : ClientView _). is_among i v.pins) same) ∙ lacks)

pub returns-clause-unpin : goal.returns-clause-unpin
returns-clause-unpin g c = λ old new call i same is.
    let device = g.M.Media in
    let lacks = c.served_need_is_lacking_no_longer.ensures.lacks (part_of (known_to new)) (holdings_of device new) call (needs.Unpin i) is in
    true≢false (sym lacks.0 ∙ ap (λ (v : ClientView _). is_among i v.pins) same ∙ is_unpinned old.pins i)
