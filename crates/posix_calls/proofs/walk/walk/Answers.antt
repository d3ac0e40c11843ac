use Rattle.std.proofs.Common.{◌≡◌, Some, subst, ◌+◌, ◌-◌, length, take, drop, ap, sym, ◌∙◌}
use Rattle.std.specs.Prelude.{option_map}
use Rattle.posix_calls.specs.Answers.{entry_in, count_in}
use Rattle.posix_calls.proofs.Walks.{exits_untold, walked_first, walked_stops, walked_on, walked_missing, walked_lands, walked_next, walked_last, lands_at_root, split_last}
use Rattle.posix_calls.proofs.walk.walk.Goals as goal

pub returns-in_default-clause-answer : goal.returns-in_default-clause-answer
returns-in_default-clause-answer g c = rw (← c.names.ensures.names) (lands_at_root _ _ _ c.in_default.len_below)

pub loop-name-init : goal.loop-name-init
loop-name-init g c = walked_first _ _ _ _ (sym c.names.ensures.names ∙ split_last c.names.result.now c.last-item.result c.in-len1-up.len_at_least c.last-item.is)

pub returns-in_err-dir-clause-answer : goal.returns-in_err-dir-clause-answer
returns-in_err-dir-clause-answer g c = exits_untold _ c.from_residual.ensures.1 (walked_stops (drop (c.loop-name.name-index + 1) (take (length c.names.result.now - 1) c.names.result.now)) c.last-item.result (walked_next (take (length c.names.result.now - 1) c.names.result.now) c.loop-name.name-index c.name-item.result c.last-item.result c.loop-name-test.true c.name-item.is c.loop-name.invariant) (rw (← c.as_slice.ensures.bytes) c.in_err-dir.ensures.answer))

pub loop-name-preserved : goal.loop-name-preserved
loop-name-preserved g c = rw c.leads_to-passed.ensures (walked_on (drop (c.loop-name.name-index + 1) (take (length c.names.result.now - 1) c.names.result.now)) c.last-item.result (walked_next (take (length c.names.result.now - 1) c.names.result.now) c.loop-name.name-index c.name-item.result c.last-item.result c.loop-name-test.true c.name-item.is c.loop-name.invariant) (rw (← c.as_slice.ensures.bytes) c.in_ok-dir.ensures.answer))

pub returns-in_err-child-clause-answer : goal.returns-in_err-child-clause-answer
returns-in_err-child-clause-answer g c = exits_untold _ c.from_residual-in_err-child.ensures.1 (walked_missing (entry_in c.as_slice-2.result.now) (walked_last (take (length c.names.result.now - 1) c.names.result.now) c.loop-name.name-index c.last-item.result c.loop-name-test.false c.loop-name.invariant) c.in_err-child.ensures.missing.0 (sym c.entry.ensures.inode ∙ ap (option_map (option_map (λ e. e.inode))) c.in_err-child.ensures.missing.1))

pub returns-in_err-entries-clause-answer : goal.returns-in_err-entries-clause-answer
returns-in_err-entries-clause-answer g c = exits_untold _ c.from_residual-in_err-entries.ensures.1 (walked_missing count_in (walked_last (take (length c.names.result.now - 1) c.names.result.now) c.loop-name.name-index c.last-item.result c.loop-name-test.false c.loop-name.invariant) c.in_err-entries.ensures.missing.0 (sym c.entry_count.ensures ∙ c.in_err-entries.ensures.missing.1))

pub returns-clause-answer : goal.returns-clause-answer
returns-clause-answer g c = rw (c.landing_at.ensures.parent, c.landing_at.ensures.inode, c.landing_at.ensures.entries, c.landing_at.ensures.passed, c.leads_to-passed-2.ensures) (walked_lands (walked_last (take (length c.names.result.now - 1) c.names.result.now) c.loop-name.name-index c.last-item.result c.loop-name-test.false c.loop-name.invariant) (rw (← c.as_slice-2.ensures.bytes) (sym c.entry.ensures.inode ∙ ap (option_map (option_map (λ e. e.inode))) c.in_ok-child.ensures.known)) (sym c.entry_count.ensures ∙ c.in_ok-entries.ensures.known))

pub returns-clause-known_kind : goal.returns-clause-known_kind
returns-clause-known_kind g c = λ i is_dir at told.
    let child = c.landing_at.ensures.known_kind is_dir told in
    let here : Some child.0.inode ≡ Some i = ap (option_map (λ e. e.inode)) (sym child.1) ∙ sym c.landing_at.ensures.inode ∙ at in
    let same : child.0.inode ≡ i = cc in
    subst (λ k. (g.T.TreeAnswers.part c.args.tree.now).is_dir k ≡ Some (Some is_dir)) same (c.entry.ensures.kind child.0 is_dir (c.in_ok-child.ensures.known ∙ ap Some child.1) child.2)
