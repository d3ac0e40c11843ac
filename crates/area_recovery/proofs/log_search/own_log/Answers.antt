use Rattle.std.proofs.Common.{length, refl, ◌∙◌}
use Rattle.log_survey.specs.Owners.{owner, owner_after}
use Rattle.area_recovery.specs.FoundLogs.{first_part, second_part}
use Rattle.std.proofs.lemmas.Result.{on_err_weaker, on_ok_weaker}
use Rattle.log_survey.proofs.update_log_lemmas.DeviceCalls.{on_err}
use Rattle.area_recovery.proofs.SettlementPhases.{of_err, passed_on}
use Rattle.area_recovery.proofs.SharedRecords.{named_behind, named_in_front}
use Rattle.area_recovery.proofs.TouchedRecords.{first_listed, listed_long, second_listed}
use Rattle.area_recovery.proofs.log_search.own_log.Goals as goal

pub returns-in_err-own_part-clause-refused : goal.returns-in_err-own_part-clause-refused
returns-in_err-own_part-clause-refused c =
    let a = c.args in
    let own = owner a.owners.now in
    on_err c.from_residual.result (λ evens odds these clear.
    let first = first_part evens odds a.counted.first in
    let second = second_part evens odds a.counted.second in
    c.in_err-own_part.ensures.refused first (c.records_from-first.ensures ∙ first_listed evens odds a.even.now a.odd.now these a.counted.first)
    ((c.owners_decide_whether_logs_are_apart.ensures.clear_in_parts own (owner_after own a.client first) a.client first second (λ i h. refl) (these.inodes a.counted.second)).0 clear).0)

pub returns-clause-clear : goal.returns-clause-clear
returns-clause-clear c =
    let a = c.args in
    let own = owner a.owners.now in
    let mid = owner c.own_part.new.owners in
    on_ok_weaker c.own_part-2.result (λ clear evens odds these.
    let first = first_part evens odds a.counted.first in
    let second = second_part evens odds a.counted.second in
    let is = c.records_from-first.ensures ∙ first_listed evens odds a.even.now a.odd.now these a.counted.first in
    let is_too = c.records_in_region-second.ensures ∙ second_listed evens odds a.even.now a.odd.now these a.counted.second in
    (c.owners_decide_whether_logs_are_apart.ensures.clear_in_parts own mid a.client first second (c.in_ok-own_part.ensures.added first is) (these.inodes a.counted.second)).1
    (c.in_ok-own_part.ensures.clear first is, clear second is_too)) c.own_part-2.ensures.clear

pub returns-clause-added : goal.returns-clause-added
returns-clause-added c =
    let a = c.args in
    let own = owner a.owners.now in
    let mid = owner c.own_part.new.owners in
    let new = owner c.own_part-2.new.owners in
    on_ok_weaker c.own_part-2.result (λ added evens odds these.
    let first = first_part evens odds a.counted.first in
    let second = second_part evens odds a.counted.second in
    let is = c.records_from-first.ensures ∙ first_listed evens odds a.even.now a.odd.now these a.counted.first in
    let is_too = c.records_in_region-second.ensures ∙ second_listed evens odds a.even.now a.odd.now these a.counted.second in
    c.owners_decide_whether_logs_are_apart.ensures.added_in_parts own mid new a.client first second (c.in_ok-own_part.ensures.added first is) (added second is_too)) c.own_part-2.ensures.added

pub returns-clause-refused : goal.returns-clause-refused
returns-clause-refused c =
    let a = c.args in
    let own = owner a.owners.now in
    let mid = owner c.own_part.new.owners in
    on_err_weaker c.own_part-2.result (λ no evens odds these clear.
    let first = first_part evens odds a.counted.first in
    let second = second_part evens odds a.counted.second in
    let is = c.records_from-first.ensures ∙ first_listed evens odds a.even.now a.odd.now these a.counted.first in
    let is_too = c.records_in_region-second.ensures ∙ second_listed evens odds a.even.now a.odd.now these a.counted.second in
    no second is_too
    ((c.owners_decide_whether_logs_are_apart.ensures.clear_in_parts own mid a.client first second (c.in_ok-own_part.ensures.added first is) (these.inodes a.counted.second)).0 clear).1) c.own_part-2.ensures.refused

pub returns-in_err-own_part-clause-first : goal.returns-in_err-own_part-clause-first
returns-in_err-own_part-clause-first c =
    let a = c.args in
    let own = owner a.owners.now in
    let e = c.in_err-own_part.ensures.first in
    passed_on c.from_residual.result _ _ c.from_residual.ensures.1 (λ evens odds these few few_too.
    named_in_front own a.client evens odds a.counted.first a.counted.second few few_too _ e.0 e.1
    (e.2 (first_part evens odds a.counted.first) (c.records_from-first.ensures ∙ first_listed evens odds a.even.now a.odd.now these a.counted.first)))

pub returns-clause-first : goal.returns-clause-first
returns-clause-first c =
    let a = c.args in
    let own = owner a.owners.now in
    let mid = owner c.own_part.new.owners in
    of_err c.own_part-2.result _ (λ e first evens odds these few few_too.
    let front = first_part evens odds a.counted.first in
    let is = c.records_from-first.ensures ∙ first_listed evens odds a.even.now a.odd.now these a.counted.first in
    let is_too = c.records_in_region-second.ensures ∙ second_listed evens odds a.even.now a.odd.now these a.counted.second in
    named_behind own a.client evens odds a.counted.first a.counted.second few few_too e first.0 mid (length c.records_from-first.result.now) (listed_long front c.records_from-first.result.now is) first.1
    (c.in_ok-own_part.ensures.clear front is) (c.in_ok-own_part.ensures.added front is) (these.inodes a.counted.second)
    (first.2 (second_part evens odds a.counted.second) is_too)) c.own_part-2.ensures.first
