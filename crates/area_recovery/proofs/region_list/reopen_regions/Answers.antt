use Rattle.std.proofs.Common.{◌∙◌, ◌++◌, ap, map}
use Rattle.log_survey.proofs.update_log_lemmas.DeviceCalls.{on_err}
use Rattle.area_recovery.proofs.OpenedLists.{all_back, all_stay, some_rose, still_rest, wrong_size}
use Rattle.area_recovery.proofs.region_list.reopen_regions.Goals as goal

pub returns-in_err-reserve-clause-back : goal.returns-in_err-reserve-clause-back
returns-in_err-reserve-clause-back g c = on_err c.from_residual.result (all_stay g.M.Media c.args.media.now.items c.requires.rest)

pub reopen_last-requires-clause-rests : goal.reopen_last-requires-clause-rests
reopen_last-requires-clause-rests g c = still_rest g.M.Media _ _ _ c.media.invariant.opening c.requires.rest

pub returns-in-Err-clause-back : goal.returns-in-Err-clause-back
returns-in-Err-clause-back g c =
    let r = c.in-Err.ensures in
    all_back g.M.Media _ _ _ _ _ c.media.invariant.opening c.requires.rest r.refused _ (c.hand_back.ensures ∙ ap (λ vs. c.reopen_last.new.media.items ++ map (λ v. v.media) vs) r.regions_stay)

pub returns-in-Err-clause-size : goal.returns-in-Err-clause-size
returns-in-Err-clause-size g c = wrong_size g.M.Media _ _ _ _ _ c.media.invariant.opening c.requires.rest c.in-Err.ensures.refused

pub returns-in-Err-clause-fault : goal.returns-in-Err-clause-fault
returns-in-Err-clause-fault g c =
    let r = c.in-Err.ensures in
    some_rose g.M.Media _ _ _ _ _ c.media.invariant.opening c.requires.rest r.refused _ (c.hand_back.ensures ∙ ap (λ vs. c.reopen_last.new.media.items ++ map (λ v. v.media) vs) r.regions_stay)
