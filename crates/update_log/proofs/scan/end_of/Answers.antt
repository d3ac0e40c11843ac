use Rattle.std.proofs.Common.{◌∙◌, ap, sym}
use Rattle.update_log.specs.Frames.{end_behind, spelled_records}
use Rattle.update_log.proofs.Ends.{front_ends}
use Rattle.update_log.proofs.Reading.{front_last}
use Rattle.update_log.proofs.scan.end_of.Goals as goal

pub returns-clause-records : goal.returns-clause-records
returns-clause-records c = front_last c.args.content.now c.records.end c.records.invariant.within c.records.invariant.front c.in_default.ensures.none

pub returns-clause-behind : goal.returns-clause-behind
returns-clause-behind c =
    front_ends c.records_are_as_long.ensures c.records.end c.args.content.now c.records.invariant.within c.records.invariant.front
    ∙ ap (λ ps. end_behind (spelled_records ps)) (sym (front_last c.args.content.now c.records.end c.records.invariant.within c.records.invariant.front c.in_default.ensures.none))
