use Rattle.log_survey.proofs.TouchLemmas.{region_touches, counted_touch, part_touches}
use Rattle.log_survey.proofs.laws.counted_records_touch_inodes.Goals as goal

pub returns-clause-region : goal.returns-clause-region
returns-clause-region c = region_touches

pub returns-clause-counted : goal.returns-clause-counted
returns-clause-counted c = counted_touch

pub returns-clause-parts : goal.returns-clause-parts
returns-clause-parts c = part_touches
