use Rattle.std.proofs.Common.{refl}
use Rattle.log_record.specs.Grammar.{record_of, record_at, header_at, effects_at, effect_at, fields_at, dropped_at}
use Rattle.update_log.proofs.laws.region_has_its_numbers.Goals as goal

pub returns-clause-open_region : goal.returns-clause-open_region
unfolding record_of record_at header_at effects_at effect_at fields_at dropped_at
returns-clause-open_region c = refl
