use Rattle.area_reader.proofs.Torn.{torn_data, torn_fast, loose_whole}
use Rattle.area_reader.proofs.laws.torn_free_run_stays_loose.Goals as goal

pub returns : goal.returns
returns c = record { others = torn_data; fast = torn_fast; whole = loose_whole }
