use Rattle.client_view.proofs.Laid.{block_is}
use Rattle.client_view.proofs.own_record_laws.records_are_laid_as_the_graph_has_them.Goals as goal

pub returns : goal.returns
returns c = λ g rs i b bytes is. block_is g rs i b bytes is
