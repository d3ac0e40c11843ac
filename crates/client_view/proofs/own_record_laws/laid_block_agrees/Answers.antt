use Rattle.client_view.proofs.Agreeing.{block_agrees, block_long}
use Rattle.client_view.proofs.own_record_laws.laid_block_agrees.Goals as goal

pub returns : goal.returns
returns c = record {
  long = λ k g whole held rs i b names size bytes block agrees same file copy laid. block_long k g whole held rs i agrees same b bytes block file laid names size copy;
  agrees = λ k less g whole held rs i b bytes block agrees same file laid forgets. block_agrees k g whole held rs i agrees same b bytes block file laid less forgets;
}
