use Rattle.fuse_wire.proofs.OneRequest.{one_request}
use Rattle.fuse_wire.proofs.laws.bytes_spell_one_request.Goals as goal

pub returns : goal.returns
returns c = one_request
