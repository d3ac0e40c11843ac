use Rattle.std.proofs.Common.{◌≡◌, true}
use Rattle.libfs.proofs.ClientEnds.{emptied_is_new}
use Rattle.libfs.proofs.client.Client.renew.Goals as goal

pub returns-clause-renewed : goal.returns-clause-renewed
returns-clause-renewed g c = λ _.
    let yes : c.can_be_renewed.result ≡ true = cc in
    (c.empty.ensures, emptied_is_new c.args.self.now c.empty.new.self c.empty.ensures (c.can_be_renewed.ensures.idle yes) (c.can_be_renewed.ensures.sealed yes))
