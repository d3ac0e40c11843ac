use Rattle.std.proofs.Common.{◌∙◌, ◌-◌, arith}
use Rattle.std.proofs.lemmas.List.{get_or-set_other}
use Rattle.digester.proofs.laws.others_digest_leaves_a_log_standing.Goals as goal

pub returns : goal.returns
returns c x v client m own low other stood = get_or-set_other v.clients (client - 1) (x.client - 1) m (record { generation = 0; done = 0 }) (λ e. other (omega (arith, e, own, low))) ∙ stood
