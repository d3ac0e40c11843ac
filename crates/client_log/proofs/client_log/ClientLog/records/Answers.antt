use Rattle.client_log.proofs.Sound.{sound_read}
use Rattle.client_log.proofs.client_log.ClientLog.records.Goals as goal

pub invariant_of-self-in-Err : goal.invariant_of-self-in-Err
invariant_of-self-in-Err g c =
    let m = g.M.Media in
    let s = c.self.inside in
    let r = c.records.ensures in
    sound_read m s.generation s.current c.records.new.self s.ready s.other s.clean s.failed c.self.invariant
    (record { same_end = r.same.0; same_stage = r.same.1; same_begun = r.same.2; same_seen = r.seen; clock = r.clock; past = r.past; faults_rise = r.faults; one_fault = r.one_fault })
