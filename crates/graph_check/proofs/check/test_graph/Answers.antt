use Rattle.std.proofs.lemmas.Result.{err_from_is_err_and}
use Rattle.graph_check.proofs.Whole.{graph_sound, unreached_finding}
use Rattle.graph_check.proofs.check.test_graph.Goals as goal

pub returns-in_err-test_reached-clause-finding : goal.returns-in_err-test_reached-clause-finding
returns-in_err-test_reached-clause-finding c =
    let p = err_from_is_err_and c.from_residual-in_err-test_reached.result c.from_residual-in_err-test_reached.ensures.1 in
    let fact = c.in_err-test_reached.ensures in
    rw (p.1, p.2)
    (λ g read. unreached_finding g c.mark_reached.new.marks _ (c.in_ok-test_entries.ensures.fits g read) (c.in_ok-test_counts.ensures.fits g read) (c.mark_reached.ensures.closed g read) c.mark_reached.ensures.root fact.defect (fact.directory g read) fact.unmarked)

pub returns-clause-sound : goal.returns-clause-sound
returns-clause-sound c = λ g read alone.
    graph_sound g c.mark_reached.new.marks alone (c.in_ok-test_root.ensures.fits g read) (c.in_ok-test_entries.ensures.fits g read) (c.in_ok-test_counts.ensures.fits g read) (c.mark_reached.ensures.climb g read) (c.in_ok-test_reached.ensures.fits g read)
