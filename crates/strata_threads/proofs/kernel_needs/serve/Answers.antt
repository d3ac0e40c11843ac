use Rattle.std.proofs.Common.{Err, ap}
use Rattle.std.proofs.lemmas.Result.{err_from_is_err_and}
use Rattle.strata_threads.proofs.Needs.{is_denied_otherwise, served_keeps, unserved_keeps}
use Rattle.strata_threads.proofs.kernel_needs.serve.Goals as goal

pub returns-clause-served : goal.returns-clause-served
returns-clause-served g c = (c.serve.new.kernel, c.in_ok-serve.ensures.served)

pub returns-clause-kept : goal.returns-clause-kept
returns-clause-kept g c = (served_keeps g.M.Media g.M.Media c.args.kernel.now c.serve.new.kernel c.args.client.now c.serve.new.self c.args.need.now c.in_ok-serve.ensures.served).0

pub returns-clause-leases : goal.returns-clause-leases
returns-clause-leases g c = (served_keeps g.M.Media g.M.Media c.args.kernel.now c.serve.new.kernel c.args.client.now c.serve.new.self c.args.need.now c.in_ok-serve.ensures.served).1

pub returns-in_err-serve-clause-refused : goal.returns-in_err-serve-clause-refused
returns-in_err-serve-clause-refused g c =
    let p = err_from_is_err_and c.from_residual.result c.from_residual.ensures.1 in
    rw (p.1, p.2) (record {
      kernel = c.args.kernel.now;
      after = c.serve.new.kernel;
      unserved = c.in_err-serve.ensures.refused;
      may = c.in_err-serve.ensures.only;
      leaves = c.in_err-serve.ensures.leaves;
      failed = λ is. c.in_err-serve.ensures.failed (ap Err is);
      no_units = λ is. (c.in_err-serve.ensures.no_units (ap Err is)).1;
      no_inode = λ is. (c.in_err-serve.ensures.no_inode (ap Err is)).2;
    })

pub returns-in_err-serve-clause-kept : goal.returns-in_err-serve-clause-kept
returns-in_err-serve-clause-kept g c = (unserved_keeps g.M.Media g.M.Media c.args.kernel.now c.serve.new.kernel c.args.client.now c.serve.new.self c.args.need.now c.in_err-serve.ensures.refused).0

pub returns-in_err-serve-clause-leases : goal.returns-in_err-serve-clause-leases
returns-in_err-serve-clause-leases g c = (unserved_keeps g.M.Media g.M.Media c.args.kernel.now c.serve.new.kernel c.args.client.now c.serve.new.self c.args.need.now c.in_err-serve.ensures.refused).1

pub returns-in_err-serve-clause-only : goal.returns-in_err-serve-clause-only
returns-in_err-serve-clause-only g c =
    let p = err_from_is_err_and c.from_residual.result c.from_residual.ensures.1 in
    rw (p.1, p.2) (is_denied_otherwise c.args.need.now c.in_err-serve.field-0.0 c.in_err-serve.ensures.only)
