use Rattle.posix_calls.proofs.Ranges.{told_in_range, open_in_range, close_in_range, pread_in_range, pwrite_in_range, truncate_in_range, mkdir_in_range, rmdir_in_range, link_in_range, unlink_in_range, rename_in_range, exchange_in_range, list_in_range, stat_in_range}
use Rattle.posix_calls.proofs.decision.decide.Goals as goal

pub returns-in-Open-clause-range : goal.returns-in-Open-clause-range
returns-in-Open-clause-range g c = told_in_range c.open.result (open_in_range _ _ _) c.open.ensures.answer

pub returns-in-Close-clause-range : goal.returns-in-Close-clause-range
returns-in-Close-clause-range g c = told_in_range c.close.result (close_in_range _ _) (c.close.ensures.answer (g.T.TreeAnswers.part c.args.tree.now))

pub returns-in-Pread-clause-range : goal.returns-in-Pread-clause-range
returns-in-Pread-clause-range g c = told_in_range c.pread.result (pread_in_range _ _ _ _) c.pread.ensures.answer

pub returns-in-Pwrite-clause-range : goal.returns-in-Pwrite-clause-range
returns-in-Pwrite-clause-range g c = told_in_range c.pwrite.result (pwrite_in_range _ _ _ _) (c.pwrite.ensures.answer (g.T.TreeAnswers.part c.args.tree.now))

pub returns-in-Truncate-clause-range : goal.returns-in-Truncate-clause-range
returns-in-Truncate-clause-range g c = told_in_range c.truncate.result (truncate_in_range _ _) c.truncate.ensures.answer

pub returns-in-Mkdir-clause-range : goal.returns-in-Mkdir-clause-range
returns-in-Mkdir-clause-range g c = told_in_range c.mkdir.result (mkdir_in_range _) c.mkdir.ensures.answer

pub returns-in-Rmdir-clause-range : goal.returns-in-Rmdir-clause-range
returns-in-Rmdir-clause-range g c = told_in_range c.rmdir.result (rmdir_in_range _) c.rmdir.ensures.answer

pub returns-in-Link-clause-range : goal.returns-in-Link-clause-range
returns-in-Link-clause-range g c = told_in_range c.link.result (link_in_range _ _) c.link.ensures.answer

pub returns-in-Unlink-clause-range : goal.returns-in-Unlink-clause-range
returns-in-Unlink-clause-range g c = told_in_range c.unlink.result (unlink_in_range _) c.unlink.ensures.answer

pub returns-in-Rename-clause-range : goal.returns-in-Rename-clause-range
returns-in-Rename-clause-range g c = told_in_range c.rename.result (rename_in_range _ _) c.rename.ensures.answer

pub returns-in-Exchange-clause-range : goal.returns-in-Exchange-clause-range
returns-in-Exchange-clause-range g c = told_in_range c.exchange.result (exchange_in_range _ _) c.exchange.ensures.answer

pub returns-in-List-clause-range : goal.returns-in-List-clause-range
returns-in-List-clause-range g c = told_in_range c.list.result (list_in_range _) c.list.ensures.answer

pub returns-in-Stat-clause-range : goal.returns-in-Stat-clause-range
returns-in-Stat-clause-range g c = told_in_range c.stat.result (stat_in_range _) c.stat.ensures.answer
