use Rattle.std.proofs.Common.{[], ◌∷◌, ◌++◌, drop}
use Rattle.posix_calls.proofs.Walks.{Walked}
use Rattle.posix_calls.proofs.walk.walk.Given as goal

abbrev pub invariant-loop-name : goal.invariant-loop-name
invariant-loop-name g l = Walked (g.T.TreeAnswers.part l.tree) l.watched l.path l.dir l.passed (drop l.name-index l.before ++ l.last ∷ [])
