use Rattle.std.proofs.Common.{◌≡◌, take, false}
use Rattle.log_survey.specs.Owners.{listed}
use Rattle.graph_check.specs.file_graph.Graph.{is_among}
use Rattle.area_recovery.proofs.log_search.place_of.Given as goal

abbrev pub invariant-loop-place : goal.invariant-loop-place
invariant-loop-place l = is_among l.fn.inode (listed (take l.place l.fn.part)) ≡ false
