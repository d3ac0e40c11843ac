use Rattle.std.proofs.Common.{◌≡◌, ◌≤◌, Some, option_map, vec_len, []}
use Rattle.script.specs.Script.{all_runs}
use Rattle.script.specs.declared.runs.TheConstants.{MAX_DATA}
use Rattle.script.proofs.RunLaws.{rest_length, cut_behind}
use Rattle.script.proofs.data_text.DataText.to_bytes.Given as goal

-- the bytes so far and those of the runs that are left begin as those of all
abbrev pub invariant-loop-rest : goal.invariant-loop-rest
invariant-loop-rest l = record {
  room : vec_len l.bytes ≤ MAX_DATA;
  whole : cut_behind [] (all_runs (Some l.self.text.now)) ≡ cut_behind l.bytes.items (all_runs (option_map (λ t. t.now) l.rest));
}

abbrev pub decreases-loop-rest : goal.decreases-loop-rest
decreases-loop-rest l = rest_length (option_map (λ t. t.now) l.rest)
