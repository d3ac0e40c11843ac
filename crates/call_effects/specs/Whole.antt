-- What a plain graph answers as a file tree that is known whole.
use Rattle.std.specs.Prelude.{ℕ, Bool, nat_lt, Option, Some, None, option_map, if◌then◌else◌}
use Rattle.posix_calls.specs.Content.{range}
use Rattle.posix_calls.specs.Query.{Seen}
use Rattle.posix_calls.specs.Part.{Part}
use Rattle.posix_calls.specs.Answers.{count_in}
use Rattle.log_record.specs.file_graph.Graph.{Graph}
use Rattle.call_effects.specs.Wholes.{node_is_dir, node_seen, node_bytes}

-- what stands at an inode, as a call sees it
abbrev pub seen_at : Graph → ℕ → Option Seen
seen_at g i = option_map node_seen (g i)

-- whether 32 bits count the entries at an inode
abbrev pub is_counted : Graph → ℕ → Bool
is_counted g i = nat_lt (count_in (seen_at g i)) 4294967296

-- every node is known, but a directory of more entries than 32 bits count; so are the bytes of every file
abbrev pub whole_of : Graph → Part
whole_of g = record {
  is_dir = λ i. Some (option_map node_is_dir (g i));
  node = λ i. if is_counted g i then Some (seen_at g i) else None;
  bytes = λ i at count. Some (range at count (node_bytes (g i)));
}
