-- A graph answers as it stands stored.
use Rattle.std.proofs.Common.{◌≡◌, Bool, true, false, Option, Some, None}
use Rattle.std.specs.Prelude.{if◌then◌else◌}
use Rattle.posix_calls.specs.Query.{Seen}
use Rattle.posix_calls.specs.Part.{IsPart}
use Rattle.log_record.specs.file_graph.Graph.{Graph}
use Rattle.call_effects.specs.Knowledge.{stored_view}
use Rattle.call_effects.specs.Whole.{whole_of, seen_at, is_counted}

told : (b : Bool) (s o : Option Seen) → (if b then Some s else None) ≡ Some o → s ≡ o
told true s o e = cc
told false s o e = absurd (cc)

pub whole_is_stored : (g : Graph) → IsPart (whole_of g) (stored_view g)
whole_is_stored g = record {
  is_dir = λ i o e. cc;
  node = λ i o e. told (is_counted g i) (seen_at g i) o e;
  bytes = λ i at count bytes e. cc;
}
