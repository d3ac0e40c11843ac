use Rattle.std.proofs.Common.{◌<◌, ◌^◌, Some, ap, subst, slice_set}
use Rattle.record_validation.specs.Counts.{entry_count}
use Rattle.graph_check.proofs.TablesGrow.{node_taken}
use Rattle.graph_check.proofs.node_reader.take_node.Goals as goal

pub returns-clause-read : goal.returns-clause-read
returns-clause-read c = λ g at read.
    node_taken g c.args.inode c.args.node.now c.args.tables.now _ c.requires.low c.requires.high at (record {
      es = c.entries.result.now;
      fs = c.entries-2.result.now;
      es_are = c.entries.ensures;
      fs_are = c.entries-2.ensures;
      few = subst (λ n. entry_count (Some n) < 2 ^ 32) c.counts-counts.ensures.is c.counts-counts.ensures.few;
      heads = ap (λ s. slice_set c.args.tables.now.heads.items c.args.inode (Some s)) (c.head_of.ensures c.args.node.now c.counts-counts.ensures.is);
      file_places = c.count_names.ensures.places;
      files = c.count_names.ensures.counted;
      directory_places = c.count_names-2.ensures.places;
      directories = c.count_names-2.ensures.counted;
    }) read
