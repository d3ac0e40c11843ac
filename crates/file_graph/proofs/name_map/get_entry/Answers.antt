use Rattle.std.proofs.Common.{sym}
use Rattle.file_graph.proofs.Ordered.{find_found, find_free}
use Rattle.file_graph.proofs.name_map.get_entry.Goals as goal

pub returns-in-Ok : goal.returns-in-Ok
returns-in-Ok g c = find_found c.args.name.now c.args.entries.now c.in-Ok.place c.index-entries-place.result (sym c.in-Ok.ensures.place)

pub returns-in-Err : goal.returns-in-Err
returns-in-Err g c = find_free c.args.name.now c.args.entries.now c.in-Err.field-0 c.requires (sym c.in-Err.ensures.place)
