use Rattle.std.proofs.Common.{◌≡◌, Ok, Err, ◌∙◌, ap}
use Rattle.file_graph.specs.NameOrder.{pairs, position_in}
use Rattle.file_graph.proofs.Ordered.{put_found, put_new}
use Rattle.file_graph.proofs.name_map.put_within.Goals as goal

pub returns-in-Ok-clause-put : goal.returns-in-Ok-clause-put
returns-in-Ok-clause-put g c =
    let place : position_in c.args.name c.args.entries.now.items ≡ Ok c.in-Ok.place = cc (c.in-Ok.ensures.place, c.as_slice.ensures.bytes, c.deref.ensures.value) in
    put_found c.args.name c.args.value c.args.entries.now.items c.in-Ok.place c.index_mut.result.now place c.index_mut.ensures.value

pub returns-in-Err-clause-put : goal.returns-in-Err-clause-put
returns-in-Err-clause-put g c =
    let place : position_in c.args.name c.args.entries.now.items ≡ Err c.in-Err.place = cc (c.in-Err.ensures.place, c.as_slice.ensures.bytes, c.deref.ensures.value) in
    ap pairs c.insert_within.ensures.put ∙ put_new (record { name = c.args.name; value = c.args.value }) c.args.entries.now.items c.in-Err.place place
