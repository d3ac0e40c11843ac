use Rattle.std.proofs.Common.{◌≡◌, Ok, Err, ◌∙◌, ap}
use Rattle.file_graph.specs.NameOrder.{pairs, position_in}
use Rattle.file_graph.proofs.Ordered.{remove_found, remove_free}
use Rattle.file_graph.proofs.name_map.remove_entry.Goals as goal

pub returns-in-Ok-clause-pairs : goal.returns-in-Ok-clause-pairs
returns-in-Ok-clause-pairs g c =
    let place : position_in c.args.name.now c.args.entries.now.items ≡ Ok c.in-Ok.place = cc (c.in-Ok.ensures.place, c.deref.ensures.value) in
    ap pairs c.remove.ensures.items ∙ remove_found c.args.name.now c.args.entries.now.items c.in-Ok.place c.requires place

pub returns-in_default-clause-pairs : goal.returns-in_default-clause-pairs
returns-in_default-clause-pairs g c =
    let place : position_in c.args.name.now c.args.entries.now.items ≡ Err c.in_default.field-0 = cc (c.in_default.ensures.place, c.deref.ensures.value) in
    remove_free c.args.name.now c.args.entries.now.items c.in_default.field-0 c.requires place
