use Rattle.std.proofs.Common.{◌≡◌, Ok, Err, subst, sym}
use Rattle.std.specs.Prelude.{IsSome}
use Rattle.std.proofs.lemmas.Bool.{false≢true}
use Rattle.file_graph.specs.NameOrder.{position_in}
use Rattle.file_graph.proofs.Ordered.{put_found, find_free}
use Rattle.file_graph.proofs.name_map.set_entry.Goals as goal

pub returns-in-Ok-clause-put : goal.returns-in-Ok-clause-put
returns-in-Ok-clause-put g c =
    let place : position_in c.args.name.now c.args.entries.now.items ≡ Ok c.in-Ok.place = cc (c.in-Ok.ensures.place, c.deref.ensures.value) in
    put_found c.args.name.now c.args.value c.args.entries.now.items c.in-Ok.place c.index_mut.result.now place c.index_mut.ensures.value

pub returns-in_default-clause-put : goal.returns-in_default-clause-put
returns-in_default-clause-put g c =
    let place : position_in c.args.name.now c.args.entries.now.items ≡ Err c.in_default.field-0 = cc (c.in_default.ensures.place, c.deref.ensures.value) in
    absurd (false≢true (subst IsSome (sym (find_free c.args.name.now c.args.entries.now.items c.in_default.field-0 c.requires.order place)) c.requires.there))
