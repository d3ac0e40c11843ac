use Rattle.std.proofs.Common.{◌≡◌, ℕ, List, Ok, Err, Result, ◌∙◌, ap}
use Rattle.std.specs.Prelude.{OnOk}
use Rattle.std.specs.List.{insert}
use Rattle.std.specs.FinMap as fin
use Rattle.std.proofs.lemmas.Result.{on_ok_weaker}
use Rattle.file_graph.specs.declared.name_map.NamedEntry.{NamedEntry}
use Rattle.file_graph.specs.NameOrder.{position_in, pairs}
use Rattle.file_graph.proofs.Ordered.{names_cmp, put_found, put_new}
use Rattle.file_graph.proofs.name_map.put_entry.Goals as goal

-- where an entry was put in at the place of its name, it stands there
inserted : {V E R : Type 0} (r : Result R E) (es new : List (NamedEntry V)) (name : List ℕ) (value : V) (i : ℕ) → position_in name es ≡ Err i
    → OnOk r (new ≡ insert es i (record { name = name; value = value })) → OnOk r (pairs new ≡ fin.put names_cmp name value (pairs es))
inserted r es new name value i place done = on_ok_weaker r (λ e. ap pairs e ∙ put_new (record { name = name; value = value }) es i place) done

pub returns-in-Ok-clause-ok : goal.returns-in-Ok-clause-ok
returns-in-Ok-clause-ok g c =
    let place : position_in c.args.name c.args.entries.now.items ≡ Ok c.in-Ok.place = cc (c.in-Ok.ensures.place, c.as_slice.ensures.bytes, c.deref.ensures.value) in
    put_found c.args.name c.args.value c.args.entries.now.items c.in-Ok.place c.index_mut.result.now place c.index_mut.ensures.value

pub returns-in-Err-clause-ok : goal.returns-in-Err-clause-ok
returns-in-Err-clause-ok g c =
    let place : position_in c.args.name c.args.entries.now.items ≡ Err c.in-Err.place = cc (c.in-Err.ensures.place, c.as_slice.ensures.bytes, c.deref.ensures.value) in
    inserted c.insert_entry.result c.args.entries.now.items c.insert_entry.new.entries.items c.args.name c.args.value c.in-Err.place place c.insert_entry.ensures.ok
