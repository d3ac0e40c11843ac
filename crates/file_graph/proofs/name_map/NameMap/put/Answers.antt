use Rattle.std.proofs.Common.{◌≡◌, sym, subst, List, Result, Ok, Err}
use Rattle.std.specs.Prelude.{OnOk, OnErr}
use Rattle.std.proofs.lemmas.Result.{on_ok_weaker}
use Rattle.file_graph.specs.declared.name_map.NamedEntry.{NamedEntry}
use Rattle.file_graph.specs.NameOrder.{IsInOrder}
use Rattle.file_graph.proofs.Ordered.{put_is_insert}
use Rattle.file_graph.proofs.name_map.NameMap.put.Goals as goal

-- whether the entry was put or not, the entries stay in order
kept : {V E R : Type 0} (r : Result R E) (old new : List (NamedEntry V)) (P : Type 0) → IsInOrder old → OnOk r P → (P → IsInOrder new) → OnErr r (new ≡ old) → IsInOrder new
kept (Ok x) old new P order ok from err = from ok
kept (Err e) old new P order ok from err = subst IsInOrder (sym err) order

pub invariant_of-self : goal.invariant_of-self
invariant_of-self g c = (
  kept c.put_entry.result c.self.inside.entries.items c.put_entry.new.entries.items _ c.self.invariant.0 c.put_entry.ensures.ok
      (λ e. (put_is_insert c.self.inside.entries.items c.put_entry.new.entries.items c.args.name c.args.value c.self.invariant.0 e).0) c.put_entry.ensures.err,
  c.put_entry.ensures.still_small,
)

pub returns-clause-ok : goal.returns-clause-ok
returns-clause-ok g c =
    rw (← c.self.view_is)
    (on_ok_weaker c.put_entry.result
    (λ e. (put_is_insert c.self.inside.entries.items c.put_entry.new.entries.items c.args.name c.args.value c.self.invariant.0 e).1) c.put_entry.ensures.ok)
