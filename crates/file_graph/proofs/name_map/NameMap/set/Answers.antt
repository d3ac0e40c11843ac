use Rattle.std.proofs.Common.{sym, subst, ap, ◌∙◌, arith}
use Rattle.std.specs.Prelude.{IsSome}
use Rattle.std.specs.FinMap as fin
use Rattle.posix_calls.specs.Content.{Entries}
use Rattle.file_graph.proofs.Ordered.{put_is_insert, get_is_find}
use Rattle.file_graph.proofs.name_map.NameMap.set.Goals as goal

pub set_entry-requires-clause-there : goal.set_entry-requires-clause-there
set_entry-requires-clause-there g c =
    subst IsSome (sym (get_is_find c.self.inside.entries.items c.args.name.now c.self.invariant.0 ∙ ap (λ (m : Entries _). fin.get m c.args.name.now) c.self.view_is)) c.requires

pub invariant_of-self : goal.invariant_of-self
invariant_of-self g c = (
  (put_is_insert c.self.inside.entries.items c.set_entry.new.entries.items c.args.name.now c.args.value c.self.invariant.0 c.set_entry.ensures.put).0,
  omega (arith, c.set_entry.ensures.as_many, c.self.invariant.1),
)

pub returns : goal.returns
returns g c = rw (← c.self.view_is) ((put_is_insert c.self.inside.entries.items c.set_entry.new.entries.items c.args.name.now c.args.value c.self.invariant.0 c.set_entry.ensures.put).1)
