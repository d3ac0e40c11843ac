-- The steps of the shared graph, each with when it may be taken.
use Rattle.std.specs.Prelude.{◌≡◌, ◌≢◌, ℕ, ◌+◌, ◌-◌, List, ◌++◌, [], length, drop, true, false, ◌&&◌, not, None}
use Rattle.posix_calls.specs.Operations.{is_client}
use Rattle.call_effects.specs.file_graph.Graph.{set_node}
use Rattle.call_effects.specs.log_record.declared.format.Record.{Record}
use Rattle.world_invariant.specs.Logs.{after_records, is_made_in, units_in, IsNameless}
use Rattle.world_invariant.specs.World.{Kernel, World, moved_world}

-- ---- records are digested

-- the first records of a client's sealed region that are not digested, and those that follow
pub record CanDigest (w : World) (c : ℕ) (first rest : List Record) : Type 0 where
  pub client : is_client c ≡ true
  pub some : first ≢ []
  pub split : drop ((w.kernel.accounts c).mark - (w.clients c).past) (w.clients c).sealed ≡ first ++ rest

-- their effects, the mark, their units and the numbers of their new nodes move at once
abbrev pub records_digested : World → ℕ → List Record → World
records_digested w c first = moved_world w c (after_records w.kernel.shared first) (record (w.kernel.accounts c) { mark = (w.kernel.accounts c).mark + length first; units = (w.kernel.accounts c).units - units_in first; numbers = λ i. (w.kernel.accounts c).numbers i && not (is_made_in i first) }) (w.clients c)

-- ---- a file is reclaimed

pub record CanReclaim (k : Kernel) (i : ℕ) : Type 0 where
  -- it stands in the shared graph and has no name there, and nobody has pinned it
  pub file : IsNameless (k.shared i)
  pub unpinned : (c : ℕ) → is_client c ≡ true → (k.accounts c).pins i ≡ false

abbrev pub after_reclaim : World → ℕ → World
after_reclaim w i = record { kernel = record { shared = set_node w.kernel.shared i None; capacity = w.kernel.capacity; accounts = w.kernel.accounts }; clients = w.clients }

-- ---- a run of a file's blocks is migrated

-- the kernel afterwards has the same node at every inode, the same account of every client, and the same capacity
pub record IsMigrated (before after : Kernel) : Type 0 where
  pub nodes : (i : ℕ) → after.shared i ≡ before.shared i
  pub accounts : (c : ℕ) → is_client c ≡ true → after.accounts c ≡ before.accounts c
  pub capacity : after.capacity ≡ before.capacity

abbrev pub run_migrated : World → Kernel → World
run_migrated w after = record { kernel = after; clients = w.clients }
