-- The steps of the kernel's book: units, numbers and pins, each with when it may be taken.
use Rattle.std.specs.Prelude.{◌≡◌, ◌≢◌, ◌⊎◌, ℕ, ◌+◌, ◌-◌, ◌<◌, ◌≤◌, true, false, Some, None}
use Rattle.posix_calls.specs.Tree.{sum_up_to}
use Rattle.posix_calls.specs.Operations.{is_client}
use Rattle.posix_calls.specs.declared.descriptor.Descriptor.{Descriptor}
use Rattle.posix_calls.specs.declared.limits.TheConstants.{ROOT, MAX_INODE, MAX_CLIENTS}
use Rattle.call_effects.specs.file_graph.Units.{charge}
use Rattle.world_invariant.specs.World.{Failed, Kernel, World, moved_world}
use Rattle.world_invariant.specs.LeaseSteps.{also, without}

-- ---- units

-- what is charged and out, and `units` more units, fit
abbrev pub HasRoom : Kernel → ℕ → Type 0
HasRoom k units = charge k.shared + (sum_up_to MAX_CLIENTS (λ c. (k.accounts c).units) + units) ≤ k.capacity

abbrev pub units_granted : World → ℕ → ℕ → World
units_granted w c units = moved_world w c w.kernel.shared (record (w.kernel.accounts c) { units = (w.kernel.accounts c).units + units }) (record (w.clients c) { spare = (w.clients c).spare + units })

abbrev pub units_returned : World → ℕ → ℕ → World
units_returned w c units = moved_world w c w.kernel.shared (record (w.kernel.accounts c) { units = (w.kernel.accounts c).units - units }) (record (w.clients c) { spare = (w.clients c).spare - units })

-- ---- numbers

-- a number of no node, in nobody's account
pub record IsUnbooked (k : Kernel) (i : ℕ) : Type 0 where
  pub low : ROOT < i
  pub high : i ≤ MAX_INODE
  pub none : k.shared i ≡ None
  pub nobody : (d : ℕ) → is_client d ≡ true → (k.accounts d).numbers i ≡ false

abbrev pub number_granted : World → ℕ → ℕ → World
number_granted w c i = moved_world w c w.kernel.shared (record (w.kernel.accounts c) { numbers = also (w.kernel.accounts c).numbers i }) (record (w.clients c) { knows = record (w.clients c).knows { granted = also (w.clients c).knows.granted i } })

-- an idle client gives back a number that it has not used
pub record CanReturn (w : World) (c i : ℕ) : Type 0 where
  pub client : is_client c ≡ true
  pub idle : (w.clients c).begun ≡ None
  pub granted : (w.clients c).knows.granted i ≡ true

abbrev pub number_returned : World → ℕ → ℕ → World
number_returned w c i = moved_world w c w.kernel.shared (record (w.kernel.accounts c) { numbers = without (w.kernel.accounts c).numbers i }) (record (w.clients c) { knows = record (w.clients c).knows { granted = without (w.clients c).knows.granted i } })

-- ---- pins

abbrev pub inode_pinned : World → ℕ → ℕ → World
inode_pinned w c i = moved_world w c w.kernel.shared (record (w.kernel.accounts c) { pins = also (w.kernel.accounts c).pins i }) (record (w.clients c) { pins = also (w.clients c).pins i })

-- an idle client drops a pin of what it has not open, and so does a failed one: the call that it has begun is never answered
pub record CanUnpin (w : World) (c i : ℕ) : Type 0 where
  pub client : is_client c ≡ true
  pub idle : ((w.clients c).begun ≡ None) ⊎ ((w.clients c).status ≡ Failed)
  pub closed : (n : ℕ) (o : Descriptor) → (w.clients c).knows.own n ≡ Some o → o.inode ≢ i

abbrev pub after_unpin : World → ℕ → ℕ → World
after_unpin w c i = moved_world w c w.kernel.shared (record (w.kernel.accounts c) { pins = without (w.kernel.accounts c).pins i }) (record (w.clients c) { pins = without (w.clients c).pins i })
