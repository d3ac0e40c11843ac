-- The steps of leases and copies, each with when it may be taken.
use Rattle.std.specs.Prelude.{◌≡◌, ◌≢◌, ◌⊎◌, ℕ, List, Bool, true, false, ◌==◌, ◌||◌, Option, Some, None, if◌then◌else◌}
use Rattle.posix_calls.specs.Operations.{is_client}
use Rattle.call_effects.specs.file_graph.Graph.{Graph, FileBody}
use Rattle.call_effects.specs.Blocks.{block_of}
use Rattle.call_effects.specs.NodeView.{view_at}
use Rattle.call_effects.specs.Knowledge.{Knowledge, IsForgetful, with_copy, with_blocks}
use Rattle.world_invariant.specs.Logs.{after_records, is_written}
use Rattle.world_invariant.specs.World.{World, has_lease, log_of}
use Rattle.world_invariant.specs.ClientSteps.{with_client}

abbrev pub also : (ℕ → Bool) → ℕ → ℕ → Bool
also has i j = j == i || has j

abbrev pub without : (ℕ → Bool) → ℕ → ℕ → Bool
without has i j = if j == i then false else has j

-- ---- a lease is taken

-- nobody else holds the inode for writing
abbrev pub IsUnwritten : World → ℕ → ℕ → Type 0
IsUnwritten w c i = (d : ℕ) → is_client d ≡ true → d ≢ c → (w.clients d).writes i ≡ false

-- nobody else holds it
abbrev pub IsUnheld : World → ℕ → ℕ → Type 0
IsUnheld w c i = (d : ℕ) → is_client d ≡ true → d ≢ c → has_lease (w.clients d) i ≡ false

abbrev pub read_taken : World → ℕ → ℕ → World
read_taken w c i = with_client w c (record (w.clients c) { reads = also (w.clients c).reads i })

-- also from a read lease, which is one for writing from then on
abbrev pub write_taken : World → ℕ → ℕ → World
write_taken w c i = with_client w c (record (w.clients c) { reads = without (w.clients c).reads i; writes = also (w.clients c).writes i })

-- ---- a lease is given

pub record CanGive (w : World) (c i : ℕ) : Type 0 where
  pub client : is_client c ≡ true
  pub idle : (w.clients c).begun ≡ None
  -- none of its records touches the inode
  pub clean : is_written i (log_of w c) ≡ false

-- without the copies of an inode
abbrev pub without_copies : Knowledge → ℕ → Knowledge
without_copies k i = record k { copies = λ j. if j == i then None else k.copies j; blocks = λ j b. if j == i then None else k.blocks j b }

abbrev pub after_give : World → ℕ → ℕ → World
after_give w c i = with_client w c (record (w.clients c) { reads = without (w.clients c).reads i; writes = without (w.clients c).writes i; knows = without_copies (w.clients c).knows i })

-- ---- a copy is fetched: the shared node, and what the client's own records make of it

abbrev pub own_view : World → ℕ → Graph
own_view w c = after_records w.kernel.shared (log_of w c)

pub record CanFetch (w : World) (c i : ℕ) : Type 0 where
  pub client : is_client c ≡ true
  pub leased : has_lease (w.clients c) i ≡ true
  -- while a call is begun only what is missing is fetched
  pub missing : ((w.clients c).begun ≡ None) ⊎ ((w.clients c).knows.copies i ≡ None)
  -- where nothing stands the client has no blocks
  pub clear : own_view w c i ≡ None → (b : ℕ) → (w.clients c).knows.blocks i b ≡ None

abbrev pub after_fetch : World → ℕ → ℕ → World
after_fetch w c i = with_client w c (record (w.clients c) { knows = with_copy (w.clients c).knows i (view_at (own_view w c) i) })

-- ---- blocks of a file are fetched

pub record CanRead (w : World) (c i names : ℕ) (bytes : List ℕ) : Type 0 where
  pub client : is_client c ≡ true
  pub leased : has_lease (w.clients c) i ≡ true
  pub file : own_view w c i ≡ Some (record { names = names; body = FileBody bytes })

abbrev pub blocks_fetched : World → ℕ → ℕ → ℕ → ℕ → List ℕ → World
blocks_fetched w c i first count bytes = with_client w c (record (w.clients c) { knows = with_blocks (w.clients c).knows i first count (λ b. block_of b bytes) })

-- ---- what is known is forgotten

-- copies, blocks and numbers, where no call is begun
pub record CanForget (w : World) (c : ℕ) (less : Knowledge) : Type 0 where
  pub client : is_client c ≡ true
  pub idle : (w.clients c).begun ≡ None
  pub fewer : IsForgetful (w.clients c).knows less

abbrev pub forget_world : World → ℕ → Knowledge → World
forget_world w c less = with_client w c (record (w.clients c) { knows = less })

-- blocks alone, at any time: a begun call does not need them, since it has a record
pub record CanForgetBlocks (w : World) (c : ℕ) (fewer : ℕ → ℕ → Option (List ℕ)) : Type 0 where
  pub client : is_client c ≡ true
  pub known : (i b : ℕ) (bytes : List ℕ) → fewer i b ≡ Some bytes → (w.clients c).knows.blocks i b ≡ Some bytes

abbrev pub blocks_forgotten : World → ℕ → (ℕ → ℕ → Option (List ℕ)) → World
blocks_forgotten w c fewer = with_client w c (record (w.clients c) { knows = record (w.clients c).knows { blocks = fewer } })
