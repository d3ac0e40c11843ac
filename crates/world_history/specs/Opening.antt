-- A kernel and eight clients as plain data, by lists: what a history begins anew with.
use Rattle.std.specs.Prelude.{ℕ, ◌-◌, ◌==◌, slice_get, List, [], ◌∷◌, Bool, false, Option, Some, None, option_map, if◌then◌else◌}
use Rattle.posix_calls.specs.Tree.{State}
use Rattle.posix_calls.specs.declared.descriptor.Descriptor.{Descriptor}
use Rattle.world_invariant.specs.file_graph.Graph.{Node, is_among}
use Rattle.world_invariant.specs.log_record.declared.format.Record.{Record}
use Rattle.world_invariant.specs.call_effects.NodeView.{NodeView}
use Rattle.world_invariant.specs.World.{Begun, Region, Status, Account, Client}
use Rattle.world_invariant.specs.FormatWorld.{idle_account, idle_client}
use Rattle.world_history.specs.declared.begun_call.BegunCall.{BegunCall}
use Rattle.world_history.specs.Configuration.{KernelPart, Configuration, tree_of}

-- ---- the lists

pub record OpeningAccount : Type 0 where
  pub mark : ℕ
  pub accepted : ℕ
  pub units : ℕ
  pub numbers : List ℕ
  pub pins : List ℕ

-- all of a client but its leases, which it holds on
pub record OpeningClient : Type 0 where
  pub own : List (ℕ × Descriptor)
  pub copies : List (ℕ × Option NodeView)
  pub blocks : List (ℕ × List (ℕ × List ℕ))
  pub granted : List ℕ
  pub past : ℕ
  pub sealed : List Record
  pub current : List Record
  pub other : Region
  pub ready : Bool
  pub begun : Option BegunCall
  pub spare : ℕ
  pub pins : List ℕ
  pub status : Status

-- those of client 1 stand first
pub record Opening : Type 0 where
  pub capacity : ℕ
  pub nodes : List (ℕ × Node)
  pub accounts : List OpeningAccount
  pub clients : List OpeningClient
  pub failed_digest : Option (ℕ × List Record)

abbrev pub no_opening : Opening
no_opening = record { capacity = 0; nodes = []; accounts = []; clients = []; failed_digest = None }

-- ---- what they list

-- what a list has first at a number
abbrev pub found : {A : Type 0} → List (ℕ × A) → ℕ → Option A
found [] i = None
found (x ∷ xs) i = if x.0 == i then Some x.1 else found xs i

abbrev pub found_block : List (ℕ × List (ℕ × List ℕ)) → ℕ → ℕ → Option (List ℕ)
found_block [] i b = None
found_block (x ∷ xs) i b = if x.0 == i then found x.1 b else found_block xs i b

abbrev pub begun_of : BegunCall → Begun
begun_of b = record { call = b.call; new = b.new; operation = b.operation; change = b.change }

-- a client by its lists, without leases
abbrev pub listed_client : ℕ → OpeningClient → Client
listed_client c o = record {
  knows = record { client = c; own = found o.own; copies = found o.copies; blocks = found_block o.blocks; granted = λ i. is_among i o.granted };
  past = o.past;
  sealed = o.sealed;
  current = o.current;
  other = o.other;
  ready = o.ready;
  begun = option_map begun_of o.begun;
  reads = λ i. false;
  writes = λ i. false;
  spare = o.spare;
  pins = λ i. is_among i o.pins;
  status = o.status;
}

-- of a number that isn't listed nobody
abbrev pub client_if : ℕ → Option OpeningClient → Client
client_if c None = idle_client c 0
client_if c (Some o) = listed_client c o

abbrev pub account_if : Option OpeningAccount → Account
account_if None = idle_account 0
account_if (Some a) = record { mark = a.mark; units = a.units; numbers = λ i. is_among i a.numbers; pins = λ i. is_among i a.pins }

abbrev pub accepted_if : Option OpeningAccount → ℕ
accepted_if None = 0
accepted_if (Some a) = a.accepted

-- client c, with the leases of another one
abbrev pub opening_client : Opening → ℕ → Client → Client
opening_client o c p = record (client_if c (slice_get o.clients (c - 1))) { reads = p.reads; writes = p.writes }

abbrev pub opening_kernel : Opening → KernelPart
opening_kernel o = record {
  machine = record {
    kernel = record { shared = found o.nodes; capacity = o.capacity; accounts = λ c. account_if (slice_get o.accounts (c - 1)) };
    accepted = λ c. accepted_if (slice_get o.accounts (c - 1));
  };
  failed_digest = o.failed_digest;
}

-- all that is listed, where nobody holds a lease: the file tree doesn't depend on leases
abbrev pub opening_configuration : Opening → Configuration
opening_configuration o = record { kernel = opening_kernel o; clients = λ c. opening_client o c (idle_client c 0) }

abbrev pub opening_tree : Opening → State
opening_tree o = tree_of (opening_configuration o)
