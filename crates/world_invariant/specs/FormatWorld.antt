-- The world that a format makes.
use Rattle.std.specs.Prelude.{ℕ, [], true, false, None}
use Rattle.call_effects.specs.file_graph.Graph.{Graph, fresh}
use Rattle.call_effects.specs.Knowledge.{Knowledge}
use Rattle.world_invariant.specs.World.{Client, Account, World, Wiped, Alive}

-- a client that has nothing open, no copy and no number
abbrev pub knows_nothing : ℕ → Knowledge
knows_nothing c = record { client = c; own = λ n. None; copies = λ i. None; blocks = λ i b. None; granted = λ i. false }

-- a client that holds nothing and has no record, after `past` records
abbrev pub idle_client : ℕ → ℕ → Client
idle_client c past = record {
  knows = knows_nothing c;
  past = past;
  sealed = [];
  current = [];
  other = Wiped;
  ready = true;
  begun = None;
  reads = λ i. false;
  writes = λ i. false;
  spare = 0;
  pins = λ i. false;
  status = Alive;
}

-- the account of such a client
abbrev pub idle_account : ℕ → Account
idle_account mark = record { mark = mark; units = 0; numbers = λ i. false; pins = λ i. false }

-- a graph that nobody uses
abbrev pub idle_world : ℕ → Graph → World
idle_world capacity g = record { kernel = record { shared = g; capacity = capacity; accounts = λ c. idle_account 0 }; clients = λ c. idle_client c 0 }

-- a root alone
abbrev pub opening_world : ℕ → World
opening_world capacity = idle_world capacity fresh
