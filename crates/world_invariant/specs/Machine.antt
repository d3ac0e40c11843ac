-- The kernel as a part of its own: what it has, and one step for each of its entries. It sees a client's records only as a sealed region.
use Rattle.std.specs.Prelude.{◌≡◌, ◌≢◌, ◌⊎◌, ℕ, ◌+◌, ◌-◌, ◌≤◌, List, [], ◌++◌, length, drop, Bool, true, ◌&&◌, not, None}
use Rattle.posix_calls.specs.Operations.{is_client}
use Rattle.call_effects.specs.file_graph.Graph.{Graph, set_node}
use Rattle.call_effects.specs.log_record.declared.format.Record.{Record}
use Rattle.world_invariant.specs.Logs.{after_records, is_made_in, IsMadeOnce, units_in}
use Rattle.world_invariant.specs.World.{Account, Away, Client, Kernel, at}
use Rattle.world_invariant.specs.ClientParts.{IsLogged, IsBooked}
use Rattle.world_invariant.specs.FormatWorld.{idle_account}
use Rattle.world_invariant.specs.LeaseSteps.{also, without}

pub record Machine : Type 0 where
  pub kernel : Kernel
  -- how many of each client's records stand in the regions that were accepted
  pub accepted : ℕ → ℕ

-- ---- what is sealed

-- a sealed region is a part of its own: how many records came before it, its records, and what its client holds for writing
pub record Sealed : Type 0 where
  pub past : ℕ
  pub records : List Record
  pub writes : ℕ → Bool

abbrev pub sealed_of : Client → Sealed
sealed_of p = record { past = p.past; records = p.sealed; writes = p.writes }

-- those that are not digested
abbrev pub undigested_sealed : Account → Sealed → List Record
undigested_sealed a s = drop (a.mark - s.past) s.records

-- what holds of it beside the shared graph and its client's account
pub record StandsSealed (g : Graph) (a : Account) (s : Sealed) : Type 0 where
  pub low : s.past ≤ a.mark
  pub high : a.mark ≤ s.past + length s.records
  pub logged : IsLogged g s.writes (undigested_sealed a s)
  pub units : units_in (undigested_sealed a s) ≤ a.units
  pub made : (i : ℕ) → is_made_in i (undigested_sealed a s) ≡ true → a.numbers i ≡ true
  pub once : (i : ℕ) → IsMadeOnce i (undigested_sealed a s)

-- ---- what holds of the machine

pub record IsRunning (m : Machine) : Type 0 where
  pub booked : IsBooked m.kernel
  -- what is digested was accepted
  pub accepted : (c : ℕ) → is_client c ≡ true → (m.kernel.accounts c).mark ≤ m.accepted c

-- n accepted records suit a client's regions: those that came before the sealed one, or also those of it, while it is away
abbrev pub IsAcceptedOf : ℕ → Client → Type 0
IsAcceptedOf n p = (n ≡ p.past) ⊎ ((p.other ≡ Away) × (n ≡ p.past + length p.sealed))

-- so they do for each client
abbrev pub AreAccepted : (ℕ → ℕ) → (ℕ → Client) → Type 0
AreAccepted accepted clients = (c : ℕ) → is_client c ≡ true → IsAcceptedOf (accepted c) (clients c)

-- ---- its entries

-- another account of a client, and another shared graph
abbrev pub kernel_with : Kernel → ℕ → Graph → Account → Kernel
kernel_with k c g a = record { shared = g; capacity = k.capacity; accounts = at k.accounts c a }

abbrev pub with_account : Machine → ℕ → Account → Machine
with_account m c a = record { kernel = kernel_with m.kernel c m.kernel.shared a; accepted = m.accepted }

-- a sealed region is accepted once all before it are digested
pub record CanAccept (m : Machine) (c : ℕ) (s : Sealed) : Type 0 where
  pub client : is_client c ≡ true
  pub some : s.records ≢ []
  pub before : (m.kernel.accounts c).mark ≡ s.past
  pub first : m.accepted c ≡ s.past

abbrev pub accept : Machine → ℕ → Sealed → Machine
accept m c s = record { kernel = m.kernel; accepted = at m.accepted c (s.past + length s.records) }

-- the next records of one that was accepted are digested
pub record CanDigestNext (m : Machine) (c : ℕ) (s : Sealed) (first rest : List Record) : Type 0 where
  pub client : is_client c ≡ true
  pub some : first ≢ []
  pub accepted : (m.kernel.accounts c).mark + length first ≤ m.accepted c
  pub split : undigested_sealed (m.kernel.accounts c) s ≡ first ++ rest

abbrev pub account_after : Account → List Record → Account
account_after a first = record a { mark = a.mark + length first; units = a.units - units_in first; numbers = λ i. a.numbers i && not (is_made_in i first) }

abbrev pub digest : Machine → ℕ → List Record → Machine
digest m c first = record { kernel = kernel_with m.kernel c (after_records m.kernel.shared first) (account_after (m.kernel.accounts c) first); accepted = m.accepted }

abbrev pub book_units : Machine → ℕ → ℕ → Machine
book_units m c units = with_account m c (record (m.kernel.accounts c) { units = (m.kernel.accounts c).units + units })

abbrev pub unbook_units : Machine → ℕ → ℕ → Machine
unbook_units m c units = with_account m c (record (m.kernel.accounts c) { units = (m.kernel.accounts c).units - units })

abbrev pub book_number : Machine → ℕ → ℕ → Machine
book_number m c i = with_account m c (record (m.kernel.accounts c) { numbers = also (m.kernel.accounts c).numbers i })

abbrev pub unbook_number : Machine → ℕ → ℕ → Machine
unbook_number m c i = with_account m c (record (m.kernel.accounts c) { numbers = without (m.kernel.accounts c).numbers i })

abbrev pub book_pin : Machine → ℕ → ℕ → Machine
book_pin m c i = with_account m c (record (m.kernel.accounts c) { pins = also (m.kernel.accounts c).pins i })

abbrev pub unbook_pin : Machine → ℕ → ℕ → Machine
unbook_pin m c i = with_account m c (record (m.kernel.accounts c) { pins = without (m.kernel.accounts c).pins i })

-- nothing is left in the book of a client that is buried
abbrev pub bury : Machine → ℕ → Machine
bury m c = with_account m c (idle_account (m.kernel.accounts c).mark)

-- another kernel, of the same nodes and accounts
abbrev pub migrate : Machine → Kernel → Machine
migrate m after = record { kernel = after; accepted = m.accepted }

abbrev pub reclaim : Machine → ℕ → Machine
reclaim m i = record { kernel = record { shared = set_node m.kernel.shared i None; capacity = m.kernel.capacity; accounts = m.kernel.accounts }; accepted = m.accepted }
