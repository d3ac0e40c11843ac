-- What is said of a part depends on the shared graph only where its records write, and on its account only by what they need.
use Rattle.std.proofs.Common.{◌≡◌, ◌≢◌, ℕ, ◌+◌, ◌-◌, ◌≤◌, Bool, true, false, List, ◌++◌, length, drop, None, sym, subst}
use Rattle.call_effects.specs.file_graph.Graph.{Graph, directory_in}
use Rattle.call_effects.specs.log_record.declared.format.Record.{Record}
use Rattle.world_invariant.specs.Limits.{IsWithin}
use Rattle.world_invariant.specs.Logs.{is_written, is_made_in, IsMadeOnce, units_in, IsNameless}
use Rattle.world_invariant.specs.World.{Account, Client, undigested_records, records_of, change_of}
use Rattle.world_invariant.specs.ClientParts.{IsMarked, IsLogged, IsNumbered, IsSoundPart}
use Rattle.world_invariant.specs.Machine.{Sealed, undigested_sealed, StandsSealed}
use Rattle.world_invariant.proofs.Paid.{paid_same}
use Rattle.world_invariant.proofs.Keeping.{keep_same, keep_less}
use Rattle.world_invariant.proofs.Reclaims.{paid_less}

logged_same : (g h : Graph) (writes : ℕ → Bool) (rs : List Record) → ((i : ℕ) → is_written i rs ≡ true → g i ≡ h i) → IsLogged g writes rs → IsLogged h writes rs
logged_same g h writes rs same s = record {
  leased = s.leased;
  paid = paid_same rs g h same s.paid;
  unnamed = keep_same (λ i o. IsNameless o) rs g h same s.unnamed;
  limits = keep_same IsWithin rs g h same s.limits;
}

logged_less : (i : ℕ) (g h : Graph) (writes : ℕ → Bool) (rs : List Record) → directory_in (g i) ≡ None → h i ≡ None → ((j : ℕ) → j ≢ i → h j ≡ g j) → is_made_in i rs ≡ false → IsLogged g writes rs → IsLogged h writes rs
logged_less i g h writes rs bare gone same unmade s = record {
  leased = s.leased;
  paid = paid_less i rs g h bare gone same unmade s.paid;
  unnamed = keep_less (λ j o. IsNameless o) i rs g h bare gone same unmade s.unnamed;
  limits = keep_less IsWithin i rs g h bare gone same unmade s.limits;
}

pub stands_same : (g h : Graph) (a : Account) (c : ℕ) (p : Client) → ((i : ℕ) → is_written i (records_of a p) ≡ true → g i ≡ h i) → IsSoundPart g a c p → IsSoundPart h a c p
stands_same g h a c p same s = record { number = s.number; marked = s.marked; starts = s.starts; logged = logged_same g h p.writes (records_of a p) same s.logged; units = s.units; numbered = s.numbered; leased = s.leased; pinned = s.pinned; pending = s.pending; rests = s.rests }

pub stands_less : (i : ℕ) (g h : Graph) (a : Account) (c : ℕ) (p : Client) → directory_in (g i) ≡ None → h i ≡ None → ((j : ℕ) → j ≢ i → h j ≡ g j) → is_made_in i (records_of a p) ≡ false → IsSoundPart g a c p → IsSoundPart h a c p
stands_less i g h a c p bare gone same unmade s = record { number = s.number; marked = s.marked; starts = s.starts; logged = logged_less i g h p.writes (records_of a p) bare gone same unmade s.logged; units = s.units; numbered = s.numbered; leased = s.leased; pinned = s.pinned; pending = s.pending; rests = s.rests }

pub sealed_same : (g h : Graph) (a : Account) (s : Sealed) → ((i : ℕ) → is_written i (undigested_sealed a s) ≡ true → g i ≡ h i) → StandsSealed g a s → StandsSealed h a s
sealed_same g h a s same t = record { low = t.low; high = t.high; logged = logged_same g h s.writes (undigested_sealed a s) same t.logged; units = t.units; made = t.made; once = t.once }

pub sealed_less : (i : ℕ) (g h : Graph) (a : Account) (s : Sealed) → directory_in (g i) ≡ None → h i ≡ None → ((j : ℕ) → j ≢ i → h j ≡ g j) → is_made_in i (undigested_sealed a s) ≡ false → StandsSealed g a s → StandsSealed h a s
sealed_less i g h a s bare gone same unmade t = record { low = t.low; high = t.high; logged = logged_less i g h s.writes (undigested_sealed a s) bare gone same unmade t.logged; units = t.units; made = t.made; once = t.once }

-- ---- on the account by what the part needs of it
pub stands_account : (g : Graph) (a b : Account) (c : ℕ) (p : Client) → b.mark ≡ a.mark → p.spare + units_in (records_of a p) ≤ b.units → ((i : ℕ) → p.knows.granted i ≡ true → b.numbers i ≡ true) → ((i : ℕ) → is_made_in i (undigested_records a p) ≡ true → b.numbers i ≡ true) → ((i : ℕ) → p.pins i ≡ true → b.pins i ≡ true) → IsSoundPart g a c p → IsSoundPart g b c p
stands_account g a b c p mark enough granted made pinned s = record {
  number = s.number;
  marked = subst (λ n. IsMarked n p.past p.sealed p.other) (sym mark) s.marked;
  starts = s.starts;
  logged = subst (λ n. IsLogged g p.writes ((drop (n - p.past) p.sealed ++ p.current) ++ change_of p.begun)) (sym mark) s.logged;
  units = subst (λ n. p.spare + units_in ((drop (n - p.past) p.sealed ++ p.current) ++ change_of p.begun) ≤ b.units) (sym mark) enough;
  numbered = subst (λ n. IsNumbered b.numbers p.knows.granted (drop (n - p.past) p.sealed ++ p.current)) (sym mark) (record { made = made; once = s.numbered.once; granted = granted; unused = s.numbered.unused });
  leased = s.leased;
  pinned = record { opened = s.pinned.opened; booked = pinned };
  pending = s.pending;
  rests = s.rests;
}

pub sealed_account : (g : Graph) (a b : Account) (s : Sealed) → b.mark ≡ a.mark → units_in (undigested_sealed a s) ≤ b.units → ((i : ℕ) → is_made_in i (undigested_sealed a s) ≡ true → b.numbers i ≡ true) → StandsSealed g a s → StandsSealed g b s
sealed_account g a b s mark enough made t = record {
  low = subst (λ n. s.past ≤ n) (sym mark) t.low;
  high = subst (λ n. n ≤ s.past + length s.records) (sym mark) t.high;
  logged = subst (λ n. IsLogged g s.writes (drop (n - s.past) s.records)) (sym mark) t.logged;
  units = subst (λ n. units_in (drop (n - s.past) s.records) ≤ b.units) (sym mark) enough;
  made = subst (λ n. (i : ℕ) → is_made_in i (drop (n - s.past) s.records) ≡ true → b.numbers i ≡ true) (sym mark) made;
  once = subst (λ n. (i : ℕ) → IsMadeOnce i (drop (n - s.past) s.records)) (sym mark) t.once;
}

-- ---- and on what is held for writing by where its records write
pub sealed_leases : (g : Graph) (a : Account) (s : Sealed) (writes : ℕ → Bool) → ((i : ℕ) → is_written i (undigested_sealed a s) ≡ true → writes i ≡ true) → StandsSealed g a s → StandsSealed g a (record s { writes = writes })
sealed_leases g a s writes held t = record { low = t.low; high = t.high; logged = record { leased = held; paid = t.logged.paid; unnamed = t.logged.unnamed; limits = t.logged.limits }; units = t.units; made = t.made; once = t.once }
