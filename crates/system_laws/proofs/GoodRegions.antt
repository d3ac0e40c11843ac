-- A region that is away, in a system that stands for a world: it is its machine's region, and stands there, so that no record of it is bad.
use Rattle.std.proofs.Common.{◌≡◌, inl, inr, ℕ, ◌+◌, ◌-◌, ◌<◌, ◌≤◌, cond, Bool, true, List, drop, take, length, Option, Some, None, ap, sym, ◌∙◌, subst, arith}
use Rattle.std.proofs.lemmas.List.{length-drop, take-append-drop}
use Rattle.tier_device.specs.declared.media.Media.{Ghosts}
use Rattle.posix_calls.specs.Operations.{is_client}
use Rattle.posix_calls.specs.declared.call.Call.{Call}
use Rattle.event_steps.specs.kernel_fs.RegionAccept.{IsRegionOf}
use Rattle.event_steps.specs.digester.SealedLog.{SealedView, undone}
use Rattle.event_steps.specs.layout.declared.marks.Mark.{Mark}
use Rattle.event_steps.specs.libfs.View.{ClientView}
use Rattle.event_steps.specs.file_graph.Graph.{is_among}
use Rattle.event_steps.specs.log_record.declared.format.Record.{Record}
use Rattle.event_steps.specs.libfs.SealedRegion.{SealedRegionView, log_of}
use Rattle.event_steps.specs.world_invariant.Invariant.{IsCoherent}
use Rattle.event_steps.specs.world_invariant.Logs.{is_written}
use Rattle.event_steps.specs.world_invariant.Machine.{Sealed, StandsSealed, sealed_of}
use Rattle.event_steps.specs.world_invariant.World.{Account, Client, World}
use Rattle.event_steps.specs.Sound.{IsAwayFrom, IsSeated, number_of}
use Rattle.event_steps.specs.View.{SeatView, done_of}
use Rattle.event_steps.proofs.world_invariant_lemmas.Machines.{sealed_stands}
use Rattle.event_steps.proofs.world_invariant_lemmas.PartsStand.{sealed_leases}
use Rattle.event_steps.proofs.world_invariant_lemmas.Records.{either, rest_written}
use Rattle.system_laws.specs.Relation.{IsClientOf, StandsMarked, accepted_of}
use Rattle.system_laws.proofs.AwayRegions.{with_away}

-- ---- what is digested was accepted

done_within : {M : Type 0} (device : Ghosts M) (v : ClientView M) (away : Option (SealedRegionView M)) (sealed : List Record) → sealed ≡ v.sealed → IsSeated device v away → done_of away ≤ accepted_of away sealed
done_within device v None sealed same seated = omega arith
done_within device v (Some a) sealed same seated = elim (either a.accepted) [
  | inl taken ↦ subst (λ (t : Bool). a.done ≤ cond t (length sealed) 0) (sym taken) (let some : a.done < length sealed = subst (λ (rs : List Record). a.done < length rs) (sym same) seated.some in omega (arith, some))
  | inr waits ↦ subst (λ (t : Bool). a.done ≤ cond t (length sealed) 0) (sym waits) (let none : a.done ≡ 0 = seated.none waits in omega (arith, none))
]

-- a client's mark stands within what was accepted of it
pub marked_within : {M : Type 0} (device : Ghosts M) (t : SeatView M) (m : Mark) (a : Account) (n : ℕ) (p : Client) → p.sealed ≡ t.client.sealed → IsSeated device t.client t.away → StandsMarked m t a n p → a.mark ≤ n
marked_within device t m a n p sealed seated marked =
    let within = done_within device t.client t.away p.sealed sealed seated in
    let digested = marked.digested in
    let accepts = marked.accepts in
    omega (arith, within, digested, accepts)

-- ---- the region

written_in_all : (n i : ℕ) (rs : List Record) → is_written i (drop n rs) ≡ true → is_written i rs ≡ true
written_in_all n i rs written = subst (λ (all : List Record). is_written i all ≡ true) (take-append-drop n rs) (rest_written i (take n rs) (drop n rs) written)

module _ {M : Type 0} (device : Ghosts M) (s : SeatView M) (b : SealedRegionView M) (c : ℕ) (w : World) (n : ℕ) (m : Mark) (call : Option Call) (is_c : is_client c ≡ true) (seat : IsAwayFrom device s.client b) (number : number_of s ≡ c)
    (coherent : IsCoherent w) (own : IsClientOf device s call (w.clients c)) (marked : StandsMarked m (with_away s b) (w.kernel.accounts c) n (w.clients c)) where
  abbrev p : Client
  p = w.clients c

  abbrev a : Account
  a = w.kernel.accounts c

  abbrev x : SealedView
  x = log_of device b

  -- its client held for writing, as it handed the region over, what its records touch
  abbrev pub region : Sealed
  region = record { past = p.past; records = p.sealed; writes = λ i. is_among i b.held }

  whose : x.client ≡ c
  whose = seat.client ∙ number

  its_records : p.sealed ≡ x.records
  its_records = own.sealed ∙ sym seat.records

  pub is_region : IsRegionOf x (w.kernel.accounts x.client).mark region
  is_region =
      let long : length (undone x) ≡ length p.sealed - b.done = length-drop b.done x.records ∙ ap (λ (rs : List Record). length rs - b.done) (sym its_records) in
      let low : b.done < length p.sealed = subst (λ (rs : List Record). b.done < length rs) (sym own.sealed) seat.some in
      let digested : a.mark ≡ p.past + b.done = marked.digested in
      subst (λ (d : ℕ). IsRegionOf x (w.kernel.accounts d).mark region) (sym whose) (record {
        records = its_records;
        writes = λ i held. held;
        waits = record { behind = omega (arith, long, low, digested); many = omega (arith, long, low) };
      })

  pub region_stands : StandsSealed w.kernel.shared (w.kernel.accounts x.client) region
  region_stands = subst (λ (d : ℕ). StandsSealed w.kernel.shared (w.kernel.accounts d) region) (sym whose)
      (sealed_leases w.kernel.shared a (sealed_of p) (λ i. is_among i b.held) (λ i written. marked.held i (written_in_all (a.mark - p.past) i p.sealed written)) (sealed_stands w.kernel.shared a c p (coherent.stands c is_c)))
