-- A region that is away is accepted by the kernel, or was before.
use Rattle.std.proofs.Common.{◌≡◌, ◌≢◌, inl, inr, ℕ, ◌+◌, ◌<◌, cond, Bool, true, false, length, Option, Some, refl, ap, sym, ◌∙◌, subst, arith}
use Rattle.std.proofs.lemmas.Bool.{false≢true}
use Rattle.tier_device.specs.declared.media.Media.{Ghosts}
use Rattle.posix_calls.specs.Operations.{is_client}
use Rattle.posix_calls.specs.declared.call.Call.{Call}
use Rattle.event_steps.specs.area_reader.Store.{disk, marks}
use Rattle.event_steps.specs.kernel_fs.KernelView.{KernelView}
use Rattle.event_steps.specs.kernel_fs.MachineState.{IsKernelOf}
use Rattle.event_steps.specs.file_graph.Graph.{is_among}
use Rattle.event_steps.specs.update_log.RecordCounts.{next_generation}
use Rattle.event_steps.specs.update_log.View.{records_of}
use Rattle.event_steps.specs.libfs.SealedRegion.{SealedRegionView, log_of}
use Rattle.event_steps.specs.world_invariant.Machine.{Sealed}
use Rattle.event_steps.specs.world_invariant.World.{Client, at}
use Rattle.event_steps.specs.Regions.{HasAccepted, IsAccepted, IsAwayRead}
use Rattle.event_steps.specs.Sound.{IsAwayFrom, number_of}
use Rattle.event_steps.specs.View.{SeatView}
use Rattle.system_laws.specs.Parts.{region_of}
use Rattle.system_laws.specs.Relation.{IsClientOf, StandsMarked, accepted_of, machine_of}
use Rattle.recovery_laws.specs.Contents.{mark_by}
use Rattle.system_laws.proofs.AwayRegions.{MediumStays, itself, read_stays, same_records, with_away}
use Rattle.system_laws.proofs.ClientMoves.{StandsFor}
use Rattle.system_laws.proofs.Frame.{at_else, at_there}
use Rattle.system_laws.proofs.WorldMoves.{Stood}

module _ {M : Type 0} (device : Ghosts M) (s : SeatView M) (a : SealedRegionView M) (k : KernelView M) (c : ℕ) (z : Stood) (call : Option Call) (is_c : is_client c ≡ true) (seated : IsAwayFrom device s.client a) (number : number_of s ≡ c)
    (kernel : StandsFor device k z.world z.accepted z.marks z.cut) (own : IsClientOf device s call (z.world.clients c)) (mark : StandsMarked (mark_by (Some z.marks) c) (with_away s a) (z.world.kernel.accounts c) (z.accepted c) (z.world.clients c)) where
  abbrev p : Client
  p = z.world.clients c

  -- What holds of a region that is away, and of the kernel, once that has accepted it.
  pub record Accepted (b : SealedRegionView M) (between : KernelView M) : Type 0 where
    pub accepted : ℕ → ℕ
    pub others : (d : ℕ) → d ≢ c → accepted d ≡ z.accepted d
    pub stands : StandsFor device between z.world accepted z.marks z.cut
    pub marked : StandsMarked (mark_by (Some z.marks) c) (with_away s b) (z.world.kernel.accounts c) (accepted c) p
    pub is_accepted : b.accepted ≡ true
    pub area : between.area ≡ k.area
    pub seat : IsAwayFrom device s.client b
    pub stays : (r : ℕ) → r < 2 → MediumStays device (region_of (with_away s a) r).media (region_of (with_away s b) r).media

  module _ (b : SealedRegionView M) (read : IsAwayRead device a b) where
    abbrev client_same : b.client ≡ a.client
    client_same = ap (λ (y : SealedRegionView M). y.client) read.rest

    is_client_c : b.client ≡ c
    is_client_c = client_same ∙ seated.client ∙ number

    pub records_same : records_of device b.region ≡ s.client.sealed
    records_same = same_records device a.region b.region read.read ∙ seated.records

    -- it is the region that the client handed over still
    pub seat_then : (b.accepted ≡ false → b.done ≡ 0) → IsAwayFrom device s.client b
    seat_then none = record {
      client = client_same ∙ seated.client;
      gone = seated.gone;
      before = ap next_generation (ap (λ (y : SealedRegionView M). y.generation) read.rest) ∙ seated.before;
      records = records_same;
      some = subst (λ (n : ℕ). n < length s.client.sealed) (sym (ap (λ (y : SealedRegionView M). y.done) read.rest)) seated.some;
      none = none;
    }

    -- its mark stands where it stood, where so many were accepted as it tells
    marked_then : (n : ℕ) → n ≡ p.past + accepted_of (Some b) p.sealed → StandsMarked (mark_by (Some z.marks) c) (with_away s b) (z.world.kernel.accounts c) n p
    marked_then n accepts = record {
      mark = mark.mark ∙ (λ i. record { generation = (sym (ap (λ (y : SealedRegionView M). y.generation) read.rest)) i; done = (sym (ap (λ (y : SealedRegionView M). y.done) read.rest)) i });
      digested = mark.digested ∙ ap (λ (m : ℕ). p.past + m) (sym (ap (λ (y : SealedRegionView M). y.done) read.rest));
      accepts = accepts;
      held = λ i written. ap (is_among i) (ap (λ (y : SealedRegionView M). y.held) read.rest) ∙ mark.held i written;
    }

    pub unaccepted_then : a.accepted ≡ false → b.accepted ≡ false → StandsMarked (mark_by (Some z.marks) c) (with_away s b) (z.world.kernel.accounts c) (z.accepted c) p
    unaccepted_then was is = marked_then (z.accepted c) (mark.accepts ∙ ap (λ (t : Bool). p.past + cond t (length p.sealed) 0) (was ∙ sym is))

    module _ (between : KernelView M) (was : a.accepted ≡ false) (is : b.accepted ≡ true) (h : HasAccepted device k (log_of device b) between) where
      abbrev region : Sealed
      region = record { past = p.past; records = p.sealed; writes = λ i. false }

      none_yet : z.accepted b.client ≡ p.past
      none_yet =
          let past : z.accepted c ≡ p.past + 0 = mark.accepts ∙ ap (λ (t : Bool). p.past + cond t (length p.sealed) 0) was in
          ap z.accepted is_client_c ∙ past ∙ omega arith

      same_sealed : p.sealed ≡ records_of device b.region
      same_sealed = own.sealed ∙ sym records_same

      abbrev accepted_now : ℕ → ℕ
      accepted_now = at z.accepted c (p.past + length p.sealed)

      machine_then : IsKernelOf device between (machine_of z.world accepted_now)
      machine_then = subst (λ (d : ℕ). IsKernelOf device between (machine_of z.world (at z.accepted d (p.past + length p.sealed)))) is_client_c (h.step (machine_of z.world z.accepted) region (kernel.going h.going).0 none_yet same_sealed)

      pub accepted_just : Accepted b between
      accepted_just = record {
        accepted = accepted_now;
        others = λ d off. at_else z.accepted c (p.past + length p.sealed) d off;
        stands = record {
          book = machine_then.book;
          capacity = kernel.capacity ∙ ap (λ area. area.geometry.units) (sym h.area);
          going = λ going. (machine_then, ap (λ area. marks (disk device area)) h.area ∙ (kernel.going h.going).1);
          stopped = λ failed. absurd (false≢true (sym h.going ∙ ap (λ area. area.failed) (sym h.area) ∙ failed));
        };
        marked = marked_then (accepted_now c) (at_there z.accepted c (p.past + length p.sealed) ∙ ap (λ (t : Bool). p.past + cond t (length p.sealed) 0) (sym is));
        is_accepted = is;
        area = h.area;
        seat = seat_then (λ not. absurd (false≢true (sym not ∙ is)));
        stays = read_stays device s a seated b read.read;
      }

  accepted_before : a.accepted ≡ true → Accepted a k
  accepted_before is = record { accepted = z.accepted; others = λ d off. refl; stands = kernel; marked = mark; is_accepted = is; area = refl; seat = seated; stays = λ r low. itself device (region_of (with_away s a) r).media }

  pub accepted : (b : SealedRegionView M) (between : KernelView M) → IsAccepted device k a b between → Accepted b between
  accepted b between is = elim is.came [
    | inl same ↦ subst (λ (y : SealedRegionView M). Accepted y between) (sym same.0) (subst (λ (q : KernelView M). Accepted a q) (sym same.1) (accepted_before (ap (λ (y : SealedRegionView M). y.accepted) (sym same.0) ∙ is.accepted)))
    | inr now ↦ accepted_just b now.1 between now.0 is.accepted now.2
  ]
