-- One chunk of a region that is away.
use Rattle.std.proofs.Common.{◌≡◌, ◌≢◌, ◌↔◌, inl, inr, ℕ, ◌≤◌, Bool, true, false, List, length, take, drop, Option, Some, None, refl, ap, sym, ◌∙◌, subst, arith, length-drop}
use Rattle.std.specs.Prelude.{Result, Ok, Err, IsErrOf, ◌==◌, ◌&&◌}
use Rattle.std.proofs.lemmas.Bool.{and_parts, eq-eqb, eqb-true, false≢true}
use Rattle.tier_device.specs.declared.media.Media.{Ghosts}
use Rattle.tier_device.specs.declared.media.Tier.TheVariants.{Fast}
use Rattle.libfs.specs.log_record.declared.format.Record.{Record}
use Rattle.libfs.specs.update_log.RecordCounts.{next_generation}
use Rattle.libfs.specs.update_log.View.{RegionView, records_of}
use Rattle.libfs.specs.update_log.Frames.{before_gate, spelled_records}
use Rattle.libfs.specs.client_log.Calls.{IsOnlyRead}
use Rattle.libfs.specs.coalescer.Weight.{IsLongestRun}
use Rattle.libfs.specs.digester.Chunk.{IsChunkOf, is_next}
use Rattle.libfs.specs.digester.SealedLog.{SealedView, HasUndigested, StandsAtMark, undone}
use Rattle.libfs.specs.digester.declared.chunk.Chunk.{Chunk}
use Rattle.libfs.specs.digester.declared.error.DigestError.{DigestError}
use Rattle.libfs.specs.digester.declared.error.DigestError.TheVariants as digests
use Rattle.libfs.specs.kernel_fs.Book.{waiting_of}
use Rattle.libfs.specs.kernel_fs.KernelView.{KernelView}
use Rattle.libfs.specs.kernel_fs.declared.error.AcceptError.{AcceptError}
use Rattle.libfs.specs.kernel_fs.declared.error.AcceptError.TheVariants as accepts
use Rattle.libfs.specs.area_reader.Store.{disk}
use Rattle.libfs.specs.kernel_fs.declared.chunk_digest.Digestion.{Digestion}
use Rattle.libfs.specs.kernel_fs.declared.chunk_digest.Digestion.TheVariants as digestion
use Rattle.libfs.specs.kernel_fs.declared.error.KernelError.{KernelError}
use Rattle.libfs.specs.kernel_fs.declared.error.KernelError.TheVariants as kernel
use Rattle.libfs.specs.lease_manager.Passes.{client_of}
use Rattle.libfs.specs.RegionSeal.{HasTakenBack, MayTakeBack}
use Rattle.libfs.specs.SealedRegion.{SealedRegionView, log_of}
use Rattle.libfs.specs.View.{ClientView}
use Rattle.libfs.specs.declared.life.Life.{Life}
use Rattle.event_steps.specs.Regions.{ChunkCame, DigestsNext, IsAccepted, IsAwayRead, IsDigestedOn, IsNotAcceptedFor, IsPutBy, refusal_to_accept, digest_outcome}
use Rattle.event_steps.specs.Sound.{IsAwayFrom}
use Rattle.event_steps.specs.declared.outcome.Outcome.{Outcome}
use Rattle.event_steps.specs.declared.outcome.Outcome.TheVariants as outcomes
use Rattle.event_steps.specs.declared.outcome.Refusal.{Refusal}
use Rattle.event_steps.specs.declared.outcome.Refusal.TheVariants as refusals
use Rattle.event_steps.specs.declared.refusals.Refusals.{Refusals}

-- a region that was only read has the records that it had
pub read_records : {M : Type 0} (device : Ghosts M) (old new : RegionView M) → IsOnlyRead device old new → records_of device new ≡ records_of device old
read_records device old new is =
    ap (λ n. spelled_records (before_gate (take n (device.seen new.media Fast)))) is.same_end ∙ ap (λ bytes. spelled_records (before_gate (take old.end bytes))) (is.same_seen Fast)

abbrev of_ok : Result Digestion (KernelError DigestError) → Digestion
of_ok (Ok d) = d
of_ok (Err e) = digestion.NotNext

abbrev pub answered : Digestion → Result Digestion (KernelError DigestError)
answered d = Ok d

pub same_ok : (d e : Digestion) → answered d ≡ Ok e → d ≡ e
same_ok d e is = ap of_ok is

-- what is so exactly where a test holds is not so where it fails
pub is_false : {P : Type 0} (b : Bool) → (P → ⊥) → (P ↔ (b ≡ true)) → b ≡ false
is_false true none is = absurd (none (is.1 refl))
is_false false none is = refl

-- what is answered is not refused
pub ok_is_none : (d : Digestion) (e : KernelError DigestError) → answered d ≡ Err e → ⊥
ok_is_none d e is = absurd (cc)

-- the run of a chunk that is the next one is the longest run of what is not digested
pub next_run : (x : SealedView) (c : Chunk) → IsChunkOf x c → is_next x c ≡ true → IsLongestRun (undone x) c.count
next_run x c is next =
    let first : c.first ≡ x.done = eqb-true c.first x.done (and_parts (c.client == x.client && c.generation == x.generation) (c.first == x.done) next).1 in
    subst (λ n. IsLongestRun (drop n x.records) c.count) first is.run.run

-- no more records of a log are digested than there are, also after a chunk
same_within : (x y : SealedView) → y ≡ x → HasUndigested x → y.done ≤ length y.records
same_within x y is some = subst (λ (z : SealedView). z.done ≤ length z.records) (sym is) (omega (arith, some))

module _ {M : Type 0} (device : Ghosts M) (k : KernelView M) (x : SealedView) where
  digested_within : (n : ℕ) (answer : Result Digestion (KernelError DigestError)) (y : SealedView) (after : KernelView M) → DigestsNext device k x n answer y after → HasUndigested x → y.done ≤ length y.records
  digested_within n (Ok digestion.Digested) y after d some =
      subst (λ (z : SealedView). z.done ≤ length z.records) (sym (d.done refl))
      (omega (arith, subst (λ m. n ≤ m) (length-drop x.done x.records) d.run.within, some))
  digested_within n (Ok digestion.NotNext) y after d some = same_within x y (d.stays (λ is. absurd (cc))).0 some
  digested_within n (Ok digestion.NotAccepted) y after d some = same_within x y (d.stays (λ is. absurd (cc))).0 some
  digested_within n (Err e) y after d some = same_within x y (d.stays (λ is. absurd (cc))).0 some

  chunk_within : (o : Outcome) (y : SealedView) (after : KernelView M) → ChunkCame device k x o y after → HasUndigested x → y.done ≤ length y.records
  chunk_within o y after (inl none) some = same_within x y none.1 some
  chunk_within o y after (inr came) some = digested_within came.0 came.1 y after came.3 some

-- a digest that was asked for is no idleness
digest_is_done : (answer : Result Digestion (KernelError DigestError)) → digest_outcome answer ≢ outcomes.Idle
digest_is_done (Ok digestion.Digested) is = absurd (cc)
digest_is_done (Ok digestion.NotNext) is = absurd (cc)
digest_is_done (Ok digestion.NotAccepted) is = absurd (cc)
digest_is_done (Err kernel.Failed) is = absurd (cc)
digest_is_done (Err (kernel.Refused digests.DeviceFault)) is = absurd (cc)
digest_is_done (Err (kernel.Refused (digests.BadLog place))) is = absurd (cc)
digest_is_done (Err (kernel.Refused digests.Memory)) is = absurd (cc)

refused_is_done : (why : Refusal) → outcomes.Refused why ≢ outcomes.Idle
refused_is_done why is = absurd (cc)

module _ {M : Type 0} (device : Ghosts M) where
  pub chunk_is_done : (k : KernelView M) (x : SealedView) (o : Outcome) (y : SealedView) (after : KernelView M) → ChunkCame device k x o y after → o ≢ outcomes.Idle
  chunk_is_done k x o y after (inl none) idle = refused_is_done refusals.Memory (sym none.0 ∙ idle)
  chunk_is_done k x o y after (inr came) idle = digest_is_done came.1 (sym came.2 ∙ idle)

-- only what a read changes has changed
pub only_read : {M : Type 0} (a b : SealedRegionView M) → b ≡ record a { region = b.region; read = b.read } → b ≡ record a { region = b.region; read = b.read; accepted = b.accepted }
only_read {M} a b is = is ∙ ap (λ (t : Bool). record a { region = b.region; read = b.read; accepted = t }) (sym (ap (λ (r : SealedRegionView M). r.accepted) is))

-- A region of which only the records were read has them still, and all else of its log.
module _ {M : Type 0} (device : Ghosts M) (a b : SealedRegionView M) (read : IsAwayRead device a b) where
  pub same_records : records_of device b.region ≡ records_of device a.region
  same_records = read_records device a.region b.region read.read

  pub same_done : b.done ≡ a.done
  same_done = ap (λ (r : SealedRegionView M). r.done) read.rest

  pub read_some : HasUndigested (log_of device a) → HasUndigested (log_of device b)
  read_some some = let long = ap (λ (rs : List Record). length rs) same_records in let done = same_done in omega (arith, long, done, some)

-- A region that was accepted before, or is accepted now.
module _ {M : Type 0} (device : Ghosts M) (k between : KernelView M) (a b : SealedRegionView M) (has : IsAccepted device k a b between) where
  pub accepted_some : HasUndigested (log_of device a) → HasUndigested (log_of device b)
  accepted_some some = elim has.came [
    | inl same ↦ subst (λ (r : SealedRegionView M). HasUndigested (log_of device r)) (sym same.0) some
    | inr now ↦ read_some device a b now.1 some
  ]

-- What is left of a region that is away: it is the client's still.
pub record IsStillFrom {M : Type 0} (device : Ghosts M) (v : ClientView M) (b : SealedRegionView M) : Type 0 where
  pub client : b.client ≡ client_of v.pass
  pub gone : v.log.other ≡ None
  pub before : next_generation b.generation ≡ v.log.generation
  pub records : records_of device b.region ≡ v.sealed

-- some records of a region that is away are not digested
pub away_some : {M : Type 0} (device : Ghosts M) (v : ClientView M) (a : SealedRegionView M) → IsAwayFrom device v a → HasUndigested (log_of device a)
away_some device v a from = let long = ap (λ (rs : List Record). length rs) from.records in let some = from.some in omega (arith, long, some)

-- A chunk of a region that was just accepted, or was before.
module _ {M : Type 0} (device : Ghosts M) (k between after : KernelView M) (v : ClientView M) (life : Life) (r : Refusals) (a b e : SealedRegionView M) (o : Outcome) (digested : Bool)
    (from : IsAwayFrom device v a) (has : IsAccepted device k a b between) (rest : e ≡ record b { done = e.done })
    (came : ChunkCame device between (log_of device b) o (log_of device e) after) (told : digested ≡ (e.done == length (records_of device e.region))) where
  still_from : IsStillFrom device v b
  still_from = elim has.came [
    | inl same ↦ subst (λ (w : SealedRegionView M). IsStillFrom device v w) (sym same.0) (record { client = from.client; gone = from.gone; before = from.before; records = from.records })
    | inr now ↦ record {
      client = ap (λ (w : SealedRegionView M). w.client) now.1.rest ∙ from.client;
      gone = from.gone;
      before = ap (λ (w : SealedRegionView M). next_generation w.generation) now.1.rest ∙ from.before;
      records = same_records device a b now.1 ∙ from.records;
    }
  ]

  then_from : IsStillFrom device v e
  then_from =
      let still = still_from in
      record {
        client = ap (λ (w : SealedRegionView M). w.client) rest ∙ still.client;
        gone = still.gone;
        before = ap (λ (w : SealedRegionView M). next_generation w.generation) rest ∙ still.before;
        records = ap (λ (w : SealedRegionView M). records_of device w.region) rest ∙ still.records;
      }

  its_some : HasUndigested (log_of device b)
  its_some = accepted_some device k between a b has (away_some device v a from)

  pub chunk_done : o ≢ outcomes.Idle
  chunk_done = chunk_is_done device between (log_of device b) o (log_of device e) after came

  -- all records are digested: the client may take it back
  pub may_take_back : digested ≡ true → MayTakeBack device v e
  may_take_back is =
      let still = then_from in
      record { client = still.client; gone = still.gone; before = still.before; digested = eqb-true e.done (length (records_of device e.region)) (sym told ∙ is) }

  -- some are not
  pub next_from : digested ≡ false → IsAwayFrom device v e
  next_from is =
      let still = then_from in
      let long : length (records_of device e.region) ≡ length v.sealed = ap (λ (rs : List Record). length rs) still.records in
      let other : e.done ≢ length (records_of device e.region) = λ same. false≢true (sym is ∙ told ∙ eq-eqb e.done (length (records_of device e.region)) same) in
      let within : e.done ≤ length (records_of device e.region) = chunk_within device between (log_of device b) o (log_of device e) after came its_some in
      record {
        client = still.client;
        gone = still.gone;
        before = still.before;
        records = still.records;
        some = omega (arith, long, other, within);
        none = λ not. absurd (false≢true (sym not ∙ ap (λ (w : SealedRegionView M). w.accepted) rest ∙ has.accepted));
      }

  -- what became of the seat, where the kernel was asked
  asked : (n : ℕ) (answer : Result Digestion (KernelError DigestError)) → o ≡ digest_outcome answer → DigestsNext device between (log_of device b) n answer (log_of device e) after → (w : ClientView M) (left : Option (SealedRegionView M))
      → IsPutBy (e.done == length (records_of device e.region)) device (record { client = v; away = Some a; refused = r; life = life }) e (record { client = w; away = left; refused = r; life = life })
      → IsDigestedOn device k (record { client = v; away = Some a; refused = r; life = life }) o (record { client = w; away = left; refused = r; life = life }) after
  asked n answer is d w left put = record {
    away = a;
    was_away = refl;
    came = inr (inr (record { away = b; between = between; accepted = has; count = n; answer = answer; told = is; away_then = e; same = rest; digests = d; put = put }));
  }

  -- where there was no memory, the region is as it was
  unprepared : log_of device e ≡ log_of device b → e ≡ b
  unprepared same = rest ∙ ap (λ (n : ℕ). record b { done = n }) (ap (λ (x : SealedView). x.done) same)

  pub chunk_stays : digested ≡ false → IsDigestedOn device k (record { client = v; away = Some a; refused = r; life = life }) o (record { client = v; away = Some e; refused = r; life = life }) after
  chunk_stays is =
      let not : (e.done == length (records_of device e.region)) ≡ false = sym told ∙ is in
      elim came [
        | inl none ↦ record {
          away = a;
          was_away = refl;
          came = inr (inl (record {
            told = none.0;
            away = b;
            accepted = subst (λ (q : KernelView M). IsAccepted device k a b q) (sym none.2) has;
            rest = ap (λ (w : SealedRegionView M). record { client = v; away = Some w; refused = r; life = life }) (unprepared none.1);
          }));
        }
        | inr out ↦
            asked out.0 out.1 out.2 out.3 v (Some e)
            (subst (λ t. IsPutBy t device (record { client = v; away = Some a; refused = r; life = life }) e (record { client = v; away = Some e; refused = r; life = life })) (sym not) refl)
      ]

  pub chunk_goes : digested ≡ true → (w : ClientView M) → HasTakenBack device v e w → IsDigestedOn device k (record { client = v; away = Some a; refused = r; life = life }) o (record { client = w; away = None; refused = r; life = life }) after
  chunk_goes is w back =
      let all : (e.done == length (records_of device e.region)) ≡ true = sym told ∙ is in
      elim came [
        | inl none ↦ (
            let some : HasUndigested (log_of device e) = subst HasUndigested (sym none.1) its_some in
            let done = eqb-true e.done (length (records_of device e.region)) all in
            absurd (omega (arith, some, done)))
        | inr out ↦
            asked out.0 out.1 out.2 out.3 w None
            (subst (λ t. IsPutBy t device (record { client = v; away = Some a; refused = r; life = life }) e (record { client = w; away = None; refused = r; life = life })) (sym all) (back, refl))
      ]

-- what the kernel answers a region that it does not accept
abbrev pub refused_with : KernelError AcceptError → Result (Unit {0}) (KernelError AcceptError)
refused_with e = Err e

pub not_accepted : {M : Type 0} (device : Ghosts M) (k : KernelView M) (a b : SealedRegionView M) (error : KernelError AcceptError) → b.done ≡ 0
    → (IsErrOf (refused_with error) kernel.Failed ↔ (k.area.failed ≡ true))
    → (IsErrOf (refused_with error) (kernel.Refused accepts.NotAtMark) ↔ ((k.area.failed ≡ false) × (StandsAtMark (log_of device b) (disk device k.area) → ⊥)))
    → (IsErrOf (refused_with error) (kernel.Refused accepts.AlreadyAccepted) ↔ ((k.area.failed ≡ false) × StandsAtMark (log_of device b) (disk device k.area) × (waiting_of k.book b.client ≢ 0)))
    → IsNotAcceptedFor device k a b (refusal_to_accept error)
not_accepted device k a b kernel.Failed none failed not_at already = inr (inl (refl, failed.0 refl))
not_accepted device k a b (kernel.Refused accepts.NotAtMark) none failed not_at already =
    let p = not_at.0 refl in inr (inr (refl, record { none = none; going = p.0; stands = λ at. absurd (p.1 at) }))
not_accepted device k a b (kernel.Refused accepts.AlreadyAccepted) none failed not_at already =
    let p = already.0 refl in inr (inr (refl, record { none = none; going = p.0; stands = λ _. p.2 }))
