-- A region that was sealed, and its log in memory.
use Rattle.std.proofs.Common.{◌≡◌, ◌≤◌, ℕ, Bool, true, false, cond, List, [], take, Option, Some, None, refl, sym, ◌∙◌, ap, subst, arith}
use Rattle.std.proofs.lemmas.Bool.Decides.{nat_tests}
use Rattle.std.specs.Prelude.{◌≢◌, Result, Ok, Err, IfOk, OnErr}
use Rattle.tier_device.specs.declared.media.Media.{Ghosts}
use Rattle.tier_device.specs.declared.media.Tier.TheVariants.{Fast}
use Rattle.tier_device.specs.Media.{Keeps}
use Rattle.client_log.specs.update_log.Frames.{before_gate, spelled_records}
use Rattle.client_log.specs.update_log.View.{RegionView, records_of}
use Rattle.client_log.specs.Calls.{IsOnlyRead}
use Rattle.client_log.specs.View.{LogView, current_records}
use Rattle.posix_calls.specs.Operations.{is_client}
use Rattle.lease_manager.specs.Words.{IsClient}
use Rattle.kernel_fs.specs.digester.SealedLog.{SealedView, IsDoneBy, done_to}
use Rattle.kernel_fs.specs.digester.declared.error.DigestError.{DigestError}
use Rattle.kernel_fs.specs.declared.chunk_digest.Digestion.{Digestion}
use Rattle.kernel_fs.specs.declared.chunk_digest.Digestion.TheVariants.{Digested, NotNext, NotAccepted}
use Rattle.kernel_fs.specs.declared.error.KernelError.{KernelError}
use Rattle.libfs.specs.SealedRegion.{SealedRegionView, IsKept, IsLogOf, done_in, is_read_in, log_of}

client_low_high : (c : ℕ) → 1 ≤ c → c ≤ 8 → is_client c ≡ true
client_low_high c low high = grind (arith, nat_tests)

-- a client's number, by the test
pub client_is : (c : ℕ) → IsClient c → is_client c ≡ true
client_is c is = client_low_high c is.0 is.1

same_some : {A : Type 0} (x y : A) → Some x ≡ Some y → x ≡ y
same_some x y is = ap (of x) is
  where
    of : {A : Type 0} → A → Option A → A
    of d None = d
    of d (Some z) = z

unchanged : (x y : SealedView) → y ≡ x → y ≡ done_to y.done x
unchanged x y is = subst (λ (z : SealedView). z ≡ done_to z.done x) (sym is) refl

module _ {M : Type 0} (device : Ghosts M) where
  past_not : (v : RegionView M) → Keeps (device.moment v.media) (device.moment v.media) (device.left v.media) (device.left v.media)
  past_not v = record { later = omega arith; at_most_one = omega arith; nothing_else = λ m t c le l. l; keeps = λ m t c le l. l }

  -- a region that was not touched
  pub not_read : (v : RegionView M) → IsOnlyRead device v v
  not_read v = record { same_end = refl; same_stage = refl; same_begun = refl; same_seen = λ t. refl; clock = refl; past = past_not v; faults_rise = omega arith; one_fault = omega arith }

  -- one that was only read has the records that it had
  pub read_records : (old new : RegionView M) → IsOnlyRead device old new → records_of device new ≡ records_of device old
  read_records old new is = ap (λ n. spelled_records (before_gate (take n (device.seen new.media Fast)))) is.same_end ∙ ap (λ bytes. spelled_records (before_gate (take old.end bytes))) (is.same_seen Fast)

  -- a region that has records is wiped to its generation
  pub ready_written : (v : LogView M) → current_records device v ≢ [] → current_records device v ≡ records_of device v.current
  ready_written v some = elim v.ready as (λ b. (cond b (records_of device v.current) [] ≢ []) → cond b (records_of device v.current) [] ≡ records_of device v.current) [
    | true ↦ λ _. refl
    | false ↦ λ none. absurd (none refl)
  ] some

module _ {M : Type 0} (device : Ghosts M) (client generation : ℕ) (region : RegionView M) (held : List ℕ) (count : ℕ) (freed : Option ℕ) (accepted : Bool) where
  -- the region as contracts see it, with this log in memory
  abbrev pub seen_with : Option SealedView → SealedRegionView M
  seen_with log = record { client = client; generation = generation; region = region; held = held; read = is_read_in log freed; accepted = accepted; done = done_in log freed }

  -- the log in memory is that of the region
  pub log_is : (x : SealedView) → IsLogOf client generation held (records_of device region) x → x ≡ log_of device (seen_with (Some x))
  log_is x of = λ i. record { client = of.client_is i; generation = of.generation_is i; done = x.done; held = of.held_is i; records = of.records_are i }

  pub log_there : (log : Option SealedView) (x : SealedView) → IsKept device client generation region held count log freed accepted → log ≡ Some x → x ≡ log_of device (seen_with log)
  log_there log x kept is = subst (λ (o : Option SealedView). x ≡ log_of device (seen_with o)) (sym is) (log_is x (kept.its_log x is))

  pub kept_on : (x y : SealedView) → IsKept device client generation region held count (Some x) freed accepted → y ≡ done_to y.done x → IsKept device client generation region held count (Some y) freed accepted
  kept_on x y kept is =
      let of = kept.its_log x refl in
      let own : IsLogOf client generation held (records_of device region) y = record {
        client_is = ap (λ (z : SealedView). z.client) is ∙ of.client_is;
        generation_is = ap (λ (z : SealedView). z.generation) is ∙ of.generation_is;
        held_is = ap (λ (z : SealedView). z.held) is ∙ of.held_is;
        records_are = ap (λ (z : SealedView). z.records) is ∙ of.records_are;
      } in
      record {
        number = kept.number;
        sealed = kept.sealed;
        rising = kept.rising;
        spelled = kept.spelled;
        counted = kept.counted;
        whole = kept.whole;
        its_log = λ z e. subst (IsLogOf client generation held (records_of device region)) (same_some y z e) own;
        read = λ _. refl;
      }

-- a digest of a chunk changes of the log only how many are digested
pub only_done : (x y : SealedView) (n : ℕ) (Same Other : Type 0) (answer : Result Digestion (KernelError DigestError)) → IfOk answer (λ a. a ≡ Digested → IsDoneBy x n y) → IfOk answer (λ a. a ≢ Digested → Same × (y ≡ x)) → OnErr answer (Other × (y ≡ x)) → y ≡ done_to y.done x
only_done x y n Same Other (Ok Digested) done stays refused = let is = done refl in is ∙ ap (λ (d : ℕ). done_to d x) (sym (ap (λ (z : SealedView). z.done) is))
only_done x y n Same Other (Ok NotNext) done stays refused = unchanged x y (stays (λ is. absurd (cc))).1
only_done x y n Same Other (Ok NotAccepted) done stays refused = unchanged x y (stays (λ is. absurd (cc))).1
only_done x y n Same Other (Err e) done stays refused = unchanged x y refused.1
