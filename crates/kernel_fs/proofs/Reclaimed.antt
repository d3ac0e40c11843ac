-- What a reclaim answers, by what its area answered.
use Rattle.std.proofs.Common.{◌≡◌, ◌≢◌, inl, inr, ℕ, false, refl, ap, sym, ◌∙◌, subst, arith}
use Rattle.std.specs.Prelude.{Option, Result, Ok, Err}
use Rattle.std.proofs.lemmas.Bool.{true≢false}
use Rattle.tier_device.specs.declared.media.Media.{Ghosts}
use Rattle.tier_device.specs.Media.{Rose}
use Rattle.migrator.specs.batch_journal.View.{JournalView}
use Rattle.migrator.proofs.batch_journal_lemmas.Courses.{unmoved_on}
use Rattle.migrator.specs.area_reader.declared.error.AreaError.{AreaError}
use Rattle.migrator.specs.area_reader.declared.error.AreaError.TheVariants as area
use Rattle.migrator.specs.shared_area.GraphUpdate.{AppliesOrStays}
use Rattle.migrator.specs.area_reader.Looks.{Looks}
use Rattle.digester.specs.Errors.{IsAreaError}
use Rattle.world_invariant.specs.file_graph.Graph.{Node}
use Rattle.world_invariant.specs.Logs.{IsNameless}
use Rattle.kernel_fs.specs.Nodes.{is_node}
use Rattle.kernel_fs.specs.Reclaim.{ReclaimsOrStays}
use Rattle.kernel_fs.specs.declared.error.ReclaimError.{ReclaimError}
use Rattle.kernel_fs.specs.declared.error.ReclaimError.TheVariants as errors

pub not_fault : errors.Memory ≢ errors.DeviceFault
not_fault is = cc

pub in_use_no_fault : errors.InUse ≢ errors.DeviceFault
in_use_no_fault is = cc

-- what is no node is no file without a name
pub no_file : (o : Option Node) → IsNameless o → is_node o ≡ false → ⊥
no_file o nameless absent = true≢false (sym (ap is_node nameless.is) ∙ absent)

err_is : {T : Type 0} (e f : ReclaimError) → ◌≡◌ {A = Result T ReclaimError} (Err e) (Err f) → e ≡ f
err_is e f is = cc

module _ {M : Type 0} (device : Ghosts M) (old new : JournalView M) where
  pub applied_stays : AppliesOrStays device old new (Ok tt) → ReclaimsOrStays device old new (Ok tt)
  applied_stays a = record { unmoved = tt; geometry = a.geometry; more_faults = a.more_faults; one_fault = a.one_fault; quiet = (a.quiet, a.going.1); quiet_refused = tt; fault = λ is. absurd (cc is) }

  -- no memory
  pub memory_stays : (e : AreaError) → e ≢ area.DeviceFault → AppliesOrStays device old new (Err e) → ReclaimsOrStays device old new (Err errors.Memory)
  memory_stays e other a = record {
    unmoved = λ _. a.unmoved other;
    geometry = a.geometry;
    more_faults = a.more_faults;
    one_fault = a.one_fault;
    quiet = tt;
    quiet_refused = λ _. (let q = a.quiet_refused other in (q.0, q.2));
    fault = λ is. absurd (not_fault (err_is {T = Unit {0}} errors.Memory errors.DeviceFault is));
  }

  pub fault_stays : old.failed ≡ false → AppliesOrStays device old new (Err area.DeviceFault) → ReclaimsOrStays device old new (Err errors.DeviceFault)
  fault_stays going a = record {
    unmoved = λ other. absurd (other refl);
    geometry = a.geometry;
    more_faults = a.more_faults;
    one_fault = a.one_fault;
    quiet = tt;
    quiet_refused = λ other. absurd (other refl);
    fault = λ _. (let f = a.fault refl in (f.0, elim (f.1) [ inl was ↦ absurd (true≢false (sym was ∙ going)) | inr rose ↦ rose ]));
  }

  pub apply_stays : (e : AreaError) (r : ReclaimError) → IsAreaError errors.DeviceFault errors.Memory e r → old.failed ≡ false → AppliesOrStays device old new (Err e) → ReclaimsOrStays device old new (Err r)
  apply_stays area.DeviceFault r told going a = subst (λ (x : ReclaimError). ReclaimsOrStays device old new (Err x)) (sym told) (fault_stays going a)
  apply_stays (area.Damaged what block) r told going a = absurd told
  apply_stays area.NoBlock r told going a = absurd told
  apply_stays area.NotMapped r told going a = absurd told
  apply_stays area.Memory r told going a = subst (λ (x : ReclaimError). ReclaimsOrStays device old new (Err x)) (sym told) (memory_stays area.Memory (λ is. cc) a)

  -- ---- where it was only looked at

  pub looked_stays : {T : Type 0} (x : T) (r : ReclaimError) → r ≢ errors.DeviceFault → Looks device old new (Ok x) → ReclaimsOrStays device old new (Err r)
  looked_stays x r other a = record {
    unmoved = λ _. a.unmoved;
    geometry = a.geometry;
    more_faults = a.more_faults;
    one_fault = a.one_fault;
    quiet = tt;
    quiet_refused = λ _. (a.quiet, a.going.1);
    fault = λ is. absurd (other (err_is {T = Unit {0}} r errors.DeviceFault is));
  }

  pub fault_looked : {T : Type 0} (e : AreaError) → e ≡ area.DeviceFault → old.failed ≡ false → Looks {T = T} device old new (Err e) → ReclaimsOrStays device old new (Err errors.DeviceFault)
  fault_looked e is going a = record {
    unmoved = λ _. a.unmoved;
    geometry = a.geometry;
    more_faults = a.more_faults;
    one_fault = a.one_fault;
    quiet = tt;
    quiet_refused = λ other. absurd (other refl);
    fault = λ _. (let f = a.fault is in (f.0, elim (f.1) [ inl was ↦ absurd (true≢false (sym was ∙ going)) | inr rose ↦ rose ]));
  }

-- a change behind a look
module _ {M : Type 0} (device : Ghosts M) (old mid new : JournalView M) where
  pub stays_behind : {T : Type 0} (x : T) (r : Result (Unit {0}) ReclaimError) → Looks device old mid (Ok x) → ReclaimsOrStays device mid new r → ReclaimsOrStays device old new r
  stays_behind x (Ok u) first a = record {
    unmoved = tt;
    geometry = a.geometry ∙ first.geometry;
    more_faults = omega (arith, first.more_faults, a.more_faults);
    one_fault = omega (arith, first.quiet, a.one_fault);
    quiet = (a.quiet.0 ∙ first.quiet, a.quiet.1);
    quiet_refused = tt;
    fault = λ is. absurd (cc is);
  }
  stays_behind x (Err e) first a = record {
    unmoved = λ other. unmoved_on first.unmoved (a.unmoved other);
    geometry = a.geometry ∙ first.geometry;
    more_faults = omega (arith, first.more_faults, a.more_faults);
    one_fault = omega (arith, first.quiet, a.one_fault);
    quiet = tt;
    quiet_refused = λ other. (let q = a.quiet_refused other in (q.0 ∙ first.quiet, q.1));
    fault = λ is. (let f = a.fault is in (f.0, subst (λ (n : ℕ). Rose n (device.faults new.media)) first.quiet f.1));
  }

module _ {M : Type 0} (device : Ghosts M) (old : JournalView M) where
  -- no device call
  pub nothing_stays : (r : ReclaimError) → r ≢ errors.DeviceFault → old.failed ≡ false → ReclaimsOrStays device old old (Err r)
  nothing_stays r other going = record {
    unmoved = λ _. record { clock = refl; reads = λ t. refl; past = λ m t x le l. l; kept = λ m t x le l. l };
    geometry = refl;
    more_faults = omega arith;
    one_fault = omega arith;
    quiet = tt;
    quiet_refused = λ _. (refl, going);
    fault = λ is. absurd (other (err_is {T = Unit {0}} r errors.DeviceFault is));
  }

-- a fault and want of memory are told as such
pub change_no_use : (e : AreaError) (r : ReclaimError) → IsAreaError errors.DeviceFault errors.Memory e r → ◌≡◌ {A = Result (Unit {0}) ReclaimError} (Err r) (Err errors.InUse) → ⊥
change_no_use area.DeviceFault r told is = cc (told, is)
change_no_use (area.Damaged what block) r told is = told
change_no_use area.NoBlock r told is = told
change_no_use area.NotMapped r told is = told
change_no_use area.Memory r told is = cc (told, is)
