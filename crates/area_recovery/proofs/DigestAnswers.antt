-- What a digest of the next records answers, and what several of them come to.
use Rattle.std.proofs.Common.{◌≡◌, ◌≢◌, ◌⊎◌, inl, inr, ℕ, ◌+◌, ◌-◌, true, false, List, [], ◌∷◌, ◌++◌, length, take, drop, Option, Some, refl, ap, sym, ◌∙◌, subst, arith}
use Rattle.std.specs.Prelude.{Err, IfErr, Ok, OnOk, Result}
use Rattle.std.proofs.lemmas.Bool.{false≢true}
use Rattle.std.proofs.lemmas.List.{drop-drop, drop_all, length-drop, take-append-drop}
use Rattle.tier_device.specs.declared.media.Media.{Ghosts}
use Rattle.tier_device.specs.Media.{Rose}
use Rattle.recovery_laws.specs.batch_journal.View.{JournalView}
use Rattle.recovery_laws.specs.layout.Places.{Sizes}
use Rattle.recovery_laws.specs.area_reader.Store.{disk, graph, marks}
use Rattle.recovery_laws.specs.digester.DigestStep.{DigestsOrStays, IsDigested}
use Rattle.recovery_laws.specs.digester.MarkMoves.{mark_of, marks_after}
use Rattle.recovery_laws.specs.digester.SealedLog.{SealedView, HasUndigested, IsDoneBy, StandsAt, StandsAtMark, done_to, mark_then, undone}
use Rattle.recovery_laws.specs.digester.declared.error.DigestError.{DigestError}
use Rattle.recovery_laws.specs.digester.declared.error.DigestError.TheVariants as digests
use Rattle.graph_check.specs.log_record.declared.format.Record.{Record}
use Rattle.kernel_fs.proofs.SealedRecords.{effects_are}
use Rattle.posix_calls.specs.Operations.{is_client}
use Rattle.graph_check.specs.file_graph.Graph.{Graph}
use Rattle.log_survey.specs.world_invariant.Logs.{after_records}
use Rattle.recovery_laws.specs.layout.declared.marks.Marks.{Marks}
use Rattle.area_recovery.specs.DigestedLogs.{DigestsNext, IsNoBadLog, IsRefusal}
use Rattle.area_recovery.specs.Errors.{IsLogDigestRefusal}
use Rattle.area_recovery.specs.FaultOrMemory.{IsFaultOrMemory}
use Rattle.area_recovery.specs.Phases.{AnswersFaults}
use Rattle.area_recovery.specs.declared.error.RecoveryError.{RecoveryError}
use Rattle.area_recovery.specs.declared.error.RecoveryError.TheVariants as errors
use Rattle.area_recovery.proofs.DigestedContents.{moved_other}

-- ---- refusals

pub refused_only : (client : ℕ) (e : DigestError) (f : RecoveryError) → IsRefusal client e f → IsLogDigestRefusal f
refused_only client digests.DeviceFault f is = subst IsLogDigestRefusal (sym is) tt
refused_only client (digests.BadLog place) f is = subst IsLogDigestRefusal (sym is.1) tt
refused_only client digests.Memory f is = subst IsLogDigestRefusal (sym is) tt

pub refused_never : (client : ℕ) (e : DigestError) (f : RecoveryError) → IsRefusal client e f → IsNoBadLog e → IsFaultOrMemory f
refused_never client digests.DeviceFault f is good = subst IsFaultOrMemory (sym is) tt
refused_never client (digests.BadLog place) f is good = absurd good
refused_never client digests.Memory f is good = subst IsFaultOrMemory (sym is) tt

module _ {M : Type 0} (device : Ghosts M) (old new : JournalView M) (going : old.failed ≡ false) where
  rose : (old.failed ≡ true) ⊎ Rose (device.faults old.media) (device.faults new.media) → Rose (device.faults old.media) (device.faults new.media)
  rose (inl failed) = absurd (false≢true (sym going ∙ failed))
  rose (inr rises) = rises

  quiet_answers : (e : DigestError) (f : RecoveryError) → e ≢ digests.DeviceFault → f ≢ errors.DeviceFault → DigestsOrStays {T = Unit {0}} device old new (Err e) → AnswersFaults {T = Unit {0}} device old new (Err f)
  quiet_answers e f other off stays = record {
    geometry = stays.geometry;
    more_faults = stays.more_faults;
    one_fault = stays.one_fault;
    quiet = tt;
    quiet_refused = λ apart. (let quiet = stays.quiet_refused other in (quiet.0, quiet.2));
    fault = λ is. absurd (off is);
  }

  pub refused_answers : (client : ℕ) (e : DigestError) (f : RecoveryError) → IsRefusal client e f → DigestsOrStays {T = Unit {0}} device old new (Err e) → AnswersFaults {T = Unit {0}} device old new (Err f)
  refused_answers client digests.DeviceFault f is stays = record {
    geometry = stays.geometry;
    more_faults = stays.more_faults;
    one_fault = stays.one_fault;
    quiet = tt;
    quiet_refused = λ other. absurd (other is);
    fault = λ same. (let fault = stays.fault refl in (fault.0, rose fault.1));
  }
  refused_answers client (digests.BadLog place) f is stays = quiet_answers (digests.BadLog place) f (λ e. cc e) (λ e. cc (e, is.1)) stays
  refused_answers client digests.Memory f is stays = quiet_answers digests.Memory f (λ e. cc e) (λ e. cc (e, is)) stays

-- no memory for the next chunk
pub memory_answers : {M : Type 0} (device : Ghosts M) (area : JournalView M) (e : DigestError) → area.failed ≡ false → e ≡ digests.Memory → DigestsOrStays {T = Unit {0}} device area area (Err e)
memory_answers device area e going is = record {
  unmoved = λ other. record { clock = refl; reads = λ t. refl; past = λ m t c le left. left; kept = λ m t c le left. left };
  geometry = refl;
  more_faults = omega arith;
  one_fault = omega arith;
  quiet = tt;
  going = tt;
  quiet_refused = λ other. (refl, going, going);
  stays_failed = λ failed. absurd (false≢true (sym going ∙ failed));
  fault = λ same. absurd (cc (same, is));
}

-- ---- the next records

module _ {M : Type 0} (device : Ghosts M) (x : SealedView) (n : ℕ) (old : JournalView M) (y : SealedView) (new : JournalView M) (client : is_client x.client ≡ true) (some : HasUndigested x) (same : new.geometry ≡ old.geometry)
    (d : IsDigested old.geometry (disk device old) x n (disk device new)) (done : IsDoneBy x n y) (stands : StandsAtMark y (disk device new)) where
  one_of : (o : Option Marks) (a b : Marks) → o ≡ Some a → o ≡ Some b → a ≡ b
  one_of o a b one two = cc

  undone_long : length (undone x) ≡ length x.records - x.done
  undone_long = length-drop x.done x.records

  pub next_digested : DigestsNext device x old y new
  next_digested = record {
    count = n;
    some = d.run.some (let long = undone_long in let low = some in omega (arith, long, low));
    within = (let long = undone_long in let le = d.run.within in let low = some in omega (arith, long, le, low));
    log = done;
    good = d.good;
    graph_after = ap (λ (g : Sizes). graph g (disk device new)) same ∙ d.graph_after ∙ effects_are (take n (undone x)) (graph old.geometry (disk device old));
    moves = record {
      after = stands.0;
      is = stands.1;
      own = subst (λ (z : SealedView). StandsAt z stands.0) done stands.2;
      others = λ v e are is_e off.
          ap (λ (w : Marks). mark_of w e) (one_of (marks (disk device new)) stands.0 (marks_after d.before x.client (mark_then x n)) stands.1 d.applied.new_marks)
          ∙ moved_other d.before x.client e (mark_then x n) client is_e off
          ∙ ap (λ (w : Marks). mark_of w e) (one_of (marks (disk device old)) d.before v d.old_marks are);
    };
  }

-- ---- one after the other

pub after_more : (a b : List Record) (g : Graph) → after_records g (a ++ b) ≡ after_records (after_records g a) b
after_more [] b g = refl
after_more (r ∷ a) b g = after_more a b _

-- what is left then comes to what was left before
pub rest_same : (x : SealedView) (n : ℕ) (g h : Graph) → h ≡ after_records g (take n (undone x)) → after_records h (undone (done_to (x.done + n) x)) ≡ after_records g (undone x)
rest_same x n g h is =
    ap (λ (k : Graph). after_records k (drop (x.done + n) x.records)) is
    ∙ ap (after_records (after_records g (take n (undone x)))) (sym (drop-drop n x.done x.records))
    ∙ sym (after_more (take n (undone x)) (drop n (undone x)) g)
    ∙ ap (after_records g) (take-append-drop n (undone x))

-- nothing is left
pub none_left : (x : SealedView) → x.done ≡ length x.records → undone x ≡ []
none_left x all = drop_all x.done x.records (omega (arith, all))

-- ---- results

pub three_ok : {A E P Q R S : Type 0} (r : Result A E) → OnOk r P → OnOk r Q → OnOk r R → (P → Q → R → S) → OnOk r S
three_ok (Ok a) p q s f = f p q s
three_ok (Err e) p q s f = tt

pub each_err : {A E : Type 0} (P Q : E → Type 0) (r : Result A E) → IfErr r P → ((e : E) → P e → Q e) → IfErr r Q
each_err P Q (Ok a) p f = tt
each_err P Q (Err e) p f = f e p

pub each_ok : {A E P Q : Type 0} (r : Result A E) → OnOk r P → (P → Q) → OnOk r Q
each_ok (Ok a) p f = f p
each_ok (Err e) p f = tt

-- ---- answers where the area is as it was

module _ {M T : Type 0} (device : Ghosts M) (area : JournalView M) (going : area.failed ≡ false) where
  pub still_faults : (x : T) → AnswersFaults {T = T} device area area (Ok x)
  still_faults x = record { geometry = refl; more_faults = omega arith; one_fault = omega arith; quiet = (refl, going); quiet_refused = tt; fault = tt }

  pub memory_faults : (e : RecoveryError) → e ≡ errors.Memory → AnswersFaults {T = T} device area area (Err e)
  memory_faults e is = record { geometry = refl; more_faults = omega arith; one_fault = omega arith; quiet = tt; quiet_refused = λ off. (refl, going); fault = λ same. absurd (cc (same, is)) }

-- another value, or the same refusal
pub other_value : {M T U : Type 0} (device : Ghosts M) (old new : JournalView M) (x : T) (y : U) → AnswersFaults {T = T} device old new (Ok x) → AnswersFaults {T = U} device old new (Ok y)
other_value device old new x y a = record { geometry = a.geometry; more_faults = a.more_faults; one_fault = a.one_fault; quiet = a.quiet; quiet_refused = tt; fault = tt }

pub same_refusal : {M T U : Type 0} (device : Ghosts M) (old new : JournalView M) (e : RecoveryError) → AnswersFaults {T = T} device old new (Err e) → AnswersFaults {T = U} device old new (Err e)
same_refusal device old new e a = record { geometry = a.geometry; more_faults = a.more_faults; one_fault = a.one_fault; quiet = tt; quiet_refused = a.quiet_refused; fault = a.fault }
