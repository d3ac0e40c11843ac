-- A test of the records of a chunk, and then the change that they come to: what is left at each moment, and what is refused.
use Rattle.std.proofs.Common.{◌≡◌, ◌≢◌, ◌==◌, ◌<◌, ◌≤◌, ◌+◌, ◌-◌, ◌^◌, inl, inr, ℕ, List, true, length, get_or, take, drop, refl, sym, ◌∙◌, ap, subst, arith}
use Rattle.std.specs.Prelude.{◌&&◌, nat_lt, Option, Some, Result, Ok, Err}
use Rattle.std.specs.List.{AllByRecursion, list_all}
use Rattle.std.specs.List.Sorted.{IsNonDecreasing, IsStrictlyIncreasing}
use Rattle.std.proofs.lemmas.List.Kept.{AllPairs-from_increasing}
use Rattle.std.proofs.lemmas.Bool.{true≢false, and_parts, eqb-true}
use Rattle.std.proofs.lemmas.Bool.Decides.{eqb_tells, nat_tests}
use Rattle.std.proofs.lemmas.List.{length-drop, length-set, length-take-le, get_or-set_same}
use Rattle.tier_device.specs.declared.media.Media.{Ghosts}
use Rattle.tier_device.specs.declared.media.Tier.{Tier}
use Rattle.tier_device.specs.Media.{Rose}
use Rattle.tier_device.specs.AfterStop.{Left}
use Rattle.posix_calls.specs.Operations.{is_client}
use Rattle.coalescer.specs.graph_change.Change.{Changes, changed_graph}
use Rattle.coalescer.proofs.graph_change_lemmas.SwapNames.{sum_is}
use Rattle.coalescer.specs.RunChange.{swapped_of}
use Rattle.shared_area.specs.layout.declared.marks.Mark.{Mark}
use Rattle.shared_area.specs.layout.declared.marks.Marks.{Marks}
use Rattle.shared_area.specs.layout.declared.marks.TheConstants.{CLIENTS}
use Rattle.shared_area.specs.layout.Marks.{fits_mark, fits_marks}
use Rattle.shared_area.specs.layout.Places.{Sizes}
use Rattle.shared_area.specs.batch_journal.Course.{Unmoved}
use Rattle.shared_area.specs.batch_journal.View.{JournalView}
use Rattle.shared_area.proofs.batch_journal_lemmas.Courses.{unmoved_on}
use Rattle.shared_area.specs.area_reader.Store.{Store, disk, store_of, graph, marks}
use Rattle.shared_area.specs.area_reader.Reads.{Loose}
use Rattle.shared_area.specs.area_reader.Looks.{Looks}
use Rattle.shared_area.proofs.area_reader_lemmas.Looked.{carried_back}
use Rattle.shared_area.specs.area_reader.declared.error.AreaError.{AreaError}
use Rattle.shared_area.specs.area_reader.declared.error.AreaError.TheVariants as area
use Rattle.shared_area.specs.ChangeApply.{IsAppliedStore, MakesFewCalls}
use Rattle.shared_area.proofs.Calls.{few_behind}
use Rattle.update_log.specs.log_record.Grammar.{IsRecord}
use Rattle.update_log.specs.log_record.declared.format.Record.{Record}
use Rattle.coalescer.specs.Records.{effects_in}
use Rattle.shared_area.specs.Ready.{OpensAs}
use Rattle.shared_area.specs.GraphUpdate.{StaysOrChanges, AppliesOrStays}
use Rattle.digester.specs.Plan.{AreGood, Finds, IsFirstBad, IsNextRun}
use Rattle.digester.specs.declared.record_test.Found.{Found}
use Rattle.digester.proofs.PlanRuns.{place as bad_place}
use Rattle.digester.specs.Chunk.{IsChunkOf, chunk_change, is_next}
use Rattle.digester.specs.DigestStep.{IsGoodRun, IsDigested, NamesFirstBad, StaysOrDigests, DigestsOrStays}
use Rattle.digester.specs.Errors.{IsDigestError}
use Rattle.digester.specs.MarkMoves.{mark_after, marks_after}
use Rattle.digester.specs.SealedLog.{SealedView, HasUndigested, IsSealed, StandsAt, StandsAtMark, done_to, undone, mark_then}
use Rattle.digester.specs.declared.chunk.Chunk.{Chunk}
use Rattle.digester.specs.declared.error.DigestError.{DigestError}
use Rattle.digester.specs.declared.error.DigestError.TheVariants as errors
use Rattle.digester.proofs.Runs.{all_dropped, all_taken, good_run}

-- inodes that rise, each once, do not fall
pub not_falling : (xs : List ℕ) → IsStrictlyIncreasing xs → IsNonDecreasing xs
not_falling xs up i j d le within = elim (eqb_tells i j) [
  | inl same ↦ (let is = ap (λ k. get_or xs k d) same.1 in omega (arith, is))
  | inr apart ↦ (let other = apart.1 in let below = AllPairs-from_increasing xs up i j d (omega (arith, le, other)) within in omega (arith, below))
]

-- ---- the records of a chunk

module _ (x : SealedView) (c : Chunk) (sealed : IsSealed x) (some : HasUndigested x) (is : IsChunkOf x c) (next : is_next x c ≡ true) where
  pub begins : c.first ≡ x.done
  begins = eqb-true c.first x.done (and_parts (c.client == x.client && c.generation == x.generation) (c.first == x.done) next).1

  pub its_run : IsNextRun (undone x) c.count (swapped_of c.change)
  its_run = subst (λ (k : ℕ). IsNextRun (drop k x.records) c.count (swapped_of c.change)) begins is.run

  -- no more than there are
  pub its_end : x.done + c.count ≤ length x.records
  its_end = (let long = length-drop x.done x.records in let within = its_run.run.within in omega (arith, long, some, within))

  -- as they are lent
  pub lent : (rs : List Record) (first end : ℕ) → rs ≡ x.records → first ≡ x.done → end ≡ x.done + c.count → take (end - first) (drop first rs) ≡ take c.count (undone x)
  lent rs first end all from to =
      let many : end - first ≡ c.count = omega (arith, to, from) in
      ap (λ (r : List Record). take (end - first) (drop first r)) all ∙ ap (λ (k : ℕ). take (end - first) (drop k x.records)) from ∙ ap (λ (k : ℕ). take k (undone x)) many

  -- what is told of them
  pub lent_tells : (g : Sizes) (s : Store) (held : List ℕ) (rs : List Record) (first end : ℕ) (f h : Found) → held ≡ x.held → rs ≡ x.records → first ≡ x.done → end ≡ x.done + c.count → f ≡ h
      → Finds held g.units (graph g s) (take (end - first) (drop first rs)) f → Finds x.held g.units (graph g s) (take c.count (undone x)) h
  lent_tells g s held rs first end f h its all from to is tells =
      subst (λ (r : List Record). Finds x.held g.units (graph g s) r h) (lent rs first end all from to)
      (subst (λ (l : List ℕ). Finds l g.units (graph g s) (take (end - first) (drop first rs)) h) its
      (subst (Finds held g.units (graph g s) (take (end - first) (drop first rs))) is tells))

  pub its_spelled : AllByRecursion IsRecord (take c.count (undone x))
  its_spelled = all_taken IsRecord c.count (undone x) (all_dropped IsRecord x.done x.records sealed.spelled)

  module _ (g : Sizes) (s : Store) where
    -- where they are good and their change was told, they are such a run
    pub its_good_run : (cs : Changes) → cs ≡ chunk_change (graph g s) c → AreGood x.held g.units (graph g s) (take c.count (undone x)) → IsGoodRun x.held g.units (graph g s) (take c.count (undone x)) cs
    its_good_run cs told good =
        good_run x.held g.units (graph g s) (undone x) c.count (swapped_of c.change) cs (let long = length-drop x.done x.records in omega (arith, long, some))
        (all_dropped IsRecord x.done x.records sealed.spelled) its_run good told

    -- the change of a good run is made, with the mark behind it
    pub digested : (cs : Changes) → cs ≡ chunk_change (graph g s) c → AreGood x.held g.units (graph g s) (take c.count (undone x)) → (v : Marks) (new : Store) → marks s ≡ Some v → StandsAt x v
        → IsAppliedStore g s cs (marks_after v x.client (mark_then x c.count)) new → IsDigested g s x c.count new
    digested cs told good v new was stood applied =
        let rs = take c.count (undone x) in
        let run = its_good_run cs told good in
        record {
          run = its_run.run;
          good = good;
          graph_after = applied.graph_after ∙ ap (λ (d : Changes). changed_graph d (graph g s)) run.change ∙ sum_is (effects_in rs) (graph g s);
          before = v;
          old_marks = was;
          stood = stood;
          applied = subst (λ (d : Changes). IsAppliedStore g s d (marks_after v x.client (mark_then x c.count)) new) run.change applied;
        }

    -- a bad one is told by its place in the region
    pub told_bad : (first place : ℕ) → first ≡ x.done → IsFirstBad x.held g.units (graph g s) (take c.count (undone x)) place → NamesFirstBad g s x c.count (errors.BadLog (first + place))
    told_bad first place from bad = (place, bad, ap (λ (k : ℕ). k + place) from)

    -- and it is one of the records
    pub bad_within : (place : ℕ) → IsFirstBad x.held g.units (graph g s) (take c.count (undone x)) place → x.done + place < length x.records
    bad_within place bad =
        let few = length-take-le c.count (undone x) its_run.run.within in
        let inside = bad_place x.held g.units (graph g s) (take c.count (undone x)) place bad in
        let end = its_end in
        omega (arith, few, inside, end)

module _ (x : SealedView) (g : Sizes) (s : Store) (n : ℕ) where
  -- no other refusal is
  pub area_not_bad : (e : AreaError) (r : DigestError) → IsDigestError e r → NamesFirstBad g s x n r
  area_not_bad area.DeviceFault r told = subst (NamesFirstBad g s x n) (sym told) tt
  area_not_bad (area.Damaged what block) r told = absurd told
  area_not_bad area.NoBlock r told = absurd told
  area_not_bad area.NotMapped r told = absurd told
  area_not_bad area.Memory r told = subst (NamesFirstBad g s x n) (sym told) tt

-- ---- the mark

fits_long : (v : Marks) → fits_marks v ≡ true → length v.clients ≡ CLIENTS
fits_long v fits =
    let all = list_all fits_mark v.clients in
    let first = and_parts (length v.clients == CLIENTS && all) (nat_lt v.digests (2 ^ 64)) fits in
    eqb-true (length v.clients) CLIENTS (and_parts (length v.clients == CLIENTS) all first.0).0

is_low : (c : ℕ) → is_client c ≡ true → 1 ≤ c
is_low c e = grind (arith, nat_tests)

is_high : (c : ℕ) → is_client c ≡ true → c ≤ 8
is_high c e = grind (arith, nat_tests)

-- the log stands at the mark that was moved for it
pub stands_behind : (x : SealedView) (done : ℕ) (v : Marks) (m : Mark) (new : Store) → is_client x.client ≡ true → m ≡ mark_after x.generation done (length x.records) → fits_marks (marks_after v x.client m) ≡ true → marks new ≡ Some (marks_after v x.client m) → StandsAtMark (done_to done x) new
stands_behind x done v m new client moved fits new_marks =
    let long = fits_long (marks_after v x.client m) fits in
    let same = length-set v.clients (x.client - 1) m in
    let low = is_low x.client client in
    let high = is_high x.client client in
    (marks_after v x.client m, new_marks, get_or-set_same v.clients (x.client - 1) m (record { generation = 0; done = 0 }) (omega (arith, long, same, low, high)) ∙ moved)

some_is : (o : Option Marks) (v w : Marks) → o ≡ Some v → o ≡ Some w → v ≡ w
some_is o v w one two = cc

-- so at that of the store before
pub stood_at : (x : SealedView) (s : Store) (v : Marks) → marks s ≡ Some v → StandsAtMark x s → StandsAt x v
stood_at x s v was at = subst (StandsAt x) (some_is (marks s) at.0 v at.1 was) at.2

-- ---- what a stop leaves

module _ (x : SealedView) (g : Sizes) (s : Store) (n : ℕ) (before : ℕ) (old : ℕ → Tier → List ℕ → Type 0) where
  -- what is left where nothing has moved
  pub stays_open : (now : ℕ) (seen seen' : Tier → List ℕ) (new : ℕ → Tier → List ℕ → Type 0) → Unmoved before now seen seen' old new
      → ((content : Tier → List ℕ) → Left old before content → OpensAs g s content) → ((content : Tier → List ℕ) → Left old before content → Loose g s (store_of content)) → StaysOrDigests g s x n before now old new
  stays_open now seen seen' new still opens loose = record {
    later = (let clock = still.clock in omega (arith, clock));
    past = still.past;
    kept = still.kept;
    any_moment = λ m content lo hi l.
        let clock = still.clock in
        let same : m ≡ before = omega (arith, clock, lo, hi) in
        let at : Left old before content = subst (λ (k : ℕ). Left old k content) same (λ t. still.past m t (content t) (omega (arith, same)) (l t)) in
        record { volume = (opens content at).volume; store = inl (opens content at, loose content at) };
  }

  -- what a change leaves behind a test
  pub digests_open : (mid now : ℕ) (seen seen' : Tier → List ℕ) (between new : ℕ → Tier → List ℕ → Type 0) (cs : Changes) (v : Marks) (m : Mark) → Unmoved before mid seen seen' old between
      → ((new_store : Store) → IsAppliedStore g s cs (marks_after v x.client m) new_store → IsDigested g s x n new_store)
      → StaysOrChanges g s cs (marks_after v x.client m) mid now between new → StaysOrDigests g s x n before now old new
  digests_open mid now seen seen' between new cs v m still done changes = record {
    later = (let clock = still.clock in let later = changes.later in omega (arith, clock, later));
    past = λ k t c le l. (let clock = still.clock in still.past k t c le (changes.past k t c (omega (arith, clock, le)) l));
    kept = λ k t c le l. (let clock = still.clock in changes.kept k t c (omega (arith, clock, le)) (still.kept k t c le l));
    any_moment = λ k content lo hi l.
        let clock = still.clock in
        let at = changes.any_moment k content (omega (arith, clock, lo)) hi l in
        record { volume = at.volume; store = elim (at.store) [ inl same ↦ inl same | inr applied ↦ inr (done (store_of content) applied) ] };
  }

-- ---- what is answered

told_fault : (e : AreaError) (r : DigestError) → IsDigestError e r → r ≡ errors.DeviceFault → e ≡ area.DeviceFault
told_fault area.DeviceFault r told is = refl
told_fault (area.Damaged what block) r told is = absurd told
told_fault area.NoBlock r told is = absurd told
told_fault area.NotMapped r told is = absurd told
told_fault area.Memory r told is = cc

told_other : (e : AreaError) (r : DigestError) → IsDigestError e r → r ≢ errors.DeviceFault → e ≢ area.DeviceFault
told_other area.DeviceFault r told other is = other told
told_other (area.Damaged what block) r told other is = told
told_other area.NoBlock r told other is = told
told_other area.NotMapped r told other is = told
told_other area.Memory r told other is = cc

err_is : {T : Type 0} (r : Result T DigestError) (e f : DigestError) → r ≡ Err e → r ≡ Err f → e ≡ f
err_is r e f one two = cc

area_err_is : {T : Type 0} (r : Result T AreaError) (e f : AreaError) → r ≡ Err e → r ≡ Err f → e ≡ f
area_err_is r e f one two = cc

fault_told : (e : AreaError) (r : DigestError) → IsDigestError e r → e ≡ area.DeviceFault → r ≡ errors.DeviceFault
fault_told area.DeviceFault r told is = told
fault_told (area.Damaged what block) r told is = absurd told
fault_told area.NoBlock r told is = absurd told
fault_told area.NotMapped r told is = absurd told
fault_told area.Memory r told is = cc

module _ {M : Type 0} (device : Ghosts M) where
  -- the change behind a test, with the mark behind it
  module _ {P : Type 0} (x : SealedView) (c : Chunk) (sealed : IsSealed x) (some : HasUndigested x) (is : IsChunkOf x c) (next : is_next x c ≡ true) (old mid : JournalView M) (p : P) (cs : Changes) (told : cs ≡ chunk_change (graph old.geometry (disk device old)) c) (m : Mark) (looks : Looks device old mid (Ok p))
      (at : StandsAtMark x (disk device old)) (good : AreGood x.held old.geometry.units (graph old.geometry (disk device old)) (take c.count (undone x))) (moved : m ≡ mark_then x c.count) where
    its_digest : (v : Marks) (new : Store) → marks (disk device old) ≡ Some v → IsAppliedStore old.geometry (disk device old) cs (marks_after v x.client m) new → IsDigested old.geometry (disk device old) x c.count new
    its_digest v new was applied =
        let s : Store = disk device old in
        digested x c sealed some is next old.geometry s cs told good v new was (stood_at x s v was at) (subst (λ (k : Mark). IsAppliedStore old.geometry s cs (marks_after v x.client k) new) moved applied)

    -- what the change with the mark of this client has made
    abbrev Made : Store → ℕ → Type 0
    Made new client = (v : Marks) × (marks (disk device mid) ≡ Some v) × IsAppliedStore mid.geometry (disk device mid) cs (marks_after v client m) new

    pub digested_at : (client : ℕ) (new : Store) → client ≡ x.client → Made new client → IsDigested old.geometry (disk device old) x c.count new
    digested_at client new own by =
        let made = subst (Made new) own by in
        its_digest made.0 new (carried_back device (λ h s. marks s ≡ Some made.0) old mid (Ok p) looks made.1)
        (carried_back device (λ h s. IsAppliedStore h s cs (marks_after made.0 x.client m) new) old mid (Ok p) looks made.2)

    -- the log stands at the mark again
    abbrev Fits : ℕ → Type 0
    Fits client = (v : Marks) × (marks (disk device mid) ≡ Some v) × (fits_marks (marks_after v client m) ≡ true)

    pub stands_at : (client done : ℕ) (new : Store) → client ≡ x.client → done ≡ x.done + c.count → Fits client → Made new client → StandsAtMark (done_to done x) new
    stands_at client done new own to fits by =
        let made = subst (Made new) own by in
        let fit = subst Fits own fits in
        let same : fit.0 ≡ made.0 = some_is (marks (disk device mid)) fit.0 made.0 fit.1 made.1 in
        stands_behind x done made.0 m new sealed.client (moved ∙ ap (λ k. mark_after x.generation k (length x.records)) (sym to))
        (subst (λ (v : Marks). fits_marks (marks_after v x.client m) ≡ true) same fit.2) made.2.new_marks

    abbrev ChangesBy : ℕ → (ℕ → Tier → List ℕ → Type 0) → ℕ → Type 0
    ChangesBy now new client = (v : Marks) × (marks (disk device mid) ≡ Some v) × StaysOrChanges mid.geometry (disk device mid) cs (marks_after v client m) (device.moment mid.media) now (device.left mid.media) new

    pub digests_at : (client now : ℕ) (new : ℕ → Tier → List ℕ → Type 0) → client ≡ x.client → ChangesBy now new client → StaysOrDigests old.geometry (disk device old) x c.count (device.moment old.media) now (device.left old.media) new
    digests_at client now new own by =
        let changes = subst (ChangesBy now new) own by in
        let g = old.geometry in
        let s : Store = disk device old in
        let v = changes.0 in
        let was = carried_back device (λ h t. marks t ≡ Some v) old mid (Ok p) looks changes.1 in
        digests_open x g s c.count (device.moment old.media) (device.left old.media) (device.moment mid.media) now (device.seen old.media) (device.seen mid.media) (device.left mid.media) new cs v m looks.unmoved
        (λ store applied. its_digest v store was applied)
        (carried_back device (λ h t. StaysOrChanges h t cs (marks_after v x.client m) (device.moment mid.media) now (device.left mid.media) new) old mid (Ok p) looks changes.2)

  -- the test was refused
  pub test_refused : {P T : Type 0} (old new : JournalView M) (e : AreaError) (r : DigestError) → Looks {T = P} device old new (Err e) → IsDigestError e r → DigestsOrStays {T = T} device old new (Err r)
  test_refused {P = P} {T = T} old new e r looks told = record {
    unmoved = λ other. looks.unmoved;
    geometry = looks.geometry;
    more_faults = looks.more_faults;
    one_fault = looks.one_fault;
    quiet = tt;
    going = tt;
    quiet_refused = λ other. looks.quiet_refused (told_other e r told other);
    stays_failed = λ was. (let s = looks.stays_failed was in (ap Err (fault_told e r told (area_err_is {T = P} (Err e) e area.DeviceFault refl s.0)), s.1));
    fault = λ is. looks.fault (told_fault e r told (err_is {T = T} (Err r) r errors.DeviceFault refl is));
  }

  -- a record is bad
  pub test_bad : {P T : Type 0} (old new : JournalView M) (plan : P) (r : DigestError) → Looks device old new (Ok plan) → r ≢ errors.DeviceFault → DigestsOrStays {T = T} device old new (Err r)
  test_bad {T = T} old new plan r looks other = record {
    unmoved = λ _. looks.unmoved;
    geometry = looks.geometry;
    more_faults = looks.more_faults;
    one_fault = looks.one_fault;
    quiet = tt;
    going = tt;
    quiet_refused = λ _. (looks.quiet, looks.going.0, looks.going.1);
    stays_failed = λ was. absurd (true≢false (sym was ∙ looks.going.0));
    fault = λ is. absurd (other (err_is {T = T} (Err r) r errors.DeviceFault refl is));
  }

  -- the change was made
  pub test_done : {P T : Type 0} (old mid new : JournalView M) (plan : P) (x : T) → Looks device old mid (Ok plan) → AppliesOrStays device mid new (Ok tt) → DigestsOrStays device old new (Ok x)
  test_done old mid new plan x looks applies = record {
    unmoved = tt;
    geometry = applies.geometry ∙ looks.geometry;
    more_faults = (let a = looks.more_faults in let b = applies.more_faults in omega (arith, a, b));
    one_fault = (let a = looks.quiet in let b = applies.one_fault in omega (arith, a, b));
    quiet = applies.quiet ∙ looks.quiet;
    going = (looks.going.0, applies.going.1);
    quiet_refused = tt;
    stays_failed = λ was. absurd (true≢false (sym was ∙ looks.going.0));
    fault = λ is. cc;
  }

  -- it was refused
  pub change_refused : {P T : Type 0} (old mid new : JournalView M) (plan : P) (e : AreaError) (r : DigestError) → Looks device old mid (Ok plan) → AppliesOrStays device mid new (Err e) → IsDigestError e r
      → DigestsOrStays {T = T} device old new (Err r)
  change_refused {T = T} old mid new plan e r looks applies told = record {
    unmoved = λ other. unmoved_on looks.unmoved (applies.unmoved (told_other e r told other));
    geometry = applies.geometry ∙ looks.geometry;
    more_faults = (let a = looks.more_faults in let b = applies.more_faults in omega (arith, a, b));
    one_fault = (let a = looks.quiet in let b = applies.one_fault in omega (arith, a, b));
    quiet = tt;
    going = tt;
    quiet_refused = λ other. (let q = applies.quiet_refused (told_other e r told other) in (q.0 ∙ looks.quiet, looks.going.0, q.2));
    stays_failed = λ was. absurd (true≢false (sym was ∙ looks.going.0));
    fault = λ is. (let f = applies.fault (ap Err (told_fault e r told (err_is {T = T} (Err r) r errors.DeviceFault refl is))) in
        (f.0, elim (f.1) [ inl was ↦ absurd (true≢false (sym was ∙ looks.going.1)) | inr rose ↦ inr (subst (λ (k : ℕ). Rose k (device.faults new.media)) looks.quiet rose) ]));
  }

  -- the change makes few calls, behind what was only read
  pub few_looked : {P : Type 0} (old mid new : JournalView M) (p : P) (cs : Changes) → Looks device old mid (Ok p) → MakesFewCalls mid.geometry (disk device mid) cs (device.moment mid.media) (device.moment new.media) (device.left mid.media) (device.left new.media)
      → MakesFewCalls old.geometry (disk device old) cs (device.moment old.media) (device.moment new.media) (device.left old.media) (device.left new.media)
  few_looked old mid new p cs looks few = carried_back device (λ h t. MakesFewCalls h t cs (device.moment old.media) (device.moment new.media) (device.left old.media) (device.left new.media)) old mid (Ok p) looks
      (few_behind mid.geometry (disk device mid) cs (device.moment old.media) (device.moment mid.media) (device.moment new.media) (device.left old.media) (device.left mid.media) (device.left new.media) looks.unmoved.clock looks.unmoved.past few)
