use Rattle.std.proofs.Common.{◌≡◌, ◌+◌, ◌-◌, inr, ℕ, List, length, take, Option, Some, refl, ap, sym, ◌∙◌, subst, arith}
use Rattle.std.proofs.lemmas.Bool.{eqb-true}
use Rattle.std.proofs.lemmas.List.{length-drop}
use Rattle.recovery_laws.specs.digester.MarkMoves.{mark_of}
use Rattle.recovery_laws.specs.digester.Plan.{AreGood, IsFirstBad}
use Rattle.recovery_laws.specs.digester.SealedLog.{SealedView, done_to, undone}
use Rattle.recovery_laws.specs.digester.declared.error.DigestError.TheVariants as digests
use Rattle.recovery_laws.specs.layout.Places.{Sizes}
use Rattle.recovery_laws.specs.area_reader.Store.{disk, graph, marks}
use Rattle.recovery_laws.specs.layout.declared.marks.Marks.{Marks}
use Rattle.log_survey.specs.update_log.RecordCounts.{next_generation}
use Rattle.graph_check.specs.log_record.declared.format.Record.{Record}
use Rattle.log_survey.specs.world_invariant.Logs.{after_records}
use Rattle.recovery_laws.specs.Inodes.{HasEveryInode}
use Rattle.area_recovery.specs.DigestedLogs.{HaveRecords, NamesRefused}
use Rattle.area_recovery.proofs.Changing.{still_stays}
use Rattle.area_recovery.proofs.DigestAnswers.{none_left, refused_never, rest_same}
use Rattle.area_recovery.proofs.DigestedContents.{all_done}
use Rattle.area_recovery.proofs.Staying.{recovered_now, stays_on}
use Rattle.area_recovery.proofs.UndigestibleRecords.{all_digest, bad_place, first_refused, named_refused, next_bad, next_goods}
use Rattle.area_recovery.proofs.record_digest.digest_records.Goals as goal

one_of : (o : Option Marks) (a b : Marks) → o ≡ Some a → o ≡ Some b → a ≡ b
one_of o a b one two = cc

pub chunks-init : goal.chunks-init
chunks-init g c =
    let old = c.args.area.now in
    let low = c.requires.some in
    record {
      going = c.requires.going;
      log = refl;
      within = omega (arith, low);
      stays = still_stays g.M.Media g.met.M.Media.seen_now old old (c.left_now.ensures.same c.requires.going) (HaveRecords c.args.log);
      at_mark = c.requires.at_mark;
      rest = refl;
      others = λ v w d are its is off. ap (λ (u : Marks). mark_of u d) (one_of (marks (disk g.M.Media old)) w v its are);
      geometry = refl;
      risen = omega arith;
      goods = λ good. good;
      bads = λ k bad. subst (IsFirstBad c.args.log.held old.geometry.units (graph old.geometry (disk g.M.Media old)) (undone c.args.log)) (omega arith) bad;
      quiet = refl;
    }

pub chunks-preserved : goal.chunks-preserved
chunks-preserved g c =
    let m = g.M.Media in
    let first = c.args.log in
    let x = c.chunks.log in
    let y = c.digest_next.new.log in
    let old = c.args.area.now in
    let mid = c.chunks.area in
    let new = c.digest_next.new.area in
    let i = c.chunks.invariant in
    let e = c.in-Ok.ensures in
    let d = e.digested in
    let done : y.done ≡ x.done + d.count = ap (λ (z : SealedView). z.done) d.log in
    let same : length x.records ≡ length first.records = ap (λ (z : SealedView). length z.records) i.log in
    let u = old.geometry.units in
    let units : mid.geometry.units ≡ u = ap (λ (z : Sizes). z.units) i.geometry in
    let held : x.held ≡ first.held = ap (λ (z : SealedView). z.held) i.log in
    let good_too : AreGood x.held u (graph mid.geometry (disk m mid)) (take d.count (undone x)) = subst (λ (n : ℕ). AreGood x.held n (graph mid.geometry (disk m mid)) (take d.count (undone x))) units d.good in
    let on_goods = λ (h : AreGood x.held u (graph new.geometry (disk m new)) (undone y) → AreGood x.held u (graph mid.geometry (disk m mid)) (undone x)).
    subst (λ (hs : List ℕ). AreGood hs u (graph new.geometry (disk m new)) (undone y) → AreGood hs u (graph mid.geometry (disk m mid)) (undone x)) held h in
    let on_bad = λ (h : (k : ℕ) → IsFirstBad x.held u (graph new.geometry (disk m new)) (undone y) k → IsFirstBad x.held u (graph mid.geometry (disk m mid)) (undone x) (d.count + k)).
    subst (λ (hs : List ℕ). (k : ℕ) → IsFirstBad hs u (graph new.geometry (disk m new)) (undone y) k → IsFirstBad hs u (graph mid.geometry (disk m mid)) (undone x) (d.count + k)) held h in
    record {
      going = e.answers.going.1;
      log = d.log ∙ ap (done_to (x.done + d.count)) i.log ∙ ap (λ (k : ℕ). done_to k first) (sym done);
      within = (let le = d.within in omega (arith, done, same, le));
      stays = stays_on m g.met.M.Media.seen_now (HaveRecords first) (HaveRecords x) old.media mid.media new.media (λ regions has. subst (λ (z : SealedView). HaveRecords z regions) (sym i.log) has) i.stays e.any_moment;
      at_mark = e.at_mark;
      rest =
          ap (λ (z : SealedView). after_records (graph new.geometry (disk m new)) (undone z)) d.log
          ∙ rest_same x d.count (graph mid.geometry (disk m mid)) (graph new.geometry (disk m new)) d.graph_after
          ∙ i.rest;
      others = λ v w k are its is off.
          ap (λ (u : Marks). mark_of u k) (one_of (marks (disk m new)) w d.moves.after its d.moves.is)
          ∙ d.moves.others i.at_mark.0 k i.at_mark.1 is (λ here. off (here ∙ ap (λ (z : SealedView). z.client) i.log))
          ∙ i.others v i.at_mark.0 k are i.at_mark.1 is off;
      geometry = e.answers.geometry ∙ i.geometry;
      risen = (let low = i.risen in omega (arith, low, done));
      goods = λ good. i.goods (on_goods (next_goods x y d.count u (graph mid.geometry (disk m mid)) (graph new.geometry (disk m new)) d.log d.within d.graph_after good_too) good);
      bads = λ k bad.
          let low = i.risen in
          let more : x.done - first.done + (d.count + k) ≡ y.done - first.done + k = omega (arith, low, done) in
          subst (IsFirstBad first.held u (graph old.geometry (disk m old)) (undone first)) more (i.bads (d.count + k) (on_bad (next_bad x y d.count u (graph mid.geometry (disk m mid)) (graph new.geometry (disk m new)) d.log d.within d.graph_after good_too) k bad));
      quiet = e.answers.quiet ∙ i.quiet;
    }

pub returns-in-Err-clause-any_moment : goal.returns-in-Err-clause-any_moment
returns-in-Err-clause-any_moment g c =
    let i = c.chunks.invariant in
    stays_on g.M.Media g.met.M.Media.seen_now (HaveRecords c.args.log) (HaveRecords c.chunks.log) c.args.area.now.media c.chunks.area.media c.digest_next.new.area.media
    (λ regions has. subst (λ (z : SealedView). HaveRecords z regions) (sym i.log) has) i.stays c.in-Err.ensures.any_moment

pub returns-in-Err-clause-never : goal.returns-in-Err-clause-never
returns-in-Err-clause-never g c =
    let i = c.chunks.invariant in
    λ sizes regions state has r. refused_never c.client-client.result c.in-Err.error c.refusal.result c.refusal.ensures.kind
    (c.in-Err.ensures.never (subst (λ (z : SealedView). HasEveryInode z.held) (sym i.log) c.requires.every) sizes regions state (subst (λ (z : SealedView). HaveRecords z regions) (sym i.log) has)
    (recovered_now g.M.Media g.met.M.Media.seen_now (HaveRecords c.args.log) c.args.area.now.media c.chunks.area.media i.stays sizes regions state has r))

pub returns-clause-digested : goal.returns-clause-digested
returns-clause-digested g c =
    let m = g.M.Media in
    let first = c.args.log in
    let x = c.chunks.log in
    let old = c.args.area.now in
    let new = c.chunks.area in
    let i = c.chunks.invariant in
    let all : x.done ≡ length x.records = eqb-true x.done (length x.records) (sym c.is_digested.ensures.exact ∙ c.chunks-test.false) in
    let low = c.requires.some in
    record {
      graph_after = sym (ap (after_records (graph new.geometry (disk m new))) (none_left x all)) ∙ i.rest;
      moves = inr (
        λ none. (let zero_long = ap (λ (rs : List Record). length rs) none in let long = length-drop first.done first.records in absurd (omega (arith, zero_long, long, low))),
        record {
          after = i.at_mark.0;
          is = i.at_mark.1;
          own = sym (ap (λ (z : SealedView). mark_of i.at_mark.0 z.client) i.log) ∙ i.at_mark.2 ∙ all_done x.generation x.done (length x.records) all ∙ ap (λ (z : SealedView). record { generation = next_generation z.generation; done = 0 }) i.log;
          others = λ v k are is off. i.others v i.at_mark.0 k are i.at_mark.1 is off;
        },
      );
    }

pub returns-in-Err-clause-bad : goal.returns-in-Err-clause-bad
returns-in-Err-clause-bad g c =
    let m = g.M.Media in
    let first = c.args.log in
    let x = c.chunks.log in
    let old = c.args.area.now in
    let mid = c.chunks.area in
    let i = c.chunks.invariant in
    let u = old.geometry.units in
    let units : mid.geometry.units ≡ u = ap (λ (z : Sizes). z.units) i.geometry in
    let held : x.held ≡ first.held = ap (λ (z : SealedView). z.held) i.log in
    let low = i.risen in
    subst (λ (n : ℕ). NamesRefused n c.args.before u (graph old.geometry (disk m old)) (undone first) c.refusal.result) c.client-client.ensures
    (named_refused c.client-client.result c.args.before first.done u (graph old.geometry (disk m old)) (undone first) c.in-Err.error c.refusal.result c.refusal.ensures.kind
    (λ k is few. c.refusal.ensures.place k (is ∙ ap (λ (n : ℕ). digests.BadLog (n + k)) (sym c.digested_count-from.ensures)) few)
    (λ place is.
    let bad = bad_place mid.geometry (disk m mid) x c.in-Err.error c.in-Err.ensures.bad place is in
    let at = bad.1 in (
      x.done - first.done + bad.0,
      omega (arith, at, low),
      first_refused first.held c.requires.every u (graph old.geometry (disk m old)) (undone first) (x.done - first.done + bad.0)
          (i.bads bad.0 (subst (λ (hs : List ℕ). IsFirstBad hs u (graph mid.geometry (disk m mid)) (undone x) bad.0) held (subst (λ (n : ℕ). IsFirstBad x.held n (graph mid.geometry (disk m mid)) (undone x) bad.0) units bad.2))),
    )))

pub returns-clause-good : goal.returns-clause-good
returns-clause-good g c =
    let m = g.M.Media in
    let first = c.args.log in
    let x = c.chunks.log in
    let old = c.args.area.now in
    let new = c.chunks.area in
    let i = c.chunks.invariant in
    let all : x.done ≡ length x.records = eqb-true x.done (length x.records) (sym c.is_digested.ensures.exact ∙ c.chunks-test.false) in
    all_digest first.held old.geometry.units (graph old.geometry (disk m old)) (undone first) (i.goods (subst (AreGood first.held old.geometry.units (graph new.geometry (disk m new))) (sym (none_left x all)) tt))
