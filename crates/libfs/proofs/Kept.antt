-- A client stays sound: one lemma for each kind of call.
use Rattle.std.proofs.Common.{◌≡◌, inl, inr, ℕ, zero, suc, ◌+◌, ◌<◌, ◌≤◌, ◌==◌, Bool, true, false, cond, List, [], ◌∷◌, ◌++◌, refl, sym, ◌∙◌, ap, subst, append_assoc, arith}
use Rattle.std.specs.Prelude.{Option, Some, None, IsSome, is_some, not, ◌&&◌}
use Rattle.std.specs.Option.{ForSome}
use Rattle.std.proofs.lemmas.Bool.{true≢false, false≢true, cases_eq, cond-false, ne_eqb}
use Rattle.std.proofs.lemmas.List.Sums.{sum_by-append}
use Rattle.atomic_table.specs.Seated.{TableId}
use Rattle.tier_device.specs.declared.media.Media.{Ghosts}
use Rattle.block_cache.specs.CacheList.{Block}
use Rattle.lease_manager.specs.log_record.declared.format.Record.{Record}
use Rattle.client_log.specs.update_log.Frames.{with_record}
use Rattle.lease_manager.specs.Words.{HasWord}
use Rattle.lease_manager.specs.LeaseCounts.{CountsAs}
use Rattle.lease_manager.specs.Passes.{PassView, client_of, records_of, without_lease}
use Rattle.client_log.specs.Turns.{Turn, turn_of}
use Rattle.client_log.specs.View.{LogView, current_records}
use Rattle.client_view.specs.KnowledgeTables.{Held, copy_at, knows}
use Rattle.client_view.specs.Preparation.{IsPreparedFor}
use Rattle.libfs.specs.declared.begun_record.Begun.{Begun}
use Rattle.libfs.specs.View.{begun_record}
use Rattle.lease_manager.specs.RecordCounts.{Counts, HasNoted, HasUncounted, HasCleaned, is_touched, one_if, touch_count}
use Rattle.client_view.specs.RecordLists.{Kept}
use Rattle.libfs.specs.NewClient.{IsBlank}
use Rattle.libfs.specs.OwnCopies.{AreCopied, number_made}
use Rattle.libfs.specs.RegionSeal.{without_blocks_of}
use Rattle.client_view.specs.KnowledgeChanges.{without_inode}
use Rattle.libfs.specs.Sound.{IsSound}
use Rattle.client_view.specs.declared.own_change.OwnChange.{OwnChange}
use Rattle.client_log.specs.call_effects.Knowledge.{Knowledge}
use Rattle.client_log.specs.call_effects.NodeView.{NodeView}
use Rattle.client_log.proofs.call_effects_lemmas.KnownCopies.{some_after}
use Rattle.client_view.specs.AfterRecord.{is_made, knows_logged, with_made}
use Rattle.client_view.specs.client_plan.declared.outcome.DescriptorChange.{DescriptorChange}
use Rattle.lease_manager.specs.file_graph.declared.effect.Effect.{Effect}
use Rattle.std.proofs.lemmas.List.{append-nil}

-- ---- lists of records

-- how many of two lists' records touch an inode
pub touching_both : (rs ss : List Record) (i : ℕ) → touch_count (rs ++ ss) i ≡ touch_count rs i + touch_count ss i
touching_both rs ss i = sum_by-append (λ (r : Record). one_if (is_touched r.effects i)) rs ss

pub touching_one : (r : Record) (i : ℕ) → touch_count (r ∷ []) i ≡ one_if (is_touched r.effects i)
touching_one r i = none_more (one_if (is_touched r.effects i))
  where
    none_more : (n : ℕ) → 0 + n ≡ n
    none_more n = omega arith

none_some : {X : Type 0} (P : X → Type 0) → ForSome None P
none_some P x is = absurd (cc)

-- the records of one region, and those of the other with the begun one
parted : (rs ss : List Record) (o : Option Record) (i : ℕ) → touch_count (with_record (rs ++ ss) o) i ≡ touch_count rs i + touch_count (with_record ss o) i
parted rs ss None i = touching_both rs ss i
parted rs ss (Some r) i = ap (λ (l : List Record). touch_count l i) (append_assoc rs ss (r ∷ [])) ∙ touching_both rs (ss ++ r ∷ []) i

at_most : (all part rest : ℕ) → all ≡ part + rest → part ≤ all
at_most all part rest is = omega arith

none_of : {A : Type 0} (o : Option A) (b : Bool) → (is_some o && not b) ≡ false → (b ≡ true → ⊥) → o ≡ None
none_of None b idle never = refl
none_of (Some x) true idle never = absurd (never refl)
none_of (Some x) false idle never = absurd (true≢false idle)

-- a change stays prepared for who forgets blocks
still_prepared : (k : Knowledge) (rs : List Record) (c : OwnChange) → IsPreparedFor k c → IsPreparedFor (without_blocks_of k rs) c
still_prepared k rs c p = record { spelled = p.spelled; made = p.made; number = p.number; nodes = p.nodes }

sum_moves : (new old more : ℕ) → new + more ≡ old → (rest : ℕ) → old ≡ more + rest → new ≡ rest
sum_moves new old more is rest all = omega arith

-- with one record more there is one
pub never_none : (rs : List Record) (r : Record) → rs ++ r ∷ [] ≡ [] → ⊥
never_none [] r is = cc
never_none (x ∷ rs) r is = cc

-- ---- copies of what records touch

-- a copy stays one where a node is made
pub known_still : (k : Knowledge) (made : Option ℕ) (i : ℕ) → IsSome (k.copies i) → IsSome ((with_made k made).copies i)
known_still k made i some = elim (is_made made i) as (λ b. IsSome (cond b (Some None) (k.copies i))) [ true ↦ refl | false ↦ some ]

pub put_some : {A : Type 0} (b : Bool) (x : A) (o : Option A) → IsSome o → IsSome (cond b (Some x) o)
put_some true x o some = refl
put_some false x o some = some

-- and where effects are done to it
pub logged_some : (k : Knowledge) (es : List Effect) (made : Option ℕ) (change : Option DescriptorChange) (i : ℕ) → IsSome ((with_made k made).copies i) → IsSome ((knows_logged k es made change).copies i)
logged_some k es made change i some = some_after es (with_made k made).copies i ∙ some

-- fewer records are touched by as many copies
fewer_copied : (few many : List Record) (made : Option ℕ) (k : Knowledge) → ((i : ℕ) → touch_count few i ≤ touch_count many i) → AreCopied many made k → AreCopied few made k
fewer_copied few many made k fewer all i some = all i (omega (arith, fewer i, some))

none_touched : (rs : List Record) (made : Option ℕ) (k : Knowledge) → rs ≡ [] → AreCopied rs made k
none_touched rs made k none i some = let zero : touch_count rs i ≡ 0 = ap (λ (l : List Record). touch_count l i) none in absurd (omega (arith, zero, some))

-- one record more
more_copied : (rs : List Record) (r : Record) (made : Option ℕ) (k : Knowledge) → AreCopied rs None k → ((i : ℕ) → is_touched r.effects i ≡ true → IsSome ((with_made k made).copies i)) → AreCopied (rs ++ r ∷ []) made k
more_copied rs r made k all this i some = elim (is_touched r.effects i) as (λ b. is_touched r.effects i ≡ b → touch_count (rs ++ r ∷ []) i ≡ touch_count rs i + one_if b → IsSome ((with_made k made).copies i)) [
  | true ↦ λ touched count. this i touched
  | false ↦ λ apart count. known_still k made i (all i (omega (arith, count, some)))
] refl (touching_both rs (r ∷ []) i ∙ ap (λ n. touch_count rs i + n) (touching_one r i))

-- what is written is told by the log's turn
pub turn_written : {M : Type 0} (device : Ghosts M) (log : LogView M) (t : Turn) → turn_of device log ≡ t → current_records device log ≡ t.current
turn_written device log t is = ap (λ (x : Turn). x.current) is

pub turn_begun : {M : Type 0} (device : Ghosts M) (log : LogView M) (t : Turn) → turn_of device log ≡ t → log.current.begun ≡ t.begun
turn_begun device log t is = ap (λ (x : Turn). x.begun) is

module _ {M : Type 0} (device : Ghosts M) (leases : TableId) where
  -- a client as it begins
  pub sound_new : (pass : PassView) (log : LogView M) (copies : Held) (kept : Kept) → pass.table ≡ leases → copies.client ≡ client_of pass → IsBlank device log → ((i : ℕ) → HasWord i → records_of pass i ≡ 0) → kept.away ≡ [] → kept.current ≡ []
      → IsSound device leases pass log copies None false kept
  sound_new pass log copies kept table number blank uncounted none empty = record {
    table = table;
    number = number;
    written_is = empty ∙ sym blank.none;
    back = λ here. none;
    begins = sym blank.idle;
    prepared = none_some _;
    room = λ some. absurd (false≢true some);
    counts = λ i w. uncounted i w ∙ sym (ap (λ (l : List Record). touch_count l i) nothing);
    copied = none_touched (kept.away ++ kept.current) None (knows copies) nothing;
    copied_before = none_touched (kept.away ++ kept.current) None (knows copies) nothing;
    failed = λ is. absurd (false≢true is);
  }
    where
      nothing : kept.away ++ kept.current ≡ []
      nothing = ap (λ (l : List Record). l ++ kept.current) none ∙ empty

  module _ (pass : PassView) (log : LogView M) (copies : Held) (begun : Option Begun) (answered : Bool) (kept : Kept) (s : IsSound device leases pass log copies begun answered kept) where
    -- a lease changes, and no count
    pub sound_pass : (new : PassView) → new.table ≡ pass.table → new.part.place ≡ pass.part.place → new.records ≡ pass.records → IsSound device leases new log copies begun answered kept
    sound_pass new table place records = record {
      table = table ∙ s.table;
      number = s.number ∙ sym (ap (λ n. n + 1) place);
      written_is = s.written_is;
      back = s.back;
      begins = s.begins;
      prepared = s.prepared;
      room = s.room;
      counts = λ i w. ap (λ (l : List ℕ). records_of (record pass { records = l }) i) records ∙ s.counts i w;
      copied = s.copied;
      copied_before = s.copied_before;
      failed = s.failed;
    }

    -- what the records that are kept touch there is a copy of
    pub idle_copied : begun ≡ None → AreCopied (kept.away ++ kept.current) None (knows copies)
    idle_copied idle = subst (λ (o : Option Begun). AreCopied (with_record (kept.away ++ kept.current) (begun_record o)) (number_made o) (knows copies)) idle s.copied

    -- so none of the own records touches what there is no copy of
    pub unknown_untouched : begun ≡ None → (i : ℕ) → is_some (copy_at copies.copies i) ≡ false → touch_count (with_record (kept.away ++ kept.current) (begun_record begun)) i ≡ 0
    unknown_untouched idle i unknown = subst (λ (o : Option Begun). touch_count (with_record (kept.away ++ kept.current) (begun_record o)) i ≡ 0) (sym idle) (no_more (touch_count (kept.away ++ kept.current) i) (λ some. false≢true (sym unknown ∙ idle_copied idle i some)))
      where
        no_more : (n : ℕ) → (0 < n → ⊥) → n ≡ 0
        no_more zero none = refl
        no_more (suc n) none = absurd (none (omega arith))

    -- what the client knows changes, where no record is begun, and no copy goes of what its records touch
    pub sound_copies : (new : Held) → begun ≡ None → new.client ≡ copies.client → ((i : ℕ) → 0 < touch_count (kept.away ++ kept.current) i → IsSome (copy_at copies.copies i) → IsSome (copy_at new.copies i)) → IsSound device leases pass log new begun answered kept
    sound_copies new idle client stays = record {
      table = s.table;
      number = client ∙ s.number;
      written_is = s.written_is;
      back = s.back;
      begins = s.begins;
      prepared = λ b is. absurd (not_both b is);
      room = s.room;
      counts = s.counts;
      copied = subst (λ (o : Option Begun). AreCopied (with_record (kept.away ++ kept.current) (begun_record o)) (number_made o) (knows new)) (sym idle) (λ i some. stays i some (idle_copied idle i some));
      copied_before = λ i some. stays i some (s.copied_before i some);
      failed = s.failed;
    }
      where
        not_both : (b : Begun) → begun ≡ Some b → ⊥
        not_both b is = let clash : ◌≡◌ {A = Option Begun} None (Some b) = sym idle ∙ is in cc

    -- its copies stay, where no record is begun
    pub sound_known : (new : Held) → begun ≡ None → new.client ≡ copies.client → new.copies ≡ copies.copies → IsSound device leases pass log new begun answered kept
    sound_known new idle client same = sound_copies new idle client (λ i some copy. subst (λ (cs : List (Option (Option NodeView))). IsSome (copy_at cs i)) (sym same) copy)

    -- the numbers that it was granted change
    pub sound_numbers : (new : Held) (ns : List ℕ) → new ≡ record copies { numbers = ns } → IsSound device leases pass log new begun answered kept
    sound_numbers new ns is = subst (λ (h : Held). IsSound device leases pass log h begun answered kept) (sym is)
        (record {
          table = s.table;
          number = s.number;
          written_is = s.written_is;
          back = s.back;
          begins = s.begins;
          prepared = λ b some. let p = s.prepared b some in record { spelled = p.spelled; made = p.made; number = p.number; nodes = p.nodes };
          room = s.room;
          counts = s.counts;
          copied = s.copied;
          copied_before = s.copied_before;
          failed = s.failed;
        })

    -- the blocks of files that it keeps change
    pub sound_blocks : (new : Held) (bs : List Block) → new ≡ record copies { blocks = bs } → IsSound device leases pass log new begun answered kept
    sound_blocks new bs is = subst (λ (h : Held). IsSound device leases pass log h begun answered kept) (sym is)
        (record {
          table = s.table;
          number = s.number;
          written_is = s.written_is;
          back = s.back;
          begins = s.begins;
          prepared = λ b some. let p = s.prepared b some in record { spelled = p.spelled; made = p.made; number = p.number; nodes = p.nodes };
          room = s.room;
          counts = s.counts;
          copied = s.copied;
          copied_before = s.copied_before;
          failed = s.failed;
        })

    -- a device call that changes no record
    pub sound_log : (new : LogView M) → current_records device new ≡ current_records device log → new.current.begun ≡ log.current.begun → is_some new.other ≡ is_some log.other → (now : Bool) → (now ≡ true → (new.failed ≡ true) × (is_some begun ≡ true))
        → IsSound device leases pass new copies begun now kept
    sound_log new records begins other now failed = record {
      table = s.table;
      number = s.number;
      written_is = s.written_is ∙ sym records;
      back = λ here. s.back (sym other ∙ here);
      begins = s.begins ∙ sym begins;
      prepared = s.prepared;
      room = s.room;
      counts = s.counts;
      copied = s.copied;
      copied_before = s.copied_before;
      failed = failed;
    }

    idle_record : begun ≡ None → begun_record begun ≡ None
    idle_record idle = ap begun_record idle

    -- the records of a client that has begun none
    pub idle_counts : begun ≡ None → Counts pass (kept.away ++ kept.current)
    idle_counts idle i w = s.counts i w ∙ ap (λ (o : Option Record). touch_count (with_record (kept.away ++ kept.current) o) i) (idle_record idle)

    -- an answer that a fault gave leaves something begun
    pub idle_unanswered : begun ≡ None → answered ≡ true → ⊥
    idle_unanswered idle is = false≢true (sym (ap is_some idle) ∙ (s.failed is).1)

    -- where no call waits and no device has failed, none is begun
    pub idle_none : (is_some begun && not answered) ≡ false → log.failed ≡ false → begun ≡ None
    idle_none idle going = none_of begun answered idle (λ is. false≢true (sym going ∙ (s.failed is).0))

    -- the records of the region that is away are counted
    pub away_counted : (i : ℕ) → HasWord i → touch_count kept.away i ≤ records_of pass i
    away_counted i w = at_most (records_of pass i) (touch_count kept.away i) (touch_count (with_record kept.current (begun_record begun)) i) (s.counts i w ∙ parted kept.away kept.current (begun_record begun) i)

    -- there is room for a record more, or none, and none is begun
    pub sound_room : (more : Kept) → begun ≡ None → more ≡ record kept { has_room = more.has_room } → IsSound device leases pass log copies begun answered more
    sound_room more idle same = record {
      table = s.table;
      number = s.number;
      written_is = ap (λ (k : Kept). k.current) same ∙ s.written_is;
      back = λ here. ap (λ (k : Kept). k.away) same ∙ s.back here;
      begins = s.begins;
      prepared = s.prepared;
      room = λ some. absurd (false≢true (sym (ap is_some idle) ∙ some));
      counts = λ i w. s.counts i w ∙ sym (ap (λ (k : Kept). touch_count (with_record (k.away ++ k.current) (begun_record begun)) i) same);
      copied = λ i some. s.copied i (subst (λ (k : Kept). 0 < touch_count (with_record (k.away ++ k.current) (begun_record begun)) i) same some);
      copied_before = λ i some. s.copied_before i (subst (λ (k : Kept). 0 < touch_count (k.away ++ k.current) i) same some);
      failed = s.failed;
    }

    -- a record is begun, for which there is room
    pub sound_begun : (noted : PassView) (new : LogView M) (b : Begun) (more : Kept) → begun ≡ None → HasNoted pass b.change.logged.effects noted → new.current.begun ≡ Some b.change.logged → current_records device new ≡ current_records device log → new.other ≡ log.other
        → IsPreparedFor (knows copies) b.change → ((i : ℕ) → is_touched b.change.logged.effects i ≡ true → IsSome ((with_made (knows copies) b.change.made).copies i)) → more ≡ record kept { has_room = more.has_room } → more.has_room ≡ true → IsSound device leases noted new copies (Some b) answered more
    sound_begun noted new b more idle h begins records other prepared known same room = record {
      table = ap (λ (p : PassView). p.table) h.rest ∙ s.table;
      number = s.number ∙ sym (ap (λ (p : PassView). client_of p) h.rest);
      written_is = ap (λ (k : Kept). k.current) same ∙ s.written_is ∙ sym records;
      back = λ here. ap (λ (k : Kept). k.away) same ∙ s.back (sym (ap is_some other) ∙ here);
      begins = sym begins;
      prepared = λ x is. let e : b ≡ x = cc in subst (λ (y : Begun). IsPreparedFor (knows copies) y.change) e prepared;
      room = λ _. room;
      counts = λ i w.
          h.counts i w ∙ ap (λ n. n + one_if (is_touched b.change.logged.effects i)) (idle_counts idle i w)
          ∙ sym (touching_both (more.away ++ more.current) (b.change.logged ∷ []) i ∙ ap (λ n. touch_count (more.away ++ more.current) i + n) (touching_one b.change.logged i) ∙ ap (λ (k : Kept). touch_count (k.away ++ k.current) i + one_if (is_touched b.change.logged.effects i)) same);
      copied = subst (λ (k : Kept). AreCopied ((k.away ++ k.current) ++ b.change.logged ∷ []) b.change.made (knows copies)) (sym same) (more_copied (kept.away ++ kept.current) b.change.logged b.change.made (knows copies) (idle_copied idle) known);
      copied_before = subst (λ (k : Kept). AreCopied (k.away ++ k.current) None (knows copies)) (sym same) s.copied_before;
      failed = λ is. absurd (idle_unanswered idle is);
    }

    -- the record is kept, and the call answered
    pub sound_replied : (new : LogView M) (known : Held) (b : Begun) (more : Kept) → begun ≡ Some b → answered ≡ false → current_records device new ≡ current_records device log ++ b.change.logged ∷ [] → new.current.begun ≡ None → new.other ≡ log.other → knows known ≡ knows_logged (knows copies) b.change.logged.effects b.change.made b.change.descriptor
        → more.current ≡ kept.current ++ b.change.logged ∷ [] → more.away ≡ kept.away → IsSound device leases pass new known None answered more
    sound_replied new known b more pending open_yet records begins other logged pushed away = record {
      table = s.table;
      number = ap (λ (k : Knowledge). k.client) logged ∙ s.number;
      written_is = pushed ∙ ap (λ (l : List Record). l ++ b.change.logged ∷ []) s.written_is ∙ sym records;
      back = λ here. away ∙ s.back (sym (ap is_some other) ∙ here);
      begins = sym begins;
      prepared = none_some _;
      room = λ some. absurd (false≢true some);
      counts = λ i w. s.counts i w ∙ ap (λ (o : Option Begun). touch_count (with_record (kept.away ++ kept.current) (begun_record o)) i) pending ∙ ap (λ (l : List Record). touch_count l i) (sym all);
      copied = λ i some.
          subst (λ (k : Knowledge). IsSome (k.copies i)) (sym logged) (logged_some (knows copies) b.change.logged.effects b.change.made b.change.descriptor i
          (subst (λ (o : Option Begun). AreCopied (with_record (kept.away ++ kept.current) (begun_record o)) (number_made o) (knows copies)) pending s.copied i (subst (λ (l : List Record). 0 < touch_count l i) all some)));
      copied_before = λ i some.
          subst (λ (k : Knowledge). IsSome (k.copies i)) (sym logged) (logged_some (knows copies) b.change.logged.effects b.change.made b.change.descriptor i
          (subst (λ (o : Option Begun). AreCopied (with_record (kept.away ++ kept.current) (begun_record o)) (number_made o) (knows copies)) pending s.copied i (subst (λ (l : List Record). 0 < touch_count l i) all some)));
      failed = λ is. absurd (false≢true (sym open_yet ∙ is));
    }
      where
        all : more.away ++ more.current ≡ (kept.away ++ kept.current) ++ b.change.logged ∷ []
        all = ap (λ (l : List Record). l ++ more.current) away ∙ ap (λ (l : List Record). kept.away ++ l) pushed ∙ sym (append_assoc kept.away kept.current (b.change.logged ∷ []))

    -- the current region is handed over
    pub sound_sealed : (new : LogView M) (gone : Kept) → begun ≡ None → is_some log.other ≡ true → current_records device new ≡ [] → new.current.begun ≡ None → new.other ≡ None → gone.away ≡ kept.current → gone.current ≡ [] → IsSound device leases pass new copies begun answered gone
    sound_sealed new gone idle here records begins other is_gone is_empty = record {
      table = s.table;
      number = s.number;
      written_is = is_empty ∙ sym records;
      back = λ back. absurd (false≢true (sym (ap is_some other) ∙ back));
      begins = idle_record idle ∙ sym begins;
      prepared = s.prepared;
      room = λ some. absurd (false≢true (sym (ap is_some idle) ∙ some));
      counts = λ i w.
          idle_counts idle i w ∙ ap (λ (l : List Record). touch_count l i) (sym all)
          ∙ sym (ap (λ (o : Option Record). touch_count (with_record (gone.away ++ gone.current) o) i) (idle_record idle));
      copied = subst (λ (o : Option Begun). AreCopied (with_record (gone.away ++ gone.current) (begun_record o)) (number_made o) (knows copies)) (sym idle) (subst (λ (l : List Record). AreCopied l None (knows copies)) (sym all) (idle_copied idle));
      copied_before = subst (λ (l : List Record). AreCopied l None (knows copies)) (sym all) s.copied_before;
      failed = λ is. absurd (idle_unanswered idle is);
    }
      where
        all : gone.away ++ gone.current ≡ kept.away ++ kept.current
        all =
            ap (λ (l : List Record). l ++ gone.current) is_gone ∙ ap (λ (l : List Record). kept.current ++ l) is_empty
            ∙ append-nil kept.current ∙ sym (ap (λ (l : List Record). l ++ kept.current) (s.back here))

    -- the region that was away is back
    pub sound_back : (cleaned : PassView) (new : LogView M) (known : Held) (none : Kept) → HasCleaned pass kept.away cleaned → current_records device new ≡ current_records device log → new.current.begun ≡ log.current.begun → new.failed ≡ log.failed → knows known ≡ without_blocks_of (knows copies) kept.away → none ≡ record kept { away = [] }
        → IsSound device leases cleaned new known begun answered none
    sound_back cleaned new known none h records begins fails is_known is_none = record {
      table = ap (λ (p : PassView). p.table) h.rest ∙ s.table;
      number = ap (λ (k : Knowledge). k.client) is_known ∙ s.number ∙ sym (ap (λ (p : PassView). client_of p) h.rest);
      written_is = ap (λ (k : Kept). k.current) is_none ∙ s.written_is ∙ sym records;
      back = λ here. ap (λ (k : Kept). k.away) is_none;
      begins = s.begins ∙ sym begins;
      prepared = λ b is. subst (λ (k : Knowledge). IsPreparedFor k b.change) (sym is_known) (still_prepared (knows copies) kept.away b.change (s.prepared b is));
      room = λ some. ap (λ (k : Kept). k.has_room) is_none ∙ s.room some;
      counts = λ i w.
          sum_moves (records_of cleaned i) (records_of pass i) (touch_count kept.away i) (h.counts i w) (touch_count (with_record kept.current (begun_record begun)) i) (s.counts i w ∙ parted kept.away kept.current (begun_record begun) i)
          ∙ sym (ap (λ (k : Kept). touch_count (with_record (k.away ++ k.current) (begun_record begun)) i) is_none);
      copied = subst (λ (k : Knowledge). AreCopied (with_record (none.away ++ none.current) (begun_record begun)) (number_made begun) k) (sym is_known)
          (subst (λ (k : Kept). AreCopied (with_record (k.away ++ k.current) (begun_record begun)) (number_made begun) (without_blocks_of (knows copies) kept.away)) (sym is_none)
          (fewer_copied (with_record kept.current (begun_record begun)) (with_record (kept.away ++ kept.current) (begun_record begun)) (number_made begun) (knows copies) (λ i. less (touch_count (with_record (kept.away ++ kept.current) (begun_record begun)) i) (touch_count kept.away i) (touch_count (with_record kept.current (begun_record begun)) i) (parted kept.away kept.current (begun_record begun) i)) s.copied));
      copied_before = subst (λ (k : Knowledge). AreCopied (none.away ++ none.current) None k) (sym is_known)
          (subst (λ (k : Kept). AreCopied (k.away ++ k.current) None (without_blocks_of (knows copies) kept.away)) (sym is_none)
          (fewer_copied kept.current (kept.away ++ kept.current) None (knows copies) (λ i. less (touch_count (kept.away ++ kept.current) i) (touch_count kept.away i) (touch_count kept.current i) (touching_both kept.away kept.current i)) s.copied_before));
      failed = λ is. (fails ∙ (s.failed is).0, (s.failed is).1);
    }
      where
        less : (all part rest : ℕ) → all ≡ part + rest → rest ≤ all
        less all part rest is = omega arith

    -- a lease is given back, and what was known of its inode is forgotten
    pub sound_given : (i : ℕ) (new : PassView) (known : Held) → HasWord i → records_of pass i ≡ 0 → (is_some begun && not answered) ≡ false → log.failed ≡ false → new ≡ without_lease pass i → knows known ≡ without_inode (knows copies) i → IsSound device leases new log known begun answered kept
    sound_given i new known word none waits going given forgotten =
        let idle = idle_none waits going in
        sound_pass_of (sound_copies known idle (ap (λ (k : Knowledge). k.client) forgotten) (λ j some copy. subst (λ (k : Knowledge). IsSome (k.copies j)) (sym forgotten) (elim (cases_eq j i) [
          | inl same ↦ let zero : touch_count (kept.away ++ kept.current) j ≡ 0 = ap (touch_count (kept.away ++ kept.current)) same ∙ sym (idle_counts idle i word) ∙ none in absurd (omega (arith, zero, some))
          | inr other ↦ subst IsSome (sym (cond-false (j == i) None (copy_at copies.copies j) (ne_eqb j i other))) copy
        ])))
      where
        sound_pass_of : IsSound device leases pass log known begun answered kept → IsSound device leases new log known begun answered kept
        sound_pass_of is = record {
          table = ap (λ (p : PassView). p.table) given ∙ is.table;
          number = is.number ∙ sym (ap (λ (p : PassView). client_of p) given);
          written_is = is.written_is;
          back = is.back;
          begins = is.begins;
          prepared = is.prepared;
          room = is.room;
          counts = λ j w. ap (λ (p : PassView). records_of p j) given ∙ is.counts j w;
          copied = is.copied;
          copied_before = is.copied_before;
          failed = is.failed;
        }

    -- the begun record is dropped, and nothing is open any more
    pub sound_dropped : (cleaned : PassView) (new : LogView M) (known : Held) (b : Begun) → begun ≡ Some b → HasUncounted pass b.change.logged.effects cleaned → current_records device new ≡ current_records device log → new.current.begun ≡ None → is_some new.other ≡ is_some log.other
        → known.client ≡ copies.client → known.copies ≡ copies.copies → IsSound device leases cleaned new known None false kept
    sound_dropped cleaned new known b pending h records begins other client same = record {
      table = ap (λ (p : PassView). p.table) h.rest ∙ s.table;
      number = client ∙ s.number ∙ sym (ap (λ (p : PassView). client_of p) h.rest);
      written_is = s.written_is ∙ sym records;
      back = λ here. s.back (sym other ∙ here);
      begins = sym begins;
      prepared = none_some _;
      room = λ some. absurd (false≢true some);
      counts = λ i w.
          let fewer : records_of cleaned i + one_if (is_touched b.change.logged.effects i) ≡ records_of pass i = h.counts i w in
          let all : records_of pass i ≡ touch_count (kept.away ++ kept.current) i + one_if (is_touched b.change.logged.effects i) =
          s.counts i w ∙ ap (λ (o : Option Begun). touch_count (with_record (kept.away ++ kept.current) (begun_record o)) i) pending
          ∙ touching_both (kept.away ++ kept.current) (b.change.logged ∷ []) i ∙ ap (λ n. touch_count (kept.away ++ kept.current) i + n) (touching_one b.change.logged i) in
          omega (arith, fewer, all);
      copied = λ i some. subst (λ (cs : List (Option (Option NodeView))). IsSome (copy_at cs i)) (sym same) (s.copied_before i some);
      copied_before = λ i some. subst (λ (cs : List (Option (Option NodeView))). IsSome (copy_at cs i)) (sym same) (s.copied_before i some);
      failed = λ is. absurd (false≢true is);
    }

  -- all leases are given and all is forgotten, where none of its records is undigested
  pub sound_emptied : (pass : PassView) (log : LogView M) (copies : Held) (begun : Option Begun) (answered : Bool) (kept : Kept) → IsSound device leases pass log copies begun answered kept → (given : PassView) (new : Held) → with_record (kept.away ++ kept.current) (begun_record begun) ≡ []
      → CountsAs pass given → new.client ≡ copies.client → IsSound device leases given log new begun false kept
  sound_emptied pass log copies (Some b) answered kept s given new none same client = absurd (never_none (kept.away ++ kept.current) b.change.logged none)
  sound_emptied pass log copies None answered kept s given new none same client = record {
    table = same.table ∙ s.table;
    number = client ∙ s.number ∙ sym (ap (λ n. n + 1) same.place);
    written_is = s.written_is;
    back = s.back;
    begins = s.begins;
    prepared = none_some _;
    room = λ some. absurd (false≢true some);
    counts = λ i w. ap (λ (l : List ℕ). records_of (record pass { records = l }) i) same.records ∙ s.counts i w;
    copied = none_touched (kept.away ++ kept.current) None (knows new) none;
    copied_before = none_touched (kept.away ++ kept.current) None (knows new) none;
    failed = λ is. absurd (false≢true is);
  }
