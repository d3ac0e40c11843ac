-- What a client has left as it is emptied.
use Rattle.std.proofs.Common.{◌≡◌, ℕ, ◌+◌, Bool, true, List, [], ◌∷◌, ◌++◌, length, refl, sym, ◌∙◌, ap}
use Rattle.std.specs.Prelude.{Option, Some, None, is_some}
use Rattle.std.proofs.lemmas.Bool.{false≢true}
use Rattle.std.proofs.lemmas.List.{length-append}
use Rattle.atomic_table.specs.Seated.{TableId}
use Rattle.tier_device.specs.declared.media.Media.{Ghosts}
use Rattle.client_log.specs.update_log.Frames.{with_record}
use Rattle.client_log.specs.View.{LogView, current_records}
use Rattle.client_view.specs.KnowledgeTables.{Held}
use Rattle.client_view.specs.RecordLists.{Kept}
use Rattle.lease_manager.specs.log_record.declared.format.Record.{Record}
use Rattle.lease_manager.specs.Passes.{PassView, records_of}
use Rattle.lease_manager.specs.RecordCounts.{touch_count}
use Rattle.lease_manager.specs.Words.{HasWord}
use Rattle.libfs.specs.declared.begun_record.Begun.{Begun}
use Rattle.client_log.specs.call_effects.Knowledge.{Knowledge}
use Rattle.libfs.specs.ClientEnd.{IsEmptied}
use Rattle.libfs.specs.NewClient.{IsNew}
use Rattle.libfs.specs.Sound.{IsSound}
use Rattle.libfs.specs.View.{ClientView, begun_record}

module _ {M : Type 0} (device : Ghosts M) (leases : TableId) (pass : PassView) (log : LogView M) (copies : Held) (begun : Option Begun) (answered : Bool) (kept : Kept) (s : IsSound device leases pass log copies begun answered kept) where
  -- its records by the log are those that it keeps
  pub none_kept : with_record (kept.away ++ current_records device log) (begun_record begun) ≡ [] → with_record (kept.away ++ kept.current) (begun_record begun) ≡ []
  none_kept none = ap (λ (l : List Record). with_record (kept.away ++ l) (begun_record begun)) s.written_is ∙ none

  -- so its pass counts none
  pub none_counted : with_record (kept.away ++ current_records device log) (begun_record begun) ≡ [] → (i : ℕ) → HasWord i → records_of pass i ≡ 0
  none_counted none i w = s.counts i w ∙ ap (λ (l : List Record). touch_count l i) (none_kept none)

-- where no record is begun in the log no call is
pub none_begun : (begun : Option Begun) → begun_record begun ≡ None → begun ≡ None
none_begun None is = refl
none_begun (Some b) is = absurd (cc)

-- with no record kept and none begun it has none
pub nothing_left : (away current : List Record) (begun : Option Begun) → away ≡ [] → current ≡ [] → begun ≡ None → with_record (away ++ current) (begun_record begun) ≡ []
nothing_left away current begun none empty idle = ap (λ (o : Option Begun). with_record (away ++ current) (begun_record o)) idle ∙ ap (λ (l : List Record). l ++ current) none ∙ empty

-- the begun one is one more
pub own_one : (away current : List Record) (begun : Option Begun) → is_some begun ≡ true → length (with_record (away ++ current) (begun_record begun)) ≡ length away + length current + 1
own_one away current None some = absurd (false≢true some)
own_one away current (Some b) some = length-append (away ++ current) (b.change.logged ∷ []) ∙ ap (λ n. n + 1) (length-append away current)

pub own_same : (away current : List Record) (begun : Option Begun) → begun ≡ None → length (with_record (away ++ current) (begun_record begun)) ≡ length away + length current
own_same away current begun idle = ap (λ (o : Option Begun). length (with_record (away ++ current) (begun_record o))) idle ∙ length-append away current

pub none_of_them : (rs : List Record) → length rs ≡ 0 → rs ≡ []
none_of_them [] is = refl
none_of_them (r ∷ rs) is = absurd (cc)

-- who is emptied is a new client of the pass and the log
pub emptied_is_new : {M : Type 0} (old new : ClientView M) → IsEmptied old new → old.begun ≡ None → old.sealed ≡ [] → IsNew new.pass old.log new
emptied_is_new {M} old new is idle none = record {
  pass_is = refl;
  log_is = ap (λ (v : ClientView M). v.log) is.rest;
  client = ap (λ (k : Knowledge). k.client) is.knows_then ∙ sym (ap (λ n. n + 1) is.counts.place);
  own = λ number. ap (λ (k : Knowledge). k.own number) is.knows_then;
  copies = λ i. ap (λ (k : Knowledge). k.copies i) is.knows_then;
  blocks = λ i b. ap (λ (k : Knowledge). k.blocks i b) is.knows_then;
  granted = λ i. ap (λ (k : Knowledge). k.granted i) is.knows_then;
  pins = ap (λ (v : ClientView M). v.pins) is.rest;
  spare = ap (λ (v : ClientView M). v.spare) is.rest;
  begun = ap (λ (v : ClientView M). v.begun) is.rest ∙ idle;
  answered = ap (λ (v : ClientView M). v.answered) is.rest;
  sealed = ap (λ (v : ClientView M). v.sealed) is.rest ∙ none;
}
