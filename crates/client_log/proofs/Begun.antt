-- The region that is written, while a record is begun in it.
use Rattle.std.proofs.Common.{◌≡◌, ◌≢◌, ◌⊎◌, ◌<◌, ◌+◌, inl, inr, ℕ, Bool, true, false, cond, List, [], ◌∷◌, ◌++◌, take, refl, sym, ◌∙◌, ap, subst}
use Rattle.std.specs.Prelude.{Ok, Err, IfSome, Option, Some, None, is_some, length}
use Rattle.std.proofs.lemmas.Bool.{cases_Bool, cond-true, true≢false}
use Rattle.tier_device.specs.declared.media.Media.{Ghosts}
use Rattle.tier_device.specs.declared.media.Tier.{Tier}
use Rattle.tier_device.specs.declared.media.Tier.TheVariants.{Fast}
use Rattle.update_log.specs.log_record.declared.format.Record.{Record}
use Rattle.update_log.specs.log_record.Grammar.{record_bytes}
use Rattle.update_log.specs.Frames.{before_gate, end_behind, header, spelled_records, with_record}
use Rattle.update_log.specs.Stage.{IsAppending, IsIdle, next, progress}
use Rattle.update_log.specs.declared.stage.Progress.TheVariants.{Appended}
use Rattle.update_log.specs.declared.stage.Stage.{Stage}
use Rattle.update_log.specs.declared.format.TheConstants.{REGION_SIZE}
use Rattle.update_log.specs.View.{RegionView, header_of, records_of}
use Rattle.update_log.specs.Wipe.{IsWiping}
use Rattle.update_log.specs.WipeStops.{generation}
use Rattle.update_log.specs.declared.stage.Stage.TheVariants as stages
use Rattle.client_log.specs.Regions.{IsWritten, is_pending}
use Rattle.client_log.specs.Turns.{Turn, place_of, record_appended, turn_of}
use Rattle.client_log.specs.View.{LogView}
use Rattle.client_log.proofs.Sound.{IsSoundLog, if_some}
use Rattle.client_log.proofs.Within.{less_within, one_more_within, within_same}

pub not_refused : {A E : Type 0} (x : A) (e : E) → Ok x ≡ Err e → ⊥
not_refused x e is = cc

-- a device call that ends an append leaves the region at rest
last_rests : (s : Stage) → progress s ≡ Appended → next s ≡ stages.Resting
last_rests stages.Opened is = refl
last_rests stages.Resting is = refl
last_rests stages.Foreign is = absurd (cc)
last_rests stages.Begun is = absurd (cc)
last_rests stages.Written is = absurd (cc)
last_rests stages.Kept is = absurd (cc)
last_rests stages.Failed is = absurd (cc)
last_rests stages.Closing is = absurd (cc)
last_rests stages.Closed is = absurd (cc)
last_rests stages.Naming is = absurd (cc)
last_rests stages.WipeFailed is = absurd (cc)

module _ {M : Type 0} (device : Ghosts M) where
  -- a record is begun only in a region that is wiped to its generation
  pub begun_ready : (v : LogView M) → IsSoundLog device v → is_some v.current.begun ≡ true → v.ready ≡ true
  begun_ready v s some = elim (cases_Bool v.ready) [
    | inl e ↦ e
    | inr e ↦ absurd (true≢false (sym some ∙ ap is_some (s.stale e).nothing))
  ]

  -- a device failed in its append
  pub step_failed : (g : ℕ) (old new : RegionView M) → IsWritten device false g old → new.stage ≡ stages.Failed → header_of device new ≡ header_of device old
      → is_some old.begun ≡ true → (new.stage ≢ stages.Resting → (records_of device new ≡ records_of device old) × (new.begun ≡ old.begun)) → IsWritten device true g new
  step_failed g old new w to head some same = record {
    names = ap generation head ∙ w.names;
    settled = λ wiping. subst IsWiping to wiping;
    going = λ e. absurd (true≢false e);
    pending = ap is_some (same (λ e. rests_not (sym to ∙ e))).1 ∙ some ∙ sym (ap is_pending to);
    within = let s = same (λ e. rests_not (sym to ∙ e)) in within_same device old new s.0 s.1 w.within;
  }
    where
      rests_not : stages.Failed ≡ stages.Resting → ⊥
      rests_not e = cc

  -- its append was settled: the record is there, or not
  pub settled_written : (failed : Bool) (g : ℕ) (old new : RegionView M) → IsWritten device failed g old → new.stage ≡ stages.Resting → new.begun ≡ None → header_of device new ≡ header_of device old
      → (records_of device new ≡ with_record (records_of device old) old.begun) ⊎ (records_of device new ≡ records_of device old) → IsWritten device failed g new
  settled_written failed g old new w to none head which = record {
    names = ap generation head ∙ w.names;
    settled = λ wiping. subst IsWiping to wiping;
    going = λ e. inl to;
    pending = ap is_some none ∙ sym (ap is_pending to);
    within = subst (λ (b : Option Record). end_behind (with_record (records_of device new) b) < REGION_SIZE) (sym none) (elim which [
      | inl more ↦ subst (λ (l : List Record). end_behind l < REGION_SIZE) (sym more) w.within
      | inr same ↦ subst (λ (l : List Record). end_behind l < REGION_SIZE) (sym same) (less_within (records_of device old) old.begun w.within)
    ]);
  }

  -- a record is begun that fits
  pub begun_written : (failed : Bool) (g : ℕ) (old new : RegionView M) (r : Record) → IsWritten device failed g old → new.media ≡ old.media → new.end ≡ old.end → new.stage ≡ stages.Begun → new.begun ≡ Some r
      → (REGION_SIZE < end_behind (records_of device old) + 5 + length (record_bytes r) + 1 → ⊥) → IsWritten device failed g new
  begun_written failed g old new r w media end to is fits =
      let head : header_of device new ≡ header_of device old = (λ i. header (take (end i) (device.seen (media i) Fast))) in
      let same : records_of device new ≡ records_of device old = (λ i. spelled_records (before_gate (take (end i) (device.seen (media i) Fast)))) in
      record {
        names = ap generation head ∙ w.names;
        settled = λ wiping. subst IsWiping to wiping;
        going = λ e. inr (subst IsAppending (sym to) tt);
        pending = ap is_some is ∙ sym (ap is_pending to);
        within =
            subst (λ (b : Option Record). end_behind (with_record (records_of device new) b) < REGION_SIZE) (sym is)
            (subst (λ (l : List Record). end_behind (with_record l (Some r)) < REGION_SIZE) (sym same) (one_more_within (records_of device old) r fits));
      }

  -- the last device call of an append: the begun record is one of those of the turn then, and nothing is begun
  pub append_ends : (v : LogView M) (new : RegionView M) → IsSoundLog device v → progress v.current.stage ≡ Appended → new.stage ≡ next v.current.stage
      → (new.stage ≡ stages.Resting → records_of device new ≡ with_record (records_of device v.current) v.current.begun) → (IsIdle new.stage → new.begun ≡ None)
      → IfSome v.current.begun (λ r. turn_of device (record v { current = new }) ≡ record_appended (turn_of device v) r)
  append_ends v new s last stage gives none = if_some v.current.begun (λ r. turn_of device (record v { current = new }) ≡ record_appended (turn_of device v) r) appended
    where
      rests : new.stage ≡ stages.Resting
      rests = stage ∙ last_rests v.current.stage last

      turn : List Record → Option Record → Turn
      turn rs o = record { current = rs; other = place_of v.other v.clean; ready = v.ready; begun = o }

      appended : (r : Record) → v.current.begun ≡ Some r → turn_of device (record v { current = new }) ≡ record_appended (turn_of device v) r
      appended r is =
          let ready : v.ready ≡ true = begun_ready v s (ap is_some is) in
          let before = records_of device v.current in
          let one : records_of device new ≡ before ++ r ∷ [] = gives rests ∙ ap (with_record before) is in
          let all : cond v.ready (records_of device new) [] ≡ cond v.ready before [] ++ r ∷ [] =
          cond-true v.ready (records_of device new) [] ready ∙ one ∙ ap (λ (rs : List Record). rs ++ r ∷ []) (sym (cond-true v.ready before [] ready)) in
          let idle : new.begun ≡ None = none (inl rests) in
          ap (λ (rs : List Record). turn rs new.begun) all ∙ ap (λ (o : Option Record). turn (cond v.ready before [] ++ r ∷ []) o) idle
