-- Each device call of an append, over any medium.
use Rattle.std.proofs.Common.{◌≡◌, ◌∙◌, ℕ, ◌+◌, ◌≤◌, List, [], ◌∷◌, ◌++◌, length, take, sym, subst, arith}
use Rattle.std.specs.Prelude.{Result, Ok, Err, OnOk, OnErr}
use Rattle.tier_device.specs.declared.media.Media.{Ghosts}
use Rattle.tier_device.specs.declared.media.Tier.{Tier}
use Rattle.tier_device.specs.declared.media.Tier.TheVariants.{Fast}
use Rattle.tier_device.specs.Media.{overwritten, Puts, Tears}
use Rattle.update_log.specs.declared.stage.Stage.{Stage}
use Rattle.update_log.specs.declared.stage.Stage.TheVariants as stages
use Rattle.update_log.specs.Stage.{FitsItsStage, IsUnopened, IsShut, BeforeOrAfter, payload_in}
use Rattle.update_log.specs.Calls.{HasMoved, HasFailed, seen_after}
use Rattle.update_log.proofs.Moves.{either, fails, stands_of, unopened_appends, size1, either1, written, size2, kept, size3, either3, opened, size4, appended}

pub on_err : {T E P : Type 0} (r : Result T E) → P → OnErr r P
on_err (Ok x) p = tt
on_err (Err e) p = p

pub on_ok_both : {T E P Q R : Type 0} (r : Result T E) → (P → Q → R) → OnOk r P → OnOk r Q → OnOk r R
on_ok_both (Ok x) f p q = f p q
on_ok_both (Err e) f p q = tt

module _ {M : Type 0} (device : Ghosts M) (seen_now : (m : M) (t : Tier) → device.left m (device.moment m) t (device.seen m t)) (sized : (m : M) (k : ℕ) (t : Tier) (c : List ℕ) → k ≤ device.moment m → device.left m k t c → length c ≡ length (device.seen m t)) (end : ℕ) (body : List ℕ) (m m' : M) where
  abbrev Here : List ℕ → Type 0
  Here c = device.left m (device.moment m) Fast c

  abbrev There : List ℕ → Type 0
  There c = device.left m' (device.moment m') Fast c

  abbrev Each : (List ℕ → Type 0) → Type 0
  Each Left = (c : List ℕ) → Left c → BeforeOrAfter (take end (device.seen m Fast)) (payload_in body) c

  -- what is known after a call, and what besides where it succeeds
  pub record Outcome (stage : Stage) (Succeeds : Type 0) : Type 0 where
    pub done : Succeeds → HasMoved end stage body (device.seen m Fast) (device.seen m' Fast) There
    pub failed : HasFailed end body (device.seen m Fast) (device.seen m' Fast) There
    pub before : Each Here
    pub after : Each There

  long : (c : List ℕ) → Here c → length c ≡ length (device.seen m Fast)
  long c l = sized m (device.moment m) Fast c (omega arith) l

  abbrev Fewer : Type 0
  Fewer = (c : List ℕ) → There c → Here c

  -- a fence succeeds
  pub record Fenced : Type 0 where
    pub only : (c : List ℕ) → There c → c ≡ device.seen m Fast
    pub same : device.seen m' Fast ≡ device.seen m Fast

  pub write_body : (stage : Stage) → stage ≡ stages.Begun → FitsItsStage end stage body (device.seen m Fast) Here → Tears Fast (end + 1) (length body) (device.left m (device.moment m)) (device.left m' (device.moment m')) → Outcome stage (device.seen m' Fast ≡ overwritten (device.seen m Fast) (end + 1) body)
  write_body stage is sound tears =
      let now = seen_now m Fast in
      let now' = seen_now m' Fast in
      let s = subst (λ (st : Stage). FitsItsStage end st body (device.seen m Fast) Here) is sound in
      let after = either1 end body (device.seen m Fast) Here long now (device.seen m' Fast) There now' tears.here s in
      subst (λ (st : Stage). Outcome st (device.seen m' Fast ≡ overwritten (device.seen m Fast) (end + 1) body)) (sym is) (record {
        done = written end body (device.seen m Fast) Here long now (device.seen m' Fast) There now' tears.here s;
        failed = fails end body (device.seen m Fast) Here long now (device.seen m' Fast) There now' stages.Begun s (size1 end body (device.seen m Fast) Here long now (device.seen m' Fast) There now' tears.here s) after;
        before = either end body (device.seen m Fast) Here stages.Begun tt s;
        after = after;
      })

  pub fence_body : (stage : Stage) → stage ≡ stages.Written → FitsItsStage end stage body (device.seen m Fast) Here → Fewer → Outcome stage Fenced
  fence_body stage is sound fewer =
      let now = seen_now m Fast in
      let now' = seen_now m' Fast in
      let s = subst (λ (st : Stage). FitsItsStage end st body (device.seen m Fast) Here) is sound in
      let before = either end body (device.seen m Fast) Here stages.Written tt s in
      let after : Each There = λ c l. before c (fewer c l) in
      subst (λ (st : Stage). Outcome st Fenced) (sym is) (record {
        done = λ f. kept end body (device.seen m Fast) Here long now (device.seen m' Fast) There now' fewer s f.only;
        failed = fails end body (device.seen m Fast) Here long now (device.seen m' Fast) There now' stages.Written s (size2 end body (device.seen m Fast) Here long now (device.seen m' Fast) There now' fewer s) after;
        before = before;
        after = after;
      })

  pub open_gate : (stage : Stage) → stage ≡ stages.Kept → FitsItsStage end stage body (device.seen m Fast) Here → Tears Fast end 1 (device.left m (device.moment m)) (device.left m' (device.moment m')) → Outcome stage (device.seen m' Fast ≡ overwritten (device.seen m Fast) end (165 ∷ []))
  open_gate stage is sound tears =
      let now = seen_now m Fast in
      let now' = seen_now m' Fast in
      let s = subst (λ (st : Stage). FitsItsStage end st body (device.seen m Fast) Here) is sound in
      let after = either3 end body (device.seen m Fast) Here long now (device.seen m' Fast) There now' tears.here s in
      subst (λ (st : Stage). Outcome st (device.seen m' Fast ≡ overwritten (device.seen m Fast) end (165 ∷ []))) (sym is) (record {
        done = opened end body (device.seen m Fast) Here long now (device.seen m' Fast) There now' tears.here s;
        failed = fails end body (device.seen m Fast) Here long now (device.seen m' Fast) There now' stages.Kept s (size3 end body (device.seen m Fast) Here long now (device.seen m' Fast) There now' tears.here s) after;
        before = either end body (device.seen m Fast) Here stages.Kept tt s;
        after = after;
      })

  pub fence_gate : (stage : Stage) → stage ≡ stages.Opened → FitsItsStage end stage body (device.seen m Fast) Here → Fewer → Outcome stage Fenced
  fence_gate stage is sound fewer =
      let now = seen_now m Fast in
      let now' = seen_now m' Fast in
      let s = subst (λ (st : Stage). FitsItsStage end st body (device.seen m Fast) Here) is sound in
      let before = either end body (device.seen m Fast) Here stages.Opened tt s in
      let after : Each There = λ c l. before c (fewer c l) in
      subst (λ (st : Stage). Outcome st Fenced) (sym is) (record {
        done = λ f. appended end body (device.seen m Fast) Here long now (device.seen m' Fast) There now' fewer s f.only f.same;
        failed = fails end body (device.seen m Fast) Here long now (device.seen m' Fast) There now' stages.Opened s (size4 end body (device.seen m Fast) Here long now (device.seen m' Fast) There now' fewer s) after;
        before = before;
        after = after;
      })

  -- a fence that leaves the gate of a begun record closed
  shut_at : (stage : Stage) → IsUnopened stage → FitsItsStage end stage body (device.seen m Fast) Here → (c : List ℕ) → Here c → IsShut (take end (device.seen m Fast)) c
  shut_at stages.Begun closed sound c l = sound.at_stage.shut c l
  shut_at stages.Written closed sound c l = sound.at_stage.begun.shut c l
  shut_at stages.Kept closed sound c l = let s = sound.at_stage.staged c l in record { gate = s.0; rest = body ++ sound.at_stage.rest; shut = s.1; is = s.2 }
  shut_at stages.Resting closed sound c l = absurd closed
  shut_at stages.Foreign closed sound c l = absurd closed
  shut_at stages.Opened closed sound c l = absurd closed
  shut_at stages.Failed closed sound c l = absurd closed
  shut_at stages.Closing closed sound c l = absurd closed
  shut_at stages.Closed closed sound c l = absurd closed
  shut_at stages.Naming closed sound c l = absurd closed
  shut_at stages.WipeFailed closed sound c l = absurd closed

  module _ (stage : Stage) (closed : IsUnopened stage) (sound : FitsItsStage end stage body (device.seen m Fast) Here) where
    pub closed_before : Each Here
    closed_before = either end body (device.seen m Fast) Here stage (unopened_appends stage closed) sound

    pub closed_after : Fewer → Each There
    closed_after fewer c l = closed_before c (fewer c l)

    pub closed_failed : Fewer → HasFailed end body (device.seen m Fast) (device.seen m' Fast) There
    closed_failed fewer =
        let now' = seen_now m' Fast in
        fails end body (device.seen m Fast) Here long (seen_now m Fast) (device.seen m' Fast) There now' stage sound (long (device.seen m' Fast) (fewer (device.seen m' Fast) now')) (closed_after fewer)

    pub closed_done : Fenced → FitsItsStage end stages.Resting body (device.seen m' Fast) There
    closed_done f = subst (λ (s : List ℕ). FitsItsStage end stages.Resting body s There) (sym f.same) (record {
      size = sound.size;
      within = sound.within;
      at_stage = record { stands = stands_of end stage body (device.seen m Fast) Here sound; shut = shut_at stage closed sound (device.seen m Fast) (seen_now m Fast); rest = f.only };
      record_begun = tt;
    })

-- what a read gives of the tiers after a call of a stage
pub shown : {M : Type 0} (device : Ghosts M) (end : ℕ) (body : List ℕ) (m m' : M) (stage at : Stage) → stage ≡ at → Puts Fast (seen_after at end body (device.seen m Fast)) (device.seen m) (device.seen m') → Puts Fast (seen_after stage end body (device.seen m Fast)) (device.seen m) (device.seen m')
shown device end body m m' stage at is puts = subst (λ (st : Stage). Puts Fast (seen_after st end body (device.seen m Fast)) (device.seen m) (device.seen m')) (sym is) puts

pub fenced : {M : Type 0} (device : Ghosts M) (end : ℕ) (body : List ℕ) (m m' : M) (stage at : Stage) → stage ≡ at → seen_after at end body (device.seen m Fast) ≡ device.seen m Fast → ((t : Tier) → device.seen m' t ≡ device.seen m t) → Puts Fast (seen_after stage end body (device.seen m Fast)) (device.seen m) (device.seen m')
fenced device end body m m' stage at is none same = shown device end body m m' stage at is (record { here = same Fast ∙ sym none; others = λ t other. same t })
