-- Each device call of a wipe, over any medium.
use Rattle.std.proofs.Common.{◌≡◌, ◌∙◌, ℕ, ◌≤◌, ◌<◌, List, [], ◌∷◌, ◌++◌, length, drop, get_or, inl, inr, sym, ap, subst, arith}
use Rattle.std.specs.Prelude.{◌⊎◌}
use Rattle.byteorder.specs.Endian.{little_bytes}
use Rattle.tier_device.specs.declared.media.Media.{Ghosts}
use Rattle.tier_device.specs.declared.media.Tier.{Tier}
use Rattle.tier_device.specs.declared.media.Tier.TheVariants.{Fast}
use Rattle.tier_device.specs.Media.{overwritten, Tears, Torn}
use Rattle.update_log.specs.declared.stage.Stage.{Stage}
use Rattle.update_log.specs.declared.stage.Stage.TheVariants as stages
use Rattle.update_log.specs.Frames.{header}
use Rattle.update_log.specs.Stage.{IsGateWritten, IsGateKept, IsNameWritten, IsUnwiped}
use Rattle.update_log.specs.WipeStops.{records_behind_gate}
use Rattle.update_log.specs.Wipe.{IsReadyFor, IsDoneWith, LeftInCall, header_wiped}
use Rattle.update_log.proofs.Wiping.{torn_not, zero_shut, closing_left, naming_left, gate_written, gate_kept, name_written, unwiped_gate, unwiped_name, header_named}

module _ {M : Type 0} (device : Ghosts M) (seen_now : (m : M) (t : Tier) → device.left m (device.moment m) t (device.seen m t)) (m m' : M) (size : 16 < length (device.seen m Fast)) where
  abbrev Here : List ℕ → Type 0
  Here c = device.left m (device.moment m) Fast c

  abbrev There : List ℕ → Type 0
  There c = device.left m' (device.moment m') Fast c

  abbrev Fewer : Type 0
  Fewer = (c : List ℕ) → There c → Here c

  -- what is known after the call that leads to a stage, and what besides where it succeeds
  pub record Made (to : Stage) (g : ℕ) (Succeeds : Type 0) : Type 0 where
    pub done : Succeeds → IsDoneWith to (device.seen m' Fast) There
    pub header_is : Succeeds → header (device.seen m' Fast) ≡ header_wiped to g (header (device.seen m Fast))
    pub failed : IsUnwiped (header (device.seen m' Fast)) (device.seen m' Fast) There
    pub after : (c : List ℕ) → There c → LeftInCall to (header (device.seen m Fast)) (records_behind_gate (device.seen m Fast)) c

  -- a fence succeeds
  pub record Fenced : Type 0 where
    pub only : (c : List ℕ) → There c → c ≡ device.seen m Fast
    pub same : device.seen m' Fast ≡ device.seen m Fast

  torn_from : (at n : ℕ) → ((c : List ℕ) → Here c → c ≡ device.seen m Fast) → Tears Fast at n (device.left m (device.moment m)) (device.left m' (device.moment m')) → (c : List ℕ) → There c → Torn at n (device.seen m Fast) c
  torn_from at n rest tears c l = let t = tears.here c l in subst (λ (d : List ℕ). Torn at n d c) (rest t.0 t.1) t.2

  -- the first gate is written closed
  pub close_gate : (to : Stage) (g : ℕ) → to ≡ stages.Closing → IsReadyFor to (device.seen m Fast) Here → Tears Fast 16 1 (device.left m (device.moment m)) (device.left m' (device.moment m')) → Made to g (device.seen m' Fast ≡ overwritten (device.seen m Fast) 16 (0 ∷ []))
  close_gate to g is ready tears =
      let torn = torn_from 16 1 (subst (λ (st : Stage). IsReadyFor st (device.seen m Fast) Here) is ready) tears in
      let here = torn (device.seen m' Fast) (seen_now m' Fast) in
      subst (λ (st : Stage). Made st g (device.seen m' Fast ≡ overwritten (device.seen m Fast) 16 (0 ∷ []))) (sym is) (record {
        done = gate_written (device.seen m Fast) (device.seen m' Fast) There size here torn;
        header_is = λ s. here.before;
        failed = unwiped_gate (device.seen m Fast) (device.seen m' Fast) There size here torn;
        after = λ c l. closing_left (device.seen m Fast) c size (torn c l);
      })

  -- it is fenced
  pub keep_gate : (to : Stage) (g : ℕ) → to ≡ stages.Closed → IsReadyFor to (device.seen m Fast) Here → Fewer → Made to g Fenced
  keep_gate to g is ready fewer =
      let was : IsGateWritten (header (device.seen m Fast)) (device.seen m Fast) Here = subst (λ (st : Stage). IsReadyFor st (device.seen m Fast) Here) is ready in
      let torn : (c : List ℕ) → There c → Torn 16 1 (device.seen m Fast) c = λ c l. was.torn c (fewer c l) in
      let here = torn (device.seen m' Fast) (seen_now m' Fast) in
      subst (λ (st : Stage). Made st g Fenced) (sym is) (record {
        done = λ f. gate_kept (device.seen m Fast) (device.seen m' Fast) There was.shut f.same f.only;
        header_is = λ f. ap header f.same;
        failed = unwiped_gate (device.seen m Fast) (device.seen m' Fast) There size here torn;
        after = λ c l. closing_left (device.seen m Fast) c size (torn c l);
      })

  -- the generation is written
  pub write_name : (to : Stage) (g : ℕ) (name : List ℕ) → to ≡ stages.Naming → length name ≡ 8 → name ≡ little_bytes 8 g → IsReadyFor to (device.seen m Fast) Here → Tears Fast 0 (length name) (device.left m (device.moment m)) (device.left m' (device.moment m')) → Made to g (device.seen m' Fast ≡ overwritten (device.seen m Fast) 0 name)
  write_name to g name is eight spells ready tears =
      let was : IsGateKept (header (device.seen m Fast)) (device.seen m Fast) Here = subst (λ (st : Stage). IsReadyFor st (device.seen m Fast) Here) is ready in
      let le : 16 ≤ length (device.seen m Fast) = omega (arith, size) in
      let torn : (c : List ℕ) → There c → Torn 0 8 (device.seen m Fast) c = λ c l. subst (λ n. Torn 0 n (device.seen m Fast) c) eight (torn_from 0 (length name) was.rest tears c l) in
      let here = torn (device.seen m' Fast) (seen_now m' Fast) in
      subst (λ (st : Stage). Made st g (device.seen m' Fast ≡ overwritten (device.seen m Fast) 0 name)) (sym is) (record {
        done = λ s. name_written (device.seen m Fast) (device.seen m' Fast) There le was.shut here torn;
        header_is = λ s. ap header s ∙ header_named name (device.seen m Fast) eight ∙ ap (λ (l : List ℕ). l ++ drop 8 (header (device.seen m Fast))) spells;
        failed = unwiped_name (device.seen m Fast) (device.seen m' Fast) There le was.shut here torn;
        after = λ c l. naming_left (device.seen m Fast) c le was.shut (torn c l);
      })

  -- and is fenced
  pub keep_name : (to : Stage) (g : ℕ) → to ≡ stages.Resting → IsReadyFor to (device.seen m Fast) Here → Fewer → Made to g Fenced
  keep_name to g is ready fewer =
      let was : IsNameWritten (header (device.seen m Fast)) (device.seen m Fast) Here = subst (λ (st : Stage). IsReadyFor st (device.seen m Fast) Here) is ready in
      let le : 16 ≤ length (device.seen m Fast) = omega (arith, size) in
      let torn : (c : List ℕ) → There c → Torn 0 8 (device.seen m Fast) c = λ c l. was.torn c (fewer c l) in
      let here = torn (device.seen m' Fast) (seen_now m' Fast) in
      subst (λ (st : Stage). Made st g Fenced) (sym is) (record {
        done = λ f. gate_kept (device.seen m Fast) (device.seen m' Fast) There was.shut f.same f.only;
        header_is = λ f. ap header f.same;
        failed = unwiped_name (device.seen m Fast) (device.seen m' Fast) There le was.shut here torn;
        after = λ c l. naming_left (device.seen m Fast) c le was.shut (torn c l);
      })

-- ---- before the first call

-- a region at rest, whose first gate's byte was read
pub rest_left : (to : Stage) (seen c : List ℕ) → 16 < length seen → (to ≡ stages.Closing) ⊎ ((to ≡ stages.Naming) × (get_or seen 16 0 ≡ 0)) → c ≡ seen → LeftInCall to (header seen) (records_behind_gate seen) c
rest_left to seen c lt (inl is) same =
    subst (λ (st : Stage). LeftInCall st (header seen) (records_behind_gate seen) c) (sym is) (closing_left seen c lt (subst (λ (d : List ℕ). Torn 16 1 seen d) (sym same) (torn_not seen)))
rest_left to seen c lt (inr (is, zero')) same =
    subst (λ (st : Stage). LeftInCall st (header seen) (records_behind_gate seen) c) (sym is)
    (naming_left seen c (omega (arith, lt)) (zero_shut seen lt zero') (subst (λ (d : List ℕ). Torn 0 8 seen d) (sym same) (torn_not seen)))
