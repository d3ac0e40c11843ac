-- One event, by what its calls ensure one after the other.
use Rattle.std.proofs.Common.{◌≡◌, ◌≢◌, List, Option, subst, sym}
use Rattle.tier_device.specs.declared.media.Media.{Ghosts}
use Rattle.posix_calls.specs.declared.call.Call.{Call}
use Rattle.system_laws.specs.event_steps.Effects.{Carries, Plays}
use Rattle.system_laws.specs.event_steps.Turns.{CanPlay}
use Rattle.system_laws.specs.event_steps.View.{SystemView}
use Rattle.system_laws.specs.event_steps.declared.event.Event.{Event}
use Rattle.system_laws.specs.event_steps.declared.outcome.Outcome.{Outcome}
use Rattle.system_laws.specs.event_steps.declared.outcome.Outcome.TheVariants as outcomes
use Rattle.system_laws.specs.event_steps.declared.outcome.Refusal.TheVariants as refusals
use Rattle.system_laws.specs.Leaves.{HasMetIn, HoldRecords, IsSettledIn, SystemLeaves}
use Rattle.system_laws.specs.KeptCalls.{calls_then}
use Rattle.system_laws.specs.Relation.{IsWorld}
use Rattle.system_laws.specs.Steps.{IsBegunIn, IsStep, MakesOrStays}
use Rattle.system_laws.specs.WorldView.{WorldView}

module _ {M : Type 0} (device : Ghosts M) where
  -- every event that is played is a step
  abbrev pub EachIsAStep : Type 0
  EachIsAStep = (v : WorldView M) (e : Event) (o : Outcome) (new : SystemView M) → IsBegunIn device v new → Carries (CanPlay device v.system e) (Plays device v.system e o new) (new ≡ v.system) o → HasMetIn e new → IsSettledIn e v.system
      → IsStep device v e o (record { system = new; calls = calls_then v.calls e o })

  -- and none is refused for a bad log
  abbrev pub NoneIsBad : Type 0
  NoneIsBad = (v : WorldView M) (e : Event) (o : Outcome) (new : SystemView M) → IsBegunIn device v new → Carries (CanPlay device v.system e) (Plays device v.system e o new) (new ≡ v.system) o → o ≢ outcomes.Refused refusals.BadLog

  -- The system s was played on, which made p of it; clients met, which left it so, as n; and the calls are those behind the event.
  pub one_event : EachIsAStep → NoneIsBad → (old : WorldView M) (s p n : SystemView M) (calls then : List (Option Call)) (e : Event) (o : Outcome)
      → ◌≡◌ {A = WorldView M} (record { system = s; calls = calls }) old → IsWorld device (record { system = s; calls = calls })
      → SystemLeaves device s → HoldRecords device s → SystemLeaves device n
      → (o ≡ outcomes.Idle → (CanPlay device s e → ⊥) × (p ≡ s)) → (o ≢ outcomes.Idle → CanPlay device s e) → (CanPlay device s e → Plays device s e o p)
      → n ≡ p → HasMetIn e p → IsSettledIn e s → then ≡ calls_then calls e o
      → IsStep device old e o (record { system = n; calls = then }) × MakesOrStays device old e o (record { system = n; calls = then })
  one_event law never old s p n calls then e o is stands leaves holds leaves_then idle turn plays same met settled noted =
      let v : WorldView M = record { system = s; calls = calls } in
      let made : Carries (CanPlay device s e) (Plays device s e o p) (p ≡ s) o = record { idle = idle; turn = turn; made = plays } in
      let carries : Carries (CanPlay device s e) (Plays device s e o n) (n ≡ s) o = subst (λ (x : SystemView M). Carries (CanPlay device s e) (Plays device s e o x) (x ≡ s) o) (sym same) made in
      let begun : IsBegunIn device v n = record { stands = stands; holds = holds; leaves = leaves; leaves_then = leaves_then } in
      let step : IsStep device v e o (record { system = n; calls = calls_then calls e o }) = law v e o n begun carries (subst (λ (x : SystemView M). HasMetIn e x) (sym same) met) settled in
      let new : WorldView M = record { system = n; calls = then } in (
        subst (λ (w : WorldView M). IsStep device w e o new) is (subst (λ (cs : List (Option Call)). IsStep device v e o (record { system = n; calls = cs })) (sym noted) step),
        subst (λ (w : WorldView M). MakesOrStays device w e o new) is (record { carries = carries; never_bad = never v e o n begun carries }),
      )
