-- What is played and what is recovered meet in the contents: what a list leaves is what a recovery takes, and it stores the tree that the recovery gives.
use Rattle.std.proofs.Common.{◌≡◌, ◌+◌, List, ap, sym, ◌∙◌, subst}
use Rattle.std.specs.Prelude.{take, Result, Ok, Err, IfOk, IfErr}
use Rattle.tier_device.specs.declared.media.Media.{Ghosts}
use Rattle.area_recovery.specs.recovery_laws.Contents.{CanRecover, stored_state}
use Rattle.interleavings.specs.system_laws.News.{news}
use Rattle.interleavings.specs.system_laws.Steps.{recoverable}
use Rattle.interleavings.specs.system_laws.WorldTree.{world_tree}
use Rattle.interleavings.specs.system_laws.WorldView.{WorldView, calls_of}
use Rattle.interleavings.specs.event_lists.Courses.{AreMade, Ledger, WorldContent, ledger}
use Rattle.interleavings.specs.event_lists.Plays.{Leads, Plays}
use Rattle.interleavings.specs.event_steps.declared.event.Event.{Event}
use Rattle.interleavings.specs.event_steps.declared.outcome.Outcome.{Outcome}
use Rattle.interleavings.specs.layout.Places.{Sizes}
use Rattle.posix_calls.specs.Outcome.{IsOutcome}
use Rattle.posix_calls.specs.Tree.{State}
use Rattle.area_recovery.specs.declared.error.RecoveryError.{RecoveryError}
use Rattle.area_recovery.specs.FaultOrMemory.{IsFaultOrMemory}
use Rattle.area_recovery.specs.Parts.{PartsView, contents_of, part_medium}
use Rattle.area_recovery.specs.RecoveryStops.{StoresTree}
use Rattle.recovery.specs.Survival.{Answers, SurvivesAs, Survives}
use Rattle.area_recovery.proofs.Staying.{one_geometry}

module _ {M N : Type 0} (device : Ghosts M) (other : Ghosts N) (old : WorldView M) (events : List Event) (outcomes : List Outcome) (new : WorldView M) (plays : Plays (recoverable device) old events outcomes new) (stopped : PartsView N) where
  abbrev contents : WorldContent
  contents = contents_of other (part_medium stopped)

  abbrev sizes : Sizes
  sizes = old.system.kernel.area.geometry

  module _ (recovered : Result (WorldView N) (RecoveryError × PartsView N))
      (tree : IfOk recovered (λ w. world_tree other w ≡ stored_state w.system.kernel.area.geometry contents))
      (stores : IfOk recovered (λ w. StoresTree w.system.kernel.area.geometry contents))
      (never : IfErr recovered (λ e. (g : Sizes) → CanRecover g contents → IsFaultOrMemory e.0)) where
    answers : (s : WorldView M) (e : Event) (o : Outcome) (t : WorldView M) → Leads (recoverable device) s e o t → Answers device s e o t
    answers s e o t leads = record { run = leads.run; calls = leads.calls; past = leads.past }

    made : AreMade (Answers device) old events outcomes new plays.states
    made = record {
      count = plays.effects.count;
      from = plays.effects.from;
      to = plays.effects.to;
      each = λ k e o at_e at_o. answers (plays.states k) e o (plays.states (k + 1)) (plays.effects.each k e o at_e at_o);
    }

    -- what is recovered has the tree that the contents store, by the one geometry that they have
    survive : (opening : State) (l : Ledger) → CanRecover sizes contents → IsOutcome opening l.turns l.calls (stored_state sizes contents) → (r : Result (WorldView N) (RecoveryError × PartsView N))
        → IfOk r (λ w. world_tree other w ≡ stored_state w.system.kernel.area.geometry contents) → IfOk r (λ w. StoresTree w.system.kernel.area.geometry contents) → IfErr r (λ e. (g : Sizes) → CanRecover g contents → IsFaultOrMemory e.0)
        → SurvivesAs device other opening l r
    survive opening l can outcome (Ok w) is_tree stored never_other =
        let one = one_geometry sizes w.system.kernel.area.geometry (contents 0) can.volume stored.volume in
        subst (IsOutcome opening l.turns l.calls) (ap (λ (g : Sizes). stored_state g contents) one ∙ sym is_tree) outcome
    survive opening l can outcome (Err e) is_tree stored never_other = never_other sizes can

    pub all_survive : Survives device other old events outcomes new stopped recovered
    all_survive = record {
      run = plays.run;
      states = plays.states;
      made = made;
      course = plays.course;
      survives = λ k low left.
          let stop = plays.stop k contents low left in
          survive (world_tree device old) (ledger news (calls_of old) (take k events) (take k outcomes)) stop.can stop.outcome recovered tree stores never;
    }
