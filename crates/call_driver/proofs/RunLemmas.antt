-- Events that lead from one system to another.
use Rattle.std.proofs.Common.{List, [], ◌∷◌, ◌++◌, refl, subst}
use Rattle.interleavings.specs.event_steps.declared.event.Event.{Event}
use Rattle.interleavings.specs.event_steps.declared.outcome.Outcome.{Outcome}
use Rattle.call_driver.specs.Runs.{IsRun, Leads}

-- no event leads to the same system
pub leads_nowhere : {S : Type 0} (plays : S → Event → Outcome → S → Type 0) (P : Event → Type 0) (s : S) → Leads plays P s s
leads_nowhere plays P s = ([], refl)

-- one event
pub leads_once : {S : Type 0} (plays : S → Event → Outcome → S → Type 0) (P : Event → Type 0) (s : S) (e : Event) (o : Outcome) (t : S) → P e → plays s e o t → Leads plays P s t
leads_once plays P s e o t is played = (e ∷ [], (is, o, t, played, refl))

-- one run behind another
pub run_then : {S : Type 0} (plays : S → Event → Outcome → S → Type 0) (P : Event → Type 0) (s t u : S) (es fs : List Event) → IsRun plays P s es t → IsRun plays P t fs u → IsRun plays P s (es ++ fs) u
run_then plays P s t u [] fs first second = subst (λ x. IsRun plays P x fs u) first second
run_then plays P s t u (e ∷ es) fs (is, o, v, played, first) second = (is, o, v, played, run_then plays P v t u es fs first second)

pub leads_then : {S : Type 0} (plays : S → Event → Outcome → S → Type 0) (P : Event → Type 0) (s t u : S) → Leads plays P s t → Leads plays P t u → Leads plays P s u
leads_then plays P s t u (es, first) (fs, second) = (es ++ fs, run_then plays P s t u es fs first second)

-- the same run, seen as one of events of a wider kind
pub run_wider : {S : Type 0} (plays : S → Event → Outcome → S → Type 0) (P Q : Event → Type 0) → ((e : Event) → P e → Q e) → (s t : S) (es : List Event) → IsRun plays P s es t → IsRun plays Q s es t
run_wider plays P Q wider s t [] run = run
run_wider plays P Q wider s t (e ∷ es) (is, o, u, played, run) = (wider e is, o, u, played, run_wider plays P Q wider u t es run)

pub leads_wider : {S : Type 0} (plays : S → Event → Outcome → S → Type 0) (P Q : Event → Type 0) → ((e : Event) → P e → Q e) → (s t : S) → Leads plays P s t → Leads plays Q s t
leads_wider plays P Q wider s t (es, run) = (es, run_wider plays P Q wider s t es run)

-- one event more
pub leads_more : {S : Type 0} (plays : S → Event → Outcome → S → Type 0) (P : Event → Type 0) (s t : S) (e : Event) (o : Outcome) (u : S) → Leads plays P s t → P e → plays t e o u → Leads plays P s u
leads_more plays P s t e o u run is played = leads_then plays P s t u run (leads_once plays P t e o u is played)

-- one event more, whatever it came to
pub leads_on : {S : Type 0} (plays : S → Event → Outcome → S → Type 0) (P : Event → Type 0) (s t : S) (e : Event) (u : S) → Leads plays P s t → P e → ((o : Outcome) × plays t e o u) → Leads plays P s u
leads_on plays P s t e u run is (o, played) = leads_more plays P s t e o u run is played

-- one event alone, whatever it came to
pub leads_by : {S : Type 0} (plays : S → Event → Outcome → S → Type 0) (P : Event → Type 0) (s : S) (e : Event) (t : S) → P e → ((o : Outcome) × plays s e o t) → Leads plays P s t
leads_by plays P s e t is (o, played) = leads_once plays P s e o t is played
