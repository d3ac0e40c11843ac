-- What a client finds by what it knows is what the whole comes to, in every whole that agrees.
use Rattle.std.specs.Prelude.{IsSome, is_some}
use Rattle.std.proofs.Common.{◌≡◌, ℕ, List, Ok, Err, Result, cond, ap, sym, ◌∙◌, subst}
use Rattle.posix_calls.specs.Tree.{Own, Descriptors, with_own}
use Rattle.posix_calls.specs.Query.{run}
use Rattle.posix_calls.specs.Part.{Known, Unknown, run_part}
use Rattle.posix_calls.specs.declared.operation.Missing.{Missing}
use Rattle.posix_calls.specs.declared.operation.Missing.TheVariants as missing
use Rattle.posix_calls.specs.Decide.{decide}
use Rattle.posix_calls.specs.Operations.{Step, reply_of, own_after}
use Rattle.posix_calls.specs.declared.operation.Operation.{Operation}
use Rattle.posix_calls.specs.declared.errno.Errno.{Errno}
use Rattle.posix_calls.specs.declared.errno.Errno.TheVariants as errno
use Rattle.posix_calls.specs.declared.call.Call.{Call}
use Rattle.posix_calls.specs.declared.call.Reply.TheVariants as reply
use Rattle.posix_calls.proofs.Parts.{known_is_run}
use Rattle.log_record.specs.file_graph.Graph.{Graph, after_effects}
use Rattle.log_record.specs.file_graph.declared.effect.Effect.{Effect}
use Rattle.call_effects.specs.Calls.{answer_over}
use Rattle.call_effects.specs.Effects.{effects_of}
use Rattle.call_effects.specs.Records.{effects_asked, growth_asked}
use Rattle.call_effects.specs.Wholes.{IsSound, state_of, graph_view, reachable_graph}
use Rattle.call_effects.specs.Fits.{OperationFits}
use Rattle.call_effects.specs.Knowledge.{Knowledge, Agrees, IsPlanned, part_of, stored_view}
use Rattle.call_effects.proofs.Changes.{IsFair, fair_of}
use Rattle.call_effects.proofs.Steps.{answer_fits, call_done, call_sound, call_refused}
use Rattle.call_effects.proofs.KnownGone.{Stays, MissingOf, QueryKept, call_asks_kept, no_call_meets, stored_alike, missing_kept}
use Rattle.call_effects.proofs.KnownTold.{part_is}
use Rattle.call_effects.proofs.KnownEffects.{effects_are, query_effects, query_growth}

pub answer_known : (k : Knowledge) (g : Graph) (d : Descriptors) (c : Call) (r : Result Operation Errno) → IsSound g d → Agrees k g d → run_part (part_of k) (decide k.own c) ≡ Known r → answer_over g d k.client c ≡ r
answer_known k g d c r sound agrees known =
    let fair = fair_of g d sound in
    let own_is : d k.client ≡ k.own = λ t n. agrees.own n t in
    ap (λ b. cond b (run (graph_view g d) (decide (d k.client) c)) (Err errno.Invalid)) agrees.client
    ∙ no_call_meets g agrees.back d k.client c fair agrees.put_back
    ∙ ap (λ own. run (stored_view agrees.back) (decide own c)) own_is
    ∙ known_is_run (part_of k) (stored_view agrees.back) (part_is k g d fair agrees) (decide k.own c) r known

pub effects_known : (k : Knowledge) (g : Graph) (d : Descriptors) (own : Own) (new : ℕ) (operation : Operation) (es : List Effect) → IsSound g d → Agrees k g d → OperationFits g d own operation → run_part (part_of k) (effects_asked new operation) ≡ Known (Ok es) → effects_of g new operation ≡ es
effects_known k g d own new operation es sound agrees fits known =
    let fair = fair_of g d sound in
    let by_part = known_is_run (part_of k) (stored_view agrees.back) (part_is k g d fair agrees) (effects_asked new operation) (Ok es) known in
    let same : Ok (effects_of g new operation) ≡ Ok es = sym (effects_are g d own new operation fits) ∙ stored_alike g d fair agrees.back agrees.put_back (effects_asked new operation) (query_effects g d own fair new operation fits) ∙ by_part in
    cc

pub growth_known : (k : Knowledge) (g : Graph) (d : Descriptors) (own : Own) (operation : Operation) (units : ℕ) → IsSound g d → Agrees k g d → OperationFits g d own operation → run_part (part_of k) (growth_asked operation) ≡ Known (Ok units) → run (graph_view g d) (growth_asked operation) ≡ Ok units
growth_known k g d own operation units sound agrees fits known =
    let fair = fair_of g d sound in
    stored_alike g d fair agrees.back agrees.put_back (growth_asked operation) (query_growth g d own fair operation fits)
    ∙ known_is_run (part_of k) (stored_view agrees.back) (part_is k g d fair agrees) (growth_asked operation) (Ok units) known

-- what is planned is what comes, with its effects
pub planned_answer : (k : Knowledge) (g : Graph) (d : Descriptors) (c : Call) (new : ℕ) (operation : Operation) (es : List Effect) → IsSound g d → Agrees k g d → IsPlanned k c new operation es → (answer_over g d k.client c ≡ Ok operation) × (effects_of g new operation ≡ es)
planned_answer k g d c new operation es sound agrees plan =
    let answer = answer_known k g d c (Ok operation) sound agrees plan.comes in
    (answer, effects_known k g d (d k.client) new operation es sound agrees (answer_fits g d k.client c operation sound answer) plan.effects)

module _ (k : Knowledge) (g : Graph) (d : Descriptors) (sound : IsSound g d) (agrees : Agrees k g d) where
  own_is : d k.client ≡ k.own
  own_is = λ t n. agrees.own n t

  pub planned_step : (c : Call) (new : ℕ) (operation : Operation) (es : List Effect) → IsPlanned k c new operation es → Step (state_of g d) k.client c (reply_of operation) (state_of (after_effects g es) (with_own d k.client (own_after new k.own operation)))
  planned_step c new operation es plan =
      let a = planned_answer k g d c new operation es sound agrees plan in
      let step = call_done g d k.client new c operation sound a.0 (λ m. agrees.granted new (plan.number m)) in
      subst (λ own. Step (state_of g d) k.client c (reply_of operation) (state_of (after_effects g es) (with_own d k.client (own_after new own operation)))) own_is
      (subst (λ es. Step (state_of g d) k.client c (reply_of operation) (state_of (after_effects g es) (with_own d k.client (own_after new (d k.client) operation)))) a.1 step)

  pub planned_sound : (c : Call) (new : ℕ) (operation : Operation) (es : List Effect) → IsPlanned k c new operation es → IsSound (after_effects g es) (with_own d k.client (own_after new k.own operation))
  planned_sound c new operation es plan =
      let a = planned_answer k g d c new operation es sound agrees plan in
      let sound_after = call_sound g d k.client new c operation sound a.0 (λ m. agrees.granted new (plan.number m)) in
      subst (λ own. IsSound (after_effects g es) (with_own d k.client (own_after new own operation))) own_is
      (subst (λ es. IsSound (after_effects g es) (with_own d k.client (own_after new (d k.client) operation))) a.1 sound_after)

  pub refused_step : (c : Call) (e : Errno) → run_part (part_of k) (decide k.own c) ≡ Known (Err e) → Step (state_of g d) k.client c (reply.Failed e) (state_of g d)
  refused_step c e known = call_refused g d k.client c e sound (answer_known k g d c (Err e) sound agrees known)

-- ---- what is missing

some_kept : (g : Graph) (d : Descriptors) (fair : IsFair g d) (i : ℕ) → Stays g d fair i → IsSome (reachable_graph g d i)
some_kept g d fair i stays = ap is_some stays.kept

-- what a call asks of next is of something that is kept
pub call_missing_of : (k : Knowledge) (g : Graph) (d : Descriptors) (c : Call) (what : Missing) (sound : IsSound g d) → Agrees k g d → run_part (part_of k) (decide k.own c) ≡ Unknown what → MissingOf (Stays g d (fair_of g d sound)) what
call_missing_of k g d c what sound agrees e =
    let fair = fair_of g d sound in
    let own_is : d k.client ≡ k.own = λ t n. agrees.own n t in
    missing_kept g d fair agrees.back agrees.put_back (part_of k) (decide k.own c) what (part_is k g d fair agrees) (subst (λ (own : Own). QueryKept g d fair (decide own c)) own_is (call_asks_kept g d fair k.client c)) e

pub missing_there : (k : Knowledge) (g : Graph) (d : Descriptors) (c : Call) (i : ℕ) → IsSound g d → Agrees k g d → run_part (part_of k) (decide k.own c) ≡ Unknown (missing.Node i) → IsSome (reachable_graph g d i)
missing_there k g d c i sound agrees e = some_kept g d (fair_of g d sound) i (call_missing_of k g d c (missing.Node i) sound agrees e)

pub blocks_missing_there : (k : Knowledge) (g : Graph) (d : Descriptors) (c : Call) (i first count : ℕ) → IsSound g d → Agrees k g d → run_part (part_of k) (decide k.own c) ≡ Unknown (missing.Blocks i first count) → IsSome (reachable_graph g d i)
blocks_missing_there k g d c i first count sound agrees e = some_kept g d (fair_of g d sound) i (call_missing_of k g d c (missing.Blocks i first count) sound agrees e)

pub effects_missing_there : (k : Knowledge) (g : Graph) (d : Descriptors) (new : ℕ) (operation : Operation) (i : ℕ) → IsSound g d → Agrees k g d → OperationFits g d (d k.client) operation → run_part (part_of k) (effects_asked new operation) ≡ Unknown (missing.Node i) → IsSome (reachable_graph g d i)
effects_missing_there k g d new operation i sound agrees fits e =
    let fair = fair_of g d sound in
    some_kept g d fair i (missing_kept g d fair agrees.back agrees.put_back (part_of k) (effects_asked new operation) (missing.Node i) (part_is k g d fair agrees) (query_effects g d (d k.client) fair new operation fits) e)

pub growth_missing_there : (k : Knowledge) (g : Graph) (d : Descriptors) (operation : Operation) (i : ℕ) → IsSound g d → Agrees k g d → OperationFits g d (d k.client) operation → run_part (part_of k) (growth_asked operation) ≡ Unknown (missing.Node i) → IsSome (reachable_graph g d i)
growth_missing_there k g d operation i sound agrees fits e =
    let fair = fair_of g d sound in
    some_kept g d fair i (missing_kept g d fair agrees.back agrees.put_back (part_of k) (growth_asked operation) (missing.Node i) (part_is k g d fair agrees) (query_growth g d (d k.client) fair operation fits) e)
