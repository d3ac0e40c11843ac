-- A call that is logged comes to a change that can be prepared.
use Rattle.std.proofs.Common.{◌≡◌, ℕ, true, List, [], ◌∷◌, Option, Some, Ok, ap, sym, ◌∙◌, subst}
use Rattle.std.specs.List.{AllByRecursion}
use Rattle.posix_calls.specs.Query.{◌>>=◌}
use Rattle.posix_calls.specs.Part.{Part, Known, run_part}
use Rattle.posix_calls.specs.declared.call.Call.{Call}
use Rattle.posix_calls.specs.declared.call.Reply.{Reply}
use Rattle.posix_calls.specs.declared.operation.Operation.{Operation}
use Rattle.posix_calls.specs.declared.operation.Operation.TheVariants.{Tell, NewDir, NewFile, OpenFile, CloseFile, Write, Resize, RemoveDir, AddName, DropName, Move, Exchange}
use Rattle.client_plan.specs.file_graph.Numbers.{is_inode}
use Rattle.client_plan.specs.file_graph.declared.effect.Effect.{Effect}
use Rattle.client_plan.specs.file_graph.declared.effect.Effect.TheVariants as effect
use Rattle.client_plan.specs.file_graph.declared.effect.Kind.TheVariants as kind
use Rattle.client_plan.specs.log_record.Grammar.{FitsLimits, IsRecord}
use Rattle.client_plan.specs.log_record.declared.format.Record.{Record}
use Rattle.client_plan.specs.call_effects.Knowledge.{Knowledge, part_of}
use Rattle.client_plan.specs.call_effects.Records.{effects_asked}
use Rattle.client_plan.specs.declared.outcome.DescriptorChange.{DescriptorChange}
use Rattle.client_plan.specs.declared.outcome.Outcome.TheVariants as outcomes
use Rattle.client_plan.specs.Holdings.{Holdings}
use Rattle.client_plan.specs.CallPlan.{made_by, outcome}
use Rattle.client_plan.specs.Steps.{AreHoldingsOf, IsReady}
use Rattle.client_plan.proofs.Stepping.{logged_ready}
use Rattle.client_view.proofs.Inodes.{inode_is}

-- the node that an operation makes has a number of an inode, where its record has a spelling
first_fits : (e : Effect) (rest es : List Effect) → e ∷ rest ≡ es → AllByRecursion FitsLimits es → FitsLimits e
first_fits e rest es is fit = (subst (AllByRecursion FitsLimits) (sym is) fit).0

made_inode : (p : Part) (operation : Operation) (new : ℕ) (es : List Effect) (n : ℕ) → run_part p (effects_asked new operation) ≡ Known (Ok es) → AllByRecursion FitsLimits es → made_by new operation ≡ Some n → is_inode n ≡ true
unfolding run_part ◌>>=◌
made_inode p (NewDir at) new es n told fit made =
    let same : effect.Make new kind.Directory ∷ (effect.Enter at.parent new kind.Directory at.name ∷ effect.Names new 1 ∷ []) ≡ es = cc in
    let is : new ≡ n = cc in
    ap is_inode (sym is) ∙ inode_is new (first_fits (effect.Make new kind.Directory) (effect.Enter at.parent new kind.Directory at.name ∷ effect.Names new 1 ∷ []) es same fit)
made_inode p (NewFile at number reads writes) new es n told fit made =
    let same : effect.Make new kind.File ∷ (effect.Enter at.parent new kind.File at.name ∷ effect.Names new 1 ∷ []) ≡ es = cc in
    let is : new ≡ n = cc in
    ap is_inode (sym is) ∙ inode_is new (first_fits (effect.Make new kind.File) (effect.Enter at.parent new kind.File at.name ∷ effect.Names new 1 ∷ []) es same fit)
made_inode p (Tell answer) new es n told fit made = absurd (cc)
made_inode p (OpenFile i empties number reads writes) new es n told fit made = absurd (cc)
made_inode p (CloseFile i number) new es n told fit made = absurd (cc)
made_inode p (Write i at bytes) new es n told fit made = absurd (cc)
made_inode p (Resize i len) new es n told fit made = absurd (cc)
made_inode p (RemoveDir at i) new es n told fit made = absurd (cc)
made_inode p (AddName at i) new es n told fit made = absurd (cc)
made_inode p (DropName at i) new es n told fit made = absurd (cc)
made_inode p (Move from to i is_dir replaced) new es n told fit made = absurd (cc)
made_inode p (Exchange first second i j) new es n told fit made = absurd (cc)

module _ (k : Knowledge) (h : Holdings) (of : AreHoldingsOf k h) (c : Call) (entry : Record) (reply : Reply) (made : Option ℕ) (change : Option DescriptorChange) (comes : outcome (part_of k) h c ≡ outcomes.Log entry reply made change) where
  ready : IsReady k h c entry reply made change
  ready = logged_ready k h of c entry reply made change comes

  pub logged_spelled : IsRecord entry
  logged_spelled = ready.spelled

  pub logged_made : (n : ℕ) → made ≡ Some n → is_inode n ≡ true
  logged_made n is = made_inode (part_of k) ready.operation ready.new entry.effects n ready.planned.effects ready.spelled.fit (sym ready.makes ∙ is)
