-- What a client prepares before a record of its own.
use Rattle.std.specs.Prelude.{◌≡◌, ◌+◌, ◌<◌, ◌&&◌, ⊤, ℕ, List, length, get_or, Bool, true, Option, Some, None, IsSome, is_some}
use Rattle.std.specs.FinMap as fin
use Rattle.std.specs.List.{list_any}
use Rattle.std.specs.Option.{ForSome}
use Rattle.client_plan.specs.file_graph.Numbers.{is_inode}
use Rattle.client_plan.specs.file_graph.Subject.{subject}
use Rattle.client_plan.specs.file_graph.declared.effect.Effect.{Effect}
use Rattle.client_plan.specs.file_graph.declared.effect.Effect.TheVariants as effect
use Rattle.client_plan.specs.log_record.Grammar.{IsRecord}
use Rattle.client_plan.specs.call_effects.NodeView.{NodeView}
use Rattle.client_plan.specs.call_effects.Knowledge.{Knowledge}
use Rattle.client_plan.specs.CallPlan.{OpensInRange}
use Rattle.record_validation.specs.Memory.{is_enter}
use Rattle.record_validation.specs.NodeAnswers.{entries_of}
use Rattle.client_view.specs.AfterRecord.{with_made}
use Rattle.client_view.specs.declared.enter_room.EnterRoom.{EnterRoom}
use Rattle.client_view.specs.declared.own_change.OwnChange.{OwnChange}

-- whether an effect enters a name into an inode of which something is known
abbrev pub enters : Effect → (ℕ → Option (Option NodeView)) → Bool
enters e copies = is_enter e && is_some (copies (subject e))

-- whether one of these effects does
abbrev pub any_enters : List Effect → (ℕ → Option (Option NodeView)) → Bool
any_enters es copies = list_any (λ e. enters e copies) es

-- how many names are known to stand in an inode
abbrev pub names_known : Option (Option NodeView) → ℕ
names_known None = 0
names_known (Some None) = 0
names_known (Some (Some v)) = fin.len (entries_of v)

-- a copy of a name, and room for it behind so many
abbrev pub IsRoomFor : List ℕ → ℕ → Option EnterRoom → Type 0
IsRoomFor name count o = IsSome o × ForSome o (λ r. (r.name ≡ name) × (count < r.room))

-- what an effect needs on an inode in which so many names stand: to enter a name, a copy of it and room
abbrev pub IsRoomOf : Effect → ℕ → Option EnterRoom → Type 0
IsRoomOf (effect.Make i k) count r = ⊤
IsRoomOf (effect.Enter d i k name) count r = IsRoomFor name count r
IsRoomOf (effect.Leave d name) count r = ⊤
IsRoomOf (effect.Names i n) count r = ⊤
IsRoomOf (effect.Size i size) count r = ⊤
IsRoomOf (effect.Bytes i at new) count r = ⊤
IsRoomOf (effect.Drop i) count r = ⊤
IsRoomOf (effect.Swap d a e b) count r = ⊤

-- what effects need over these copies is ready, for each at its place among them: those before it may each have entered a name
abbrev pub AreReady : List (Option EnterRoom) → List Effect → (ℕ → Option (Option NodeView)) → Type 0
AreReady rooms es copies = (n : ℕ) (e : Effect) → n < length es → e ≡ get_or es n e → IsSome (copies (subject e)) → IsRoomOf e (names_known (copies (subject e)) + n) (get_or rooms n None)

-- a change that was prepared by what a client knows
pub record IsPreparedFor (k : Knowledge) (c : OwnChange) : Type 0 where
  pub spelled : IsRecord c.logged
  pub made : ForSome c.made (λ n. is_inode n ≡ true)
  pub number : ForSome c.descriptor OpensInRange
  pub nodes : AreReady c.rooms.items c.logged.effects (with_made k c.made).copies
