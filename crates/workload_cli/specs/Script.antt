-- The lines of a script, answered one after the other.
use Rattle.std.specs.Prelude.{◌≡◌, ◌⊎◌, ℕ, zero, suc, Bool, true, false, List, Option, Some, None, Result, Ok, Err}
use Rattle.std.specs.Io.KnownBytes.{IsAtEnd}
use Rattle.script.specs.SystemLines.{Asked, system_line}
use Rattle.script.specs.LineReads.{BeginsTooLong, LosesLine}
use Rattle.script.specs.declared.script.reader.ScriptError.{ScriptError}
use Rattle.script.specs.declared.script.reader.ScriptError.TheVariants as stops
use Rattle.workload_cli.specs.declared.answer.Answer.{Answer}

-- A line was read, understood, one that may stand in the script, and answered.
pub record IsLineAnswered {S : Type 0} (answers : S → Option Asked → Answer → S → Type 0) (takes : S → Option Asked → Bool) (before : Option (List ℕ)) (old : S) (after : Option (List ℕ)) (new : S) : Type 0 where
  pub line : List ℕ
  pub read : LosesLine before after line
  pub asks : Option Asked
  pub understood : system_line line ≡ Some asks
  pub taken : takes old asks ≡ true
  pub answer : Answer
  pub answered : answers old asks answer new

-- This number of them was, in their order.
abbrev pub AreAnswered : {S : Type 0} → (S → Option Asked → Answer → S → Type 0) → (S → Option Asked → Bool) → ℕ → Option (List ℕ) → S → Option (List ℕ) → S → Type 0
AreAnswered answers takes zero before old after new = (after ≡ before) × (new ≡ old)
AreAnswered {S = S} answers takes (suc n) before old after new = (between : Option (List ℕ)) × (mid : S) × AreAnswered answers takes n before old between mid × IsLineAnswered answers takes between mid after new

-- Some lines were, as far as the script was read.
abbrev pub IsAnsweredTo : {S : Type 0} → (S → Option Asked → Answer → S → Type 0) → (S → Option Asked → Bool) → Option (List ℕ) → S → Option (List ℕ) → S → Type 0
IsAnsweredTo answers takes before old after new = (n : ℕ) × AreAnswered answers takes n before old after new

-- a line is none, or one that may not stand in the script
abbrev pub IsNotTaken : (Option Asked → Bool) → Option (Option Asked) → Type 0
IsNotTaken takes None = Unit {0}
IsNotTaken takes (Some asks) = takes asks ≡ false

-- No line stands there that can be read, or none that may stand in the script.
abbrev pub IsUnreadable : (Option Asked → Bool) → Option (List ℕ) → Type 0
IsUnreadable takes behind = ((line : List ℕ) × (after : Option (List ℕ)) × LosesLine behind after line × IsNotTaken takes (system_line line)) ⊎ BeginsTooLong behind

-- A run ends at the end of its script, at a line that is unreadable, or in a fault.
abbrev pub EndsAt : (Option Asked → Bool) → Result (Unit {0}) ScriptError → Option (List ℕ) → Type 0
EndsAt takes (Ok x) behind = IsAtEnd behind
EndsAt takes (Err (stops.Unreadable number)) behind = IsUnreadable takes behind
EndsAt takes (Err (stops.Run fault)) behind = Unit {0}
