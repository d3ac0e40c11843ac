-- What a reader of the code answers, against what the grammar reads.
use Rattle.std.specs.Prelude.{◌≡◌, Option, Some, None, Result, Ok, Err}
use Rattle.file_graph.specs.declared.effect.Effect.{Effect}
use Rattle.file_graph.specs.declared.effect.Effect.TheVariants as effect
use Rattle.log_record.specs.declared.effect_ref.EffectRef.{EffectRef}
use Rattle.log_record.specs.declared.effect_ref.EffectRef.TheVariants as lent
use Rattle.log_record.specs.declared.format.RecordError.{RecordError}
use Rattle.log_record.specs.declared.format.RecordError.TheVariants.{NoRecord, Memory}

-- the effect that is lent
abbrev pub owned_effect : EffectRef → Effect
owned_effect (lent.Make i k) = effect.Make i k
owned_effect (lent.Enter d i k name) = effect.Enter d i k name.now
owned_effect (lent.Leave d name) = effect.Leave d name.now
owned_effect (lent.Names i n) = effect.Names i n
owned_effect (lent.Size i size) = effect.Size i size
owned_effect (lent.Bytes i at new) = effect.Bytes i at new.now
owned_effect (lent.Drop i) = effect.Drop i
owned_effect (lent.Swap d a e b) = effect.Swap d a.now e b.now

-- no record only where none is read; a want of memory stands in place of any answer
abbrev pub Fails : {Y : Type 0} → RecordError → Option Y → Type 0
Fails Memory read = Unit {0}
Fails NoRecord read = read ≡ None

-- the answer, seen by view, is what is read
abbrev pub Gives : {X Y : Type 0} → (X → Y) → Result X RecordError → Option Y → Type 0
Gives view (Ok x) read = read ≡ Some (view x)
Gives view (Err e) read = Fails e read
