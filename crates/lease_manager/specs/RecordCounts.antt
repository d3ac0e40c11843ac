-- How many records touch an inode, as a pass counts them.
use Rattle.std.specs.Prelude.{◌≡◌, ℕ, ◌+◌, ◌==◌, List, Bool, false, if◌then◌else◌}
use Rattle.std.specs.List.{count_by}
use Rattle.log_record.specs.file_graph.Graph.{is_among, touches}
use Rattle.log_record.specs.file_graph.declared.effect.Effect.{Effect}
use Rattle.log_record.specs.declared.format.Record.{Record}
use Rattle.lease_manager.specs.Words.{HasWord}
use Rattle.lease_manager.specs.Passes.{PassView, records_of}

-- one where it holds, none where it doesn't
abbrev pub one_if : Bool → ℕ
one_if b = if b then 1 else 0

-- whether effects touch an inode
abbrev pub is_touched : List Effect → ℕ → Bool
is_touched es i = is_among i (touches es)

-- how many of these records do
abbrev pub touch_count : List Record → ℕ → ℕ
touch_count rs i = count_by (λ r. is_touched r.effects i) rs

-- a pass counts just these records
abbrev pub Counts : PassView → List Record → Type 0
Counts p rs = (i : ℕ) → HasWord i → records_of p i ≡ touch_count rs i

-- One inode counts one more, unless the record is counted there already; all else stays.
pub record HasOneMore (old : PassView) (inode : ℕ) (counted : Bool) (new : PassView) : Type 0 where
  pub rest : new ≡ record old { records = new.records }
  pub counts : (i : ℕ) → HasWord i → records_of new i ≡ records_of old i + one_if (if counted then false else inode == i)

-- The pass counts one more on each inode that these effects touch; its leases stay.
pub record HasNoted (old : PassView) (es : List Effect) (new : PassView) : Type 0 where
  pub rest : new ≡ record old { records = new.records }
  pub counts : (i : ℕ) → HasWord i → records_of new i ≡ records_of old i + one_if (is_touched es i)

-- It counts one fewer there.
pub record HasUncounted (old : PassView) (es : List Effect) (new : PassView) : Type 0 where
  pub rest : new ≡ record old { records = new.records }
  pub counts : (i : ℕ) → HasWord i → records_of new i + one_if (is_touched es i) ≡ records_of old i

-- It counts these records no longer.
pub record HasCleaned (old : PassView) (rs : List Record) (new : PassView) : Type 0 where
  pub rest : new ≡ record old { records = new.records }
  pub counts : (i : ℕ) → HasWord i → records_of new i + touch_count rs i ≡ records_of old i
