-- Someone who knows a part answers what it can.
use Rattle.std.specs.Prelude.{◌≡◌, ℕ, zero, suc, ◌+◌, ◌-◌, ◌/◌, List, Bool, Option, Some, None, Result, Ok, Err}
use Rattle.posix_calls.specs.declared.errno.Errno.{Errno}
use Rattle.posix_calls.specs.declared.limits.TheConstants.{UNIT_BYTES}
use Rattle.posix_calls.specs.declared.operation.Missing.{Missing}
use Rattle.posix_calls.specs.declared.operation.Missing.TheVariants as missing
use Rattle.posix_calls.specs.Query.{Seen, Query, Gives, Refuses, IsDir, Look, Range, View, run}

-- whatever is answered, none of the questions is for bytes
abbrev pub AsksNoBytes : {A : Type 0} → Query A → Type 0
AsksNoBytes (Gives x) = Unit {0}
AsksNoBytes (Refuses e) = Unit {0}
AsksNoBytes (IsDir i next) = (o : Option Bool) → AsksNoBytes (next o)
AsksNoBytes (Look i next) = (o : Option Seen) → AsksNoBytes (next o)
AsksNoBytes (Range i at count next) = ⊥

-- the answer to each question that is known
pub record Part : Type 0 where
  pub is_dir : ℕ → Option (Option Bool)
  pub node : ℕ → Option (Option Seen)
  pub bytes : ℕ → ℕ → ℕ → Option (List ℕ)

-- who knows the whole of a view
abbrev pub whole_part : View → Part
whole_part v = record { is_dir = λ i. Some (v.is_dir i); node = λ i. Some (v.node i); bytes = λ i at count. Some (v.bytes i at count) }

-- how many blocks a range of bytes touches
abbrev pub blocks_touched : ℕ → ℕ → ℕ
blocks_touched at zero = 0
blocks_touched at (suc count) = 1 + (at + count) / UNIT_BYTES - at / UNIT_BYTES

-- what has to be known to answer a range of the bytes of a file: the blocks that it touches
abbrev pub blocks_missing : ℕ → ℕ → ℕ → Missing
blocks_missing i at count = missing.Blocks i (at / UNIT_BYTES) (blocks_touched at count)

-- what a part answers, or the first thing that it would have to know beside
pub data Found (A : Type 0) : Type 0 where
  Known : (result : Result A Errno) → Found A
  Unknown : (what : Missing) → Found A

-- what the questions give by a part
unfoldable pub run_part : {A : Type 0} → Part → Query A → Found A
run_part p (Gives x) = Known (Ok x)
run_part p (Refuses e) = Known (Err e)
run_part p (IsDir i next) = elim (p.is_dir i) [ None ↦ Unknown (missing.Node i) | Some o ↦ run_part p (next o) ]
run_part p (Look i next) = elim (p.node i) [ None ↦ Unknown (missing.Node i) | Some o ↦ run_part p (next o) ]
run_part p (Range i at count next) = elim (p.bytes i at count) [ None ↦ Unknown (blocks_missing i at count) | Some bytes ↦ run_part p (next bytes) ]

-- what the part answers is what the whole does
pub record IsPart (p : Part) (v : View) : Type 0 where
  pub is_dir : (i : ℕ) (o : Option Bool) → p.is_dir i ≡ Some o → v.is_dir i ≡ o
  pub node : (i : ℕ) (o : Option Seen) → p.node i ≡ Some o → v.node i ≡ o
  pub bytes : (i at count : ℕ) (bytes : List ℕ) → p.bytes i at count ≡ Some bytes → v.bytes i at count ≡ bytes

-- the next question is of this, and the part has no answer to it
abbrev pub IsBeyond : {A : Type 0} → Part → Missing → Query A → Type 0
IsBeyond p what (Gives x) = ⊥
IsBeyond p what (Refuses e) = ⊥
IsBeyond p what (IsDir i next) = (missing.Node i ≡ what) × (p.is_dir i ≡ None)
IsBeyond p what (Look i next) = (missing.Node i ≡ what) × (p.node i ≡ None)
IsBeyond p what (Range i at count next) = (blocks_missing i at count ≡ what) × (p.bytes i at count ≡ None)

-- once the part has answered what it can, these questions are left, of this first
pub record IsLeft {A : Type 0} (p : Part) (what : Missing) (q : Query A) : Type 0 where
  pub rest : Query A
  pub beyond : IsBeyond p what rest
  pub same : (v : View) → IsPart p v → run v q ≡ run v rest
