-- Fields of a record, beside what file_graph proves of numbers, bytes and kinds.
use Rattle.std.proofs.Common.{◌≡◌, ℕ, ◌^◌, ◌<◌, List, ◌∷◌, ◌++◌, length, Some, refl, ap}
use Rattle.file_graph.proofs.Fields as fields
use Rattle.file_graph.proofs.Fields.{number_small}
pub use Rattle.file_graph.proofs.Fields.{AreBytes-rest, bind_some, chosen, test_some, some_is, Takes, Takes-then, TakesRun, u64_takes, u32_again, u64_again, run_takes, byte_takes, kind_takes, kind_again}
use Rattle.log_record.specs.Grammar.{AreBytes, number_at, run_at, u32}

pub Takes-cons : (n : ℕ) (a x b : List ℕ) → Takes a x b → Takes (n ∷ a) (n ∷ x) b
Takes-cons n a x b p = record { parts = ap (λ (t : List ℕ). n ∷ t) p.parts; behind = p.behind }

pub u32_takes : (bytes : List ℕ) (x : ℕ × List ℕ) → AreBytes bytes → number_at 4 bytes ≡ Some x → Takes bytes (u32 x.0) x.1 × (x.0 < 256 ^ 4)
u32_takes bytes x are e = (fields.u32_takes bytes x are e, number_small 4 bytes x are e)

pub run_again : (text rest : List ℕ) → run_at (length text) (text ++ rest) ≡ Some (text, rest)
run_again text rest = fields.run_again (length text) text rest refl
