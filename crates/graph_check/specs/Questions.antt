-- Which questions are asked, each once and in which order.
use Rattle.std.specs.Prelude.{ℕ, zero, suc, List, [], ◌∷◌, Option, Some, None, ◌⊎◌}
use Rattle.posix_calls.specs.declared.limits.TheConstants.{MAX_INODE}
use Rattle.record_validation.specs.log_record.Grammar.{IsInode}
use Rattle.graph_check.specs.declared.defect.GraphError.{GraphError}
use Rattle.graph_check.specs.declared.defect.GraphError.TheVariants as why

-- the numbers from 1 to n, the last one first
unfoldable pub down_from : ℕ → List ℕ
down_from zero = []
down_from (suc n) = suc n ∷ down_from n

module _ {S E : Type 0} (asked : S → S → List ℕ → Option E → Type 0) where
  -- the inodes 1 to n were asked for in this order, each once, with this refusal of the last question
  pub record AskedSome (first last : S) (refusal : Option E) : Type 0 where
    pub n : ℕ
    pub inode : IsInode n
    pub led : asked first last (down_from n) refusal

  -- all inodes were asked for and answered, in the order of their numbers, each once
  abbrev pub AskedAll : S → S → Type 0
  AskedAll first last = asked first last (down_from MAX_INODE) None

  -- what was asked before an error: all where the graph is unsound, nothing or all where memory is wanting, and up to
  -- the refused question where one was refused
  abbrev pub AskedUntil : S → S → GraphError E → Type 0
  AskedUntil first last why.Memory = asked first last [] None ⊎ AskedAll first last
  AskedUntil first last (why.Nodes e) = AskedSome first last (Some e)
  AskedUntil first last (why.Unsound i defect) = AskedAll first last
