-- Which records of a client's log are digested next, and each of them over the graph as those before it leave it.
use Rattle.std.specs.Prelude.{◌≡◌, ℕ, zero, suc, true, List, [], ◌∷◌, take, IfSome}
use Rattle.update_log.specs.file_graph.Graph.{Graph, after_effects, child_at}
use Rattle.update_log.specs.file_graph.Numbers.{is_inode}
use Rattle.update_log.specs.file_graph.Units.{charge}
use Rattle.coalescer.specs.graph_change.Change.{Changes}
use Rattle.coalescer.specs.graph_change.Swaps.{SwappedChange, swapped_sum, told_change}
use Rattle.update_log.specs.log_record.declared.format.Record.{Record}
use Rattle.coalescer.specs.Records.{effects_in}
use Rattle.coalescer.specs.Weight.{IsLongestRun}
use Rattle.shared_area.specs.record_validation.Good.{IsGood}
use Rattle.digester.specs.declared.record_test.Found.{Found}
use Rattle.digester.specs.declared.record_test.Found.TheVariants as found

-- the first n of these records are the longest run that one batch takes, and that is what they sum up to
pub record IsNextRun (rs : List Record) (n : ℕ) (c : SwappedChange) : Type 0 where
  pub run : IsLongestRun rs n
  pub change : c ≡ swapped_sum (effects_in (take n rs))

-- the change that records come to on a graph
abbrev pub records_change : Graph → List Record → Changes
records_change g rs = told_change g (swapped_sum (effects_in rs))

-- each name of a directory leads to a number that is an inode's
abbrev pub NamesLeadToInodes : Graph → Type 0
NamesLeadToInodes g = (d : ℕ) (name : List ℕ) → IfSome (child_at g d name) (λ child. is_inode child.0 ≡ true)

-- each of the records is good over the graph as those before it leave it
abbrev pub AreGood : List ℕ → ℕ → Graph → List Record → Type 0
AreGood held capacity g [] = Unit {0}
AreGood held capacity g (r ∷ rs) = IsGood held capacity g r × AreGood held capacity (after_effects g r.effects) rs

-- the record at this place is not good over the graph as those before it leave it, and each of those is
abbrev pub IsFirstBad : List ℕ → ℕ → Graph → List Record → ℕ → Type 0
IsFirstBad held capacity g [] k = ⊥
IsFirstBad held capacity g (r ∷ rs) zero = IsGood held capacity g r → ⊥
IsFirstBad held capacity g (r ∷ rs) (suc k) = IsGood held capacity g r × IsFirstBad held capacity (after_effects g r.effects) rs k

-- what a test found of records is so: all are good, and this is the charge after them; or this is the first bad one
abbrev pub Finds : List ℕ → ℕ → Graph → List Record → Found → Type 0
Finds held capacity g rs (found.AllGood units) = AreGood held capacity g rs × (charge (after_effects g (effects_in rs)) ≡ units)
Finds held capacity g rs (found.FirstBad place) = IsFirstBad held capacity g rs place
