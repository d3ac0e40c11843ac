-- What counts of a region, by what is read of it.
use Rattle.std.proofs.Common.{◌≡◌, ◌≢◌, ℕ, ◌%◌, ◌<◌, List, [], length, drop, min, get_or, sym, ap, ◌∙◌, arith}
use Rattle.std.specs.Prelude.{◌==◌}
use Rattle.std.proofs.lemmas.Bool.{eq-eqb, ne_eqb, cond-true, cond-false}
use Rattle.std.proofs.lemmas.List.{drop_min, drop_all}
use Rattle.update_log.specs.log_record.declared.format.Record.{Record}
use Rattle.update_log.specs.Frames.{records}
use Rattle.update_log.specs.WipeStops.{generation}
use Rattle.update_log.specs.RecordCounts.{records_in}
use Rattle.update_log.proofs.Counts.{header_tells}
use Rattle.log_survey.specs.Regions.{HeadersName}

-- a generation stands in region 0 or 1
pub turn_small : (g : ℕ) → g % 2 < 2
turn_small g = omega arith

-- what the header of the region of its turn names is what the region does
turn_named : (regions : ℕ → List ℕ) (names : List ℕ) (g : ℕ) → HeadersName regions names → generation (regions (g % 2)) ≡ get_or names (g % 2) 0
turn_named regions names g named = sym (header_tells (regions (g % 2))) ∙ named (g % 2) (turn_small g)

-- the region of its turn names it: all of its records
pub named_counts : (regions : ℕ → List ℕ) (names : List ℕ) (g : ℕ) → HeadersName regions names → get_or names (g % 2) 0 ≡ g → records_in regions g ≡ records (regions (g % 2))
named_counts regions names g named is =
    cond-true (generation (regions (g % 2)) == g) (records (regions (g % 2))) [] (eq-eqb (generation (regions (g % 2))) g (turn_named regions names g named ∙ is))

-- it names another: none
pub other_counts_none : (regions : ℕ → List ℕ) (names : List ℕ) (g : ℕ) → HeadersName regions names → get_or names (g % 2) 0 ≢ g → records_in regions g ≡ []
other_counts_none regions names g named other =
    cond-false (generation (regions (g % 2)) == g) (records (regions (g % 2))) [] (ne_eqb (generation (regions (g % 2))) g (λ is. other (sym (turn_named regions names g named) ∙ is)))

-- no record behind none
pub behind_none : (done : ℕ) (rs : List Record) → rs ≡ [] → drop done rs ≡ []
behind_none done rs none = drop_all done rs (omega (arith, ap length none))

-- where more are done than there are, none is left
pub behind_done : (done n : ℕ) (all rs : List Record) → all ≡ rs → length rs ≡ n → drop done all ≡ drop (min done n) rs
behind_done done n all rs is long = ap (drop done) is ∙ sym (drop_min done rs) ∙ ap (λ k. drop (min done k) rs) long
