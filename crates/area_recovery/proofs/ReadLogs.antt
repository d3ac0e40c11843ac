-- What is read of a client's two regions, and which records of it count.
use Rattle.std.proofs.Common.{◌≡◌, ℕ, zero, suc, ◌%◌, ◌<◌, List, [], ◌∷◌, ◌++◌, length, drop, refl, ap, sym, ◌∙◌, arith}
use Rattle.std.specs.Prelude.{Option, Some, None, IfSome, min, slice_index}
use Rattle.std.proofs.lemmas.Bool.{false≢true}
use lib.ListN.{length-map}
use Rattle.graph_check.specs.log_record.Touches.{inodes_of}
use Rattle.graph_check.specs.log_record.declared.format.Record.{Record}
use Rattle.log_survey.specs.update_log.Frames.{header, records}
use Rattle.log_survey.specs.update_log.WipeStops.{generation}
use Rattle.log_survey.proofs.update_log_lemmas.Counts.{header_tells}
use Rattle.log_survey.specs.Owners.{TouchInodes}
use Rattle.log_survey.specs.Regions.{AreRead, records_behind, records_of, records_that_count}
use Rattle.log_survey.specs.declared.regions.CountedLogs.{CountedLogs}
use Rattle.log_survey.specs.declared.regions.LogRest.{LogRest}
use Rattle.std.specs.List.{AllZip}
use Rattle.tier_device.specs.declared.media.Media.{Ghosts}
use Rattle.log_survey.specs.update_log.View.{RegionView}
use Rattle.area_recovery.specs.Regions.{IsOnlyRead}
use Rattle.area_recovery.specs.FoundLogs.{AreReadAs, HasGeneration, IsRestOf, first_part, second_part}

pub second_touched : (even odd : List Record) → TouchInodes even → TouchInodes odd → (o : Option ℕ) → TouchInodes (second_part even odd o)
second_touched even odd e o' None i w = absurd (false≢true w)
second_touched even odd e o' (Some zero) i w = e i w
second_touched even odd e o' (Some (suc r)) i w = o' i w

module _ (regions : ℕ → List ℕ) (name other : ℕ) (even odd : List (List ℕ)) (read : AreReadAs regions name other even odd) where
  pub are_read : (m n : ℕ) → m ≡ length even → n ≡ length odd → AreRead regions (name ∷ other ∷ []) (m ∷ n ∷ [])
  are_read m n is_m is_n = record { named = named; long = long }
    where
      named : (r : ℕ) → r < 2 → generation (header (regions r)) ≡ slice_index (name ∷ other ∷ []) r
      named zero lt = header_tells (regions 0) ∙ read.even_is.named
      named (suc zero) lt = header_tells (regions 1) ∙ read.odd_is.named
      named (suc (suc r)) lt = absurd (omega (arith, lt))

      long : (r : ℕ) → r < 2 → length (records (regions r)) ≡ slice_index (m ∷ n ∷ []) r
      long zero lt = sym (length-map (records (regions 0)) inodes_of) ∙ ap length (sym read.even_is.has) ∙ sym is_m
      long (suc zero) lt = sym (length-map (records (regions 1)) inodes_of) ∙ ap length (sym read.odd_is.has) ∙ sym is_n
      long (suc (suc r)) lt = absurd (omega (arith, lt))

module _ (regions : ℕ → List ℕ) where
  part_is : (r : ℕ) → r < 2 → records (regions r) ≡ second_part (records (regions 0)) (records (regions 1)) (Some r)
  part_is zero lt = refl
  part_is (suc zero) lt = refl
  part_is (suc (suc r)) lt = absurd (omega (arith, lt))

  first_is : (X : LogRest → Type 0) (g : ℕ) (o : Option LogRest) → IfSome o (λ rest. (rest.region ≡ g % 2) × X rest) → records_behind regions o ≡ first_part (records (regions 0)) (records (regions 1)) o
  first_is X g None h = refl
  first_is X g (Some rest) h = ap (drop rest.from) (part_is rest.region (let is = h.0 in omega (arith, is)))

  second_is : (X : ℕ → Type 0) (g : ℕ) (o : Option ℕ) → IfSome o (λ r. (r ≡ g % 2) × X r) → records_of regions o ≡ second_part (records (regions 0)) (records (regions 1)) o
  second_is X g None h = refl
  second_is X g (Some r) h = part_is r (let is = h.0 in omega (arith, is))

  pub counted_are : (X : LogRest → Type 0) (Y : ℕ → Type 0) (g h : ℕ) (counted : CountedLogs) → IfSome counted.first (λ rest. (rest.region ≡ g % 2) × X rest) → IfSome counted.second (λ r. (r ≡ h % 2) × Y r)
      → records_that_count regions counted ≡ first_part (records (regions 0)) (records (regions 1)) counted.first ++ second_part (records (regions 0)) (records (regions 1)) counted.second
  counted_are X Y g h counted f s = λ k. first_is X g counted.first f k ++ second_is Y h counted.second s k

-- where the records that count stand: those of the mark's generation, and the next one's
module _ (regions : ℕ → List ℕ) (names lengths : List ℕ) (read : AreRead regions names lengths) where
  names_it : (r g : ℕ) → r < 2 → slice_index names r ≡ g → generation (regions r) ≡ g
  names_it r g low is = sym (header_tells (regions r)) ∙ read.named r low ∙ is

  pub rest_is : (g done : ℕ) (o : Option LogRest) → IfSome o (λ rest. (rest.region ≡ g % 2) × (slice_index names rest.region ≡ g)) → IfSome o (λ rest. rest.from ≡ min done (slice_index lengths rest.region)) → IfSome o (IsRestOf regions g done)
  rest_is g done None first from = tt
  rest_is g done (Some rest) first from =
      let low : rest.region < 2 = (let is = first.0 in omega (arith, is)) in
      record { region = first.0; named = names_it rest.region g low first.1; from = from ∙ ap (λ (n : ℕ). min done n) (sym (read.long rest.region low)) }

  pub next_is : (g : ℕ) (o : Option ℕ) → IfSome o (λ r. (r ≡ g % 2) × (slice_index names r ≡ g)) → IfSome o (HasGeneration regions g)
  next_is g None second = tt
  next_is g (Some r) second = (second.0, names_it r g (let is = second.0 in omega (arith, is)) second.1)

-- the same, of lists that are the same
pub read_same : (regions : ℕ → List ℕ) (name other : ℕ) (even odd even' odd' : List (List ℕ)) → AreReadAs regions name other even odd → even' ≡ even → odd' ≡ odd → AreReadAs regions name other even' odd'
read_same regions name other even odd even' odd' read e o = record {
  even_is = record { named = read.even_is.named; has = e ∙ read.even_is.has };
  odd_is = record { named = read.odd_is.named; has = o ∙ read.odd_is.has };
}

module _ {M : Type 0} (device : Ghosts M) where
  -- a region that is not touched
  pub only_read : (v : RegionView M) → IsOnlyRead device v v
  only_read v = record {
    untouched = record { seen = λ t. refl; clock = refl; past = record { later = omega arith; nothing_else = λ n t c le h. h; keeps = λ n t c le h. h }; faults = omega arith };
    end = refl;
    stage = refl;
    begun = refl;
  }

  pub all_only_read : (vs : List (RegionView M)) → AllZip (IsOnlyRead device) vs vs
  all_only_read [] = tt
  all_only_read (v ∷ vs) = (only_read v, all_only_read vs)
