-- The inodes that records touch, a list for each record.
use Rattle.std.proofs.Common.{◌≡◌, ℕ, zero, suc, ◌+◌, ◌<◌, ◌||◌, false, eqb, List, [], ◌∷◌, ◌++◌, length, take, drop, Option, Some, None, refl, ap, sym, ◌∙◌, append_assoc}
use Rattle.std.specs.Prelude.{get_or, map}
use lib.ListN.{length-map}
use Rattle.std.proofs.lemmas.List.{take_more}
use Rattle.std.proofs.lemmas.List.Folds.{list_any-append}
use Rattle.log_survey.specs.Owners.{AreTouchedBy, listed}
use Rattle.log_survey.specs.declared.regions.LogRest.{LogRest}
use Rattle.log_survey.specs.update_log.Frames.{records}
use Rattle.graph_check.specs.file_graph.Graph.{is_among}
use Rattle.graph_check.specs.log_record.Touches.{inodes_of}
use Rattle.graph_check.specs.log_record.declared.format.Record.{Record}
use Rattle.log_survey.proofs.TableLemmas.{listed_is, written_is_touched}
use Rattle.log_survey.proofs.TouchLemmas.{region_touches}
use Rattle.log_survey.specs.world_invariant.Logs.{is_written}
use Rattle.area_recovery.specs.FoundLogs.{AreReadAs, AreTouchedIn, first_part, second_part}
use Rattle.area_recovery.proofs.ReadLogs.{second_touched}

drop_of_map : (n : ℕ) (rs : List Record) → map inodes_of (drop n rs) ≡ drop n (map inodes_of rs)
drop_of_map zero rs = refl
drop_of_map (suc n) [] = refl
drop_of_map (suc n) (r ∷ rs) = drop_of_map n rs

take_of_map : (n : ℕ) (rs : List Record) → map inodes_of (take n rs) ≡ take n (map inodes_of rs)
take_of_map zero rs = refl
take_of_map (suc n) [] = refl
take_of_map (suc n) (r ∷ rs) = ap (λ ls. inodes_of r ∷ ls) (take_of_map n rs)

-- there are as many lists as records
pub listed_long : (rs : List Record) (lists : List (List ℕ)) → AreTouchedBy rs lists → length lists ≡ length rs
listed_long rs lists are = ap length are ∙ length-map rs inodes_of

-- ---- the parts of two regions that count

module _ (evens odds : List Record) (even odd : List (List ℕ)) (these : AreTouchedIn even odd evens odds) where
  pub second_listed : (o : Option ℕ) → AreTouchedBy (second_part evens odds o) (second_part even odd o)
  second_listed None = refl
  second_listed (Some zero) = these.even_is
  second_listed (Some (suc r)) = these.odd_is

  pub first_listed : (o : Option LogRest) → AreTouchedBy (first_part evens odds o) (first_part even odd o)
  first_listed None = refl
  first_listed (Some rest) = ap (drop rest.from) (second_listed (Some rest.region)) ∙ sym (drop_of_map rest.from (second_part evens odds (Some rest.region)))

-- the records that two regions hold, by what is read of them
pub read_are_listed : (regions : ℕ → List ℕ) (name other : ℕ) (even odd : List (List ℕ)) → AreReadAs regions name other even odd → AreTouchedIn even odd (records (regions 0)) (records (regions 1))
read_are_listed regions name other even odd read = record {
  even_is = read.even_is.has;
  odd_is = read.odd_is.has;
  inodes = second_touched (records (regions 0)) (records (regions 1)) (region_touches (regions 0)) (region_touches (regions 1));
}

-- ---- whether they touch an inode

module _ (i : ℕ) (rs : List Record) (lists : List (List ℕ)) (are : AreTouchedBy rs lists) where
  pub written_is_listed : is_written i rs ≡ is_among i (listed lists)
  written_is_listed = written_is_touched i rs ∙ ap (is_among i) (sym (listed_is rs lists are))

  pub first_written : (k : ℕ) → is_written i (take k rs) ≡ is_among i (listed (take k lists))
  first_written k = written_is_touched i (take k rs) ∙ ap (is_among i) (sym (listed_is (take k rs) (take k lists) (ap (take k) are ∙ sym (take_of_map k rs))))

listed_append : (xs ys : List (List ℕ)) → listed (xs ++ ys) ≡ listed xs ++ listed ys
listed_append [] ys = refl
listed_append (is ∷ xs) ys = ap (λ js. is ++ js) (listed_append xs ys) ∙ sym (append_assoc is (listed xs) (listed ys))

-- whether the lists up to the next one have it
pub listed_more : (i : ℕ) (lists : List (List ℕ)) (k : ℕ) (is : List ℕ) → k < length lists → get_or lists k is ≡ is
    → is_among i (listed (take (k + 1) lists)) ≡ (is_among i (listed (take k lists)) || (is_among i is || false))
listed_more i lists k is low same =
    ap (λ ls. is_among i (listed ls)) (take_more lists k is low)
    ∙ ap (is_among i) (listed_append (take k lists) (get_or lists k is ∷ []))
    ∙ list_any-append (λ j. eqb j i) (listed (take k lists)) (get_or lists k is ++ [])
    ∙ ap (λ b. is_among i (listed (take k lists)) || b) (list_any-append (λ j. eqb j i) (get_or lists k is) [])
    ∙ ap (λ js. is_among i (listed (take k lists)) || (is_among i js || false)) same
