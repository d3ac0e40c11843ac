-- What counts of two regions, by what counts of each.
use Rattle.std.proofs.Common.{◌≡◌, inl, inr, ℕ, ◌%◌, ◌^◌, ◌<◌, Bool, true, false, List, [], ◌++◌, drop, refl, sym, ◌∙◌, ap, subst, append_assoc}
use Rattle.std.specs.Prelude.{◌==◌, ◌∷◌, Option, Some, None}
use Rattle.std.proofs.lemmas.Bool.{eq-eqb, cond-true}
use Rattle.std.proofs.lemmas.List.{append-nil}
use Rattle.update_log.specs.log_record.declared.format.Record.{Record}
use Rattle.update_log.specs.RecordCounts.{next_generation, records_in, records_under}
use Rattle.update_log.specs.Frames.{records}
use Rattle.update_log.specs.View.{WithOrWithout}
use Rattle.update_log.specs.WipeStops.{generation}
use Rattle.update_log.proofs.Counts.{other_counts_none, header_tells}
use Rattle.client_log.specs.Counts.{AreWithOrWithout, CountOf}
use Rattle.client_log.proofs.Generations.{apart}

own_records : (g : ℕ) (content : List ℕ) → generation content ≡ g → records_under g content ≡ records content
own_records g content is = cond-true (generation content == g) (records content) [] (eq-eqb (generation content) g is)

behind_both : (first rs all : List Record) (begun : Option Record) → AreWithOrWithout rs begun all → AreWithOrWithout (first ++ rs) begun (first ++ all)
behind_both first rs all begun (inl e) = inl (ap (λ (l : List Record). first ++ l) e)
behind_both first rs all None (inr e) = inl (ap (λ (l : List Record). first ++ l) e)
behind_both first rs all (Some r) (inr e) = inr (ap (λ (l : List Record). first ++ l) e ∙ sym (append_assoc first rs (r ∷ [])))

-- a content of the region that is written counts these records, with the begun one or without
pub with_counts : (g : ℕ) (head : List ℕ) (rs : List Record) (begun : Option Record) (content : List ℕ) → generation head ≡ g → WithOrWithout head rs begun content → AreWithOrWithout rs begun (records_under g content)
with_counts g head rs begun content names shows =
    let own = own_records g content (sym (header_tells content) ∙ ap generation shows.header_is ∙ names) in
    subst (λ (l : List Record). AreWithOrWithout rs begun l) (sym own) shows.records_are

-- both regions
pub count_of : (g : ℕ) (here : Bool) (rs : List Record) (begun : Option Record) (regions : ℕ → List ℕ) → g < 2 ^ 64
    → AreWithOrWithout rs begun (records_under g (regions (g % 2)))
    → (here ≡ true → records_under (next_generation g) (regions (next_generation g % 2)) ≡ [])
    → CountOf g here rs begun regions
count_of g here rs begun regions small own beside = record {
  passed = λ away. subst (λ (l : List Record). AreWithOrWithout rs begun l) (sym (ap (λ (l : List Record). records_in regions g ++ l) (none here away beside) ∙ append-nil (records_in regions g))) own;
  sealed = λ m done is names.
      let first : records_in regions m ≡ records (regions (m % 2)) = own_records m (regions (m % 2)) names in
      let last : records_in regions (next_generation m) ≡ records_in regions g = ap (records_in regions) is in
      subst (λ (l : List Record). AreWithOrWithout (drop done (records (regions (m % 2))) ++ rs) begun l)
      (sym (λ i. drop done (first i) ++ last i))
      (behind_both (drop done (records (regions (m % 2)))) rs (records_in regions g) begun own);
}
  where
    none : (here : Bool) → (here ≡ false → next_generation (generation (regions (next_generation g % 2))) ≡ g) → (here ≡ true → records_under (next_generation g) (regions (next_generation g % 2)) ≡ []) → records_in regions (next_generation g) ≡ []
    none true away beside = beside refl
    none false away beside = other_counts_none (next_generation g) (regions (next_generation g % 2)) (apart g (generation (regions (next_generation g % 2))) small (away refl))
