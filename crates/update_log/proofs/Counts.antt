-- What counts of a client's two regions.
use Rattle.std.proofs.Common.{◌≡◌, ◌≢◌, ◌⊎◌, inl, inr, ℕ, ◌+◌, ◌%◌, ◌^◌, ◌<◌, ◌≤◌, List, [], ◌∷◌, ◌++◌, length, drop, refl, sym, ◌∙◌, ap, arith, append_assoc}
use Rattle.std.specs.Prelude.{◌==◌, Option, Some, None}
use Rattle.std.proofs.lemmas.Bool.{cases_Bool, eqb-true, eq-eqb, ne_eqb, cond-true, cond-false}
use Rattle.std.proofs.lemmas.List.{append-nil, drop_all, drop-drop, drop-append-le, length-drop}
use Rattle.byteorder.specs.Numbers.{little_from-take}
use Rattle.log_record.specs.declared.format.Record.{Record}
use Rattle.update_log.specs.Frames.{records, header, with_record}
use Rattle.update_log.specs.View.{WithOrWithout}
use Rattle.update_log.specs.WipeStops.{generation, LeftInWipe}
use Rattle.update_log.specs.RecordCounts.{records_under, next_generation, records_in, counted_records, with_region}

-- a region that names another generation counts nothing
pub other_counts_none : (g : ℕ) (content : List ℕ) → generation content ≢ g → records_under g content ≡ []
other_counts_none g content other = cond-false (generation content == g) (records content) [] (ne_eqb (generation content) g other)

own_counts : (g : ℕ) (content : List ℕ) → generation content ≡ g → records_under g content ≡ records content
own_counts g content is = cond-true (generation content == g) (records content) [] (eq-eqb (generation content) g is)

none_counts_none : (g : ℕ) (content : List ℕ) → records content ≡ [] → records_under g content ≡ []
none_counts_none g content none = elim (cases_Bool (generation content == g)) [
  | inl t ↦ cond-true (generation content == g) (records content) [] t ∙ none
  | inr f ↦ cond-false (generation content == g) (records content) [] f
]

-- the header tells the generation
pub header_tells : (content : List ℕ) → generation (header content) ≡ generation content
header_tells content = little_from-take 0 8 16 content (omega arith)

same_generation : (content content' : List ℕ) → header content' ≡ header content → generation content' ≡ generation content
same_generation content content' same = sym (header_tells content') ∙ ap generation same ∙ header_tells content

-- within a wipe nothing counts under another generation than the old one
pub wiped_counts_none : (g : ℕ) (head content : List ℕ) (behind : List Record) → LeftInWipe head behind content → generation head ≢ g → records_under g content ≡ []
wiped_counts_none g head content behind (inl closing) other =
    other_counts_none g content (λ is. other (sym (sym (header_tells content) ∙ ap generation closing.header_is) ∙ is))
wiped_counts_none g head content behind (inr naming) other = none_counts_none g content naming.none

-- one region changes
module _ (regions : ℕ → List ℕ) (r : ℕ) (content : List ℕ) where
  abbrev now : ℕ → List ℕ
  now = with_region regions r content

  -- it counts nothing under a generation, now as before
  kept_in : (g : ℕ) → records_under g content ≡ [] → records_under g (regions r) ≡ [] → records_in now g ≡ records_in regions g
  kept_in g none none' = elim (cases_Bool (g % 2 == r)) [
    | inl t ↦
        ap (records_under g) (cond-true (g % 2 == r) content (regions (g % 2)) t) ∙ none ∙ sym none'
        ∙ ap (λ s. records_under g (regions s)) (sym (eqb-true (g % 2) r t))
    | inr f ↦ ap (records_under g) (cond-false (g % 2 == r) content (regions (g % 2)) f)
  ]

  -- it is the one of the generation
  there_in : (g : ℕ) → g % 2 ≡ r → records_in now g ≡ records_under g content
  there_in g is = ap (records_under g) (cond-true (g % 2 == r) content (regions (g % 2)) (eq-eqb (g % 2) r is))

  pub both_kept : (g done : ℕ) → records_under g content ≡ [] → records_under g (regions r) ≡ [] → records_under (next_generation g) content ≡ [] → records_under (next_generation g) (regions r) ≡ []
      → counted_records g done now ≡ counted_records g done regions
  both_kept g done none none' next next' = (λ k. drop done (kept_in g none none' k) ++ kept_in (next_generation g) next next' k)

pub wipe_keeps : (g done r : ℕ) (regions : ℕ → List ℕ) (content : List ℕ) (behind : List Record) → LeftInWipe (header (regions r)) behind content → generation (regions r) ≢ g → generation (regions r) ≢ next_generation g
    → counted_records g done (with_region regions r content) ≡ counted_records g done regions
wipe_keeps g done r regions content behind wiped other next =
    let none_under : (k : ℕ) → generation (regions r) ≢ k → records_under k content ≡ [] =
    λ k apart. wiped_counts_none k (header (regions r)) content behind wiped (λ is. apart (sym (header_tells (regions r)) ∙ is)) in
    both_kept regions r content g done (none_under g other) (other_counts_none g (regions r) other) (none_under (next_generation g) next) (other_counts_none (next_generation g) (regions r) next)

-- ---- an append

joined_behind : (first rs : List Record) (o : Option Record) → first ++ with_record rs o ≡ with_record (first ++ rs) o
joined_behind first rs None = refl
joined_behind first rs (Some r) = sym (append_assoc first rs (r ∷ []))

drop_joined : (done : ℕ) (rs : List Record) (o : Option Record) → done ≤ length rs → drop done (with_record rs o) ≡ with_record (drop done rs) o
drop_joined done rs None le = refl
drop_joined done rs (Some r) le = drop-append-le done rs (r ∷ []) le

next_is_other : (g : ℕ) → g < 2 ^ 64 → next_generation g ≢ g
next_is_other g lt is = omega (arith, lt, is)

module _ (g done : ℕ) (regions : ℕ → List ℕ) (content : List ℕ) (begun : Option Record) (small : g < 2 ^ 64) where
  abbrev EitherIn : ℕ → Type 0
  EitherIn r = (counted_records g done (with_region regions r content) ≡ counted_records g done regions) ⊎ (counted_records g done (with_region regions r content) ≡ with_record (counted_records g done regions) begun)

  abbrev next_one : ℕ
  next_one = next_generation g

  pub append_next : generation (regions (next_one % 2)) ≡ next_one → WithOrWithout (header (regions (next_one % 2))) (records (regions (next_one % 2))) begun content → EitherIn (next_one % 2)
  append_next names shows =
      let r = next_one % 2 in
      let same = same_generation (regions r) content shows.header_is in
      let apart = next_is_other g small in
      let first : records_in (with_region regions r content) g ≡ records_in regions g =
      kept_in regions r content g (other_counts_none g content (λ is. apart (sym names ∙ sym same ∙ is))) (other_counts_none g (regions r) (λ is. apart (sym names ∙ is))) in
      let last : records_in (with_region regions r content) next_one ≡ records content =
      there_in regions r content next_one refl ∙ own_counts next_one content (same ∙ names) in
      let was : records_in regions next_one ≡ records (regions r) = own_counts next_one (regions r) names in
      let all : counted_records g done (with_region regions r content) ≡ drop done (records_in regions g) ++ records content = (λ k. drop done (first k) ++ last k) in
      elim (shows.records_are) [
        | inl is ↦ inl (all ∙ ap (λ (l : List Record). drop done (records_in regions g) ++ l) (is ∙ sym was))
        | inr more ↦ inr (all ∙ ap (λ (l : List Record). drop done (records_in regions g) ++ l) (more ∙ ap (λ (l : List Record). with_record l begun) (sym was))
            ∙ joined_behind (drop done (records_in regions g)) (records_in regions next_one) begun)
      ]

  pub append_own : generation (regions (g % 2)) ≡ g → done ≤ length (records (regions (g % 2))) → records_in regions next_one ≡ [] → WithOrWithout (header (regions (g % 2))) (records (regions (g % 2))) begun content → EitherIn (g % 2)
  append_own names le none shows =
      let r = g % 2 in
      let same = same_generation (regions r) content shows.header_is in
      let apart = next_is_other g small in
      let first : records_in (with_region regions r content) g ≡ records content = there_in regions r content g refl ∙ own_counts g content (same ∙ names) in
      let last : records_in (with_region regions r content) next_one ≡ [] =
      kept_in regions r content next_one (other_counts_none next_one content (λ is. apart (sym is ∙ same ∙ names))) (other_counts_none next_one (regions r) (λ is. apart (sym is ∙ names))) ∙ none in
      let was : records_in regions g ≡ records (regions r) = own_counts g (regions r) names in
      let all : counted_records g done (with_region regions r content) ≡ drop done (records content) = (λ k. drop done (first k) ++ last k) ∙ append-nil (drop done (records content)) in
      let before : counted_records g done regions ≡ drop done (records (regions r)) = (λ k. drop done (was k) ++ none k) ∙ append-nil (drop done (records (regions r))) in
      elim (shows.records_are) [
        | inl is ↦ inl (all ∙ ap (drop done) is ∙ sym before)
        | inr more ↦ inr (all ∙ ap (drop done) more ∙ drop_joined done (records (regions r)) begun le ∙ ap (λ (l : List Record). with_record l begun) (sym before))
      ]

-- ---- a digest

pub fewer_within : (g done n : ℕ) (regions : ℕ → List ℕ) → done + n ≤ length (records_in regions g) → counted_records g (done + n) regions ≡ drop n (counted_records g done regions)
fewer_within g done n regions le =
    let own = records_in regions g in
    let next = records_in regions (next_generation g) in
    ap (λ (l : List Record). l ++ next) (sym (drop-drop n done own)) ∙ sym (drop-append-le n (drop done own) next (omega (arith, le, length-drop done own)))

pub generation_done : (g done : ℕ) (regions : ℕ → List ℕ) → length (records_in regions g) ≤ done → records_in regions (next_generation (next_generation g)) ≡ [] → counted_records (next_generation g) 0 regions ≡ counted_records g done regions
generation_done g done regions le none =
    let next = records_in regions (next_generation g) in
    ap (λ (l : List Record). next ++ l) none ∙ append-nil next ∙ sym (ap (λ (l : List Record). l ++ next) (drop_all done (records_in regions g) le))
