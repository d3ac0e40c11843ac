-- A mark that moves takes what was digested away from what counts.
use Rattle.std.proofs.Common.{◌≡◌, ◌≢◌, inl, inr, ℕ, ◌+◌, ◌%◌, ◌<◌, ◌≤◌, cond, Bool, List, [], length, drop, ap, sym, ◌∙◌, arith}
use Rattle.std.proofs.lemmas.Bool.Decides.{eqb_tells}
use Rattle.shared_area.specs.layout.declared.marks.Mark.{Mark}
use Rattle.update_log.specs.log_record.declared.format.Record.{Record}
use Rattle.update_log.specs.RecordCounts.{counted_records, next_generation, records_in, records_under}
use Rattle.update_log.specs.Frames.{records}
use Rattle.update_log.specs.WipeStops.{generation}
use Rattle.digester.specs.MarkMoves.{mark_after}

abbrev Within : Type 0
Within = (g done n : ℕ) (regions : ℕ → List ℕ) → done + n ≤ length (records_in regions g) → counted_records g (done + n) regions ≡ drop n (counted_records g done regions)

abbrev Finished : Type 0
Finished = (g done : ℕ) (regions : ℕ → List ℕ) → length (records_in regions g) ≤ done → records_in regions (next_generation (next_generation g)) ≡ [] → counted_records (next_generation g) 0 regions ≡ counted_records g done regions

abbrev Other : Type 0
Other = (g : ℕ) (content : List ℕ) → generation content ≢ g → records_under g content ≡ []

-- a region some of whose records count names their generation
named : (g : ℕ) (content : List ℕ) → 0 < length (records_under g content) → generation content ≡ g
named g content some = elim (eqb_tells (generation content) g) [
  | inl is ↦ is.1
  | inr other ↦ (let none : length (records_under g content) ≡ 0 = ap (λ (b : Bool). length {A = Record} (cond b (records content) [])) other.0 in absurd (omega (arith, some, none)))
]

after_next : (g : ℕ) → next_generation (next_generation g) ≢ g
after_next g is = omega (arith, is)

same_region : (g : ℕ) → next_generation (next_generation g) % 2 ≡ g % 2
same_region g = omega arith

-- so it does not name the one after the next
none_after : Other → (g : ℕ) (regions : ℕ → List ℕ) → 0 < length (records_in regions g) → records_in regions (next_generation (next_generation g)) ≡ []
none_after other g regions some =
    let last = next_generation (next_generation g) in
    other last (regions (last % 2)) (λ is. after_next g (sym is ∙ ap (λ r. generation (regions r)) (same_region g) ∙ named g (regions (g % 2)) some))

pub counted_after : Within → Finished → Other → (g done n : ℕ) (regions : ℕ → List ℕ) → 0 < n → done + n ≤ length (records_in regions g)
    → counted_records (mark_after g (done + n) (length (records_in regions g))).generation (mark_after g (done + n) (length (records_in regions g))).done regions ≡ drop n (counted_records g done regions)
counted_after within finished other g done n regions some le =
    let moved : Bool → Mark = λ b. cond b (record { generation = next_generation g; done = 0 }) (record { generation = g; done = done + n }) in
    let none = none_after other g regions (omega (arith, some, le)) in
    elim (eqb_tells (done + n) (length (records_in regions g))) [
      | inl all ↦ (let same = all.1 in
          ap (λ (b : Bool). counted_records (moved b).generation (moved b).done regions) all.0 ∙ finished g (done + n) regions (omega (arith, same)) none ∙ within g done n regions le)
      | inr part ↦ ap (λ (b : Bool). counted_records (moved b).generation (moved b).done regions) part.0 ∙ within g done n regions le
    ]
