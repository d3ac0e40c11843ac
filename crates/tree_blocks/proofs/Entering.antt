-- The entries of a directory, as one is entered or taken out.
use Rattle.std.proofs.Common.{◌≡◌, ◌≢◌, ◌⊎◌, inl, inr, ℕ, ◌-◌, ◌≤◌, ◌<◌, List, refl, sym, ◌∙◌, ap, arith, cond, Some, None}
use Rattle.std.specs.FinMap as fin
use Rattle.std.specs.Cmp.Lexicographic.{nat_list_cmp_total}
use Rattle.std.proofs.lemmas.Bool.{cases_lt, cases_eq}
use Rattle.tree_blocks.specs.Inode.{Entry, named_entries, AreDistinct}
use Rattle.tree_blocks.specs.After.{IsEntered, IsTakenOut}
use Rattle.tree_blocks.proofs.Directories.{names_same, same_name, cases_name, get_there, get_missing, place_of}

abbrev Name : Type 0
Name = List ℕ

-- ---- a name is put

module _ (place : ℕ) (f : ℕ → Entry) (n : ℕ) (distinct : AreDistinct f n) (e : Entry) (m : ℕ) (g : ℕ → Entry) (put : IsEntered place e n f m g) where
  same_but : (k : ℕ) → k < m → k ≢ place → (k < n) × (g k ≡ f k) × ((f k).0 ≢ e.0)
  same_but k lt other = elim (put.at_name) [
    | inl old ↦ (omega (arith, lt, old.2), put.others k (omega (arith, lt, old.2)) other, λ is. other (distinct k place (omega (arith, lt, old.2)) old.0 (is ∙ sym old.1)))
    | inr new ↦
        let below : k < n = omega (arith, lt, new.2, new.0, other) in
        (below, put.others k below other, new.1 k below)
  ]

  inside : place < m
  inside = elim (put.at_name) [ inl old ↦ omega (arith, old.0, old.2) | inr new ↦ omega (arith, new.0, new.2) ]

  kept_below : n ≤ m
  kept_below = elim (put.at_name) [ inl old ↦ omega (arith, old.2) | inr new ↦ omega (arith, new.2) ]

  pub distinct_entered : AreDistinct g m
  distinct_entered i j li lj same = elim (cases_eq i place) [
    | inl i_at ↦ elim (cases_eq j place) [
      | inl j_at ↦ i_at ∙ sym j_at
      | inr j_off ↦
          let old = same_but j lj j_off in
          absurd (old.2 (ap (λ x. x.0) (sym old.1) ∙ sym same ∙ ap (λ k. (g k).0) i_at ∙ ap (λ x. x.0) put.there))
    ]
    | inr i_off ↦ elim (cases_eq j place) [
      | inl j_at ↦
          let old = same_but i li i_off in
          absurd (old.2 (ap (λ x. x.0) (sym old.1) ∙ same ∙ ap (λ k. (g k).0) j_at ∙ ap (λ x. x.0) put.there))
      | inr j_off ↦
          let at_i = same_but i li i_off in
          let at_j = same_but j lj j_off in
          distinct i j at_i.0 at_j.0 (ap (λ x. x.0) (sym at_i.1) ∙ same ∙ ap (λ x. x.0) at_j.1)
    ]
  ]

  pub named_entered : named_entries g m ≡ fin.insert (named_entries f n) e.0 e.1
  unfolding same_name
  named_entered = fin.same_map nat_list_cmp_total names_same (named_entries g m) (fin.insert (named_entries f n) e.0 e.1) (λ q.
      elim (cases_name q e.0) [
        | inl same ↦
            get_there g m place q distinct_entered inside (ap (λ x. x.0) put.there ∙ sym same.0) ∙ ap (λ x. Some x.1) put.there
            ∙ sym (fin.get-insert nat_list_cmp_total (named_entries f n) e.0 e.1 q ∙ ap (λ b. cond b (Some e.1) (fin.get (named_entries f n) q)) same.1)
        | inr other ↦
            unchanged q other.0 (place_of f n q)
            ∙ sym (fin.get-insert nat_list_cmp_total (named_entries f n) e.0 e.1 q ∙ ap (λ b. cond b (Some e.1) (fin.get (named_entries f n) q)) other.1)
      ]) where
        unchanged : (q : Name) → q ≢ e.0 → ((k : ℕ) × (k < n) × ((f k).0 ≡ q)) ⊎ ((j : ℕ) → j < n → (f j).0 ≢ q) → fin.get (named_entries g m) q ≡ fin.get (named_entries f n) q
        unchanged q other (inl found) =
            let off : found.0 ≢ place = λ is. elim (put.at_name) [ inl old ↦ other (sym found.2 ∙ ap (λ k. (f k).0) is ∙ old.1) | inr new ↦ absurd (omega (arith, found.1, is, new.0)) ] in
            let same : g found.0 ≡ f found.0 = put.others found.0 found.1 off in
            get_there g m found.0 q distinct_entered (omega (arith, found.1, kept_below)) (ap (λ x. x.0) same ∙ found.2) ∙ ap (λ x. Some x.1) same ∙ sym (get_there f n found.0 q distinct found.1 found.2)
        unchanged q other (inr none) = get_missing g m q (λ j lt is. elim (cases_eq j place) [
          | inl at ↦ other (sym is ∙ ap (λ k. (g k).0) at ∙ ap (λ x. x.0) put.there)
          | inr off ↦ let old = same_but j lt off in none j old.0 (ap (λ x. x.0) (sym old.1) ∙ is)
        ]) ∙ sym (get_missing f n q none)

-- ---- a name is taken out: the last entry stands in its place

module _ (place : ℕ) (f : ℕ → Entry) (n : ℕ) (distinct : AreDistinct f n) (m : ℕ) (g : ℕ → Entry) (left : IsTakenOut place n f m g) where
  -- where the entry at place k stood
  record Source (k : ℕ) : Type 0 where
    was : ℕ
    below : was < n
    same : g k ≡ f was
    other : was ≢ place
    moved : ((k ≡ place) × (was ≡ n - 1)) ⊎ ((k ≢ place) × (was ≡ k))

  source : (k : ℕ) → k < m → Source k
  source k lt = elim (cases_eq k place) [
    | inl at ↦ record {
      was = n - 1;
      below = omega (arith, left.inside);
      same = ap g at ∙ left.moved (omega (arith, lt, left.count, at));
      other = λ e. omega (arith, e, lt, left.count, at);
      moved = inl (at, refl);
    }
    | inr off ↦ record { was = k; below = omega (arith, lt, left.count); same = left.others k (omega (arith, lt, left.count)) off; other = off; moved = inr (off, refl) }
  ]

  pub distinct_left : AreDistinct g m
  distinct_left i j li lj same = by (source i li) (source j lj) where
    by : Source i → Source j → i ≡ j
    by a b =
        let one : a.was ≡ b.was = distinct a.was b.was a.below b.below (ap (λ x. x.0) (sym a.same) ∙ same ∙ ap (λ x. x.0) b.same) in
        elim (a.moved) [
          | inl a_last ↦ elim (b.moved) [ inl b_last ↦ a_last.0 ∙ sym b_last.0 | inr b_stays ↦ absurd (omega (arith, one, a_last.1, b_stays.1, lj, left.count)) ]
          | inr a_stays ↦ elim (b.moved) [ inl b_last ↦ absurd (omega (arith, one, b_last.1, a_stays.1, li, left.count)) | inr b_stays ↦ sym a_stays.1 ∙ one ∙ b_stays.1 ]
        ]

  pub named_left : named_entries g m ≡ fin.remove (named_entries f n) (f place).0
  unfolding same_name
  named_left = fin.same_map nat_list_cmp_total names_same (named_entries g m) (fin.remove (named_entries f n) (f place).0) (λ q.
      elim (cases_name q (f place).0) [
        | inl same ↦
            get_missing g m q (λ k lt is. let s = source k lt in s.other (distinct s.was place s.below left.inside (ap (λ x. x.0) (sym s.same) ∙ is ∙ same.0)))
            ∙ sym (fin.get-remove nat_list_cmp_total (named_entries f n) (f place).0 q ∙ ap (λ b. cond b None (fin.get (named_entries f n) q)) same.1)
        | inr other ↦
            unchanged q other.0 (place_of f n q)
            ∙ sym (fin.get-remove nat_list_cmp_total (named_entries f n) (f place).0 q ∙ ap (λ b. cond b None (fin.get (named_entries f n) q)) other.1)
      ]) where
        standing : (q : Name) (k j : ℕ) → j < m → g j ≡ f k → k < n → (f k).0 ≡ q → fin.get (named_entries g m) q ≡ fin.get (named_entries f n) q
        standing q k j lt same below is = get_there g m j q distinct_left lt (ap (λ x. x.0) same ∙ is) ∙ ap (λ x. Some x.1) same ∙ sym (get_there f n k q distinct below is)

        unchanged : (q : Name) → q ≢ (f place).0 → ((k : ℕ) × (k < n) × ((f k).0 ≡ q)) ⊎ ((j : ℕ) → j < n → (f j).0 ≢ q) → fin.get (named_entries g m) q ≡ fin.get (named_entries f n) q
        unchanged q other (inl found) =
            let off : found.0 ≢ place = λ e. other (sym found.2 ∙ ap (λ k. (f k).0) e) in
            elim (cases_lt found.0 (n - 1)) [
              | inl lt ↦ standing q found.0 found.0 (omega (arith, lt, left.count)) (left.others found.0 lt off) found.1 found.2
              | inr ge ↦
                  let last : n - 1 ≡ found.0 = omega (arith, ge, found.1) in
                  let low : place < n - 1 = omega (arith, off, last, left.inside) in
                  standing q found.0 place (omega (arith, low, left.count)) (left.moved low ∙ ap f last) found.1 found.2
            ]
        unchanged q other (inr none) = get_missing g m q (λ k lt is. let s = source k lt in none s.was s.below (ap (λ x. x.0) (sym s.same) ∙ is)) ∙ sym (get_missing f n q none)
