-- What is found in a list of blocks once it was changed.
use Rattle.std.proofs.Common.{◌≡◌, ◌≢◌, ◌⊎◌, inl, inr, ℕ, ◌+◌, zero, suc, Bool, true, false, cond, ◌&&◌, List, [], ◌∷◌, take, Option, Some, None, refl, sym, ◌∙◌, ap}
use Rattle.std.specs.Prelude.{◌==◌, not}
use Rattle.std.specs.List.{filter}
use Rattle.std.specs.Option.{option_map_or}
use Rattle.std.proofs.lemmas.Bool.{cases_Bool, and_parts, and_from, eqb-true, eq-eqb, ne_eqb, cond-true, cond-false, not_from_true, not_from_false}
use Rattle.block_cache.specs.CacheList.{Block, is_at, bytes_at, bytes_if_first, without, in_front, use_block, used_run, put_block, without_file}

module _ (i n : ℕ) where
  -- where a filter keeps each block of this place, the same is found
  kept : (keeps : Block → Bool) (bs : List Block) → ((b : Block) → is_at i n b ≡ true → keeps b ≡ true) → bytes_at i n (filter keeps bs) ≡ bytes_at i n bs
  kept keeps [] all = refl
  kept keeps (b ∷ bs) all = elim (cases_Bool (keeps b)) [
    | inl t ↦ ap (bytes_at i n) (cond-true (keeps b) (b ∷ filter keeps bs) (filter keeps bs) t) ∙ ap (λ r. cond (is_at i n b) (Some b.bytes) r) (kept keeps bs all)
    | inr f ↦ elim (cases_Bool (is_at i n b)) [
      | inl at ↦ absurd (let no : true ≡ false = sym (all b at) ∙ f in cc no)
      | inr off ↦ ap (bytes_at i n) (cond-false (keeps b) (b ∷ filter keeps bs) (filter keeps bs) f) ∙ kept keeps bs all ∙ sym (cond-false (is_at i n b) (Some b.bytes) (bytes_at i n bs) off)
    ]
  ]

  -- where it keeps none of them, none is found
  dropped : (keeps : Block → Bool) (bs : List Block) → ((b : Block) → is_at i n b ≡ true → keeps b ≡ false) → bytes_at i n (filter keeps bs) ≡ None
  dropped keeps [] none = refl
  dropped keeps (b ∷ bs) none = elim (cases_Bool (keeps b)) [
    | inl t ↦ elim (cases_Bool (is_at i n b)) [
      | inl at ↦ absurd (let no : true ≡ false = sym t ∙ none b at in cc no)
      | inr off ↦ ap (bytes_at i n) (cond-true (keeps b) (b ∷ filter keeps bs) (filter keeps bs) t) ∙ cond-false (is_at i n b) (Some b.bytes) (bytes_at i n (filter keeps bs)) off ∙ dropped keeps bs none
    ]
    | inr f ↦ ap (bytes_at i n) (cond-false (keeps b) (b ∷ filter keeps bs) (filter keeps bs) f) ∙ dropped keeps bs none
  ]

  -- what is found among the first ones is found among all
  among_first : (m : ℕ) (bs : List Block) (v : List ℕ) → bytes_at i n (take m bs) ≡ Some v → bytes_at i n bs ≡ Some v
  among_first zero bs v is = absurd (cc is)
  among_first (suc m) [] v is = is
  among_first (suc m) (b ∷ bs) v is = elim (cases_Bool (is_at i n b)) [
    | inl t ↦ cond-true (is_at i n b) (Some b.bytes) (bytes_at i n bs) t ∙ sym (cond-true (is_at i n b) (Some b.bytes) (bytes_at i n (take m bs)) t) ∙ is
    | inr f ↦ cond-false (is_at i n b) (Some b.bytes) (bytes_at i n bs) f ∙ among_first m bs v (sym (cond-false (is_at i n b) (Some b.bytes) (bytes_at i n (take m bs)) f) ∙ is)
  ]

at_itself : (i n : ℕ) (v : List ℕ) → is_at i n (record { inode = i; block = n; bytes = v }) ≡ true
at_itself i n v = and_from (i == i) (n == n) (eq-eqb i i refl) (eq-eqb n n refl)

-- the first is found
pub first_found : (i n : ℕ) (v : List ℕ) (bs : List Block) → bytes_at i n (in_front i n v bs) ≡ Some v
first_found i n v bs = cond-true (is_at i n (record { inode = i; block = n; bytes = v })) (Some v) (bytes_at i n (without i n bs)) (at_itself i n v)

pub put_found : (bs : List Block) (i n : ℕ) (v : List ℕ) → bytes_at i n (put_block i n v bs) ≡ Some v
put_found bs i n v = cond-true (is_at i n (record { inode = i; block = n; bytes = v })) (Some v) (bytes_at i n (take 255 (without i n bs))) (at_itself i n v)

-- other places than the first
module _ (i n j m : ℕ) where
  -- a block of the one place is not of the other
  apart : (is_at' : (i == j) && (n == m) ≡ false) (b : Block) → is_at i n b ≡ true → is_at j m b ≡ false
  apart off b at = elim (cases_Bool (is_at j m b)) [
    | inl t ↦
        let here = and_parts (i == b.inode) (n == b.block) at in
        let there = and_parts (j == b.inode) (m == b.block) t in
        absurd (let yes' : (i == j) && (n == m) ≡ true = and_from (i == j) (n == m)
        (eq-eqb i j (eqb-true i b.inode here.0 ∙ sym (eqb-true j b.inode there.0)))
        (eq-eqb n m (eqb-true n b.block here.1 ∙ sym (eqb-true m b.block there.1))) in let no : true ≡ false = sym yes' ∙ off in cc no)
    | inr f ↦ f
  ]

  pub past_first : (v : List ℕ) (bs : List Block) → (i == j) && (n == m) ≡ false → bytes_at i n (in_front j m v bs) ≡ bytes_at i n bs
  past_first v bs off =
      cond-false ((i == j) && (n == m)) (Some v) (bytes_at i n (without j m bs)) off
      ∙ kept i n (λ b. not (is_at j m b)) bs (λ b at. not_from_false (is_at j m b) (apart off b at))

  pub put_others : (bs : List Block) (v found : List ℕ) → bytes_at i n (put_block j m v bs) ≡ Some found → ((i ≡ j) × (n ≡ m) × (found ≡ v)) ⊎ (bytes_at i n bs ≡ Some found)
  put_others bs v found is =
      let all = among_first i n 256 (in_front j m v bs) found is in
      elim (cases_Bool ((i == j) && (n == m))) [
        | inl t ↦ let parts = and_parts (i == j) (n == m) t in
            let same : Some v ≡ Some found = sym (cond-true ((i == j) && (n == m)) (Some v) (bytes_at i n (without j m bs)) t) ∙ all in
            inl (eqb-true i j parts.0, eqb-true n m parts.1, cc same)
        | inr f ↦ inr (sym (past_first v bs f) ∙ all)
      ]

  used_by : (bs : List Block) (o : Option (List ℕ)) → bytes_at j m bs ≡ o → bytes_at i n (option_map_or (λ v. in_front j m v bs) o bs) ≡ bytes_at i n bs
  used_by bs None is = refl
  used_by bs (Some v) is = elim (cases_Bool ((i == j) && (n == m))) [
    | inl t ↦
        let parts = and_parts (i == j) (n == m) t in
        let si = eqb-true i j parts.0 in
        let sn = eqb-true n m parts.1 in
        cond-true ((i == j) && (n == m)) (Some v) (bytes_at i n (without j m bs)) t ∙ sym is ∙ (λ k. bytes_at (sym si k) (sym sn k) bs)
    | inr f ↦ past_first v bs f
  ]

  pub used_stays : (bs : List Block) → bytes_at i n (use_block j m bs) ≡ bytes_at i n bs
  used_stays bs = used_by bs (bytes_at j m bs) refl

-- a block that is used is the first, if it is there
unfound_first : (i n : ℕ) (bs : List Block) → bytes_at i n bs ≡ None → bytes_if_first i n bs ≡ None
unfound_first i n [] none = refl
unfound_first i n (b ∷ bs) none = elim (cases_Bool (is_at i n b)) [
  | inl t ↦ absurd (let no : Some b.bytes ≡ None = sym (cond-true (is_at i n b) (Some b.bytes) (bytes_at i n bs) t) ∙ none in cc no)
  | inr f ↦ cond-false (is_at i n b) (Some b.bytes) None f
]

used_first_by : (i n : ℕ) (bs : List Block) (o : Option (List ℕ)) → bytes_at i n bs ≡ o → bytes_if_first i n (option_map_or (λ v. in_front i n v bs) o bs) ≡ o
used_first_by i n bs None is = unfound_first i n bs is
used_first_by i n bs (Some v) is = cond-true (is_at i n (record { inode = i; block = n; bytes = v })) (Some v) None (at_itself i n v)

pub used_first : (i n : ℕ) (bs : List Block) → bytes_if_first i n (use_block i n bs) ≡ bytes_at i n bs
used_first i n bs = used_first_by i n bs (bytes_at i n bs) refl

-- blocks that are used one after the other
pub used_run_stays : (i n j first count : ℕ) (bs : List Block) → bytes_at i n (used_run j first count bs) ≡ bytes_at i n bs
used_run_stays i n j first zero bs = refl
used_run_stays i n j first (suc count) bs = used_stays i n j (first + count) (used_run j first count bs) ∙ used_run_stays i n j first count bs

pub file_gone : (bs : List Block) (i n : ℕ) → bytes_at i n (without_file i bs) ≡ None
file_gone bs i n = dropped i n (λ b. not (b.inode == i)) bs (λ b at. not_from_true (b.inode == i) (eq-eqb b.inode i (sym (eqb-true i b.inode (and_parts (i == b.inode) (n == b.block) at).0))))

pub others_stay : (bs : List Block) (j i n : ℕ) → i ≢ j → bytes_at i n (without_file j bs) ≡ bytes_at i n bs
others_stay bs j i n other =
    kept i n (λ b. not (b.inode == j)) bs (λ b at. not_from_false (b.inode == j) (ne_eqb b.inode j (λ same. other (eqb-true i b.inode (and_parts (i == b.inode) (n == b.block) at).0 ∙ same))))
