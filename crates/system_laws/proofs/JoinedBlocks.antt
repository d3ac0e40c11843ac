-- A file whose blocks are these, each as long as the file has it.
use Rattle.std.proofs.Common.{◌≡◌, ℕ, zero, suc, ◌-◌, ◌*◌, ◌<◌, ◌≤◌, min, List, [], ◌++◌, length, take, drop, ap, sym, ◌∙◌, arith}
use Rattle.std.proofs.Math.Decide.{dec_le}
use Rattle.std.proofs.Math.Seq.{drop-append_seam}
use Rattle.std.proofs.lemmas.List.{append-nil, drop-append-le, drop_all, length-append, length-drop, take-append-le, take_all}
use Rattle.event_steps.specs.call_effects.Blocks.{block_of}

-- so many of them, one behind the other
pub joined : (ℕ → List ℕ) → ℕ → List ℕ
joined f zero = []
joined f (suc n) = joined f n ++ f n

none_left : (xs : List ℕ) → length xs ≡ 0 → xs ≡ []
none_left xs none = sym (take_all 0 xs (omega (arith, none)))

module _ (size : ℕ) (f : ℕ → List ℕ) (long : (b : ℕ) → length (f b) ≡ min 4096 (size - 4096 * b)) where
  joined_long : (n : ℕ) → length (joined f n) ≡ min (4096 * n) size
  unfolding joined
  joined_long zero = omega arith
  joined_long (suc n) = let so_far = joined_long n in let more = long n in length-append (joined f n) (f n) ∙ omega (arith, so_far, more)

  -- behind the file's end there is nothing more
  none_more : (n : ℕ) → size ≤ 4096 * n → f n ≡ []
  none_more n past = let more = long n in none_left (f n) (omega (arith, more, past))

  not_more : (n : ℕ) → size ≤ 4096 * n → joined f n ++ f n ≡ joined f n
  not_more n past = ap (λ xs. joined f n ++ xs) (none_more n past) ∙ append-nil (joined f n)

  fits : (b : ℕ) → length (f b) ≤ 4096
  fits b = let many = long b in omega (arith, many)

  earlier : (n b : ℕ) → 4096 * n ≤ size → b < n → block_of b (joined f n ++ f n) ≡ block_of b (joined f n)
  earlier n b within low =
      let many = joined_long n in
      let full : length (joined f n) ≡ 4096 * n = omega (arith, many, within) in
      let inside : 4096 * b ≤ length (joined f n) = omega (arith, full, low) in
      let rest = length-drop (4096 * b) (joined f n) in
      let enough : 4096 ≤ length (drop (4096 * b) (joined f n)) = omega (arith, rest, full, low) in
      ap (take 4096) (drop-append-le (4096 * b) (joined f n) (f n) inside) ∙ take-append-le 4096 (drop (4096 * b) (joined f n)) (f n) enough

  last : (n : ℕ) → 4096 * n ≤ size → block_of n (joined f n ++ f n) ≡ f n
  last n within =
      let many = joined_long n in
      let full : 4096 * n ≡ length (joined f n) = omega (arith, many, within) in
      ap (λ k. take 4096 (drop k (joined f n ++ f n))) full ∙ ap (take 4096) (drop-append_seam (joined f n) (f n)) ∙ take_all 4096 (f n) (fits n)

  past_end : (n b : ℕ) → size ≤ 4096 * b → block_of b (joined f n) ≡ []
  past_end n b past = let many = joined_long n in ap (take 4096) (drop_all (4096 * b) (joined f n) (omega (arith, many, past))) ∙ take_all 4096 [] (omega arith)

  joined_block : (n b : ℕ) → b < n → block_of b (joined f n) ≡ f b
  unfolding joined
  joined_block zero b low = absurd (omega (arith, low))
  joined_block (suc n) b low = elim (dec_le (4096 * n) size) [
    | yes within ↦ elim (dec_le (suc b) n) [
      | yes before ↦ earlier n b within before ∙ joined_block n b before
      | no behind ↦ let same : b ≡ n = omega (arith, behind, low) in ap (λ k. block_of k (joined f n ++ f n)) same ∙ last n within ∙ sym (ap f same)
    ]
    | no outside ↦ let past : size ≤ 4096 * n = omega (arith, outside) in ap (block_of b) (not_more n past) ∙ elim (dec_le (suc b) n) [
      | yes before ↦ joined_block n b before
      | no behind ↦ let same : b ≡ n = omega (arith, behind, low) in past_end n b (omega (arith, past, same)) ∙ sym (none_more b (omega (arith, past, same)))
    ]
  ]

  -- all of them: as many as the file may have
  pub whole_file : List ℕ
  whole_file = joined f size

  pub whole_long : length whole_file ≡ size
  unfolding whole_file
  whole_long = let many = joined_long size in omega (arith, many)

  pub whole_block : (b : ℕ) → block_of b whole_file ≡ f b
  unfolding whole_file
  whole_block b = elim (dec_le (suc b) size) [
    | yes low ↦ joined_block size b low
    | no high ↦ let past : size ≤ 4096 * b = omega (arith, high) in past_end size b past ∙ sym (none_more b past)
  ]
