-- A buffer whose front is a block, as the block is cut, grown and written.
use Rattle.std.proofs.Common.{◌≡◌, ◌<◌, ◌≤◌, ℕ, ◌+◌, ◌-◌, min, max, List, [], ◌++◌, length, take, drop, replicate, ap, sym, ◌∙◌, arith, append_assoc, append-nil}
use Rattle.std.proofs.Math.Decide.{dec_le}
use Rattle.std.proofs.Math.Seq.{take-append-add}
use Rattle.std.proofs.lemmas.List.{take-take, take_all, take_at, take-append-le, take-replicate, drop_all, drop-take, length-take-le, length-replicate, length-append, length-drop}
use Rattle.posix_calls.specs.Content.{with_length, with_bytes}
use Rattle.posix_calls.proofs.Within.{resized_length}

-- ---- zeros behind the front

pub filled : (buffer : List ℕ) (len end : ℕ) → len < end → end ≤ length buffer → take (max len end) (take len buffer ++ replicate (end - len) 0 ++ drop end buffer) ≡ take len buffer ++ replicate (end - len) 0
filled buffer len end more within =
    let most : max len end ≡ end = omega (arith, more) in
    let long : length (take len buffer ++ replicate (end - len) 0) ≡ end = length-append (take len buffer) (replicate (end - len) 0) ∙ omega (arith, more, within, length-take-le len buffer, length-replicate {A = ℕ} (end - len) 0) in
    ap (λ n. take n (take len buffer ++ replicate (end - len) 0 ++ drop end buffer)) most ∙ take_at (take len buffer ++ replicate (end - len) 0) (drop end buffer) end long

pub none_more : (m n : ℕ) → m ≤ n → (xs : List ℕ) → xs ++ replicate (m - n) 0 ≡ xs
none_more m n less xs = let none : m - n ≡ 0 = omega (arith, less) in ap (λ k. xs ++ replicate k 0) none ∙ append-nil xs

pub unfilled : (buffer : List ℕ) (len end : ℕ) → end ≤ len → take (max len end) buffer ≡ take len buffer ++ replicate (end - len) 0
unfilled buffer len end less =
    let most : max len end ≡ len = omega (arith, less) in
    ap (λ n. take n buffer) most ∙ sym (none_more end len less (take len buffer))

-- ---- cut or grown

cut_or_grown : (m : ℕ) (xs : List ℕ) → take m (xs ++ replicate (m - length xs) 0) ≡ with_length m xs
cut_or_grown m xs = elim (dec_le m (length xs)) [
  | yes less ↦ take-append-le m xs (replicate (m - length xs) 0) less ∙ sym (none_more m (length xs) less (take m xs))
  | no more ↦
      let long : length (xs ++ replicate (m - length xs) 0) ≤ m = omega (arith, more, length-append xs (replicate (m - length xs) 0), length-replicate {A = ℕ} (m - length xs) 0) in
      let short : length xs ≤ m = omega (arith, more) in
      take_all m (xs ++ replicate (m - length xs) 0) long ∙ ap (λ ys. ys ++ replicate (m - length xs) 0) (sym (take_all m xs short))
]

pub resizes : (old new : List ℕ) (len end : ℕ) → len ≤ length old → take (max len end) new ≡ take len old ++ replicate (end - len) 0 → take end new ≡ with_length end (take len old)
resizes old new len end within grown =
    let long : length (take len old) ≡ len = length-take-le len old within in
    let most : end ≤ max len end = omega arith in
    sym (take-take end (max len end) new most)
    ∙ ap (take end) grown
    ∙ ap (λ n. take end (take len old ++ replicate (end - n) 0)) (sym long)
    ∙ cut_or_grown end (take len old)

-- ---- written

module _ (old new bytes : List ℕ) (len offset : ℕ) (within : len ≤ length old) (room : offset + length bytes ≤ length new) (grown : take (max len offset) new ≡ take len old ++ replicate (offset - len) 0) where
  abbrev end : ℕ
  end = offset + length bytes

  front : length (take offset new ++ bytes) ≡ end
  front = length-append (take offset new) bytes ∙ omega (arith, room, length-take-le offset new)

  behind : take (max len end - end) (drop end new) ≡ drop end (take len old)
  behind = elim (dec_le len end) [
    | yes less ↦
        let none : max len end - end ≡ 0 = omega (arith, less) in
        let all : length (take len old) ≤ end = omega (arith, less, length-take-le len old within) in
        ap (λ n. take n (drop end new)) none ∙ sym (drop_all end (take len old) all)
    | no more ↦
        let rest : end + (max len end - end) ≡ len = omega (arith, more) in
        let most : max len offset ≡ len = omega (arith, more) in
        let low : offset ≤ len = omega (arith, more) in
        sym (drop-take end (max len end - end) new)
        ∙ ap (λ n. drop end (take n new)) (rest ∙ sym most)
        ∙ ap (drop end) (grown ∙ none_more offset len low (take len old))
  ]

  pub puts : take (max len end) (take offset new ++ bytes ++ drop end new) ≡ with_bytes offset bytes (take len old)
  puts =
      let split : max len end ≡ length (take offset new ++ bytes) + (max len end - end) = omega (arith, front) in
      ap (λ n. take n (take offset new ++ bytes ++ drop end new)) split
      ∙ take-append-add (take offset new ++ bytes) (drop end new) (max len end - end)
      ∙ ap (λ ys. take offset new ++ bytes ++ ys) behind
      ∙ ap (λ xs. xs ++ bytes ++ drop end (take len old)) (resizes old new len offset within grown)

-- ---- what of a write lies in the first m bytes

grown_front : (m off : ℕ) (xs : List ℕ) → length xs ≤ m → m ≤ off → take m (with_length off xs) ≡ with_length m xs
grown_front m off xs short more =
    let all : length xs ≤ off = omega (arith, short, more) in
    let rest : length xs + (m - length xs) ≡ m = omega (arith, short) in
    let fewer : m - length xs ≤ off - length xs = omega (arith, more) in
    ap (λ ys. take m (ys ++ replicate (off - length xs) 0)) (take_all off xs all)
    ∙ ap (λ n. take n (xs ++ replicate (off - length xs) 0)) (sym rest)
    ∙ take-append-add xs (replicate (off - length xs) 0) (m - length xs)
    ∙ ap (λ ys. xs ++ ys) (take-replicate (m - length xs) (off - length xs) 0 fewer)
    ∙ ap (λ ys. ys ++ replicate (m - length xs) 0) (sym (take_all m xs short))

pub behind_all : (m off : ℕ) (new old : List ℕ) → length old ≤ m → m ≤ off → take m (with_bytes off new old) ≡ with_length m old
behind_all m off new old short more =
    let long : m ≤ length (with_length off old) = omega (arith, more, resized_length off old) in
    ap (take m) (append_assoc (with_length off old) new (drop (off + length new) old))
    ∙ take-append-le m (with_length off old) (new ++ drop (off + length new) old) long
    ∙ grown_front m off old short more

within_all : (m off : ℕ) (new old : List ℕ) → length old ≤ m → off + length new ≤ m → take m (with_bytes off new old) ≡ with_bytes off new old
within_all m off new old short less =
    take_all m (with_bytes off new old) (omega (arith, short, less, length-append (with_length off old ++ new) (drop (off + length new) old), length-append (with_length off old) new, resized_length off old, length-drop (off + length new) old))

cut_off : (m off : ℕ) (new old : List ℕ) → length old ≤ m → off ≤ m → m ≤ off + length new → take m (with_bytes off new old) ≡ with_bytes off (take (m - off) new) old
cut_off m off new old short low high =
    let long : m ≤ length (with_length off old ++ new) = omega (arith, high, length-append (with_length off old) new, resized_length off old) in
    let rest : m ≡ length (with_length off old) + (m - off) = omega (arith, low, resized_length off old) in
    let many : length (take (m - off) new) ≡ m - off = length-take-le (m - off) new (omega (arith, low, high)) in
    let none : length old ≤ off + length (take (m - off) new) = omega (arith, short, low, many) in
    take-append-le m (with_length off old ++ new) (drop (off + length new) old) long
    ∙ ap (λ n. take n (with_length off old ++ new)) rest
    ∙ take-append-add (with_length off old) new (m - off)
    ∙ sym (append-nil (with_length off old ++ take (m - off) new))
    ∙ ap (λ ys. with_length off old ++ take (m - off) new ++ ys) (sym (drop_all (off + length (take (m - off) new)) old none))

module _ (m off skip : ℕ) (bytes old : List ℕ) (short : length old ≤ m) where
  abbrev new : List ℕ
  new = drop skip bytes

  pub writes : (o : ℕ) → o ≡ min m off → take m (with_bytes off new old) ≡ with_bytes o (take (m - o) new) old
  writes o is = elim (dec_le off m) [
    | yes low ↦
        let same : off ≡ o = omega (arith, low, is) in
        by_end low ∙ ap (λ n. with_bytes n (take (m - n) new) old) same
    | no high ↦
        let same : m ≡ o = omega (arith, high, is) in
        let none : m - m ≡ 0 = omega arith in
        let past : length old ≤ m + 0 = omega (arith, short) in
        let here : take m (with_bytes off new old) ≡ with_bytes m (take (m - m) new) old =
        behind_all m off new old short (omega (arith, high))
        ∙ sym (append-nil (with_length m old))
        ∙ sym (append-nil (with_length m old ++ []))
        ∙ ap (λ ys. with_length m old ++ [] ++ ys) (sym (drop_all (m + 0) old past))
        ∙ ap (λ n. with_bytes m (take n new) old) (sym none) in
        here ∙ ap (λ n. with_bytes n (take (m - n) new) old) same
  ]
    where
      by_end : off ≤ m → take m (with_bytes off new old) ≡ with_bytes off (take (m - off) new) old
      by_end low = elim (dec_le m (off + length new)) [
        | yes long ↦ cut_off m off new old short low long
        | no less ↦
            let all : length new ≤ m - off = omega (arith, less, low) in
            within_all m off new old short (omega (arith, less)) ∙ ap (λ xs. with_bytes off xs old) (sym (take_all (m - off) new all))
      ]
