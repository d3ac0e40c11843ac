-- A change of the bytes, and then a write or a new length.
use Rattle.std.proofs.Common.{◌≡◌, inl, inr, ℕ, ◌+◌, ◌-◌, ◌<◌, ◌≤◌, if◌then◌else◌, List, ◌++◌, length, get_or, drop, refl, Some, None, Option, ap, sym, ◌∙◌, arith, max}
use Rattle.std.specs.Prelude.{nat_lt}
use Rattle.std.proofs.lemmas.Bool.{cases_lt}
use Rattle.std.proofs.lemmas.Bool.Decides.{nat_tests}
use Rattle.std.proofs.lemmas.List.{get_or-drop, get_or_append_left, get_or-append_right, get_or_past, ext_get_or}
use Rattle.std.proofs.lemmas.List.FromFn.{length-map-range_with_len, get_or-map-range_with_len}
use Rattle.std.proofs.lemmas.Grind.{common_steps}
use Rattle.posix_calls.specs.Content.{with_length, with_bytes}
use Rattle.graph_change.specs.Bytes.{BytesChange, Length, Grown, Cut, end, length_after, kept_byte, no_bytes, byte_after, bytes_after, grown_to, sized_to, in_run, with_write, with_size, IsOrdered, IsTidy}

length_resized : (n : ℕ) (bs : List ℕ) → length (with_length n bs) ≡ n
length_resized n bs = grind (arith, common_steps)

resized_in : (n : ℕ) (bs : List ℕ) (i : ℕ) → i < n → get_or (with_length n bs) i 0 ≡ get_or bs i 0
resized_in n bs i h = grind (arith, common_steps, get_or_past)

length_written : (old : List ℕ) (at : ℕ) (bytes : List ℕ) → length (with_bytes at bytes old) ≡ max (length old) (at + length bytes)
length_written old at bytes = grind (arith, common_steps)

front : (old : List ℕ) (at : ℕ) (bytes : List ℕ) → length (with_length at old ++ bytes) ≡ at + length bytes
front old at bytes = grind (arith, common_steps)

over_before : (old : List ℕ) (at : ℕ) (bytes : List ℕ) (i : ℕ) → i < at → get_or (with_bytes at bytes old) i 0 ≡ get_or old i 0
over_before old at bytes i h =
    let e = length_resized at old in
    let f = front old at bytes in
    get_or_append_left (with_length at old ++ bytes) (drop (at + length bytes) old) 0 i (omega (arith, f))
    ∙ get_or_append_left (with_length at old) bytes 0 i (omega (arith, e))
    ∙ resized_in at old i h

over_in : (old : List ℕ) (at : ℕ) (bytes : List ℕ) (i : ℕ) → at ≤ i → i < at + length bytes → get_or (with_bytes at bytes old) i 0 ≡ get_or bytes (i - at) 0
over_in old at bytes i low high =
    let f = front old at bytes in
    get_or_append_left (with_length at old ++ bytes) (drop (at + length bytes) old) 0 i (omega (arith, f))
    ∙ get_or-append_right (with_length at old) bytes at i 0 (length_resized at old) low

over_past : (old : List ℕ) (at : ℕ) (bytes : List ℕ) (i : ℕ) → at + length bytes ≤ i → get_or (with_bytes at bytes old) i 0 ≡ get_or old i 0
over_past old at bytes i low =
    get_or-append_right (with_length at old ++ bytes) (drop (at + length bytes) old) (at + length bytes) i 0 (front old at bytes) low
    ∙ get_or-drop (at + length bytes) old (i - (at + length bytes)) 0
    ∙ ap (λ k. get_or old k 0) (omega arith)

length_bytes : (c : BytesChange) (old : List ℕ) → length (bytes_after c old) ≡ length_after c.length (length old)
unfolding bytes_after
length_bytes c old = length-map-range_with_len (byte_after c old) 0 (length_after c.length (length old))

after_in : (c : BytesChange) (old : List ℕ) (i : ℕ) → i < length_after c.length (length old) → get_or (bytes_after c old) i 0 ≡ byte_after c old i
unfolding bytes_after
after_in c old i h = get_or-map-range_with_len (byte_after c old) 0 (length_after c.length (length old)) i i 0 h (omega arith)

-- ---- a tidy change: past its end there is nothing

end_within : (e : Length) (n : ℕ) → end e ≤ length_after e n
end_within (Grown to) n = omega arith
end_within (Cut least to) n = omega arith

left_past : (e : Length) (old : List ℕ) (i : ℕ) → IsOrdered e → length_after e (length old) ≤ i → kept_byte e old i ≡ 0
left_past (Grown to) old i ordered h = get_or_past old i 0 (omega arith)
left_past (Cut least to) old i ordered h = grind (arith, nat_tests)

abbrev byte_of : Option ℕ → ℕ → ℕ
byte_of o x = elim o [ None ↦ x | Some b ↦ b ]

past_end : (c : BytesChange) (old : List ℕ) (i : ℕ) → IsTidy c → length_after c.length (length old) ≤ i → byte_after c old i ≡ 0
past_end c old i tidy h =
    let e = end_within c.length (length old) in
    ap (λ o. byte_of o (kept_byte c.length old i)) (tidy.inside i (omega (arith, e, h))) ∙ left_past c.length old i tidy.ordered h

after_at : (c : BytesChange) (old : List ℕ) (i : ℕ) → IsTidy c → get_or (bytes_after c old) i 0 ≡ byte_after c old i
after_at c old i tidy =
    elim (cases_lt i (length_after c.length (length old))) [
      | inl inside ↦ after_in c old i inside
      | inr past ↦
          let e = length_bytes c old in
          get_or_past (bytes_after c old) i 0 (omega (arith, e)) ∙ sym (past_end c old i tidy past)
    ]

-- ---- a new length

size_length : (n : ℕ) (e : Length) (k : ℕ) → length_after (sized_to n e) k ≡ n
size_length n (Grown to) k = refl
size_length n (Cut least to) k = refl

size_left : (n : ℕ) (e : Length) (old : List ℕ) (i : ℕ) → i < n → kept_byte (sized_to n e) old i ≡ kept_byte e old i
size_left n (Grown to) old i h = grind (arith, nat_tests)
size_left n (Cut least to) old i h = grind (arith, nat_tests)

size_ordered : (n : ℕ) (e : Length) → IsOrdered (sized_to n e)
size_ordered n (Grown to) = omega arith
size_ordered n (Cut least to) = omega arith

size_end : (n : ℕ) (e : Length) → end (sized_to n e) ≡ n
size_end n (Grown to) = refl
size_end n (Cut least to) = refl

below : {A : Type 0} (i n : ℕ) (x y : A) → i < n → (if nat_lt i n then x else y) ≡ x
below i n x y h = grind (arith, nat_tests)

not_below : {A : Type 0} (i n : ℕ) (x y : A) → n ≤ i → (if nat_lt i n then x else y) ≡ y
not_below i n x y h = grind (arith, nat_tests)

pub tidy_size : (n : ℕ) (c : BytesChange) → IsTidy c → IsTidy (with_size n c)
tidy_size n c tidy =
    let e = size_end n c.length in
    record {
      ordered = size_ordered n c.length;
      inside = λ i h. not_below i n (c.new i) None (omega (arith, e, h));
    }

size_byte : (n : ℕ) (c : BytesChange) (old : List ℕ) (i : ℕ) → i < n → byte_after (with_size n c) old i ≡ byte_after c old i
size_byte n c old i h =
    ap (λ o. byte_of o (kept_byte (sized_to n c.length) old i)) (below i n (c.new i) None h)
    ∙ ap (byte_of (c.new i)) (size_left n c.length old i h)

pub size_law : (n : ℕ) (c : BytesChange) (old : List ℕ) → IsTidy c → bytes_after (with_size n c) old ≡ with_length n (bytes_after c old)
size_law n c old tidy =
    let one = length_bytes (with_size n c) old ∙ size_length n c.length (length old) in
    ext_get_or 0 _ _ (one ∙ sym (length_resized n (bytes_after c old))) (λ i h.
    let low : i < n = omega (arith, one, h) in
    after_at (with_size n c) old i (tidy_size n c tidy)
    ∙ size_byte n c old i low
    ∙ sym (resized_in n (bytes_after c old) i low ∙ after_at c old i tidy))

-- ---- a write

write_length : (n : ℕ) (e : Length) (k : ℕ) → length_after (grown_to n e) k ≡ max (length_after e k) n
write_length n (Grown to) k = omega arith
write_length n (Cut least to) k = refl

write_left : (n : ℕ) (e : Length) (old : List ℕ) (i : ℕ) → kept_byte (grown_to n e) old i ≡ kept_byte e old i
write_left n (Grown to) old i = refl
write_left n (Cut least to) old i = refl

write_ordered : (n : ℕ) (e : Length) → IsOrdered e → IsOrdered (grown_to n e)
write_ordered n (Grown to) o = tt
write_ordered n (Cut least to) o = omega (arith, o)

write_end : (n : ℕ) (e : Length) → end (grown_to n e) ≡ max (end e) n
write_end n (Grown to) = refl
write_end n (Cut least to) = refl

within : {A : Type 0} (at n i : ℕ) (x y : A) → at ≤ i → i < at + n → (if in_run at n i then x else y) ≡ x
within at n i x y low high = grind (arith, nat_tests)

before : {A : Type 0} (at n i : ℕ) (x y : A) → i < at → (if in_run at n i then x else y) ≡ y
before at n i x y low = grind (arith, nat_tests)

past : {A : Type 0} (at n i : ℕ) (x y : A) → at + n ≤ i → (if in_run at n i then x else y) ≡ y
past at n i x y high = grind (arith, nat_tests)

pub tidy_write : (at : ℕ) (bytes : List ℕ) (c : BytesChange) → IsTidy c → IsTidy (with_write at bytes c)
tidy_write at bytes c tidy =
    let e = write_end (at + length bytes) c.length in
    record {
      ordered = write_ordered (at + length bytes) c.length tidy.ordered;
      inside = λ i h. past at (length bytes) i (Some (get_or bytes (i - at) 0)) (c.new i) (omega (arith, e, h)) ∙ tidy.inside i (omega (arith, e, h));
    }

write_byte : (at : ℕ) (bytes : List ℕ) (c : BytesChange) (old : List ℕ) (i : ℕ) → byte_after (with_write at bytes c) old i ≡ byte_of (if in_run at (length bytes) i then Some (get_or bytes (i - at) 0) else c.new i) (kept_byte c.length old i)
write_byte at bytes c old i = ap (byte_of (if in_run at (length bytes) i then Some (get_or bytes (i - at) 0) else c.new i)) (write_left (at + length bytes) c.length old i)

write_over : (at : ℕ) (bytes : List ℕ) (c : BytesChange) (old : List ℕ) (i : ℕ) → IsTidy c → byte_after (with_write at bytes c) old i ≡ get_or (with_bytes at bytes (bytes_after c old)) i 0
write_over at bytes c old i tidy =
    let chosen = λ (o : Option ℕ). byte_of o (kept_byte c.length old i) in
    let new : Option ℕ = Some (get_or bytes (i - at) 0) in
    write_byte at bytes c old i ∙ elim (cases_lt i at) [
      | inl low ↦ ap chosen (before at (length bytes) i new (c.new i) low) ∙ sym (over_before (bytes_after c old) at bytes i low ∙ after_at c old i tidy)
      | inr high ↦ elim (cases_lt i (at + length bytes)) [
        | inl inside ↦ ap chosen (within at (length bytes) i new (c.new i) high inside) ∙ sym (over_in (bytes_after c old) at bytes i high inside)
        | inr over ↦ ap chosen (past at (length bytes) i new (c.new i) over) ∙ sym (over_past (bytes_after c old) at bytes i over ∙ after_at c old i tidy)
      ]
    ]

pub write_law : (at : ℕ) (bytes : List ℕ) (c : BytesChange) (old : List ℕ) → IsTidy c → bytes_after (with_write at bytes c) old ≡ with_bytes at bytes (bytes_after c old)
write_law at bytes c old tidy =
    ext_get_or 0 _ _
    (length_bytes (with_write at bytes c) old ∙ write_length (at + length bytes) c.length (length old)
    ∙ ap (λ n. max n (at + length bytes)) (sym (length_bytes c old)) ∙ sym (length_written (bytes_after c old) at bytes))
    (λ i h. after_at (with_write at bytes c) old i (tidy_write at bytes c tidy) ∙ write_over at bytes c old i tidy)

-- ---- no change

pub tidy_nothing : IsTidy no_bytes
tidy_nothing = record { ordered = tt; inside = λ i h. refl }

pub nothing_after : (old : List ℕ) → bytes_after no_bytes old ≡ old
nothing_after old =
    ext_get_or 0 _ _ (length_bytes no_bytes old ∙ omega arith) (λ i h. after_at no_bytes old i tidy_nothing)
