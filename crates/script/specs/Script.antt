-- The language of scripts: what words, numbers, flags, paths and bytes a line has.
use Rattle.std.specs.Prelude.{ℕ, ◌+◌, ◌-◌, ◌*◌, ◌^◌, ◌==◌, Bool, false, ◌&&◌, not, nat_le, nat_lt, min, List, [], ◌∷◌, length, Option, Some, None, if◌then◌else◌, option_map}
use Rattle.std.specs.List.{slice_split, list_all, flat_map}
use Rattle.std.proofs.Math.ListN.{replicate}
use Rattle.posix_calls.specs.declared.limits.TheConstants.{MAX_CLIENTS}
use Rattle.posix_calls.specs.declared.call.Flags.{Flags}

-- a step, and another on its value; none where either is none
infixl 10 ◌>>=◌
abbrev pub ◌>>=◌ : {A B : Type 0} → Option A → (A → Option B) → Option B
(Some x) >>= f = f x
None >>= f = None

-- ---- words

-- what stands between the bytes of a kind: the words of a line between its spaces, the runs of some bytes between the `+`
abbrev pub parts : ℕ → List ℕ → List (List ℕ)
parts byte text = slice_split (λ b. b == byte) text

-- the words of a text, where there is one
abbrev pub words_in : Option (List ℕ) → List (List ℕ)
words_in None = []
words_in (Some text) = parts 32 text

-- the only word
abbrev pub one : List (List ℕ) → Option (List ℕ)
one (a ∷ []) = Some a
one [] = None
one (a ∷ b ∷ ws) = None

-- both words, where there are two
abbrev pub two : List (List ℕ) → Option (List ℕ × List ℕ)
two (a ∷ b ∷ []) = Some (a, b)
two [] = None
two (a ∷ []) = None
two (a ∷ b ∷ c ∷ ws) = None

-- all words, where there are three
abbrev pub three : List (List ℕ) → Option (List ℕ × List ℕ × List ℕ)
three (a ∷ b ∷ c ∷ []) = Some (a, b, c)
three [] = None
three (a ∷ []) = None
three (a ∷ b ∷ []) = None
three (a ∷ b ∷ c ∷ d ∷ ws) = None

-- all words, where there are four
abbrev pub four : List (List ℕ) → Option (List ℕ × List ℕ × List ℕ × List ℕ)
four (a ∷ b ∷ c ∷ d ∷ []) = Some (a, b, c, d)
four [] = None
four (a ∷ []) = None
four (a ∷ b ∷ []) = None
four (a ∷ b ∷ c ∷ []) = None
four (a ∷ b ∷ c ∷ d ∷ e ∷ ws) = None

-- ---- numbers

-- whether a byte is a digit, from `0` (48) to `9`
abbrev pub is_digit : ℕ → Bool
is_digit b = nat_le 48 b && nat_le b 57

-- the value of a digit
abbrev pub digit : ℕ → Option ℕ
digit b = if is_digit b then Some (b - 48) else None

-- the number that decimal digits spell behind those of n
abbrev pub value_from : ℕ → List ℕ → ℕ
value_from n [] = n
value_from n (b ∷ bs) = value_from (n * 10 + (b - 48)) bs

-- that number, where all are digits and it is below 2^64
unfoldable pub number_from : ℕ → List ℕ → Option ℕ
number_from n bs = if list_all is_digit bs && nat_lt (value_from n bs) (2 ^ 64) then Some (value_from n bs) else None

-- the number of one or more decimal digits
abbrev pub number : List ℕ → Option ℕ
number [] = None
number (b ∷ bs) = number_from 0 (b ∷ bs)

-- a number from 1 on
abbrev pub ordinal : List ℕ → Option ℕ
ordinal word = number word >>= λ n. if nat_le 1 n then Some n else None

-- a client, from 1 on
abbrev pub client : List ℕ → Option ℕ
client word = number word >>= λ n. if nat_le 1 n && nat_le n MAX_CLIENTS then Some n else None

-- a descriptor; those past 32 bits are as the last one, which is never open
abbrev pub descriptor : List ℕ → Option ℕ
descriptor word = option_map (λ n. min n (2 ^ 32 - 1)) (number word)

-- ---- hexadecimal digits

-- the value of a digit, from `0` (48) to `9` and from `a` (97) to `f`
abbrev pub hex_digit : ℕ → Option ℕ
hex_digit b = if nat_le 48 b && nat_le b 57 then Some (b - 48) else (if nat_le 97 b && nat_le b 102 then Some (b - 87) else None)

-- the byte of two digits
abbrev pub hex_byte : ℕ → ℕ → Option ℕ
hex_byte high low = hex_digit high >>= λ h. option_map (λ l. 16 * h + l) (hex_digit low)

-- ---- flags

-- whether a letter stands in front
abbrev pub front : ℕ → List ℕ → Bool
front letter [] = false
front letter (b ∷ bs) = b == letter

-- what is behind a letter, where it stands in front
abbrev pub text_behind : ℕ → List ℕ → List ℕ
text_behind letter [] = []
text_behind letter (b ∷ bs) = if b == letter then bs else b ∷ bs

-- some of the letters `rwcxt`, in this order (114, 119, 99, 120, 116)
abbrev pub flags : List ℕ → Option Flags
flags word =
    let w = text_behind 114 word in
    let c = text_behind 119 w in
    let x = text_behind 99 c in
    let t = text_behind 120 x in
    if length (text_behind 116 t) == 0 then Some (record { read = front 114 word; write = front 119 w; create = front 99 c; exclusive = front 120 x; truncate = front 116 t }) else None

-- ---- paths

-- the first byte that a path spells, and the text behind it: `%` (37) and two hexadecimal digits, or any other byte
abbrev pub decoded_first : List ℕ → Option (ℕ × List ℕ)
decoded_first [] = None
decoded_first (b ∷ []) = if b == 37 then None else Some (b, [])
decoded_first (b ∷ h ∷ []) = if b == 37 then None else Some (b, h ∷ [])
decoded_first (b ∷ h ∷ l ∷ rest) = if b == 37 then option_map (λ x. (x, rest)) (hex_byte h l) else Some (b, h ∷ l ∷ rest)

-- a byte before others
abbrev pub before : Option ℕ → Option (List ℕ) → Option (List ℕ)
before first others = first >>= λ b. option_map (λ bs. b ∷ bs) others

-- a byte that stands for itself
abbrev pub plain : ℕ → Option ℕ
plain b = if b == 37 then None else Some b

-- the bytes that a path spells: `%` (37) and two hexadecimal digits are one byte, any other byte is itself
unfoldable pub path_bytes : List ℕ → Option (List ℕ)
path_bytes [] = Some []
path_bytes (b ∷ []) = before (plain b) (Some [])
path_bytes (b ∷ h ∷ []) = before (plain b) (before (plain h) (Some []))
path_bytes (b ∷ h ∷ l ∷ rest) = if b == 37 then before (hex_byte h l) (path_bytes rest) else before (Some b) (path_bytes (h ∷ l ∷ rest))

-- ---- bytes

-- a run `hhxN`: a byte, an `x` (120), and how often it stands, from 1 on
abbrev pub run : List ℕ → Option (ℕ × ℕ)
run [] = None
run (h ∷ []) = None
run (h ∷ l ∷ []) = None
run (h ∷ l ∷ x ∷ digits) = if x == 120 then (hex_byte h l >>= λ b. number digits >>= λ n. if nat_le 1 n then Some (b, n) else None) else None

-- runs, each of a part
abbrev pub runs : List (List ℕ) → Option (List (ℕ × ℕ))
runs [] = Some []
runs (p ∷ ps) = run p >>= λ r. option_map (λ rs. r ∷ rs) (runs ps)

-- the runs that are joined by `+` (43) in a text; none where there is no text
unfoldable pub all_runs : Option (List ℕ) → Option (List (ℕ × ℕ))
all_runs None = Some []
all_runs (Some text) = runs (parts 43 text)

-- a run before those of the text behind it
abbrev pub with_first : Option ((ℕ × ℕ) × Option (List ℕ)) → Option (List (ℕ × ℕ))
with_first None = None
with_first (Some r) = option_map (λ rs. r.0 ∷ rs) (all_runs r.1)

-- the bytes of a run
abbrev pub run_bytes : ℕ × ℕ → List ℕ
run_bytes r = replicate r.1 r.0

-- the bytes of runs joined by `+`
abbrev pub joined_runs : List ℕ → Option (List ℕ)
joined_runs text = option_map (flat_map run_bytes) (all_runs (Some text))

-- whether it is `-` (45)
abbrev pub is_dash : List ℕ → Bool
is_dash [] = false
is_dash (b ∷ []) = b == 45
is_dash (b ∷ c ∷ bs) = false

-- the bytes of runs, or none at a `-`
abbrev pub repeated_bytes : List ℕ → Option (List ℕ)
repeated_bytes text = if is_dash text then Some [] else joined_runs text

-- ---- what is printed

-- whether a byte of a name is printed as it is: from 33 to 126, but `%` (37)
abbrev pub is_plain : ℕ → Bool
is_plain b = nat_le 33 b && nat_le b 126 && not (b == 37)
