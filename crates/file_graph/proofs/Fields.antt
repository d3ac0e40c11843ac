-- A field that is read is the field that was written, and what was written is read again.
use Rattle.std.proofs.Common.{◌≡◌, ℕ, suc, ◌+◌, ◌^◌, ◌<◌, ◌≤◌, Bool, true, false, cond, leb, ltb, eqb, List, [], ◌∷◌, ◌++◌, length, take, drop, Option, Some, None, refl, sym, ap, subst, ◌∙◌, append_assoc, arith, inl, inr, ◌⊎◌}
use Rattle.std.proofs.lemmas.Bool.{cases_lt, leb-true, le-leb, lt-ltb, eqb-true}
use Rattle.std.proofs.lemmas.List.{take_at, drop_at, take-append-drop, length-append, length-take, get_or-drop, get_or-take, get_or_past, append-nil}
use Rattle.std.proofs.lemmas.Nat.{le_bytes_4, le_bytes_8}
use Rattle.byteorder.specs.Endian.{little_number, little_bytes}
use Rattle.byteorder.specs.Numbers.{little_number-reads_back, length-bytes_low_first, little_from-lt}
use Rattle.file_graph.specs.declared.effect.Kind.{Kind}
use Rattle.file_graph.specs.declared.effect.Kind.TheVariants as kind
use Rattle.file_graph.specs.Kinds.{kind_byte, kind_field}
use Rattle.file_graph.specs.Fields.{◌>>=◌, AreBytes, byte_at, run_at, number_at, u32, u64}

pub AreBytes-drop : (n : ℕ) (bytes : List ℕ) → AreBytes bytes → AreBytes (drop n bytes)
AreBytes-drop n bytes h i = rw get_or-drop (h (n + i))

pub AreBytes-take : (n : ℕ) (bytes : List ℕ) → AreBytes bytes → AreBytes (take n bytes)
AreBytes-take n bytes h i =
    elim (cases_lt i n) [
      | inl lt ↦ rw (get_or-take n bytes i 0 lt) (h i)
      | inr le ↦ rw (get_or_past (take n bytes) i 0 (omega (arith, length-take n bytes))) (omega arith)
    ]

pub AreBytes-rest : (b : ℕ) (bytes : List ℕ) → AreBytes (b ∷ bytes) → AreBytes bytes
AreBytes-rest b bytes h i = h (suc i)

-- the value of a step that did not fail
pub bind_some : {A B : Type 0} (o : Option A) (f : A → Option B) (y : B) → (o >>= f) ≡ Some y → (x : A) × (o ≡ Some x) × (f x ≡ Some y)
bind_some (Some x) f y e = (x, refl, e)
bind_some None f y e = absurd cc

-- which way a choice went
pub chosen : {A : Type 0} (b : Bool) (x y z : A) → cond b x y ≡ z → ((b ≡ true) × (x ≡ z)) ⊎ ((b ≡ false) × (y ≡ z))
chosen true x y z e = inl (refl, e)
chosen false x y z e = inr (refl, e)

-- a test that did not fail
pub test_some : {A : Type 0} (b : Bool) (x y : A) → cond b (Some x) None ≡ Some y → (b ≡ true) × (x ≡ y)
test_some true x y e = (refl, cc)
test_some false x y e = absurd cc

-- a step behind a test that did not fail
pub guard_some : {A : Type 0} (b : Bool) (o : Option A) (y : A) → cond b o None ≡ Some y → (b ≡ true) × (o ≡ Some y)
guard_some true o y e = (refl, e)
guard_some false o y e = absurd cc

pub some_is : {A : Type 0} (x y : A) → Some x ≡ Some y → x ≡ y
some_is x y e = cc

-- the text at the front of the bytes, and what is behind it
pub record Takes (bytes text rest : List ℕ) : Type 0 where
  pub parts : bytes ≡ text ++ rest
  pub behind : AreBytes rest

pub Takes-then : (a x b y c : List ℕ) → Takes a x b → Takes b y c → Takes a (x ++ y) c
Takes-then a x b y c p q = record { parts = p.parts ∙ ap (λ (t : List ℕ). x ++ t) q.parts ∙ sym (append_assoc x y c); behind = q.behind }

-- ---- numbers

-- so many bytes are those of the number in them
abbrev Back : ℕ → Type 0
Back n = (bytes : List ℕ) → length bytes ≡ n → AreBytes bytes → little_bytes n (little_number n bytes) ≡ bytes

back4 : Back 4
back4 bytes long are = le_bytes_4 bytes (little_number 4 bytes) long are (omega arith)

back8 : Back 8
back8 bytes long are = le_bytes_8 bytes (little_number 8 bytes) long are (omega arith)

number_takes : (n : ℕ) → Back n → (bytes : List ℕ) (x : ℕ × List ℕ) → AreBytes bytes → number_at n bytes ≡ Some x → Takes bytes (little_bytes n x.0) x.1
number_takes n back bytes x are e =
    let g = test_some (leb n (length bytes)) (little_number n (take n bytes), drop n bytes) x e in
    let long : n ≤ length bytes = leb-true _ _ g.0 in
    let front : little_bytes n (little_number n (take n bytes)) ≡ take n bytes = back (take n bytes) (omega (arith, length-take n bytes)) (AreBytes-take n bytes are) in
    let both : Takes bytes (little_bytes n (little_number n (take n bytes))) (drop n bytes) = record { parts = sym (take-append-drop n bytes) ∙ ap (λ (t : List ℕ). t ++ drop n bytes) (sym front); behind = AreBytes-drop n bytes are } in
    subst (λ (y : ℕ × List ℕ). Takes bytes (little_bytes n y.0) y.1) g.1 both

pub u32_takes : (bytes : List ℕ) (x : ℕ × List ℕ) → AreBytes bytes → number_at 4 bytes ≡ Some x → Takes bytes (u32 x.0) x.1
unfolding u32
u32_takes bytes x are e = number_takes 4 back4 bytes x are e

pub u64_takes : (bytes : List ℕ) (x : ℕ × List ℕ) → AreBytes bytes → number_at 8 bytes ≡ Some x → Takes bytes (u64 x.0) x.1
unfolding u64
u64_takes bytes x are e = number_takes 8 back8 bytes x are e

-- a number that is read is one of so many bytes
pub number_small : (n : ℕ) (bytes : List ℕ) (x : ℕ × List ℕ) → AreBytes bytes → number_at n bytes ≡ Some x → x.0 < 256 ^ n
number_small n bytes x are e =
    let g = test_some (leb n (length bytes)) (little_number n (take n bytes), drop n bytes) x e in
    subst (λ (y : ℕ × List ℕ). y.0 < 256 ^ n) g.1 (little_from-lt 0 n (take n bytes) (AreBytes-take n bytes are))

pub u32_small : (bytes : List ℕ) (x : ℕ × List ℕ) → AreBytes bytes → number_at 4 bytes ≡ Some x → ltb x.0 (2 ^ 32) ≡ true
u32_small bytes x are e = lt-ltb _ _ (number_small 4 bytes x are e)

pub u64_small : (bytes : List ℕ) (x : ℕ × List ℕ) → AreBytes bytes → number_at 8 bytes ≡ Some x → ltb x.0 (2 ^ 64) ≡ true
u64_small bytes x are e = lt-ltb _ _ (number_small 8 bytes x are e)

number_again : (n x : ℕ) (w rest : List ℕ) → length w ≡ n → little_number n (w ++ []) ≡ x → number_at n (w ++ rest) ≡ Some (x, rest)
number_again n x w rest long reads =
    let fits : leb n (length (w ++ rest)) ≡ true = le-leb _ _ (omega (arith, long, length-append w rest)) in
    let value : little_number n (take n (w ++ rest)) ≡ x = ap (little_number n) (take_at w rest n long ∙ sym (append-nil w)) ∙ reads in
    rw (fits, value, drop_at w rest n long) refl

pub u32_again : (x : ℕ) (rest : List ℕ) → x < 2 ^ 32 → number_at 4 (u32 x ++ rest) ≡ Some (x, rest)
unfolding u32
u32_again x rest small = number_again 4 x (little_bytes 4 x) rest (length-bytes_low_first 0 4 x) (little_number-reads_back 4 x [] (omega (arith, small)))

pub u64_again : (x : ℕ) (rest : List ℕ) → x < 2 ^ 64 → number_at 8 (u64 x ++ rest) ≡ Some (x, rest)
unfolding u64
u64_again x rest small = number_again 8 x (little_bytes 8 x) rest (length-bytes_low_first 0 8 x) (little_number-reads_back 8 x [] (omega (arith, small)))

pub u32_long : (x : ℕ) → length (u32 x) ≡ 4
unfolding u32
u32_long x = length-bytes_low_first 0 4 x

pub u64_long : (x : ℕ) → length (u64 x) ≡ 8
unfolding u64
u64_long x = length-bytes_low_first 0 8 x

-- ---- runs of bytes

pub record TakesRun (n : ℕ) (bytes text rest : List ℕ) : Type 0 where
  pub takes : Takes bytes text rest
  pub long : length text ≡ n

pub run_takes : (n : ℕ) (bytes : List ℕ) (x : List ℕ × List ℕ) → AreBytes bytes → run_at n bytes ≡ Some x → TakesRun n bytes x.0 x.1
run_takes n bytes x are e =
    let g = test_some (leb n (length bytes)) (take n bytes, drop n bytes) x e in
    let long : n ≤ length bytes = leb-true _ _ g.0 in
    subst (λ (y : List ℕ × List ℕ). TakesRun n bytes y.0 y.1) g.1 (record { takes = record { parts = sym (take-append-drop n bytes); behind = AreBytes-drop n bytes are }; long = omega (arith, length-take n bytes) })

pub run_again : (n : ℕ) (text rest : List ℕ) → length text ≡ n → run_at n (text ++ rest) ≡ Some (text, rest)
run_again n text rest long =
    let fits : leb n (length (text ++ rest)) ≡ true = le-leb _ _ (omega (arith, long, length-append text rest)) in
    rw (fits, take_at text rest n long, drop_at text rest n long) refl

-- ---- single bytes

pub byte_takes : (bytes : List ℕ) (x : ℕ × List ℕ) → AreBytes bytes → byte_at bytes ≡ Some x → Takes bytes (x.0 ∷ []) x.1
byte_takes [] x are e = absurd cc
byte_takes (b ∷ bytes) x are e = subst (λ (y : ℕ × List ℕ). Takes (b ∷ bytes) (y.0 ∷ []) y.1) (some_is (b, bytes) x e) (record { parts = refl; behind = AreBytes-rest b bytes are })

pub one_byte : (b n : ℕ) (bytes : List ℕ) → AreBytes (b ∷ bytes) → eqb b n ≡ true → Takes (b ∷ bytes) (n ∷ []) bytes
one_byte b n bytes are e = record { parts = ap (λ (k : ℕ). k ∷ bytes) (eqb-true b n e); behind = AreBytes-rest b bytes are }

-- ---- kinds

pub kind_takes : (bytes : List ℕ) (x : Kind × List ℕ) → AreBytes bytes → kind_field bytes ≡ Some x → Takes bytes (kind_byte x.0 ∷ []) x.1
kind_takes [] x are e = absurd cc
kind_takes (b ∷ bytes) x are e =
    let second : Option (Kind × List ℕ) = cond (eqb b 2) (Some (kind.Directory, bytes)) None in
    elim (chosen (eqb b 1) (Some (kind.File, bytes)) second (Some x) e) [
      | inl w ↦ subst (λ (y : Kind × List ℕ). Takes (b ∷ bytes) (kind_byte y.0 ∷ []) y.1) (some_is (kind.File, bytes) x w.1) (one_byte b 1 bytes are w.0)
      | inr w ↦
          let g = test_some (eqb b 2) (kind.Directory, bytes) x w.1 in
          subst (λ (y : Kind × List ℕ). Takes (b ∷ bytes) (kind_byte y.0 ∷ []) y.1) g.1 (one_byte b 2 bytes are g.0)
    ]

pub kind_again : (k : Kind) (rest : List ℕ) → kind_field (kind_byte k ∷ rest) ≡ Some (k, rest)
kind_again kind.File rest = refl
kind_again kind.Directory rest = refl
