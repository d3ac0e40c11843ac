-- Names up to their zero bytes.
use Rattle.std.proofs.Common.{◌≡◌, ℕ, zero, suc, ◌+◌, ◌-◌, ◌<◌, ◌≤◌, Bool, true, false, cond, eqb, List, [], ◌∷◌, ◌++◌, length, take, drop, Some, None, refl, sym, ap, subst, ◌∙◌, arith, add-one, length-append, length-drop, inl, inr}
use Rattle.std.proofs.lemmas.Bool.{eqb-true, eqb-false, cases_lt}
use Rattle.std.proofs.lemmas.List.{take_at}
use Rattle.std.proofs.Math.Seq.{take-length}
use Rattle.fuse_wire.specs.Names.{HasNoZero, behind_name, behind_next, behind_names, EndsWithName}

not_zero : (b : ℕ) (t : Bool) → eqb b 0 ≡ t → (b ≡ 0 → ⊥) → t ≡ false
not_zero b true e h = absurd (h (eqb-true b 0 e))
not_zero b false e h = refl

pub first_not_zero : (b : ℕ) (name : List ℕ) → HasNoZero (b ∷ name) → eqb b 0 ≡ false
first_not_zero b name h = not_zero b (eqb b 0) refl (h 0 (omega arith))

pub HasNoZero-rest : (b : ℕ) (name : List ℕ) → HasNoZero (b ∷ name) → HasNoZero name
HasNoZero-rest b name h i lt e = h (suc i) (omega arith) e

HasNoZero-cons : (b : ℕ) (name : List ℕ) → (b ≡ 0 → ⊥) → HasNoZero name → HasNoZero (b ∷ name)
HasNoZero-cons b name not h zero lt e = not e
HasNoZero-cons b name not h (suc i) lt e = h i (omega arith) e

-- behind a name is what follows its zero byte
pub behind_closed : (name rest : List ℕ) → HasNoZero name → behind_name (name ++ 0 ∷ rest) ≡ Some rest
behind_closed [] rest h = refl
behind_closed (b ∷ name) rest h = rw (first_not_zero b name h) (behind_closed name rest (HasNoZero-rest b name h))

pub behind_unclosed : (bytes : List ℕ) → HasNoZero bytes → behind_name bytes ≡ None
behind_unclosed [] h = refl
behind_unclosed (b ∷ bytes) h = rw (first_not_zero b bytes h) (behind_unclosed bytes (HasNoZero-rest b bytes h))

pub after_name : (bytes name behind : List ℕ) → bytes ≡ name ++ 0 ∷ behind → HasNoZero name → behind_name bytes ≡ Some behind
after_name bytes name behind is closed = ap behind_name is ∙ behind_closed name behind closed

-- bytes that end with the zero byte of their one name
abbrev pub IsOneName : List ℕ → Type 0
IsOneName bytes = (name : List ℕ) × (bytes ≡ name ++ 0 ∷ []) × HasNoZero name

the_end : (i : ℕ) → i < 0 → ⊥
the_end i lt = omega arith

one_name_by : (t : Bool) (b : ℕ) (bytes : List ℕ) → eqb b 0 ≡ t → (behind_name bytes ≡ Some [] → IsOneName bytes) → cond t (Some bytes) (behind_name bytes) ≡ Some [] → IsOneName (b ∷ bytes)
one_name_by true b bytes z others e =
    let none : bytes ≡ [] = cc in
    let first : b ≡ 0 = eqb-true b 0 z in
    ([], rw (none, first) refl, λ i lt same. absurd (the_end i lt))
one_name_by false b bytes z others e =
    let one = others e in
    (b ∷ one.0, ap (λ (t : List ℕ). b ∷ t) one.1, HasNoZero-cons b one.0 (eqb-false b 0 z) one.2)

pub one_name : (bytes : List ℕ) → behind_name bytes ≡ Some [] → IsOneName bytes
one_name [] e = absurd cc
one_name (b ∷ bytes) e = one_name_by (eqb b 0) b bytes refl (one_name bytes) e

pub some_byte : (bytes : List ℕ) → behind_names 1 bytes ≡ Some [] → 1 ≤ length bytes
some_byte bytes e =
    let one = one_name bytes e in
    omega (arith, ap length one.1, length-append one.0 (0 ∷ []))

pub ends_with_name : (bytes : List ℕ) → behind_names 1 bytes ≡ Some [] → EndsWithName 0 bytes (take (length bytes - 1) bytes)
ends_with_name bytes e =
    let one = one_name bytes e in
    let long : length bytes ≡ length one.0 + 1 = omega (arith, ap length one.1, length-append one.0 (0 ∷ [])) in
    let name : take (length bytes - 1) bytes ≡ one.0 = ap (take (length bytes - 1)) one.1 ∙ take_at one.0 (0 ∷ []) (length bytes - 1) (omega (arith, long)) in
    subst (λ (x : List ℕ). EndsWithName 0 bytes x) (sym name) (record { name = one.1; closed = one.2 })

pub ends_by : (bytes text : List ℕ) → behind_names 1 bytes ≡ Some [] → text ≡ take (length bytes - 1) bytes → EndsWithName 0 bytes text
ends_by bytes text e is = subst (λ (x : List ℕ). EndsWithName 0 bytes x) (sym is) (ends_with_name bytes e)

-- ---- one name after the other

pub next_name : (n : ℕ) (bytes rest behind : List ℕ) → behind_names n bytes ≡ Some rest → behind_name rest ≡ Some behind → behind_names (n + 1) bytes ≡ Some behind
next_name n bytes rest behind e next = rw (add-one, e) next

pub no_name : (n : ℕ) (bytes rest : List ℕ) → behind_names n bytes ≡ Some rest → behind_name rest ≡ None → behind_names (n + 1) bytes ≡ None
no_name n bytes rest e next = rw (add-one, e) next

pub none_stays : (names n : ℕ) (bytes : List ℕ) → n ≤ names → behind_names n bytes ≡ None → behind_names names bytes ≡ None
none_stays zero n bytes le e =
    let same : n ≡ 0 = omega arith in
    subst (λ (k : ℕ). behind_names k bytes ≡ None) same e
none_stays (suc names) n bytes le e =
    elim (cases_lt n (suc names)) [
      | inl lt ↦ rw (none_stays names n bytes (omega arith) e) refl
      | inr ge ↦
          let same : n ≡ suc names = omega arith in
          subst (λ (k : ℕ). behind_names k bytes ≡ None) same e
    ]

-- what a slice from a place on is
pub whole_rest : (n : ℕ) (body : List ℕ) → take (length body - n) (drop n body) ≡ drop n body
whole_rest n body = ap (λ (k : ℕ). take k (drop n body)) (sym (length-drop n body)) ∙ take-length (drop n body)

-- ---- two names

pub second_name : (bytes first behind : List ℕ) → bytes ≡ first ++ 0 ∷ behind → HasNoZero first → behind_names 2 bytes ≡ Some [] → behind_names 1 behind ≡ Some []
second_name bytes first behind is closed e =
    let one : behind_name bytes ≡ Some behind = ap behind_name is ∙ behind_closed first behind closed in
    sym (ap behind_next one) ∙ e

pub not_unclosed : (bytes : List ℕ) → HasNoZero bytes → behind_names 2 bytes ≡ Some [] → ⊥
not_unclosed bytes unclosed e =
    let none : behind_name bytes ≡ None = behind_unclosed bytes unclosed in
    let bad : None ≡ Some [] = sym (ap behind_next none) ∙ e in
    absurd cc
