-- Every change that effects come to is tidy.
use Rattle.std.proofs.Common.{◌≡◌, inl, inr, ℕ, zero, suc, ◌+◌, ◌-◌, ◌*◌, ◌/◌, ◌%◌, ◌<◌, ◌≤◌, ◌==◌, cond, Bool, true, false, List, [], ◌∷◌, length, refl, None, Option, ap, sym, ◌∙◌, subst, arith}
use Rattle.std.specs.Prelude.{◌||◌, ◌&&◌, not, is_some, nat_eq, nat_lt}
use Rattle.std.specs.List.{range_with_len, list_any}
use Rattle.std.specs.FinMap as fin
use Rattle.std.proofs.lemmas.Bool.{false≢true}
use Rattle.std.proofs.lemmas.Bool.Decides.{eqb_tells, nat_tests}
use Rattle.posix_calls.specs.declared.limits.TheConstants.{UNIT_BYTES}
use Rattle.file_graph.specs.declared.effect.Effect.{Effect}
use Rattle.file_graph.specs.declared.effect.Effect.TheVariants as effect
use Rattle.graph_change.specs.Bytes.{Length, Grown, Cut, IsOrdered, IsTidy, end, grown_to, sized_to}
use Rattle.graph_change.specs.Net.{Base, Kept, Made, Gone, Net}
use Rattle.graph_change.specs.Change.{Patch, Patches, Change, Changes, subject, span, put_blocks, cut_patches, new_change, net_of, change_after, change_at, with_effect, with_effects, coalesced_changes, ends_within, cuts_within, writes_block}
use Rattle.graph_change.specs.Tidy.{IsTidyChange, AreTidyChanges}
use Rattle.graph_change.proofs.Blocks.{begun, get_begun}
use Rattle.graph_change.proofs.Bytes.{tidy_nothing}
use Rattle.graph_change.proofs.Law.{change_put, empty_at, empty_of, stands}
use Rattle.graph_change.proofs.Nodes.{tidy_after}
use Rattle.graph_change.proofs.Touched.{or_cases, put_has, last_has, nothing_written}

pub both_true : (a b : Bool) → (a && b) ≡ true → (a ≡ true) × (b ≡ true)
both_true true b h = (refl, h)
both_true false b h = absurd (false≢true h)

is_equal : (m n : ℕ) → (m == n) ≡ true → m ≡ n
is_equal m n h = grind (arith, nat_tests)

below : (m n : ℕ) → nat_lt m n ≡ true → m < n
below m n h = grind (arith, nat_tests)

-- ---- where blocks begin

-- a block within which a size ends begins before it
ends_below : (n b : ℕ) → ends_within n b ≡ true → UNIT_BYTES * b < n
ends_below n b h =
    let both = both_true (not (n % UNIT_BYTES == 0)) (n / UNIT_BYTES == b) h in
    let there = is_equal (n / UNIT_BYTES) b both.1 in
    elim (eqb_tells (n % UNIT_BYTES) 0) [
      | inl none ↦ absurd (false≢true (sym (ap (λ t. not t) none.0) ∙ both.0))
      | inr some ↦ (let rest = some.1 in omega (arith, there, rest))
    ]

cut_below : (len : Length) (b : ℕ) → IsOrdered len → cuts_within len b ≡ true → UNIT_BYTES * b < end len
cut_below (Grown to) b ordered h = absurd (false≢true h)
cut_below (Cut least to) b ordered h = let low = ends_below least b h in omega (arith, low, ordered)

begun_below : (n : ℕ) (ps : Patches) (b : ℕ) → fin.contains_key (begun n ps) b ≡ true → UNIT_BYTES * b < n
begun_below n ps b h = by (nat_lt (UNIT_BYTES * b) n) (fin.get ps b) refl (sym (ap is_some (get_begun n ps b)) ∙ h) where
  by : (t : Bool) (o : Option Patch) → nat_lt (UNIT_BYTES * b) n ≡ t → is_some (cond t o None) ≡ true → UNIT_BYTES * b < n
  by true o low e = below (UNIT_BYTES * b) n low
  by false o low e = absurd (false≢true e)

sized_below : (n : ℕ) (ps : Patches) (b : ℕ) → fin.contains_key (cut_patches n ps) b ≡ true → UNIT_BYTES * b < n
sized_below n ps b h = begun_below n ps b (last_has n (begun n ps) (fin.get (begun n ps) (n / UNIT_BYTES)) b refl h)

in_range : (k a j : ℕ) → list_any (nat_eq j) (range_with_len a k) ≡ true → j < a + k
in_range zero a j h = absurd (false≢true h)
in_range (suc k) a j h = elim (or_cases (nat_eq j a) (list_any (nat_eq j) (range_with_len (a + 1) k)) h) [
  | inl here ↦ (let same = is_equal j a here in omega (arith, same))
  | inr later ↦ (let lt = in_range k (a + 1) j later in omega (arith, lt))
]

span_below : (at n b : ℕ) → list_any (nat_eq b) (span at n) ≡ true → UNIT_BYTES * b < at + n
span_below at n b h = elim (eqb_tells n 0) [
  | inl none ↦ absurd (false≢true (sym (ap (λ t. list_any (nat_eq b) (cond t [] (range_with_len (at / UNIT_BYTES) ((at + n - 1) / UNIT_BYTES + 1 - at / UNIT_BYTES)))) none.0) ∙ h))
  | inr some ↦
      let rest = some.1 in
      let lt = in_range ((at + n - 1) / UNIT_BYTES + 1 - at / UNIT_BYTES) (at / UNIT_BYTES) b (sym (ap (λ t. list_any (nat_eq b) (cond t [] (range_with_len (at / UNIT_BYTES) ((at + n - 1) / UNIT_BYTES + 1 - at / UNIT_BYTES)))) some.0) ∙ h) in
      omega (arith, rest, lt)
]

grown_end : (n : ℕ) (len : Length) → (end len ≤ end (grown_to n len)) × (n ≤ end (grown_to n len))
grown_end n (Grown to) = (omega arith, omega arith)
grown_end n (Cut least to) = (omega arith, omega arith)

pub sized_end : (n : ℕ) (len : Length) → end (sized_to n len) ≡ n
sized_end n (Grown to) = refl
sized_end n (Cut least to) = refl

-- ---- one more effect

pub tidy_new : (base : Base) → IsTidyChange (new_change base)
tidy_new base = record {
  bytes = subst (λ (n : Net). IsTidy n.bytes) (sym (empty_of base)) tidy_nothing;
  blocks = λ b h. absurd (false≢true (sym (nothing_written base b) ∙ h));
}

bytes_after : (e : Effect) (c : Change) → IsTidyChange c → IsTidy (net_of (change_after e c)).bytes
bytes_after e c tidy = subst (λ (n : Net). IsTidy n.bytes) (sym (stands e c)) (tidy_after e (net_of c) tidy.bytes)

blocks_after : (e : Effect) (c : Change) → IsTidyChange c → IsOrdered (change_after e c).length → (b : ℕ) → writes_block (change_after e c) b ≡ true → UNIT_BYTES * b < end (change_after e c).length
blocks_after (effect.Make i kind) c tidy ordered b h = (tidy_new (Made kind)).blocks b h
blocks_after (effect.Enter d i kind name) c tidy ordered b h = tidy.blocks b h
blocks_after (effect.Leave d name) c tidy ordered b h = tidy.blocks b h
blocks_after (effect.Names i n) c tidy ordered b h = tidy.blocks b h
blocks_after (effect.Size i size) c tidy ordered b h = elim (or_cases (fin.contains_key (cut_patches size c.patches) b) (cuts_within (sized_to size c.length) b) h) [
  | inl put ↦ (let low = sized_below size c.patches b put in omega (arith, low, sized_end size c.length))
  | inr cut ↦ cut_below (sized_to size c.length) b ordered cut
]
blocks_after (effect.Bytes i at bytes) c tidy ordered b h =
    let bs = span at (length bytes) in
    let far = grown_end (at + length bytes) c.length in
    elim (or_cases (fin.contains_key (put_blocks at bytes bs c.patches) b) (cuts_within (grown_to (at + length bytes) c.length) b) h) [
      | inl put ↦ elim (or_cases (fin.contains_key c.patches b) (list_any (nat_eq b) bs) (put_has at bytes bs c.patches b put)) [
        | inl old ↦ (let low = tidy.blocks b (ap (λ t. t || cuts_within c.length b) old) in omega (arith, low, far.0))
        | inr new ↦ (let low = span_below at (length bytes) b new in omega (arith, low, far.1))
      ]
      | inr cut ↦ cut_below (grown_to (at + length bytes) c.length) b ordered cut
    ]
blocks_after (effect.Drop i) c tidy ordered b h = (tidy_new Gone).blocks b h
blocks_after (effect.Swap d a e f) c tidy ordered b h = tidy.blocks b h

pub tidy_more : (e : Effect) (c : Change) → IsTidyChange c → IsTidyChange (change_after e c)
tidy_more e c tidy = let bytes = bytes_after e c tidy in record { bytes = bytes; blocks = blocks_after e c tidy bytes.ordered }

-- ---- many inodes, many effects

pub tidy_none : AreTidyChanges fin.empty
tidy_none i = subst IsTidyChange (sym (empty_at i)) (tidy_new Kept)

pub tidy_one : (e : Effect) (cs : Changes) → AreTidyChanges cs → AreTidyChanges (with_effect e cs)
tidy_one e cs tidy j =
    let c = change_after e (change_at cs (subject e)) in
    elim (eqb_tells j (subject e)) [
      | inl here ↦ subst IsTidyChange (sym (change_put e cs j ∙ ap (λ t. cond t c (change_at cs j)) here.0)) (tidy_more e (change_at cs (subject e)) (tidy (subject e)))
      | inr off ↦ subst IsTidyChange (sym (change_put e cs j ∙ ap (λ t. cond t c (change_at cs j)) off.0)) (tidy j)
    ]

pub tidy_many : (es : List Effect) (cs : Changes) → AreTidyChanges cs → AreTidyChanges (with_effects cs es)
tidy_many [] cs tidy = tidy
tidy_many (e ∷ es) cs tidy = tidy_many es (with_effect e cs) (tidy_one e cs tidy)

pub tidy_coalesced : (es : List Effect) → AreTidyChanges (coalesced_changes es)
tidy_coalesced es = tidy_many es fin.empty tidy_none
